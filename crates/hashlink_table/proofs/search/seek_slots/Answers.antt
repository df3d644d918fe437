use Rattle.hashlink_table.proofs.Names.{◌≡◌, ℕ, ◌+◌, true, false, inl, inr, Option, None, Some, IsSome, refl}
use Rattle.hashlink_table.proofs.Names.{sym, ap, ◌∙◌, subst, arith, IfSome, cases_eq, cases_lt, eq-eqb}
use Rattle.hashlink_table.proofs.Names.{eqb-true, true≢false, false≢true, same_Some, count_trailing_zeros}
use Rattle.hashlink_table.proofs.{Names.{Hashed, own_at, tag_of, kept_may_be}, Masks.{hit, no_hit}}
use Rattle.hashlink_table.proofs.search.seek_slots.Goals as goal

-- a cell that may have a node has one
there : {N : Type 0} (hash : ℕ) (o : Option (Hashed N)) → kept_may_be hash o ≡ true → IsSome o
there hash None e = absurd (true≢false (sym e))
there hash (Some k) e = refl

-- its tag is the hash's
same_tag : {N : Type 0} (hash : ℕ) (o : Option (Hashed N)) (k : Hashed N) → o ≡ Some k → kept_may_be hash o
    ≡ true
    → tag_of k.hash ≡ tag_of hash
same_tag hash o k is e = eqb-true (tag_of k.hash) (tag_of hash) (rw is at e)

-- a cell with a node of the hash may have it
slot_hash : {N : Type 0} (hash : ℕ) (o : Option (Hashed N)) (node : N)
    → o ≡ Some (record { hash = hash; node = node })
    → kept_may_be hash o ≡ true
slot_hash hash o node is = rw is (eq-eqb (tag_of hash) (tag_of hash) refl)

-- the node of the cell, by its parts
parts : {N : Type 0} (k : Hashed N) (hash : ℕ) (node : N) → k.hash ≡ hash → k.node ≡ node
    → Some k ≡ Some (record { hash = hash; node = node })
parts k hash node h n = rw (sym h, sym n) refl

-- from a fact of an option to the same fact of its value
of_some : {X : Type 0} (P : X → Type 0) (o : Option X) → IsSome o → IfSome o P → (x : X) × (o ≡ Some x) × P x
of_some P None some p = absurd (false≢true some)
of_some P (Some x) some p = (x, refl, p)

pub overflow_add-at : goal.overflow_add-at
overflow_add-at g c =
    let h = hit c.requires.within c.loop-hits.invariant.left c.loop-hits-test.true in
    record { fits = omega (arith, h.to, c.may_have-hits.ensures.small) }

pub look-node-requires : goal.look-node-requires
look-node-requires g c =
    there c.args.hash _ (hit c.requires.within c.loop-hits.invariant.left c.loop-hits-test.true).here

pub is_match-requires : goal.is_match-requires
is_match-requires g c =
    let left = c.loop-hits.invariant.left in
    let h = hit c.requires.within left c.loop-hits-test.true in
    let k = of_some _ _ (there c.args.hash _ h.here) c.look-node.ensures.node in
    subst (λ (n : g.row.N.Denot). g.F.Fn.pre c.args.is_match.now (n, tt)) k.2
    (c.requires.callable _ k.0 (omega (arith, left.low)) h.to k.1 (same_tag c.args.hash _ k.0 k.1 h.here))

pub returns-then-is_match-clause-found : goal.returns-then-is_match-clause-found
returns-then-is_match-clause-found g c =
    let h = hit c.requires.within c.loop-hits.invariant.left c.loop-hits-test.true in
    let k = of_some _ _ (there c.args.hash _ h.here) c.look-node.ensures.node in
    let matches = subst (λ (n : g.row.N.Denot). g.F.Fn.post c.args.is_match.now (n, tt) true) (sym k.2)
    c.if-is_match.ensures in
    (k.1 ∙ parts k.0 _ _ (c.requires.telling _ k.0 k.1 matches) k.2, c.if-is_match.ensures)

pub returns-then-is_match-clause-cost : goal.returns-then-is_match-clause-cost
returns-then-is_match-clause-cost g c =
    let v = c.loop-hits.invariant in
    let h = hit c.requires.within v.left c.loop-hits-test.true in
    omega (arith, v.cost, h.count, c.look-node.ensures.step)

pub overflow_add-at-in-loop-hits : goal.overflow_add-at-in-loop-hits
overflow_add-at-in-loop-hits g c =
    let h = hit c.requires.within c.loop-hits.invariant.left c.loop-hits-test.true in
    record { fits = omega (arith, h.to, c.may_have-hits.ensures.small) }

pub loop-hits-preserved : goal.loop-hits-preserved
loop-hits-preserved g c =
    let v = c.loop-hits.invariant in
    let h = hit c.requires.within v.left c.loop-hits-test.true in
    let k = of_some _ _ (there c.args.hash _ h.here) c.look-node.ensures.node in
    let now = c.loop-hits.at + count_trailing_zeros 64 c.loop-hits.hits in
    let Other : g.row.N.Denot → Type 0 = λ n. g.F.Fn.post c.args.is_match.now (n, tt) false in
    record {
      left = h.rest;
      seen = λ i node from to is. elim (cases_lt i c.loop-hits.at) as (λ _. Other node) [
        | inl early ↦ v.seen i node from early is
        | inr late ↦ elim (cases_eq i now) as (λ _. Other node) [
          | inl e ↦
              let same = same_Some _ _ (sym k.1 ∙ ap (own_at c.args.slots.now.cells) (sym e) ∙ is) in
              subst Other (sym k.2 ∙ ap (λ (j : Hashed g.row.N.Denot). j.node) same) c.if-is_match.ensures
          | inr ne ↦ absurd (true≢false (sym (slot_hash c.args.hash _ node is)
              ∙ h.before i late (omega (arith, to, ne))))
        ]
      ];
      cost = omega (arith, v.cost, h.count, c.look-node.ensures.step);
      goes_on = omega (arith, v.goes_on, c.look-node.ensures.step);
    }

pub returns-clause-none : goal.returns-clause-none
returns-clause-none g c = λ i node from to is.
    let v = c.loop-hits.invariant in
    let Other : g.row.N.Denot → Type 0 = λ n. g.F.Fn.post c.args.is_match.now (n, tt) false in
    elim (cases_lt i c.loop-hits.at) as (λ _. Other node) [
      | inl early ↦ v.seen i node from early is
      | inr late ↦ absurd (true≢false (sym (slot_hash c.args.hash _ node is)
          ∙ no_hit c.requires.within v.left c.loop-hits-test.false i late to))
    ]
