-- A walk along a chain, from link to link: it stays in the chain, and ends.
use Rattle.hashlink_table.proofs.Names.{◌≡◌, ◌≢◌, ℕ, zero, suc, ◌+◌, ◌<◌, ◌≤◌, cond, eqb, ◌⊎◌, inl}
use Rattle.hashlink_table.proofs.Names.{inr, Bool, true, false, List, length, get_or, set, count_by, refl}
use Rattle.hashlink_table.proofs.Names.{sym, ap, ◌∙◌, subst, arith, cases_eq, cases_lt, true≢false, eq-eqb}
use Rattle.hashlink_table.proofs.Names.{ne_eqb, get_or-set_other, get_or_past, sum_by-set, length-map}
use Rattle.hashlink_table.proofs.Names.{count_by-le-length, Cell, Head, END, next_at, chain_of, chain_at}
use Rattle.hashlink_table.proofs.Names.{bucket_in, guest_at, guest_of, first_at, IsChain, IsLink, IsLinked}
use Rattle.hashlink_table.proofs.{Names.bare_cell, Threads.{lower, passed}}

-- the number of cells that pass, from a cell to the end, or among the first `most`
abbrev pub looks : (ℕ → Bool) → (ℕ → ℕ) → ℕ → ℕ → ℕ
looks q next zero at = zero
looks q next (suc most) at = cond (eqb at END) zero (cond (q at) 1 0 + looks q next most (next at))

-- the number of links from a cell to the end
abbrev pub steps_left : (ℕ → ℕ) → ℕ → ℕ → ℕ
steps_left next most at = looks (λ _. true) next most at

-- at most `count` cells pass, and `most` links lead to the end
record IsNear (q : ℕ → Bool) (next : ℕ → ℕ) (most at count : ℕ) : Type 0 where
  pub few : looks q next most at ≤ count
  pub enough : looks q next (suc most) at ≡ looks q next most at

-- the link to a cell of chain b, or to the end, after the cells from the rank `from` on were passed
pub record IsWalk {N : Type 0} (cells : List (Cell N)) (m b at : ℕ) : Type 0 where
  pub start : ℕ
  pub all : IsChain (next_at cells) (chain_at m cells) start b
  pub from : ℕ
  pub link : IsLink all.rank.of (chain_at m cells) b from at

module _ {N : Type 0} {cells : List (Cell N)} {m b at : ℕ} (w : IsWalk cells m b at) where
  abbrev pub rank : ℕ → ℕ
  rank = w.all.rank.of

  -- a walk that has not ended goes on after its cell
  abbrev pub walk_on : at ≢ END → IsWalk cells m b (next_at cells at)
  walk_on ne = record { start = w.start; all = w.all; from = rank at; link = w.all.linked at (w.link.on ne) }

  -- a cell that was not passed is the walk's, or comes after it
  pub to_come : (j : ℕ) → chain_at m cells j ≡ b → rank j < w.from → at ≢ END → (j ≡ at) ⊎ (rank j < rank at)
  to_come j on later ne = elim (cases_eq j at) as (λ _. (j ≡ at) ⊎ (rank j < rank at)) [
    | inl e ↦ inl e
    | inr other ↦ inr (lower w.all.rank j at (w.all.small j on) (w.all.small at (w.link.on ne)) other
        (w.link.whole j on later))
  ]

  -- if a cell was not passed, the walk has not ended
  pub walk_goes : (j : ℕ) → chain_at m cells j ≡ b → rank j < w.from → at ≢ END
  walk_goes j on later e = omega (arith, passed w.all w.link e j on, later)

-- a walk has at most as many links as there are cells that pass p, and looks at as many as pass r
module _ {X : Type 0} (p r : X → Bool) (d : X) (none_p : p d ≡ false) (none_r : r d ≡ false) (q : ℕ → Bool)
  where
    one_less : (f : X → Bool) → f d ≡ false → (xs : List X) (i : ℕ) (b : Bool) → i < length xs
        → f (get_or xs i d) ≡ b
        → count_by f xs ≡ cond b 1 0 + count_by f (set xs i d)
    one_less f none xs i b here pass =
        let was : cond {A = ℕ} (f (get_or xs i d)) 1 0 ≡ cond b 1 0 = ap (λ a. cond {A = ℕ} a 1 0) pass in
        let is : cond {A = ℕ} (f d) 1 0 ≡ 0 = rw none refl in
        omega (arith, sum_by-set (λ x. cond (f x) 1 0) xs i d d here, was, is)

    within : (xs : List X) (i : ℕ) → p (get_or xs i d) ≡ true → i < length xs
    within xs i pass = elim (cases_lt i (length xs)) as (λ _. i < length xs) [
      | inl h ↦ h
      | inr past ↦ absurd (true≢false (sym pass ∙ ap p (get_or_past xs i d past) ∙ none_p))
    ]

    near : {N : Type 0} {cells : List (Cell N)} {m b at : ℕ} (most : ℕ) (xs : List X) (w : IsWalk cells m b
        at)
        → ((j : ℕ) → chain_at m cells j ≡ b → rank w j < w.from
        → (p (get_or xs j d) ≡ true) × (r (get_or xs j d) ≡ q j))
        → count_by p xs ≤ most
        → IsNear q (next_at cells) most at (count_by r xs)
    near {cells = cells} {at = at} zero xs w pass room = record {
      few = omega arith;
      enough = elim (cases_eq at END) as (λ _. looks q (next_at cells) 1 at ≡ 0) [
        | inl e ↦ rw (eq-eqb at END e) refl
        | inr ne ↦
            let here = (pass at (w.link.on ne) w.link.falls).0 in
            absurd (omega (arith, room, one_less p none_p xs at true (within xs at here) here))
      ];
    }
    near {cells = cells} {at = at} (suc most) xs w pass room =
        elim (cases_eq at END) as (λ _. IsNear q (next_at cells) (suc most) at (count_by r xs)) [
          | inl e ↦ record { few = rw (eq-eqb at END e) (omega arith); enough = rw (eq-eqb at END e) refl }
          | inr ne ↦
              let here = pass at (w.link.on ne) w.link.falls in
              let low = within xs at here.0 in
              let less = one_less p none_p xs at true low here.0 in
              let seen = one_less r none_r xs at (q at) low here.1 in
              let rest = near most (set xs at d) (walk_on w ne) (λ j on later.
              let other : j ≢ at = λ e. omega (arith, ap (rank w) e, later) in
              let same = get_or-set_other xs at j d d other in
              let old = pass j on (omega (arith, later, w.link.falls)) in (
                ap p same ∙ old.0,
                ap r same ∙
                    old.1,
              ))
              (omega (arith, room, less)) in
              record {
                few = rw (ne_eqb at END ne) (omega (arith, rest.few, seen));
                enough = rw (ne_eqb at END ne) (ap (λ n. cond (q at) 1 0 + n) rest.enough);
              }
        ]

module _ {N : Type 0} where
  -- the number of guests of a bucket, and whether the cell at j has one
  abbrev pub in_bucket : List (Cell N) → ℕ → ℕ → ℕ
  in_bucket cells m bucket = count_by (λ c. eqb (bucket_in m (guest_of c)) bucket) cells

  abbrev pub on_bucket : List (Cell N) → ℕ → ℕ → ℕ → Bool
  on_bucket cells m bucket j = eqb (bucket_in m (guest_at cells j)) bucket

  abbrev label : ℕ → ℕ → Cell N → Bool
  label m b c = eqb (chain_of m (guest_of c)) b

  near_end : {cells : List (Cell N)} {m b at : ℕ} (r : Cell N → Bool) (q : ℕ → Bool) → IsWalk cells m b at
      → b < m → r bare_cell ≡ false
      → ((j : ℕ) → chain_at m cells j ≡ b → r (get_or cells j bare_cell) ≡ q j)
      → IsNear q (next_at cells) (length cells) at (count_by r cells)
  near_end {cells} {m} {b} r q w low none same =
      near (label m b) r bare_cell (ne_eqb m b (λ e. omega (arith, e, low))) none q
      (length cells) cells w (λ j on _. (eq-eqb _ b on, same j on))
      (count_by-le-length (label m b) cells)

  -- each link brings the end nearer
  pub steps_left-falls : {cells : List (Cell N)} {m b at : ℕ} → IsWalk cells m b at → b < m → at ≢ END
      → steps_left (next_at cells) (length cells) (next_at cells at)
      < steps_left (next_at cells) (length cells) at
  steps_left-falls {cells} {m} {b} {at} w low ne =
      let n = near_end (label m b) (λ _. true) w low (ne_eqb m b (λ e. omega (arith, e, low)))
      (λ j on. eq-eqb _ b on) in
      omega (arith, rw (ne_eqb at END ne) at n.enough)

  -- the walk along the chain of a group
  abbrev pub walk_of : (slots : List (Cell N)) (heads : List Head) (b : ℕ) → IsLinked slots heads
      → b < length heads → IsWalk slots (length slots) b (first_at heads b)
  walk_of slots heads b t low =
      let c = t b (omega (arith, low, length-map heads (λ (h : Head). h.first))) in
      record { start = first_at heads b; all = c; from = c.rank.top; link = c.started }

  -- a search along a group's chain for a guest of a bucket, which has passed only cells that it does not
  -- seek, with a step for each guest of the bucket
  pub record IsSearch (cells : List (Cell N)) (m bucket b at : ℕ) (IsOther : ℕ → Type 0)
      (before now : ℕ) : Type 0 where
    pub walk : IsWalk cells m b at
    pub none : (j : ℕ) → chain_at m cells j ≡ b → walk.from ≤ rank walk j → IsOther j
    pub goes_on : before ≤ now
    pub cost : now + looks (on_bucket cells m bucket) (next_at cells) (length cells) at
        ≤ before + in_bucket cells m bucket

  near_bucket : {cells : List (Cell N)} {m b at : ℕ} (bucket : ℕ) → IsWalk cells m b at → b < m → bucket < m
      → IsNear (on_bucket cells m bucket) (next_at cells) (length cells) at (in_bucket cells m bucket)
  near_bucket {cells} {m} bucket w low small =
      near_end (λ c. eqb (bucket_in m (guest_of c)) bucket) (on_bucket cells m bucket) w low
      (ne_eqb m bucket (λ e. omega (arith, e, small))) (λ j _. refl)

  -- a search that begins at a group
  pub search_start : (slots : List (Cell N)) (heads : List Head) (bucket b : ℕ) {IsOther : ℕ → Type 0}
      (before : ℕ)
      → IsLinked slots heads → b < length heads → b < length slots → bucket < length slots
      → IsSearch slots (length slots) bucket b (first_at heads b) IsOther before before
  search_start slots heads bucket b before t low few small =
      let w = walk_of slots heads b t low in
      record {
        walk = w;
        none = λ j _ past. absurd (omega (arith, w.all.rank.below j, past));
        goes_on = omega arith;
        cost = omega (arith, (near_bucket bucket w few small).few);
      }

  module _ {cells : List (Cell N)} {m bucket b at : ℕ} {IsOther : ℕ → Type 0} {before now : ℕ}
      (s : IsSearch cells m bucket b at IsOther before now) where
    -- what is left, after a step if the cell has a guest of the bucket
    pub looks-on : b < m → bucket < m → at ≢ END
        → looks (on_bucket cells m bucket) (next_at cells) (length cells) at
        ≡ cond (on_bucket cells m bucket at) 1 0
        + looks (on_bucket cells m bucket) (next_at cells) (length cells) (next_at cells at)
    looks-on low small ne =
        sym (rw (ne_eqb at END ne) at (near_bucket bucket s.walk low small).enough)

    -- a search that passes one more cell
    pub search_on : b < m → bucket < m → at ≢ END → IsOther at → (to later : ℕ) → next_at cells at ≡ to
        → now ≤ later → later ≤ now + cond (on_bucket cells m bucket at) 1 0
        → IsSearch cells m bucket b to IsOther before later
    search_on low small ne other to later leads grows few =
        subst (λ to. IsSearch cells m bucket b to IsOther before later) leads (record {
          walk = walk_on s.walk ne;
          none = λ j on past. elim (cases_lt (rank s.walk j) s.walk.from) as (λ _. IsOther j) [
            | inr before ↦ s.none j on before
            | inl next ↦ elim (to_come s.walk j on next ne) as (λ _. IsOther j)
                [ inl is ↦ subst IsOther (sym is) other | inr after ↦ absurd (omega (arith, past, after)) ]
          ];
          goes_on = omega (arith, s.goes_on, grows);
          cost = omega (arith, s.cost, looks-on low small ne, few);
        })
