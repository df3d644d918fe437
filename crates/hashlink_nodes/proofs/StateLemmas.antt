-- The state of the blocks after one of them changed, was added or was freed.
use Rattle.hashlink_nodes.proofs.Names
use Names.{◌≡◌, ℕ, ◌+◌, Bool, true, false, cond, List, ◌∷◌, length, Option, None, Some, refl, sym, subst, ap}
use Names.{◌∙◌, arith, IsNone, is_some, lookup, set_value, remove_entry, lookup-set_value, length-set_value}
use Names.{same_node, same_node-refl, Differs, same_node_equiv, eq-same_node, State, Blocks, state, set_at}
use Names.{next_in, prev_in, held_in, store_next, store_prev, hold, Adds, MakesGuard, Drops, Node, Link, Kept}
use Names.{kept, alter, entry_in, with_links, with_pair, held, pair_of, option_map, Entry}
use Rattle.hashlink_nodes.proofs.{ArenaBlocks.found_entry, Opening.length-removed, Cuts.{cut, cut_at}}
use Rattle.hashlink_nodes.{proofs.Paths.{set_at_here, set_at_other}, specs.declared.pool.links.Links.Links}

module _ {X Y : Type 0} (f : Option X → Y) where
  picked : (y : Bool) (w : X) (o : Option X) → f (cond y (Some w) o) ≡ cond y (f (Some w)) (f o)
  picked true w o = refl
  picked false w o = refl

  -- what a lookup reads at each node after a write at n
  seen_at : (n : Node) (bs : List (Node × X)) (w : X) → is_some (lookup (same_node n) bs) ≡ true
      → (λ m. f (lookup (same_node m) (set_value (same_node n) bs w)))
      ≡ set_at (λ m. f (lookup (same_node m) bs)) n (f (Some w))
  seen_at n bs w there = λ i m.
      (ap f (lookup-set_value same_node_equiv (same_node n) (same_node_equiv.congr n) m w bs there)
      ∙ ap (λ y. f (cond y (Some w) (lookup (same_node m) bs))) (same_node_equiv.symm n m)
      ∙ picked (same_node m n) w (lookup (same_node m) bs)) i

-- a function is the same if it is set at n to its own value there
set_same : {X : Type 0} (f : Node → X) (n : Node) (x : X) → x ≡ f n → set_at f n x ≡ f
set_same f n x is = λ i m. (elim (same_node m n) as (λ (y : Bool). same_node m n ≡ y → cond y x (f m) ≡ f m) [
  | true ↦ λ same. is ∙ ap f (sym (eq-same_node m n same))
  | false ↦ λ _. refl
]) refl i

-- if f of an option is y, the option has an x, and f of x is y
mapped : {X Y : Type 0} (f : X → Y) (o : Option X) {y : Y} → option_map f o ≡ Some y
    → (x : X) × (o ≡ Some x) × (f x ≡ y)
mapped f None e = absurd (cc e)
mapped f (Some x) e = (x, refl, cc)

pub links_at : {K V : Type 0} (bs : Blocks K V) (n : Node) {l : Links}
    → option_map (λ (k : Kept (K × V)). k.links) (lookup (same_node n) bs) ≡ Some l
    → (k : Kept (K × V)) × (lookup (same_node n) bs ≡ Some k) × (k.links ≡ l)
links_at {K} {V} bs n e = mapped (λ (k : Kept (K × V)). k.links) (lookup (same_node n) bs) e

-- what a lookup of an arena found: the pair, with its number
pub record PairAt {K V : Type 0} (bs : Blocks K V) (n : Node) (p : K × V) : Type 0 where
  pub block : Kept (K × V)
  pub number : ℕ
  pub looked : lookup (same_node n) bs ≡ Some block
  pub entry : block.entry ≡ Some (number, p)
  pub held : held_in (lookup (same_node n) bs) ≡ Some (held number p.0 p.1)

pub pair_at : {K V : Type 0} (bs : Blocks K V) (n : Node) (p : K × V)
    → option_map (λ (e : ℕ × (K × V)). e.1) (entry_in (lookup (same_node n) bs)) ≡ Some p → PairAt bs n p
pair_at {K} {V} bs n p e =
    let x = mapped (λ (e : ℕ × (K × V)). e.1) (entry_in (lookup (same_node n) bs)) e in
    let k = found_entry (lookup (same_node n) bs) (ap is_some x.1) in
    let entry : k.0.entry ≡ Some (x.0.0, p) = sym (ap entry_in k.2) ∙ x.1 ∙ (λ i. Some (x.0.0, x.2 i)) in
    record {
      block = k.0;
      number = x.0.0;
      looked = k.2;
      entry = entry;
      held = ap held_in k.2 ∙ ap (option_map (λ y. held y.0 y.1.0 y.1.1)) entry;
    }

module _ {K V : Type 0} (bs : Blocks K V) (count count' : ℕ) (n : Node) (k : Kept (K × V))
    (e : lookup (same_node n) bs ≡ Some k) where
  abbrev changed : (Kept (K × V) → Kept (K × V)) → Blocks K V
  changed f = alter (same_node n) f bs

  is_set : (f : Kept (K × V) → Kept (K × V)) → changed f ≡ set_value (same_node n) bs (f k)
  is_set f =
      let c = cut_at bs n k e in
      c.0.altered f ∙ sym (c.0.renewed (f c.0.value))
      ∙ ap (λ x. set_value (same_node n) bs (f x)) c.1

  abbrev S : State K V
  S = state bs count

  -- the state in which n has another block
  changed_state : (f : Kept (K × V) → Kept (K × V)) → state (changed f) count' ≡ record {
    next = set_at S.next n (f k).links.next.to;
    prev = set_at S.prev n (f k).links.prev.to;
    held = set_at S.held n (held_in (Some (f k)));
    has = S.has;
    size = S.size;
    link_writes = count';
  }
  changed_state f = ap (λ x. state x count') (is_set f) ∙ (λ i. record {
    next = seen_at next_in n bs (f k) (ap is_some e) i;
    prev = seen_at prev_in n bs (f k) (ap is_some e) i;
    held = seen_at held_in n bs (f k) (ap is_some e) i;
    has = (seen_at is_some n bs (f k) (ap is_some e) ∙ set_same S.has n true (ap is_some (sym e))) i;
    size = length-set_value (same_node n) bs (f k) i;
    link_writes = count';
  })

  same_held : set_at S.held n (held_in (Some k)) ≡ S.held
  same_held = set_same S.held n (held_in (Some k)) (ap held_in (sym e))

  same_next : (to : Node) → to ≡ k.links.next.to → set_at S.next n to ≡ S.next
  same_next to is = set_same S.next n to (is ∙ ap next_in (sym e))

  same_prev : (to : Node) → to ≡ k.links.prev.to → set_at S.prev n to ≡ S.prev
  same_prev to is = set_same S.prev n to (is ∙ ap prev_in (sym e))

  module _ (l : Links) (is_l : k.links ≡ l) (to : Node) (link : Link) (is_new : link ≡ record { to = to })
      (raised : count' ≡ count + 1) where
    pub stored_next : state (changed (with_links (record { next = link; prev = l.prev }))) count'
        ≡ store_next n to (state bs count)
    unfolding store_next
    stored_next = changed_state (with_links (record { next = link; prev = l.prev })) ∙ (λ i. record S {
      next = set_at S.next n (is_new i).to;
      prev = same_prev l.prev.to (ap (λ (x : Links). x.prev.to) (sym is_l)) i;
      held = same_held i;
      link_writes = raised i;
    })

    pub stored_prev : state (changed (with_links (record { next = l.next; prev = link }))) count'
        ≡ store_prev n to (state bs count)
    unfolding store_prev
    stored_prev = changed_state (with_links (record { next = l.next; prev = link })) ∙ (λ i. record S {
      next = same_next l.next.to (ap (λ (x : Links). x.next.to) (sym is_l)) i;
      prev = set_at S.prev n (is_new i).to;
      held = same_held i;
      link_writes = raised i;
    })

  -- the links stay, and n now holds h
  pub held_anew : (f : Kept (K × V) → Kept (K × V)) → (f k).links ≡ k.links → (h : Option (Entry K V))
      → held_in (Some (f k)) ≡ h → state (changed f) count' ≡ hold n h (state bs count')
  unfolding hold
  held_anew f kept h is_h = changed_state f ∙ (λ i. record S {
    next = same_next (f k).links.next.to (ap (λ (x : Links). x.next.to) kept) i;
    prev = same_prev (f k).links.prev.to (ap (λ (x : Links). x.prev.to) kept) i;
    held = set_at S.held n (is_h i);
    link_writes = count';
  })

  -- both links of n, which is new, lead to n itself
  pub looped : (s : State K V) (next prev : Link) → next ≡ record { to = n } → prev ≡ record { to = n }
      → count' ≡ count → Adds n s (state bs count)
      → MakesGuard n s (state (changed (with_links (record { next = next; prev = prev }))) count')
  looped s next prev is_next is_prev is_count a =
      let is : state (changed (with_links (record { next = next; prev = prev }))) count' ≡ record S {
        next = set_at S.next n n;
        prev = set_at S.prev n n;
      } = changed_state (with_links (record { next = next; prev = prev })) ∙ (λ i. record S {
        next = set_at S.next n (is_next i).to;
        prev = set_at S.prev n (is_prev i).to;
        held = same_held i;
        link_writes = is_count i;
      }) in
      subst (MakesGuard n s) (sym is) (record {
        adds = record {
          differs = record {
            next = λ m h. set_at_other S.next n m n h ∙ a.differs.next m h;
            prev = λ m h. set_at_other S.prev n m n h ∙ a.differs.prev m h;
            held = a.differs.held;
            has = a.differs.has;
          };
          absent = a.absent;
          there = a.there;
          bare = a.bare;
          size = a.size;
          link_writes = a.link_writes;
        };
        next = set_at_here S.next n n;
        prev = set_at_here S.prev n n;
      })

module _ {K V : Type 0} where
  differs : (bs bs' : Blocks K V) {count count' : ℕ} {n : Node}
      → ((m : Node) → same_node m n ≡ false → lookup (same_node m) bs' ≡ lookup (same_node m) bs)
      → Differs n (state bs count) (state bs' count')
  differs bs bs' at = record {
    next = λ m k. ap next_in (at m k);
    prev = λ m k. ap prev_in (at m k);
    held = λ m k. ap held_in (at m k);
    has = λ m k. ap is_some (at m k);
  }

  -- a block was added
  pub added : (bs : Blocks K V) (count : ℕ) (n : Node) (l : Links) {bs' : Blocks K V}
      → bs' ≡ (n, kept l None) ∷ bs → IsNone (lookup (same_node n) bs)
      → Adds n (state bs count) (state bs' count)
  added bs count n l is apart =
      let b = kept {T = K × V} l None in
      let found = λ (m : Node) (y : Bool). cond y (Some b) (lookup (same_node m) bs) in
      subst (λ x. Adds n (state bs count) (state x count)) (sym is) (record {
        differs = differs bs ((n, b) ∷ bs) (λ m k. ap (found m) k);
        absent = apart;
        there = ap (λ y. is_some (found n y)) (same_node-refl n);
        bare = ap (λ y. held_in (found n y)) (same_node-refl n);
        size = omega arith;
        link_writes = refl;
      })

  pub dropped : (bs bs' : Blocks K V) (count : ℕ) (n : Node) → is_some (lookup (same_node n) bs) ≡ true
      → bs' ≡ remove_entry (same_node n) bs
      → Drops n (state bs count) (state bs' count)
  dropped bs bs' count n there is =
      let c = cut bs n there in record {
        differs = differs bs bs' (λ m k. ap (lookup (same_node m)) (is ∙ c.removed) ∙ c.others m k);
        size = ap (λ (cs : Blocks K V). length cs + 1) is ∙ length-removed bs c;
        link_writes = refl;
      }

-- a node that holds a pair now holds another one
pub pair_anew : {K V : Type 0} (bs : Blocks K V) (count : ℕ) (n : Node) (p : K × V) (at : PairAt bs n p)
    (w : K × V) (h : Entry K V → Entry K V) → h (held at.number p.0 p.1) ≡ held at.number w.0 w.1
    → state (alter (same_node n) (with_pair w) bs) count
    ≡ hold n (option_map h (held_in (lookup (same_node n) bs))) (state bs count)
pair_anew bs count n p at w h is_h =
    held_anew bs count count n at.block at.looked (with_pair w) refl
    (option_map h (held_in (lookup (same_node n) bs)))
    (ap (λ x. held_in (Some (with_pair w (kept at.block.links x)))) at.entry
    ∙ ap Some (sym is_h) ∙ sym (ap (option_map h) at.held))

-- the pair of a node, if it holds one
pub paired : {K V : Type 0} (o : Option (ℕ × (K × V)))
    → option_map (λ (e : ℕ × (K × V)). e.1) o ≡ option_map pair_of (option_map (λ e. held e.0 e.1.0 e.1.1) o)
paired None = refl
paired (Some e) = refl
