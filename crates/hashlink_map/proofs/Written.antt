-- What an entry is once its value was written.
use Rattle.hashlink_map.proofs.Names.{◌≡◌, ◌∙◌, ℕ, Bool, List, Option, Some, ap, ap₂, props, map_state}
use Rattle.hashlink_map.proofs.Names.{with_value_in, set_value_at, Keyed, HoldsKey, entries_of, state_of}
use Rattle.hashlink_map.proofs.Names.{pair_with_value, Node, Holds, place_number, with_value_at}
use Rattle.hashlink_map.proofs.Names.{values-renewed_value, place_number-renewed, OccupiedEntry}
use Rattle.hashlink_map.proofs.Names.{RawOccupiedEntryMut, raw_place, raw_with, RawIsWritten}
use Rattle.hashlink_map.specs.Bounds.{EqGhosts, HashGhosts, HasherGhosts, BuilderGhosts, NodeGhosts}
use Rattle.hashlink_map.specs.Entry.{occupied_place, occupied_with, IsWritten}

HoldsKey-prop : {K V : Type 0} (eq : K → K → Bool) (ns : List (Node × (K × V))) (k : K) (n : Node)
    → IsProp (HoldsKey eq ns k n)
HoldsKey-prop eq ns k n = hlevel props

module _ {K V S T : Type 0} {g : EqGhosts K} {h : HashGhosts K} {b : BuilderGhosts S T}
    {w : HasherGhosts T}
    {N : Type 0} {n : NodeGhosts N} (o : OccupiedEntry K V S N T g h b w n) (v : V) where
  pub is_written : IsWritten o v (occupied_with o v)
  is_written =
      let m = o.map.now in
      ap₂ (λ es i. record {
        map = map_state es m.spare m.room m.link_writes m.hasher;
        place =
            Some i;
        key = o.key;
      })
      (values-renewed_value m.nodes (occupied_place o) v)
      (place_number-renewed (pair_with_value v) m.nodes (occupied_place o) (Some (n.node o.node)))

  -- whatever proves that its node still has the key
  pub occupied_with-is : (p : HoldsKey g.eq (with_value_at o.map.now (n.node o.node) v).nodes o.key
      (n.node o.node))
      →
      record {
        map = record o.map { now = with_value_at o.map.now (n.node o.node) v };
        node = o.node;
        slot = o.slot;
        key = o.key;
        stands = p;
      }
      ≡ occupied_with o v
  occupied_with-is p =
      ap (λ q. record (occupied_with o v) { stands = q })
      (HoldsKey-prop g.eq (with_value_at o.map.now (n.node o.node) v).nodes o.key (n.node o.node) p
      (occupied_with o v).stands)

-- the same of a raw entry

Holds-prop : {X : Type 0} (ns : List (Node × X)) (n : Node) → IsProp (Holds ns n)
Holds-prop ns n = hlevel props

module _ {K V S T : Type 0} {g : EqGhosts K} {h : HashGhosts K} {b : BuilderGhosts S T}
    {w : HasherGhosts T}
    {N : Type 0} {n : NodeGhosts N} (o : RawOccupiedEntryMut K V S N T g h b w n) (v : V) where
  pub raw_is_written : RawIsWritten o v (raw_with o v)
  raw_is_written =
      let m = o.map.now in
      ap₂ (λ es i. record { map = map_state es m.spare m.room m.link_writes m.hasher; place = Some i })
      (values-renewed_value m.nodes (raw_place o) v)
      (place_number-renewed (pair_with_value v) m.nodes (raw_place o) (Some (n.node o.node)))

  pub raw_with-is : (p : Holds (with_value_at o.map.now (n.node o.node) v).nodes (n.node o.node))
      → record {
        map = record o.map { now = with_value_at o.map.now (n.node o.node) v };
        node = o.node;
        slot = o.slot;
        stands = p;
      }
      ≡ raw_with o v
  raw_with-is p =
      ap (λ q. record (raw_with o v) { stands = q })
      (Holds-prop (with_value_at o.map.now (n.node o.node) v).nodes (n.node o.node) p (raw_with o v).stands)

-- a cursor once a value of its map was written
pub cursor_written : {K V S : Type 0} (m : Keyed K V S) (n : Node) (p : Option Node) (i : ℕ) (v : V)
    → place_number m.nodes (Some n) ≡ i
    → record { map = state_of (with_value_at m n v); place = place_number (with_value_at m n v).nodes p }
    ≡ with_value_in (record { map = state_of m; place = place_number m.nodes p }) i v
cursor_written m n p i v at =
    ap₂ (λ es q. record { map = map_state es m.spare m.room m.link_writes m.hasher; place = q })
    (values-renewed_value m.nodes (place_number m.nodes (Some n)) v ∙ ap
    (λ j. set_value_at (entries_of m) j v) at)
    (place_number-renewed (pair_with_value v) m.nodes (place_number m.nodes (Some n)) p)
