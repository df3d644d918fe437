-- An entry that is the last: it moved there, or its pair was inserted there.
use Rattle.hashlink_map.proofs.Names
use Names.{◌≡◌, ℕ, ◌-◌, Bool, None, Some, length, refl, sym, ap, ap₂, subst, ◌∙◌, slice_get, Result, Ok, Err}
use Names.{IfOk, IfErr, OnErr, MatchOption, Bor, MutBor, IsEquivalence, IsEntries, place_of, MapState}
use Names.{MovesAt, AddsEntry, RefusesEntry, RawEntryState, place_of_its_key, Keyed, state_of, entries_of}
use Names.{Node, Holds, place_number, at-node, node-at, RawOccupiedEntryMut, raw_occupied_state}
use Names.{raw_occupied_map, raw_place, raw_pair, PutsLast, StandsLast, with_value_at}
use Rattle.std.specs.Prelude.{Option}
use Rattle.hashlink_map.specs.contracts.as_node.NodeAsNode.TheImpl
use Rattle.hashlink_map.proofs.AtNode.{adds-written, added-parts, last-moved, moves-and-writes}
use Rattle.hashlink_map.proofs.PairTies.{IsPairAt, OfEntry}
use Rattle.hashlink_map.specs.Bounds.{EqGhosts, HashGhosts, HasherGhosts, BuilderGhosts, NodeGhosts}

module _ {K V S : Type 0} {eq : K → K → Bool} where
  pub moved_stands : (laws : IsEquivalence eq) (m : Keyed K V S) (n : Node) (held : Holds m.nodes n)
      (new : MapState K V S) (p : ℕ) (Given : K × V → Type 0)
      → MovesAt (state_of m) new (place_number m.nodes (Some n)) (length (entries_of m))
      → p ≡ length (entries_of m) - 1
      → IsEntries eq (entries_of m)
      → StandsLast eq (record { map = state_of m; place = Some (place_number m.nodes (Some n)) }) Given
      (record { map = new; place = Some p })
  moved_stands laws m n held new p Given moves place distinct =
      let e = (node-at m.nodes n held).0 in
      let at = at-node m n held in
      let own = place_of_its_key eq laws (entries_of m) (place_number m.nodes (Some n)) e e.0 distinct at
      (laws.refl e.0) in
      (e, at, own, moves, ap Some place)

module _ {K V S T : Type 0} {g : EqGhosts K} {h : HashGhosts K} {b : BuilderGhosts S T}
    {w : HasherGhosts T}
    {N : Type 0} {n : NodeGhosts N} (old : MapState K V S) (e : K × V) (Given : K × V → Type 0)
    (given : Given e) where
  pub new_stands : (r : Result (RawOccupiedEntryMut K V S N T g h b w n) (K × V))
      → IfOk r (λ o. AddsEntry g.eq old (state_of (raw_occupied_map o).now) e.0 e.1 (length old.entries))
      → IfOk r (λ o. raw_place o ≡ length old.entries)
      → IfOk r (λ o. StandsLast g.eq (record { map = old; place = None }) Given (raw_occupied_state o))
  new_stands (Ok o) adds last = (e, given, adds, ap Some last)
  new_stands (Err x) adds last = tt

  pub handed_given : (r : Result (RawOccupiedEntryMut K V S N T g h b w n) (K × V)) → IfErr r (λ x. x ≡ e)
      → IfErr r Given
  handed_given (Ok o) is = tt
  handed_given (Err x) is = subst Given (sym is) given

-- a refusal of the pair that is handed back
pub refuses_handed : {K V S A : Type 0} (eq : K → K → Bool) (old new : MapState K V S) (k : K) (v : V)
    (r : Result A (K × V))
    → OnErr r (IfErr r (RefusesEntry eq old new k v)) → IfErr r (λ e. e ≡ (k, v))
    → OnErr r (IfErr r (λ e. RefusesEntry eq old new e.0 e.1 e))
refuses_handed eq old new k v (Ok x) refuses is = tt
refuses_handed eq old new k v (Err e) refuses is =
    subst (λ x. RefusesEntry eq old new x.0 x.1 e) (sym is) refuses

pub none_at : {A E X : Type 0} (r : Result A E) (x : X) → OnErr r (x ≡ x)
none_at (Ok a) x = tt
none_at (Err e) x = refl

-- what is written through the pair of an entry that is the last
module _ {K V S T : Type 0} {g : EqGhosts K} {h : HashGhosts K} {b : BuilderGhosts S T}
    {w : HasherGhosts T} (laws : IsEquivalence g.eq) (Given : K × V → Type 0) where
  module _ (o : RawOccupiedEntryMut K V S Node T g h b w TheImpl.ghosts) (q : Bor K × MutBor V)
      (has : IsPairAt o q) where
    last_written : (old : MapState K V S) (place : Option ℕ)
        → StandsLast g.eq (record { map = old; place = place }) Given (raw_occupied_state o)
        → (u : V)
        → PutsLast g.eq old (state_of (with_value_at o.map.now o.node u)) q.0.now u
    last_written old None (e, given, adds, last) u =
        let at : raw_place o ≡ length old.entries = cc in
        let parts = added-parts laws old o.map.now e.0 e.1 o.node adds at (q.0.now, q.1.now) has in
        rw (parts.0, adds.absent) (adds-written laws old o.map.now e.0 e.1 o.node adds at u)
    last_written old (Some j) (e, stood, own, moves, last) u =
        let at : raw_place o ≡ length old.entries - 1 = cc in
        let here : Some (q.0.now, q.1.now) ≡ Some e
        = sym has ∙ ap₂ slice_get moves.entries at ∙ last-moved old.entries j e stood in
        let same : e ≡ (q.0.now, q.1.now) = cc in
        moves-and-writes g.eq old o.map.now q.0.now j
        (subst (λ x. place_of (g.eq x.0) old.entries ≡ Some j) same own)
        o.node moves at u

    last_parts : (old : MapState K V S) (place : Option ℕ)
        → StandsLast g.eq (record { map = old; place = place }) Given (raw_occupied_state o)
        → MatchOption (raw_pair (record { map = old; place = place })) (Given (q.0.now, q.1.now))
        (λ stood. (q.0.now ≡ stood.0) × (q.1.now ≡ stood.1))
    last_parts old None (e, given, adds, last) =
        let at : raw_place o ≡ length old.entries = cc in
        let parts = added-parts laws old o.map.now e.0 e.1 o.node adds at (q.0.now, q.1.now) has in
        subst Given (ap₂ (λ k v. (k, v)) (sym parts.0) (sym parts.1)) given
    last_parts old (Some j) (e, stood, own, moves, last) =
        let at : raw_place o ≡ length old.entries - 1 = cc in
        let here : Some (q.0.now, q.1.now) ≡ Some e
        = sym has ∙ ap₂ slice_get moves.entries at ∙ last-moved old.entries j e stood in
        let same : (q.0.now, q.1.now) ≡ e = cc in
        rw stood (ap (λ x. x.0) same, ap (λ x. x.1) same)

  module _ {E : Type 0} (old : RawEntryState K V S) where
    pub put_written : (x : Result (RawOccupiedEntryMut K V S Node T g h b w TheImpl.ghosts) E)
        → IfOk x (λ o. StandsLast g.eq old Given (raw_occupied_state o))
        → IfOk x (λ o. (q : Bor K × MutBor V) → IsPairAt o q → (u : V)
        → PutsLast g.eq old.map (state_of (with_value_at o.map.now o.node u)) q.0.now u)
    put_written (Ok o) stands = λ q has. last_written o q has old.map old.place stands
    put_written (Err e) stands = tt

    pub put_parts : (x : Result (RawOccupiedEntryMut K V S Node T g h b w TheImpl.ghosts) E)
        → IfOk x (λ o. StandsLast g.eq old Given (raw_occupied_state o))
        → OfEntry x (λ q. MatchOption (raw_pair old) (Given (q.0.now, q.1.now))
        (λ stood. (q.0.now ≡ stood.0) × (q.1.now ≡ stood.1)))
    put_parts (Ok o) stands = λ q has. last_parts o q has old.map old.place stands
    put_parts (Err e) stands = tt

-- the parts of the pair given
pub given_parts : {K V S E : Type 0} (old : RawEntryState K V S) (k : K) (v : V)
    (r : Result (Bor K × MutBor V) E)
    → IfOk r (λ q. MatchOption (raw_pair old) (◌≡◌ {A = K × V} (q.0.now, q.1.now) (k, v))
    (λ stood. (q.0.now ≡ stood.0) × (q.1.now ≡ stood.1)))
    → IfOk r (λ q. MatchOption (raw_pair old) ((q.0.now ≡ k) × (q.1.now ≡ v))
    (λ stood. (q.0.now ≡ stood.0) × (q.1.now ≡ stood.1)))
given_parts {K} {V} old k v (Ok q) is = at (raw_pair old) is
  where
    at : (x : Option (K × V))
        → MatchOption x (◌≡◌ {A = K × V} (q.0.now, q.1.now) (k, v)) (λ stood. (q.0.now ≡ stood.0) ×
        (q.1.now ≡ stood.1))
        → MatchOption x ((q.0.now ≡ k) × (q.1.now ≡ v)) (λ stood. (q.0.now ≡ stood.0) × (q.1.now ≡ stood.1))
    at None same = (ap (λ x. x.0) same, ap (λ x. x.1) same)
    at (Some e) same = same
given_parts old k v (Err e) is = tt
