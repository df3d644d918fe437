-- How the peak of a run grows along it, and that the nodes of a map stay within it.
use Rattle.std.proofs.Common.{◌≡◌, ℕ, ◌≤◌, max, le_refl, Bool, List, [], ◌∷◌, ◌++◌, length, Option, Result}
use Rattle.std.proofs.Common.{Ok, refl, sym, ap, ◌∙◌, subst, arith}
use Rattle.hashlink_model.specs.{Entries.put, MapState.{MapState, node_count, KeepsNodes}}
use Rattle.hashlink_model.specs.{Steps.{Clears, Shrinks}, Cache.{CacheState, CacheInserts, last_entries}}
use Rattle.hashlink_model.proofs.{NodeCounts.node_count-shrinks, CacheSteps.put_entries}
use Rattle.hashlink_model.proofs.KeptNodes.{kept-keeps, kept-inserts, cleared_nodes}
use Rattle.hashlink_history.specs.Peak.{Passed, Length, Shrunk, peak, Passes, PassesInTurn}

pub peak-append : (n : ℕ) (ps qs : List Passed) → peak n (ps ++ qs) ≡ peak (peak n ps) qs
peak-append n [] qs = refl
peak-append n (Length l ∷ ps) qs = peak-append (max n l) ps qs
peak-append n (Shrunk l ∷ ps) qs = peak-append l ps qs

-- ---- what a step passes

module _ {K V S : Type 0} (old new : MapState K V S) where
  pub passes-kept : KeepsNodes old new → Passes old (Length (length new.entries)) new
  passes-kept s = (refl, omega arith)

  pub passes-clears : Clears old new → Passes old (Length 0) new
  passes-clears s = (ap length s.entries, omega (arith, cleared_nodes old new s))

  pub passes-shrinks : {E : Type 0} (r : Result (Unit {0}) E) → Shrinks old new r
      → Passes old (Shrunk (length new.entries)) new
  passes-shrinks r s = (refl, node_count-shrinks old new r s ∙ sym (ap length s.entries))

-- an insert of a cache passes two lengths
module _ {K V S : Type 0} (eq : K → K → Bool) (old new : CacheState K V S) (k : K) (v : V) where
  pub passes-cache_insert : (w : Option V) → CacheInserts eq old new k v (Ok w) → PassesInTurn old.map
      (Length (length (put eq old.map.entries k v (length old.map.entries))) ∷ Length (length new.map.entries)
      ∷ [])
      new.map
  passes-cache_insert w s =
      let between = s.map.between in
      let kept = kept-inserts old.map between eq k v (length old.map.entries) (Ok w) s.map.inserts in
      let first = subst (λ n. Passes old.map (Length n) between)
      (ap length (put_entries eq old.map between k v w s.map.inserts)) (passes-kept old.map between kept) in
      let fits = kept-keeps between new.map (last_entries between.entries old.cap) s.map.fits in
      (between, first, (new.map, passes-kept between new.map fits, refl))

-- ---- a run of steps

pub peak-grows : (n m : ℕ) (ps : List Passed) → n ≤ m → peak n ps ≤ peak m ps
peak-grows n m [] l = l
peak-grows n m (Length p ∷ ps) l = peak-grows (max n p) (max m p) ps (omega arith)
peak-grows n m (Shrunk p ∷ ps) l = le_refl (peak p ps)

module _ {K V S : Type 0} where
  pub within_the_peak : (old new : MapState K V S) (ps : List Passed) → PassesInTurn old ps new
      → node_count new ≤ peak (node_count old) ps
  within_the_peak old new [] s = omega (arith, ap node_count s)
  within_the_peak old new (Length n ∷ ps) s =
      let more = peak-grows (node_count s.0) (max (node_count old) n) ps s.1.1 in
      omega (arith, within_the_peak s.0 new ps s.2)
  within_the_peak old new (Shrunk n ∷ ps) s =
      subst (λ m. node_count new ≤ peak m ps) s.1.1 (within_the_peak s.0 new ps s.2)

  pub passes_in_parts : (a b c : MapState K V S) (ps qs : List Passed) → PassesInTurn a ps b
      → PassesInTurn b qs c → PassesInTurn a (ps ++ qs) c
  passes_in_parts a b c [] qs s t = subst (λ m. PassesInTurn m qs c) s t
  passes_in_parts a b c (p ∷ ps) qs s t = (s.0, s.1, passes_in_parts s.0 b c ps qs s.2 t)

pub ruleset passes = (passes-kept, passes-clears, passes-shrinks, passes-cache_insert)

pub ruleset peaks = (passes, peak-append, within_the_peak, passes_in_parts)
