-- A use of a cache by an entry of its map, which evicts if the pair is new.
use Rattle.hashlink_run.proofs.Names.{◌≡◌, Bool, [], ◌∷◌, length, None, Some, Result, Ok, Err, refl, sym, ap}
use Rattle.hashlink_run.proofs.Names.{◌∙◌, subst, inl, inr, lookup, lookup_entry, place_of, CacheState}
use Rattle.hashlink_run.proofs.{Names.{MapState, Seen, CacheStep, EntrySteps, Reply}, Moved.by_key}
use Rattle.hashlink_run.specs.declared.cache_commands.CacheCommand.TheVariants.{Use}
use Rattle.hashlink_run.specs.{declared.commands.EntryStep.TheVariants.OrInsert, CallReplies.reply_or_refused}
use Rattle.hashlink_run.specs.EntrySteps.{MovesAndReadsAt}
use Rattle.std.proofs.{Common.{◌⊎◌, ◌+◌, ◌<◌, ◌≤◌, arith, get_or}, lemmas.Map.NonePasses}
use Rattle.std.specs.Result.{result_map_both}
use Rattle.hashlink_model.proofs.Splits.{Stands, splits, place_of-none, place_of-here, lookup-none}
use Rattle.hashlink_model.specs.{Cache.KeepsLast, Entry.VacantInserts, MapState.RefusesEntry, Steps.Moves}
use Rattle.hashlink_model.proofs.{Occupied.length-moved_at, Splits.{lookup-here, lookup_entry-none}}

module _ {K V B S : Type 0} (eq : K → K → Bool) (Says : K → V → B → Type 0) (old : CacheState K V S) (k : K)
    (v : V) (mid : MapState K V S) (new : CacheState K V S) (cap : new.cap ≡ old.cap) where
  -- what is done if there are more entries now, and if there are not
  abbrev pub Fits : Type 0
  Fits = ((length old.map.entries < length mid.entries) × KeepsLast mid new.map old.cap)
      ⊎ ((length mid.entries ≤ length old.map.entries) × (new.map ≡ mid))

  evicted : length mid.entries ≡ length old.map.entries + 1 → Fits → KeepsLast mid new.map old.cap
  evicted more (inl fits) = fits.1
  evicted more (inr same) = let few = same.0 in absurd (omega arith)

  unchanged : length mid.entries ≤ length old.map.entries → Fits → new.map ≡ mid
  unchanged few (inl fits) = let more = fits.0 in absurd (omega arith)
  unchanged few (inr same) = same.1

  missed : (reply : Reply K V B) → lookup (eq k) old.map.entries ≡ None
      → lookup_entry (eq k) old.map.entries ≡ None
      → (answer : Result (Unit {0}) (K × V)) → VacantInserts eq old.map mid k v answer
      → reply ≡ reply_or_refused (result_map_both (λ _. Seen None) (λ pair. pair) answer) → Fits
      → CacheStep eq Says old (Use k v) (reply ∷ []) new
  missed reply absent nothing (Ok done) adds is fits =
      let more = ap length adds.adds.entries ∙ adds.adds.more in
      let kept = evicted more fits in (
        Ok None,
        rw absent (record { map = record { between = mid; inserts = adds; fits = kept }; cap = cap }),
        rw nothing (None, tt, ap (λ r. r ∷ []) is),
      )
  missed reply absent nothing (Err pair) refuses is fits =
      let length_is = ap length refuses.grows.entries in
      let same = unchanged (omega arith) fits in
      let refused = subst (λ m. RefusesEntry eq old.map m k v pair) (sym same) refuses in (
        Err pair,
        rw absent (record { map = refused; cap = cap }),
        ap (λ r. r ∷ []) is,
      )

  used_by : (reply : Reply K V B) → NonePasses (eq k) old.map.entries ⊎ Stands (eq k) old.map.entries
      → EntrySteps eq Says old.map k (OrInsert v) (reply ∷ []) mid → Fits
      → CacheStep eq Says old (Use k v) (reply ∷ []) new
  used_by reply (inl none) step fits =
      let inserts = rw (place_of-none (eq k) old.map.entries none) at step in
      missed reply (lookup-none (eq k) old.map.entries none) (lookup_entry-none (eq k) old.map.entries none)
      inserts.0 inserts.1 (ap (λ rs. get_or rs 0 reply) inserts.2) fits
  used_by reply (inr s) step fits =
      let place : place_of (eq k) old.map.entries ≡ Some (length s.0) =
      ap (place_of (eq k)) s.3.is ∙ place_of-here (eq k) s.1 s.2 s.3.passes s.0 s.3.before in
      let found : lookup (eq k) old.map.entries ≡ Some s.1.1 =
      ap (lookup (eq k)) s.3.is ∙ lookup-here (eq k) s.1 s.2 s.3.passes s.0 s.3.before in
      let done : MovesAndReadsAt Says old.map (length s.0) (length old.map.entries) (reply ∷ []) mid =
      rw place at step in
      let moved = by_key eq Says old.map mid k (length old.map.entries) (reply ∷ []) (rw place done) in
      let length_is = ap length done.0.entries ∙ length-moved_at _ (length s.0) (length old.map.entries) in
      let same = unchanged (omega arith) fits in
      let moves = subst (λ m. Moves eq old.map m k (length old.map.entries) (Some s.1.1)) (sym same)
      (rw found at moved.0) in
      (Ok (Some s.1.1), rw found (refl, record { map = moves; cap = cap }), moved.1)

  pub used : (reply : Reply K V B) → EntrySteps eq Says old.map k (OrInsert v) (reply ∷ []) mid → Fits
      → CacheStep eq Says old (Use k v) (reply ∷ []) new
  used reply = used_by reply (splits (eq k) old.map.entries)
