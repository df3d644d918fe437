-- A pair that moves by its entry is the pair of its key, or nothing is there.
use Rattle.hashlink_run.proofs.Names.{◌≡◌, ℕ, Bool, List, length, slice_get, Option, None, Some, refl, sym}
use Rattle.hashlink_run.proofs.Names.{ap, ◌∙◌, subst, inl, inr, MatchOption, lookup, lookup_entry, place_of}
use Rattle.hashlink_run.proofs.Names.{MapState, Reply, Replies, Seen}
use Rattle.hashlink_run.specs.EntrySteps.{FindsNothing, MovesAndReadsAt}
use Rattle.std.proofs.{Common.◌⊎◌, lemmas.Map.NonePasses}
use Rattle.hashlink_model.proofs.Splits.{Stands, splits, place_of-none, place_of-here, lookup-none}
use Rattle.hashlink_model.{specs.MapState.Changes, specs.Steps.Moves, proofs.ByPlace.moved_at-place}
use Rattle.hashlink_model.proofs.Places.{slice_get_here}
use Rattle.hashlink_model.proofs.Splits.{lookup-here, lookup_entry-none, lookup_entry-here}

module _ {K V B S : Type 0} (eq : K → K → Bool) (Says : K → V → B → Type 0) (old new : MapState K V S) (k : K)
    (b : ℕ) (replies : List (Reply K V B)) where
  -- what moves it at its place
  abbrev pub ByEntry : Type 0
  ByEntry =
      MatchOption (place_of (eq k) old.entries) (FindsNothing eq old (Seen None) replies new)
      (λ j. MovesAndReadsAt Says old j b replies new)

  -- and by its key
  abbrev pub ByKey : Option V → Type 0
  ByKey found = Moves eq old new k b found × Replies Says (lookup_entry (eq k) old.entries) replies

  by_split : NonePasses (eq k) old.entries ⊎ Stands (eq k) old.entries → ByEntry
      → ByKey (lookup (eq k) old.entries)
  by_split (inl none) step =
      let nothing = rw (place_of-none (eq k) old.entries none) at step in
      let absent = lookup-none (eq k) old.entries none in (
        record { answer = refl; step = rw absent nothing.0 },
        rw (lookup_entry-none (eq k) old.entries none) (None, tt, nothing.1),
      )
  by_split (inr s) step =
      let place : place_of (eq k) old.entries ≡ Some (length s.0) =
      ap (place_of (eq k)) s.3.is ∙ place_of-here (eq k) s.1 s.2 s.3.passes s.0 s.3.before in
      let found : lookup (eq k) old.entries ≡ Some s.1.1 =
      ap (lookup (eq k)) s.3.is ∙ lookup-here (eq k) s.1 s.2 s.3.passes s.0 s.3.before in
      let pair : lookup_entry (eq k) old.entries ≡ Some s.1 =
      ap (lookup_entry (eq k)) s.3.is ∙ lookup_entry-here (eq k) s.1 s.2 s.3.passes s.0 s.3.before in
      let stands : slice_get old.entries (length s.0) ≡ Some s.1 =
      ap (λ es. slice_get es (length s.0)) s.3.is ∙ slice_get_here s.0 s.1 s.2 in
      let done : MovesAndReadsAt Says old (length s.0) b replies new = rw place at step in
      let there = moved_at-place eq old.entries k (length s.0) place b in (
        record { answer = refl; step = rw found (subst (λ es. Changes old new es 6) there done.0) },
        subst (λ o. Replies Says o replies) (stands ∙ sym pair) done.1,
      )

  pub by_key : ByEntry → ByKey (lookup (eq k) old.entries)
  by_key = by_split (splits (eq k) old.entries)
