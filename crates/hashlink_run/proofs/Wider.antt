-- If `Q` allows each value that `P` allows a closure to return for a pair, then steps of a map by `P` are
-- steps by `Q`.
use Rattle.hashlink_run.specs.declared.commands.CursorStep.TheVariants as cursor
use Rattle.hashlink_run.specs.declared.commands.EntryStep.TheVariants as step
use Rattle.hashlink_run.{proofs.Names.{ℕ, Bool}, specs.CursorSteps.CursorSteps, specs.Reads.{SaysOf, Reads}}
use Rattle.hashlink_run.proofs.Names.{List, [], ◌∷◌, slice_get, Option, None, Some, MatchOption, CursorState}
use Rattle.hashlink_run.proofs.Names.{place_of, MapState, CursorStep, EntryStep, Reply, CursorStepped}
use Rattle.hashlink_run.proofs.Names.{CursorWalks, first_place, OccupiedStep, VacantStep, EntrySteps, Replies}
use Rattle.hashlink_model.specs.Cursor.{entry_in, place_next, place_previous}

module _ {K V B : Type 0} (P Q : K → V → B → Type 0)
    (wider : (k : K) (v : V) (b : B) → P k v b → Q k v b) where
  said-wider : (pair : Option (K × V)) (said : Option B) → SaysOf P pair said → SaysOf Q pair said
  said-wider None None s = tt
  said-wider None (Some b) s = absurd s
  said-wider (Some pair) None s = absurd s
  said-wider (Some pair) (Some b) s = wider pair.0 pair.1 b s

  pub replies-wider : (pair : Option (K × V)) (replies : List (Reply K V B)) → Replies P pair replies
      → Replies Q pair replies
  replies-wider pair replies s = (s.0, said-wider pair s.0 s.1, s.2)

  module _ {S : Type 0} (old : MapState K V S) (replies : List (Reply K V B)) (new : MapState K V S) where
    pub reads-wider : (pair : Option (K × V)) → Reads P old pair replies new → Reads Q old pair replies new
    reads-wider pair s = (s.0, replies-wider pair replies s.1)

    occupied-wider : (j : ℕ) (k : K) (step : EntryStep V) → OccupiedStep P old j k step replies new
        → OccupiedStep Q old j k step replies new
    occupied-wider j k step.Get s = reads-wider (slice_get old.entries j) s
    occupied-wider j k (step.OrInsert v) s = (s.0, replies-wider (slice_get old.entries j) replies s.1)
    occupied-wider j k step.ToFront s = (s.0, replies-wider (slice_get old.entries j) replies s.1)
    occupied-wider j k step.ToBack s = (s.0, replies-wider (slice_get old.entries j) replies s.1)
    occupied-wider j k step s = s

    pub entry-wider : (eq : K → K → Bool) (k : K) (step : EntryStep V)
        → EntrySteps eq P old k step replies new
        → EntrySteps eq Q old k step replies new
    entry-wider eq k step s = by (place_of (eq k) old.entries) s
      where
        by : (o : Option ℕ)
            → MatchOption o (VacantStep eq old k step replies new)
            (λ j. OccupiedStep P old j k step replies new)
            → MatchOption o (VacantStep eq old k step replies new)
            (λ j. OccupiedStep Q old j k step replies new)
        by None s = s
        by (Some j) s = occupied-wider j k step s

-- ---- a cursor

module _ {K V B : Type 0} (P Q : K → V → B → Type 0) (wider : (k : K) (v : V) (b : B) → P k v b → Q k v b)
    {S : Type 0} (eq : K → K → Bool) where
  cursor_step-wider : (old new : CursorState K V S) (step : CursorStep K V) (replies : List (Reply K V B))
      → CursorStepped eq P old step replies new → CursorStepped eq Q old step replies new
  cursor_step-wider old new cursor.Next replies s =
      (s.0, replies-wider P Q wider (entry_in old (place_next old)) replies s.1)
  cursor_step-wider old new cursor.Prev replies s =
      (s.0, replies-wider P Q wider (entry_in old (place_previous old)) replies s.1)
  cursor_step-wider old new cursor.Current replies s =
      (s.0, replies-wider P Q wider (entry_in old old.place) replies s.1)
  cursor_step-wider old new cursor.PeekNext replies s =
      (s.0, replies-wider P Q wider (entry_in old (place_next old)) replies s.1)
  cursor_step-wider old new cursor.PeekPrev replies s =
      (s.0, replies-wider P Q wider (entry_in old (place_previous old)) replies s.1)
  cursor_step-wider old new step replies s = s

  walk-wider : (old new : CursorState K V S) (steps : List (CursorStep K V)) (replies : List (Reply K V B))
      → CursorWalks eq P old steps replies new → CursorWalks eq Q old steps replies new
  walk-wider old new [] replies s = s
  walk-wider old new (step ∷ steps) replies s =
      (s.0, s.1, s.2, cursor_step-wider old s.1 step s.0 s.3, walk-wider s.1 new steps s.2 s.4, s.5)

  pub cursor-wider : (old new : MapState K V S) (steps : List (CursorStep K V)) (replies : List (Reply K V B))
      → CursorSteps eq P old steps replies new → CursorSteps eq Q old steps replies new
  cursor-wider old new steps replies s = (s.0, walk-wider (first_place old) s.0 steps replies s.1, s.2)
