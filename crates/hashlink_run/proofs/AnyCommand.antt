-- What holds for a step, whatever the command: each lemma has a line for each command, or one line for
-- several like it.
use Rattle.hashlink_run.proofs.Names.{◌≡◌, ◌≤◌, Bool, true, false, List, [], ◌∷◌, length, refl, sym, ap, ◌∙◌}
use Rattle.hashlink_run.proofs.Names.{subst, Option, Result, Ok, Err, arith, lookup_entry, Length, MapState}
use Rattle.hashlink_run.proofs.Names.{KeepsNodes, first_of, kept-inserts, kept-moves, kept-removes_key}
use Rattle.hashlink_run.proofs.Names.{kept-pops_front, Reply, insert_reply, is_refused, first_place, Step}
use Rattle.hashlink_run.specs.declared.commands.Command.{Command}
use Rattle.std.specs.declared.alloc.AllocError.{AllocError}
use Rattle.hashlink_history.{specs.Peak.Passes, proofs.Peaks.{passes-kept, passes-clears, passes-shrinks}}
use Rattle.hashlink_model.specs.{Steps.Replaces, Walk.last_of}
use Rattle.hashlink_model.proofs.KeptNodes.{kept-replaces, kept-pops_back, kept-keeps}
use Rattle.hashlink_run.specs.declared.commands.Command.TheVariants as command
use Rattle.hashlink_run.specs.{CallReplies.shrink_reply, Run.{passed_at, keeps_nodes}}
use Rattle.hashlink_run.proofs.{CursorNodes.{cursor-keeps, inserts-taken, walk-taken}, Kept.keeps_where-wider}
use Rattle.hashlink_run.proofs.EntryNodes.{kept_unchanged, entry-leaves}
use Rattle.hashlink_run.proofs.Wider.{reads-wider, replies-wider, entry-wider, cursor-wider}

-- ---- steps by P are steps by Q if Q allows each result that P allows

module _ {K V B : Type 0} (P Q : K → V → B → Type 0) (wider : (k : K) (v : V) (b : B) → P k v b → Q k v b)
    (Keeps Also : K → V → Bool → Type 0) (also : (k : K) (v : V) (b : Bool) → Keeps k v b → Also k v b)
    {S : Type 0} (eq : K → K → Bool) (old : MapState K V S) (replies : List (Reply K V B))
    (new : MapState K V S) where
  pub step-wider : (command : Command K V) → Step eq P Keeps old command replies new
      → Step eq Q Also old command replies new
  step-wider (command.Get k) s =
      reads-wider P Q wider old replies new (lookup_entry (eq k) old.entries) s
  step-wider (command.ToFront k) s =
      (s.0, replies-wider P Q wider (lookup_entry (eq k) old.entries) replies s.1)
  step-wider (command.ToBack k) s =
      (s.0, replies-wider P Q wider (lookup_entry (eq k) old.entries) replies s.1)
  step-wider command.Front s = reads-wider P Q wider old replies new (first_of old.entries) s
  step-wider command.Back s = reads-wider P Q wider old replies new (last_of old.entries) s
  step-wider command.Keep s = (keeps_where-wider Keeps Also also old new s.0, s.1)
  step-wider (command.Entry k step) s = entry-wider P Q wider old replies new eq k step s
  step-wider (command.Cursor steps) s = cursor-wider P Q wider eq old new steps.items replies s
  step-wider any s = s

-- ---- the nodes at one step

module _ {K V B S : Type 0} (eq : K → K → Bool) (Says : K → V → B → Type 0) (Keeps : K → V → Bool → Type 0)
    (old new : MapState K V S) where
  -- what a command keeps, and the numbers of nodes that it may pass
  abbrev StepNodes : Command K V → Type 0
  StepNodes command =
      (keeps_nodes command ≡ true → KeepsNodes old new)
      × Passes old (passed_at command (length new.entries)) new

  kept : {keeps : Bool} → KeepsNodes old new
      → (keeps ≡ true → KeepsNodes old new) × Passes old (Length (length new.entries)) new
  kept k = (λ _. k, passes-kept old new k)

  pub step-nodes : (command : Command K V) (replies : List (Reply K V B))
      → Step eq Says Keeps old command replies new → StepNodes command
  step-nodes (command.Insert k v) replies s = kept (kept-inserts old new eq k v (length old.entries) s.0 s.1)
  step-nodes (command.InsertFront k v) replies s = kept (kept-inserts old new eq k v 0 s.0 s.1)
  step-nodes (command.Replace k v) replies s = kept (kept-replaces old new eq k v s.0 s.1)
  step-nodes (command.Remove k) replies s = kept (kept-removes_key old new eq k _ s.0)
  step-nodes (command.RemoveEntry k) replies s = kept (kept-removes_key old new eq k _ s.0)
  step-nodes command.PopFront replies s = kept (kept-pops_front old new _ s.0)
  step-nodes command.PopBack replies s = kept (kept-pops_back old new _ s.0)
  step-nodes (command.ToFront k) replies s = kept (kept-moves old new eq k 0 _ s.0)
  step-nodes (command.ToBack k) replies s = kept (kept-moves old new eq k (length old.entries) _ s.0)
  step-nodes command.Keep replies s = kept (kept-keeps old new _ s.0.keeps)
  step-nodes (command.Entry k step) replies s = kept (entry-leaves Says old new replies k eq step s).kept
  step-nodes (command.Cursor steps) replies s = kept (cursor-keeps eq Says old new steps.items replies s)
  step-nodes command.Clear replies s =
      let none = ap length s.0.entries in
      (λ keeps. cc, subst (λ n. Passes old (Length n) new) (sym none) (passes-clears old new s.0))
  step-nodes command.Shrink replies s = (λ keeps. cc, passes-shrinks old new s.0 s.1)
  step-nodes any replies s = kept (kept_unchanged old new s.0)

-- ---- as long as a node is free, no pair is refused

module _ {K V B S : Type 0} (eq : K → K → Bool) (Says : K → V → B → Type 0)
    (Keeps : K → V → Bool → Type 0) (old new : MapState K V S) where
  replaces-taken : (k : K) (v : V) (answer : Result (Option V) (K × V)) → 1 ≤ old.spare
      → Replaces eq old new k v answer → is_refused {K = K} {V = V} {B = B} (insert_reply answer ∷ []) ≡ false
  replaces-taken k v (Ok w) spare s = refl
  replaces-taken k v (Err pair) spare s = let none = s.may_refuse.no_spare in absurd (omega arith)

  shrink-taken : (answer : Result (Unit {0}) AllocError)
      → is_refused {K = K} {V = V} {B = B} (shrink_reply answer ∷ []) ≡ false
  shrink-taken (Ok done) = refl
  shrink-taken (Err refused) = refl

  pub map_step-taken : (command : Command K V) (replies : List (Reply K V B))
      → 1 ≤ old.spare → Step eq Says Keeps old command replies new → is_refused replies ≡ false
  map_step-taken (command.Insert k v) replies spare s =
      ap is_refused s.2 ∙ inserts-taken eq Says old new spare k v _ s.0 [] s.1
  map_step-taken (command.InsertFront k v) replies spare s =
      ap is_refused s.2 ∙ inserts-taken eq Says old new spare k v 0 s.0 [] s.1
  map_step-taken (command.Replace k v) replies spare s = ap is_refused s.2 ∙ replaces-taken k v s.0 spare s.1
  map_step-taken (command.Get k) replies spare s = ap is_refused s.1.2
  map_step-taken (command.ToFront k) replies spare s = ap is_refused s.1.2
  map_step-taken (command.ToBack k) replies spare s = ap is_refused s.1.2
  map_step-taken command.Front replies spare s = ap is_refused s.1.2
  map_step-taken command.Back replies spare s = ap is_refused s.1.2
  map_step-taken command.Shrink replies spare s = ap is_refused s.2 ∙ shrink-taken s.0
  map_step-taken (command.Entry k step) replies spare s =
      (entry-leaves Says old new replies k eq step s).taken spare
  map_step-taken (command.Cursor steps) replies spare s =
      walk-taken eq Says (first_place old) s.0 steps.items replies spare s.1
  map_step-taken any replies spare s = ap is_refused s.1
