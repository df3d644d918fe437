-- Entries are dropped from the front one by one.
use Rattle.std.specs.Prelude.{◌≡◌, ℕ, ◌+◌, List, [], ◌∷◌, Option, None, Some}
use Rattle.std.proofs.{Common.{refl, ap, sym, subst, ◌∙◌, drop, drop-drop}, lemmas.Option.none-some}
use Rattle.hashlink_model.specs.{MapState.MapState, Steps.{KeepsOnly, PopsFront}, Walk.first_of}
use Rattle.hashlink_model.proofs.NodeCounts.{removes_keeps, keeps_twice}
use Rattle.hashlink_map.proofs.Taking.{kept-none}

none_first : {X : Type 0} (xs : List X) → None ≡ first_of xs → xs ≡ drop 1 xs
none_first [] n = refl
none_first (x ∷ xs) n = absurd (none-some x n)

module _ {K V S : Type 0} where
  pub pops_keeps : (old new : MapState K V S) (r : Option (K × V)) → PopsFront old new r
      → KeepsOnly old new (drop 1 old.entries)
  pops_keeps old new None s =
      subst (λ m. KeepsOnly old m (drop 1 old.entries)) (sym s.step)
      (subst (KeepsOnly old old) (none_first old.entries s.answer) (kept-none old))
  pops_keeps old new (Some e) s = removes_keeps old new (drop 1 old.entries) s.step

  -- one more is dropped
  pub drops_more : (old between new : MapState K V S) (n : ℕ) (r : Option (K × V))
      → KeepsOnly old between (drop n old.entries) → PopsFront between new r
      → KeepsOnly old new (drop (n + 1) old.entries)
  drops_more old between new n r s pops =
      subst (KeepsOnly old new) (ap (drop 1) s.entries ∙ drop-drop 1 n old.entries)
      (keeps_twice old between new (drop n old.entries) (drop 1 between.entries) s
      (pops_keeps between new r pops))
