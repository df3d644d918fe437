use Rattle.std.proofs.Common.{◌≢◌, ℕ, Bool, All, [], ◌∷◌, inl, inr, length, subst, sym}
use Rattle.std.proofs.lemmas.List.Elements.{All-contains}
use Rattle.hashlink.specs.{MapState.MapState, Run.ShownBy, declared.run.Command.TheVariants.{Insert, Keep}}
use Rattle.hashlink.proofs.CallerLemmas.{All-inserts, shown_now_or_later}
use Rattle.hashlink_uses.proofs.commands.insert_then_keep_divisors.Goals as goal

-- the closure is shown no value that is zero
module _ {K B S : Type 0} {eq : K → K → Bool} {Says : K → ℕ → B → Type 0} {Keeps : K → ℕ → Bool → Type 0}
    {pair : K × ℕ} where
  shown_by_keep : {new : MapState K ℕ S} → All (λ e. e.1 ≢ 0) new.entries
      → ShownBy eq Says Keeps new (Keep ∷ []) pair → pair.1 ≢ 0
  shown_by_keep {new = new} held shown = elim (shown_now_or_later shown) [
    | inl now ↦ elim now [
      | inl none ↦ absurd none
      | inr there ↦ All-contains (λ e. e.1 ≢ 0) new.entries pair held there
    ]
    | inr later ↦ absurd later.2.comes
  ]

  shown_by_both : {old : MapState K ℕ S} {k : K} {v : ℕ} → v ≢ 0 → All (λ e. e.1 ≢ 0) old.entries
      → ShownBy eq Says Keeps old (Insert k v ∷ Keep ∷ []) pair → pair.1 ≢ 0
  shown_by_both {old = old} {k = k} {v = v} given held shown = elim (shown_now_or_later shown) [
    | inl now ↦ elim now [ inl none ↦ absurd none | inr none ↦ absurd none ]
    | inr later ↦
        let inserts = All-inserts (λ e. e.1 ≢ 0) eq old later.0.state k v (length old.entries) later.1.0 in
        shown_by_keep (inserts later.1.1 given held) later.2
  ]

pub run-requires : goal.run-requires
run-requires g c = λ pair shown key value first second.
    let commands = c.in_ok-commands.ensures in
    let not_zero = shown_by_both c.requires.given c.requires.held (rw commands at shown) in
    subst (λ n. n ≢ 0) (sym second) not_zero
