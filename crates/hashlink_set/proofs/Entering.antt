-- The elements after an insert and a replace, by their results.
use Rattle.std.proofs.Common.{◌≡◌, Bool, not, length, Option, Result, Ok, Err, refl, sym, ◌∙◌}
use Rattle.std.specs.{Prelude.{IfOk, IsOk, IsTrue, OnOk}, List.find, Set.is_member}
use Rattle.hashlink_model.specs.Sets.{SetState, elements_of, put_element, replaced, SetInserts, SetReplaces}
use Rattle.hashlink_model.proofs.SetElements.{inserts_refused, set_inserts, set_replaces}

module _ {T S : Type 0} (eq : T → T → Bool) (old new : SetState T S) (t : T) where
  pub inserts_by_answer : (r : Result Bool T) → SetInserts eq old new t r
      → OnOk r (elements_of new ≡ put_element eq (elements_of old) t (length (elements_of old)))
      × IfOk r (λ b. b ≡ not (is_member eq (elements_of old) t))
      × (IsTrue (is_member eq (elements_of old) t) → IsOk r)
  inserts_by_answer (Ok b) s = let e = set_inserts eq old new t b s in (e.0, e.1, λ _. refl)
  inserts_by_answer (Err x) s =
      let absent = (inserts_refused eq old new t (length old.entries) (x, tt) s).1 in
      (tt, tt, λ there. absurd (let both = sym there ∙ absent in cc))

  pub replaces_by_answer : (r : Result (Option T) T) → SetReplaces eq old new t r
      → OnOk r (elements_of new ≡ replaced eq (elements_of old) t)
      × IfOk r (λ o. o ≡ find (eq t) (elements_of old))
  replaces_by_answer (Ok o) s = set_replaces eq old new t o s
  replaces_by_answer (Err x) s = (tt, tt)
