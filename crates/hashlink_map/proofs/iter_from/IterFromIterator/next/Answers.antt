use Rattle.hashlink_map.proofs.Names.{◌≡◌, ℕ, ◌<◌, List, ◌∷◌, length, Some, ap, arith, sym, ◌∙◌, slice_get}
use Rattle.hashlink_map.proofs.Names.{deref_pair, following_place, entries_of, place_number, following-within}
use Rattle.std.proofs.Common.{drop, length-drop}
use Rattle.hashlink_map.proofs.iter_from.IterFromIterator.next.Goals as goal
use Rattle.hashlink_core.proofs.Edits.{drop-at}

-- the entry at a place, and those from the place after it on
from-following : {X : Type 0} (xs : List X) (i j : ℕ) (x : X) → slice_get xs i ≡ Some x
    → j ≡ following_place (length xs) i → drop i xs ≡ x ∷ drop j xs
from-following xs i j x at is =
    let here = drop-at xs i x at in
    let within : i < length xs = omega (arith, ap length here, length-drop i xs) in
    here ∙ ap (λ k. x ∷ drop k xs) (sym (is ∙ following-within (length xs) i within))

pub returns-clause-steps : goal.returns-clause-steps
returns-clause-steps g c =
    let i = c.self.inside in let ns = i.map.now.nodes in
    sym c.self.view_is ∙ ap (λ p. drop (place_number ns p) (entries_of i.map.now)) c.in_ok-node.was
    ∙ from-following (entries_of i.map.now) _ _ (deref_pair c.entry.result)
    (rw c.map.view_is at c.entry.ensures) (rw c.map.view_is at c.next-self-inside.ensures.number)

pub returns-clause-goes : goal.returns-clause-goes
returns-clause-goes g c =
    let steps = returns-clause-steps g c in
    record { on = λ _. (tt, tt, omega (arith, ap length steps)); keeps = tt; rests = λ _. tt }
