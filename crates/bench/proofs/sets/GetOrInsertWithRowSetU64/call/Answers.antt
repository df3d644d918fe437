-- The element that is made is the key, which is absent.
use Rattle.std.proofs.Common.{◌≡◌, nat_eq, ℕ, Bool, true, false, List, [], ◌∷◌, Option, Some, None, cond}
use Rattle.std.{proofs.Common.{is_some, refl, sym, ap, ◌∙◌, ◌||◌}, specs.List.find, specs.Map.keys_of}
use Rattle.std.specs.Set.{is_member}
use Rattle.bench.proofs.sets.GetOrInsertWithRowSetU64.call.Goals as goal

found : (b : Bool) (y : ℕ) (o : Option ℕ) (m : Bool) → is_some o ≡ m → is_some (cond b (Some y) o) ≡ (b || m)
found true y o m same = refl
found false y o m same = same

is_some-find : (x : ℕ) (ys : List ℕ) → is_some (find (nat_eq x) ys) ≡ is_member nat_eq ys x
is_some-find x [] = refl
is_some-find x (y ∷ ys) =
    found (nat_eq x y) y (find (nat_eq x) ys) (is_member nat_eq ys x) (is_some-find x ys)

absent_too : (x made : ℕ) (ys : List ℕ) → made ≡ x → find (nat_eq x) ys ≡ None
    → is_member nat_eq ys made ≡ false
absent_too x made ys same absent =
    sym (is_some-find made ys) ∙ ap (λ y. is_some (find (nat_eq y) ys)) same ∙ ap is_some absent

pub get_or_insert_with-lent-requires : goal.get_or_insert_with-lent-requires
get_or_insert_with-lent-requires c absent =
    ((λ p is. tt), λ x made. absent_too c.args.key.now x (keys_of c.args.set.now.entries) made.1 absent)
