-- An element that is made for an absent one is equal to it, and so absent.
use Rattle.std.proofs.Common.{◌≡◌, nat_eq, Bool, true, false, List, [], ◌∷◌, Option, Some, None, cond, ◌||◌}
use Rattle.std.{proofs.Common.{ℕ, is_some, refl, sym, ap, ◌∙◌}, specs.List.find, specs.Map.keys_of}
use Rattle.std.specs.Set.{is_member}
use Rattle.test_rows.specs.declared.items.items.Item.{Item}
use Rattle.test_rows.proofs.calls.set_many.get_or_make.Goals as goal

found : {T : Type 0} (b : Bool) (y : T) (o : Option T) (m : Bool) → is_some o ≡ m
    → is_some (cond b (Some y) o) ≡ (b || m)
found true y o m same = refl
found false y o m same = same

is_some-find : {T : Type 0} (eq : T → T → Bool) (x : T) (ys : List T)
    → is_some (find (eq x) ys) ≡ is_member eq ys x
is_some-find eq x [] = refl
is_some-find eq x (y ∷ ys) = found (eq x y) y (find (eq x) ys) (is_member eq ys x) (is_some-find eq x ys)

same_group : Item → Item → Bool
same_group x y = nat_eq x.group y.group

of_group : ℕ → Item → Bool
of_group g y = nat_eq g y.group

absent_too : (x made : Item) (ys : List Item)
    → made.group ≡ x.group → find (same_group x) ys ≡ None → is_member same_group ys made ≡ false
unfolding same_group of_group
absent_too x made ys same absent =
    sym (is_some-find same_group made ys)
    ∙ ap (λ g. is_some (find (of_group g) ys)) same ∙ ap is_some absent

pub get_or_insert_with-requires : goal.get_or_insert_with-requires
unfolding same_group
get_or_insert_with-requires c absent = (
  (λ p is. tt),
  λ x made. absent_too c.args.element.now x (keys_of c.args.set.now.entries)
      (ap (λ i. i.group) made.1 ∙ c.requires) absent,
)
