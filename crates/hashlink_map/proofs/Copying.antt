-- From what an iterator of copies gave and read to the items that it copied.
use Rattle.hashlink_map.proofs.Names.{◌≡◌, List, [], ◌∷◌, map, Option, None, Some, refl, ap, ap₂, sym, subst}
use Rattle.hashlink_map.proofs.Names.{Called, Mut, Yields, Map, GivesAll, GivesSome, ReadsAll, ReadsSome}
use Rattle.std.specs.Iterator.Adapters.{map_source, map_callee, map_steps}

module _ {It Raw Item Given : Type 0} (nexts : It → Option Raw → It → Type 0) (f : Raw → Item)
    (becomes : Given → It → Type 0)
    (given : Given) (P : List Item → Type 0) where
  -- a step of the copies is a step of their source, and gives f of the item
  module _ {Copies : Type 0} (steps : Copies → Option Item → Copies → Type 0) (source : Copies → It)
      (none : (s t : Copies) → steps s None t → nexts (source s) None (source t))
      (some : (s t : Copies) (x : Item) → steps s (Some x) t
      → (raw : Raw) × nexts (source s) (Some raw) (source t) × (f raw ≡ x)) where
    copied_yields : (s t : Copies) (items : List Item) → Yields steps s items t
        → (raw : List Raw) × (map f raw ≡ items) × Yields nexts (source s) raw (source t)
    copied_yields s t [] y = ([], refl, ap source y)
    copied_yields s t (x ∷ items) y =
        let first = some s y.0 x y.1 in
        let rest = copied_yields y.0 t items y.2 in (
          first.0 ∷ rest.0,
          ap₂ (λ z zs. z ∷ zs) first.2 rest.1,
          (source y.0, first.1, rest.2),
        )

    pub copies_all : (s t : Copies) → becomes given (source s) → GivesAll steps s t P
        → ReadsAll becomes nexts given (λ raw. P (map f raw))
    copies_all s t is gave =
        let end = gave.1 in
        let read = copied_yields s end.0 gave.0 end.1 in (
          source s,
          read.0,
          source t,
          is,
          (source end.0, read.2, none end.0 t end.2),
          subst P (sym read.1) gave.2,
        )

    pub copies_some : (s t : Copies) → becomes given (source s) → GivesSome steps s t P
        → ReadsSome becomes nexts given (λ raw. P (map f raw))
    copies_some s t is gave =
        let read = copied_yields s t gave.0 gave.1 in (
          source s,
          read.0,
          source t,
          is,
          read.2,
          subst P (sym read.1) gave.2,
        )

  -- copies that a closure makes
  module _ {F : Type 0} (g : Mut F (Raw × Unit {0}) Item)
      (called : (p q : F) (x : Raw) (y : Item) → Called g p (x, tt) y q → f x ≡ y) (it : It) (s t : Map It F)
      (source : map_source s ≡ it) (is : becomes given it) where
    pub mapped_all : GivesAll (map_steps nexts g) s t P
        → ReadsAll becomes nexts given (λ raw. P (map f raw))
    mapped_all =
        copies_all (map_steps nexts g) map_source (λ a b y. y.0)
        (λ a b x y. (y.0, y.1, called (map_callee a) (map_callee b) y.0 x y.2)) s t
        (subst (becomes given) (sym source) is)

    pub mapped_some : GivesSome (map_steps nexts g) s t P
        → ReadsSome becomes nexts given (λ raw. P (map f raw))
    mapped_some =
        copies_some (map_steps nexts g) map_source (λ a b y. y.0)
        (λ a b x y. (y.0, y.1, called (map_callee a) (map_callee b) y.0 x y.2)) s t
        (subst (becomes given) (sym source) is)
