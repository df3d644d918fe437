-- What std's `copied` gave and read, in terms of the references that it copied.
use Rattle.hashlink_set.proofs.Names.{◌≡◌, List, map, Option, None, Some, sym, Bor, deref, option_copied}
use Rattle.std.{proofs.lemmas.Option.{none-some, same_Some}, specs.declared.iter.Copied.Copied}
use Rattle.std.specs.Iterator.Adapters.{copied_source, copied_steps}
use Rattle.hashlink_map.specs.Reading.{GivesAll, GivesSome, ReadsAll, ReadsSome}
use Rattle.hashlink_map.proofs.Copying.{copies_all, copies_some}

module _ {It T : Type 0} (nexts : It → Option (Bor T) → It → Type 0) where
  none_of : (s t : It) (o : Option (Bor T)) → nexts s o t → None ≡ option_copied o → nexts s None t
  none_of s t None n e = n
  none_of s t (Some b) n e = absurd (none-some b.now e)

  some_of : (s t : It) (o : Option (Bor T)) (x : T) → nexts s o t → Some x ≡ option_copied o
      → (b : Bor T) × nexts s (Some b) t × (deref b ≡ x)
  some_of s t None x n e = absurd (none-some x (sym e))
  some_of s t (Some b) x n e = (b, n, sym (same_Some x b.now e))

  module _ {Given : Type 0} (becomes : Given → It → Type 0) (given : Given) (P : List T → Type 0)
      (s t : Copied It) where
    pub copied_all : becomes given (copied_source s) → GivesAll (copied_steps nexts) s t P
        → ReadsAll becomes nexts given (λ raw. P (map deref raw))
    copied_all =
        copies_all nexts deref becomes given P (copied_steps nexts) copied_source
        (λ a b y. none_of (copied_source a) (copied_source b) y.0 y.1 y.2)
        (λ a b x y. some_of (copied_source a) (copied_source b) y.0 x y.1 y.2) s t

    pub copied_some : becomes given (copied_source s) → GivesSome (copied_steps nexts) s t P
        → ReadsSome becomes nexts given (λ raw. P (map deref raw))
    copied_some =
        copies_some nexts deref becomes given P (copied_steps nexts) copied_source
        (λ a b y. none_of (copied_source a) (copied_source b) y.0 y.1 y.2)
        (λ a b x y. some_of (copied_source a) (copied_source b) y.0 x y.1 y.2) s t
