-- Std's `extend` and `from_iter`, from what the calls state about their items.
use Rattle.hashlink_map.proofs.Names.{◌≡◌, ℕ, List, [], ◌∷◌, ◌++◌, map, length, get_or, Option, refl, ap, ap₂}
use Rattle.hashlink_map.proofs.Names.{sym, subst, ◌∙◌, arith, true≢false, Yields, Drains, IfErr, OnOk}
use Rattle.hashlink_map.proofs.Names.{OnErr, MatchResult, AcceptsAll, StopsAt, StopsAtLast, MapState}
use Rattle.hashlink_map.proofs.Names.{Grows, TakesItems, ReadsAll, ReadsSome}
use Rattle.std.{proofs.Common.{drop, Result, Ok, Err}, specs.Prelude.is_ok}
use mathlib.Core.List.{map-id}

module _ {It Raw : Type 0} (nexts : It → Option Raw → It → Type 0) where
  module _ {Item : Type 0} (fs : List Raw → List Item) where
    -- the items up to the last were read too, and those before it are made from the items before that one
    abbrev pub CutsLast : Type 0
    CutsLast =
        (s t : It) (raw : List Raw) (before : List Item) (item : Item) → fs raw ≡ before ++ item ∷ []
        → Yields nexts s raw t
        → (xs : List Raw) × (fs xs ≡ before) × (u : It) × Yields nexts s xs u

    module _ {State Given A : Type 0} (becomes : Given → It → Type 0)
        (step : State → State → Item → Result A Item → Type 0) (refuses : State → State → Type 0)
        (given : Given)
        (old new : State) where
      -- the clauses of std's `extend`, which passes on the result of the call without the item of its error
      pub extended : {B E F : Type 0} (r : Result B E) (q : Result B F) → is_ok q ≡ is_ok r
          → (count : E → ℕ) (back : E → Item) → refuses new new → CutsLast
          → ((a b : State) (x y : Item) → step a b x (Err y) → refuses a b)
          → OnOk r (ReadsAll becomes nexts given (λ raw. AcceptsAll step old (fs raw) new))
          → IfErr r (λ e. ReadsSome becomes nexts given
          (λ raw. StopsAt step old (fs raw) new (count e) (back e) []))
          → record {
            ran : (it : It) × (raw : List Raw) × becomes given it × TakesItems step refuses old (fs raw) new
                × MatchResult q (λ _. Drains nexts it raw) (λ _. (t : It) × Yields nexts it raw t);
            all : OnOk q (ReadsAll becomes nexts given (λ raw. AcceptsAll step old (fs raw) new));
            stopped : OnErr q (ReadsSome becomes nexts given (λ raw. StopsAtLast step old (fs raw) new));
          }
      extended (Ok x) (Ok y) is count back none cuts stays read stopped = record {
        ran = (read.0, read.1, read.3, (new, read.5, none), (read.2, read.4));
        all = read;
        stopped = tt;
      }
      extended (Err e) (Err d) is count back none cuts stays all read =
          let stop = read.5 in
          let came = cuts read.0 read.2 read.1 stop.before stop.item stop.is read.4 in record {
            ran = (
              read.0,
              came.0,
              read.3,
              subst (λ items. TakesItems step refuses old items new) (sym came.1)
                  (stop.between, stop.accepted, stays stop.between new stop.item (back e) stop.refused),
              (came.2, came.3),
            );
            all = tt;
            stopped = (read.0, read.1, read.2, read.3, read.4, (count e, back e, stop));
          }
      extended (Ok x) (Err d) is count back none cuts stays all stopped = absurd (true≢false (sym is))
      extended (Err e) (Ok y) is count back none cuts stays all stopped = absurd (true≢false is)

  -- for what is made from each
  pub cuts_copy : {Item : Type 0} (f : Raw → Item) → CutsLast (map f)
  cuts_copy f s t [] [] item e y = let long = ap length e in absurd (omega arith)
  cuts_copy f s t (x ∷ raw) [] item e y = ([], refl, s, refl)
  cuts_copy f s t [] (b ∷ before) item e y = let long = ap length e in absurd (omega arith)
  cuts_copy f s t (x ∷ raw) (b ∷ before) item e y =
      let rest = cuts_copy f y.0 t raw before item (ap (drop 1) e) y.2 in (
        x ∷ rest.0,
        ap₂ (λ z zs. z ∷ zs) (ap (λ zs. get_or zs 0 b) e) rest.1,
        rest.2,
        (y.0, y.1, rest.3),
      )

  -- for the items themselves
  pub cuts_item : CutsLast (λ raw. raw)
  cuts_item s t raw before item e y =
      let came = cuts_copy (λ x. x) s t raw before item (map-id raw ∙ e) y in
      (came.0, sym (map-id came.0) ∙ came.1, came.2, came.3)

-- a map that stays as it is has not shrunk
pub grows-none : {K V S : Type 0} (m : MapState K V S) → Grows 1 m m
grows-none m = record {
  entries = refl;
  spare = refl;
  room = record {
    grows = omega arith;
    same = λ _. refl;
    bound = omega arith;
    ample = λ more. absurd (omega (arith, more));
  };
  link_writes = refl;
  hasher = refl;
}
