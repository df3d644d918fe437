use Rattle.std.proofs.lemmas.Result.{err_from_is_err_and}
use Rattle.hashlink_set.proofs.Names.{◌≡◌, Bool, Some, Ok, refl, sym, ap, subst, rules, FnOnceReturnsAt}
use Rattle.hashlink_set.proofs.Names.{state_of, last_of, elements_of, SetState, GetsOrMakes}
use Rattle.hashlink_set.proofs.Stored.{moved_gets, made_gets, made_refused, none_found, no_place, moved_there}
use Rattle.hashlink_set.proofs.set.inserts.move_or_make.Goals as goal

abbrev Gets : {T S : Type 0} → (T → T → Bool) → (T → Type 0) → SetState T S → T → SetState T S → Type 0
Gets {T} eq Makes old t new =
    (x : T) × (last_of (elements_of new) ≡ Some x) × GetsOrMakes eq Makes old new t (Ok x)

ends : {X : Type 0} (P : X → Type 0) (a b : X) → b ≡ a → P a → P b
ends P a b is = subst P (sym is)

pub f-requires : goal.f-requires
f-requires g c =
    let none = none_found g.T.PartialEq.eq g.met.T.Eq.laws (state_of c.args.map.now) c.args.value.now
    (sym (ap (λ s. s.place) c.in-Vacant.ensures.found)) in
    let takes = (c.requires none).0 in
    search (rules, takes)

pub insert_entry-requires : goal.insert_entry-requires
insert_entry-requires g c =
    let eq = g.T.PartialEq.eq in let x = c.f.result in let old = state_of c.args.map.now in
    let none = none_found eq g.met.T.Eq.laws old c.args.value.now
    (sym (ap (λ s. s.place) c.in-Vacant.ensures.found)) in
    record {
      absent = rw c.in-Vacant.ensures.unchanged (no_place eq g.met.T.Eq.laws old x
          ((c.requires none).1 x (c.args.value, c.f.ensures, refl)));
    }

pub returns-in-Occupied-clause-moved : goal.returns-in-Occupied-clause-moved
returns-in-Occupied-clause-moved g c =
    let eq = g.T.PartialEq.eq in let t = c.args.value.now in let old = state_of c.args.map.now in
    let Makes = FnOnceReturnsAt g.F.FnOnce c.args.f t in let same = c.in-Occupied.ensures.unchanged in
    let place = rw same at (sym (ap (λ s. s.place) c.in-Occupied.ensures.found)) in
    ends (Gets eq Makes old t) (state_of c.to_back.new.self.map.now) _ (search rules)
    (moved_gets eq old _ t Makes
    (moved_there eq g.met.T.Eq.laws old t _ _ place (rw same at c.to_back.ensures.moves)))

pub returns-in_ok-map-in-Vacant-clause-moved : goal.returns-in_ok-map-in-Vacant-clause-moved
returns-in_ok-map-in-Vacant-clause-moved g c =
    let eq = g.T.PartialEq.eq in let t = c.args.value.now in let old = state_of c.args.map.now in
    let Makes = FnOnceReturnsAt g.F.FnOnce c.args.f t in let put = c.in_ok-map-in-Vacant in
    let none = none_found eq g.met.T.Eq.laws old t (sym (ap (λ s. s.place) c.in-Vacant.ensures.found)) in
    ends (Gets eq Makes old t) (state_of put.field-0.map.now) _ (search rules)
    (made_gets eq old _ t c.f.result Makes none (c.args.value, c.f.ensures, refl)
    (rw c.in-Vacant.ensures.unchanged at put.ensures.adds))

pub returns-in_err-map-in-Vacant-clause-refused : goal.returns-in_err-map-in-Vacant-clause-refused
returns-in_err-map-in-Vacant-clause-refused g c =
    let eq = g.T.PartialEq.eq in let t = c.args.value.now in let old = state_of c.args.map.now in
    let none = none_found eq g.met.T.Eq.laws old t (sym (ap (λ s. s.place) c.in-Vacant.ensures.found)) in
    let p = err_from_is_err_and c.from_residual.result c.from_residual.ensures.1 in
    rw (p.1, p.2) (made_refused eq old _ t c.f.result (FnOnceReturnsAt g.F.FnOnce c.args.f t) none
    (c.args.value, c.f.ensures, refl) _ (search rules))
