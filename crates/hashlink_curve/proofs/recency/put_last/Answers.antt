use Rattle.hashlink_curve.proofs.Names.{◌≡◌, true, sym, ap, ap₂, ◌∙◌, rules, None, entries_of}
use Rattle.hashlink_core.proofs.Steps.{lookup-unplaced}
use Rattle.std.specs.List.{fold}
use Rattle.hashlink_model.specs.Entries.{place_of}
use Rattle.hashlink_curve.proofs.Placing.{none_among, test_is, puts_found, puts_made}
use Rattle.hashlink_curve.proofs.recency.put_last.Goals.{In-Vacant, In_ok-key-in-Vacant}
use Rattle.hashlink_curve.proofs.recency.put_last.Given as given
use Rattle.hashlink_curve.proofs.recency.put_last.Goals as goal

pub returns-in-Occupied-clause-put : goal.returns-in-Occupied-clause-put
returns-in-Occupied-clause-put g c =
    let o = c.in-Occupied.ensures in
    puts_found g.K.PartialEq.eq (g.Q.Equivalent.matches c.args.query)
    (g.met.Q.Equivalent.finds_equal c.args.query) (ap entries_of (sym o.unchanged)) (search rules)
    c.replace_value-place.ensures.stands (sym (ap (λ r. r.place) o.found))
    c.replace_value-place.ensures.replaces c.to_back.ensures.moves

-- no key passes
none : (g : given.Over) (c : In-Vacant g)
    → place_of (g.Q.Equivalent.matches c.args.query) (entries_of c.args.places.now) ≡ None
none g c = sym (ap (λ r. r.place) c.in-Vacant.ensures.found)

-- the key that was made passes
passes : (g : given.Over) (c : In_ok-key-in-Vacant g)
    → g.Q.Equivalent.matches c.args.query c.in_ok-key-in-Vacant.key ≡ true
passes g c =
    let none = sym (ap (λ r. r.place) c.in-Vacant.ensures.found) in
    let among = none_among (g.Q.Equivalent.matches c.args.query) (entries_of c.args.places.now) none in
    (c.requires among).1 c.in_ok-key-in-Vacant.key c.in_ok-key-in-Vacant.ensures

pub make-requires : goal.make-requires
make-requires g c =
    let none = none g (goal.at.make-requires g c).In-Vacant in
    (c.requires (none_among (g.Q.Equivalent.matches c.args.query) (entries_of c.args.places.now) none)).0

pub returns-in_err-key-in-Vacant-clause-absent : goal.returns-in_err-key-in-Vacant-clause-absent
returns-in_err-key-in-Vacant-clause-absent g c =
    let none = none g (goal.at.returns-in_err-key-in-Vacant-clause-absent g c).In-Vacant in
    let absent = lookup-unplaced (g.Q.Equivalent.matches c.args.query) (entries_of c.args.places.now) none in
    search rules

pub returns-in_default-clause-absent : goal.returns-in_default-clause-absent
returns-in_default-clause-absent g c =
    lookup-unplaced (g.Q.Equivalent.matches c.args.query) (entries_of c.args.places.now)
    (none g (goal.at.returns-in_default-clause-absent g c).In-Vacant)

pub insert_entry_hashed_nocheck-requires-clause-absent :
    goal.insert_entry_hashed_nocheck-requires-clause-absent
insert_entry_hashed_nocheck-requires-clause-absent g c =
    let at = goal.at.insert_entry_hashed_nocheck-requires-clause-absent g c in
    let tells = g.met.Q.Equivalent.finds_equal c.args.query in
    let is = test_is g.K.PartialEq.eq _ tells c.in_ok-key-in-Vacant.key (passes g at.In_ok-key-in-Vacant) in
    ap₂ place_of (sym is) (ap entries_of c.in-Vacant.ensures.unchanged) ∙ none g at.In-Vacant

pub insert_entry_hashed_nocheck-requires-clause-hash :
    goal.insert_entry_hashed_nocheck-requires-clause-hash
insert_entry_hashed_nocheck-requires-clause-hash g c =
    let at = goal.at.insert_entry_hashed_nocheck-requires-clause-hash g c in
    let hasher = ap (λ m. m.hasher) c.in-Vacant.ensures.unchanged in
    let fed = g.met.Q.Equivalent.hashed_alike c.args.query c.in_ok-key-in-Vacant.key
    (passes g at.In_ok-key-in-Vacant) in
    let builder = g.S.BuildHasher.build_hasher in
    let h = g.S.Hasher.Hasher in
    c.hash_one-hash.ensures
    ∙ ap₂ (λ s input. h.finish (fold h.write (builder s) input)) (c.hasher.ensures ∙ sym hasher) fed

pub returns-in-Ok-clause-put : goal.returns-in-Ok-clause-put
returns-in-Ok-clause-put g c =
    puts_made g.K.PartialEq.eq (g.Q.Equivalent.matches c.args.query)
    (g.met.Q.Equivalent.finds_equal c.args.query) (ap entries_of (sym c.in-Vacant.ensures.unchanged))
    (search rules) (passes g (goal.at.returns-in-Ok-clause-put g c).In_ok-key-in-Vacant) c.in-Ok.ensures.adds
