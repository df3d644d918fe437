use Rattle.hashlink_model.proofs.{Splits.stands_from_place, Places.slice_get_here}
use Rattle.std.proofs.Common.{ap₂, slice_get, ◌∙◌, sym}
use Rattle.hashlink_model.proofs.entry.where_an_entry_stands.Goals as goal

pub returns-clause-occupied : goal.returns-clause-occupied
returns-clause-occupied g c eq e j i p =
    let s = stands_from_place (eq e.key) e.map.entries j (sym i ∙ p) in
    (s.1, ap₂ slice_get s.3.is (sym s.4) ∙ slice_get_here s.0 s.1 s.2, s.3.passes)
