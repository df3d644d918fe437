use Rattle.hashlink_map.proofs.Names.{refl, ap, ◌∙◌, arith, ap₂, length-map, Node, Some, place_number}
use Rattle.hashlink_map.proofs.Names.{state_of, writing_walk}
use Rattle.hashlink_core.proofs.Walk.{node-number}
use Rattle.hashlink_map.proofs.places_left.PlacesLeft.all.Goals as goal

pub returns : goal.returns
returns g c =
    let m = c.map.inside.list in
    let at = λ (n : Node). place_number m.nodes (Some n) in
    let count = c.len.ensures.len in
    let long = length-map m.nodes (λ e. e.1) in
    let first = ap at c.unwrap_or.ensures
    ∙ node-number m.nodes c.front.result c.nowhere.result 0 c.front.ensures.place.number (λ e. refl) in
    let last = ap at c.unwrap_or-2.ensures
    ∙ node-number m.nodes c.back.result c.nowhere-2.result _ c.back.ensures.place.number
    (λ e. omega (arith, e)) in
    rw (← c.map.view_is) (record {
      stands = record {
        few = omega (arith, first, count, long);
        ends = λ some. omega (arith, some, first, last, count, long);
      };
      rest = ap₂ (writing_walk (state_of m)) first count;
    })
