use Rattle.hashlink_map.proofs.Names.{Some, refl, sym, ap, ◌∙◌, slice_get, place_number, set_value_at}
use Rattle.hashlink_map.proofs.Names.{entries_of, option_map, state_of, values-renewed_value}
use Rattle.hashlink_map.proofs.map.LinkedHashMap.back_value_mut.Goals as goal

pub returns-in-Some : goal.returns-in-Some
returns-in-Some g c =
    let m = c.args.self.now in
    let last = rw c.self.view_is at c.in-Some.ensures.place.number in (
      (
        refl,
        λ w. ap (λ es. record (state_of m) { entries = es })
            (values-renewed_value m.nodes (place_number m.nodes (Some c.in-Some.node)) w
            ∙ ap (λ i. set_value_at (entries_of m) i w) last),
        refl,
      ),
      record {
        lends = tt;
        value = sym c.value_at_mut.ensures.value
            ∙ ap (λ i. option_map (λ e. e.1) (slice_get (entries_of m) i)) last;
      },
    )
