use Rattle.hashlink_map.proofs.Names.{refl, sym, ap, ◌∙◌, option_map, value_at, entries_of, place_number}
use Rattle.hashlink_map.proofs.{Names.{cursor_node, still_placed, at-guard}, Written.cursor_written}
use Rattle.hashlink_map.proofs.cursor.methods.CursorMut+K+V+S.current_value.Goals as goal

pub invariant_of-self-lent : goal.invariant_of-self-lent
invariant_of-self-lent g c w =
    let s = c.args.self.now in (still_placed w s.map.now.nodes _ _ s.within, tt)

pub returns-in-Some : goal.returns-in-Some
returns-in-Some g c =
    let s = c.args.self.now in let m = s.map.now in
    let same = sym (ap (λ p. place_number m.nodes (option_map (λ n. n) p)) c.in-Some.is) in (
      (refl, λ w. (refl, cursor_written m c.in-Some.node (cursor_node s) _ w same), (refl, refl, refl)),
      record { lends = tt; value = sym c.value_at_mut.ensures.value ∙ ap (value_at (entries_of m)) same },
    )

pub returns-in-None : goal.returns-in-None
returns-in-None g c =
    let s = c.args.self.now in let m = s.map.now in
    let guard = ap (λ p. place_number m.nodes (option_map (λ n. n) p)) c.in-None.is in (
      (refl, λ w. tt, (refl, refl, refl)),
      record {
        lends = tt;
        value = sym (ap (value_at (entries_of m)) guard ∙ ap (option_map (λ e. e.1)) (at-guard m));
      },
    )
