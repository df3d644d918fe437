use Rattle.hashlink_set.proofs.Names.{rules, state_of, RetainsInOrder}
use Rattle.std.specs.Fn.{CalledAt}
use Rattle.hashlink_model.specs.Sets.{at_element}
use Rattle.hashlink_set.proofs.Retaining.{callable_seen, retains_seen, updates_seen, name_kept, back}
use Rattle.hashlink_set.proofs.set.LinkedHashSet.retain_from.Goals as goal

pub retain_from-requires : goal.retain_from-requires
retain_from-requires g c = record {
  callable = callable_seen (λ f. f.0.now) _ (at_element (CalledAt g.F.FnMut)) (λ f t b d call. record {
    shown = call.key;
    shows = call.shows.0;
    called = search (rules, call.called);
  }) _ _ (λ f t takes p q h i. takes p h) _ _ (rw (← c.self.view_is) at c.requires.callable);
}

pub returns-clause-retained : goal.returns-clause-retained
returns-clause-retained g c =
    let Called = at_element (CalledAt g.F.FnMut) in
    let r = c.retain_from.ensures.retained in
    let seen = retains_seen (λ f. f.0.now) _ Called (λ f t b d call. record {
      shown = call.key;
      shows = call.shows.0;
      called = search (rules, call.called);
    }) _ _ _ _ r in
    let name =
    name_kept (λ f. f.0.ghost_name) _ (λ f t b d call. search (rules, call.called)) _ _ _ _ r.calls in
    rw (← c.self.view_is)
    (back (RetainsInOrder Called c.args.keep.now (state_of c.self.inside.map)
    (state_of c.retain_from.new.self)) c.keep-1.given.1 name seen)

pub returns-clause-updates : goal.returns-clause-updates
returns-clause-updates g c =
    rw (← c.self.view_is)
    (updates_seen (λ f. f.0.now) _ (CalledAt g.F.FnMut) (λ f t b d call. record {
      shown = call.key;
      shows = call.shows.0;
      called = search (rules, call.called);
    }) _ _ _ c.retain_from.ensures.updates)
