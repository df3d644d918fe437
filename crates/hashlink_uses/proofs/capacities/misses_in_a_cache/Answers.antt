use Rattle.std.proofs.Common.{ap, count_by, is_none, ◌∙◌}
use Rattle.hashlink_uses.proofs.capacities.misses_in_a_cache.Goals as goal

pub returns-clause-counted : goal.returns-clause-counted
returns-clause-counted g c =
    c.misses_among.ensures ∙ ap (count_by is_none) c.deref.ensures.value ∙ c.in_ok-uses.ensures.misses

pub returns-clause-compared : goal.returns-clause-compared
returns-clause-compared g c = λ places one le held schedule.
    rw (c.misses_among.ensures, c.deref.ensures.value)
    (c.in_ok-uses.ensures.comparison places one le held schedule)
