use Rattle.hashlink.proofs.Ends.{evicted}
use Rattle.hashlink_uses.proofs.Common.{sym, on_ok_weaker, IfErr-weaker, state_of}
use Rattle.hashlink_uses.proofs.caches.count_word.Goals as goal

pub returns-clause-counts : goal.returns-clause-counts
returns-clause-counts g c =
    let made = evicted _ (sym c.map_mut.ensures.unchanged) c.make_room.ensures.evicts.map in
    on_ok_weaker c.count_word.result (λ s. (state_of c.map_mut.result.now, made, s))
    c.count_word.ensures.counts

pub returns-clause-refused : goal.returns-clause-refused
returns-clause-refused g c =
    let made = evicted _ (sym c.map_mut.ensures.unchanged) c.make_room.ensures.evicts.map in
    IfErr-weaker c.count_word.result _ _ (λ pair s. (state_of c.map_mut.result.now, made, s))
    c.count_word.ensures.refused
