use Rattle.std.proofs.Common.{arith, inl, inr, refl}
use Rattle.hashlink_lru.specs.Cached.{state_of}
use Rattle.hashlink_run.{specs.Reads.ClosureSays, proofs.CacheUsed.used}
use Rattle.hashlink_run.proofs.cache_steps.answer_use.Goals as goal

pub returns-then-len-before : goal.returns-then-len-before
returns-then-len-before g c =
    let step = rw c.map_mut.ensures.unchanged at c.reply_of_entry-reply.ensures in
    let sets = rw c.capacity.ensures at c.set_capacity.ensures.sets in
    let before = c.len-before.ensures.len in
    let after = c.len.ensures.len in
    let more = c.if-len-before.true in
    used g.K.PartialEq.eq (ClosureSays g.F.Fn c.args.says.now) (state_of c.args.cache.now) c.args.key
    c.args.value _ (state_of c.set_capacity.new.self) sets.cap _ step (inl (omega arith, sets.map))

pub returns-else-len-before : goal.returns-else-len-before
returns-else-len-before g c =
    let step = rw c.map_mut.ensures.unchanged at c.reply_of_entry-reply.ensures in
    let before = c.len-before.ensures.len in
    let after = c.len.ensures.len in
    let few = c.if-len-before.false in
    used g.K.PartialEq.eq (ClosureSays g.F.Fn c.args.says.now) (state_of c.args.cache.now) c.args.key
    c.args.value _ _ refl _ step (inr (omega arith, refl))
