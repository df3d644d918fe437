use Rattle.hashlink_map.proofs.Retaining.{retaining-first, retained-all, takes-pair, pair-kept, pair-dropped}
use Rattle.hashlink_core.proofs.Names.{refl, renewed-holds}
use Rattle.hashlink_map.proofs.Retaining.{called-at}
use Rattle.std.specs.Map.Calls.{CalledAtPair}
use Rattle.hashlink_model.proofs.Updates.{updates-retained}
use Rattle.hashlink_map.proofs.map.LinkedHashMap.retain_from.Goals as goal

pub loop-place-init : goal.loop-place-init
loop-place-init g c =
    rw (← c.self.view_is) (retaining-first c.front-place.ensures.place c.front-place.ensures.sound
    (rw (← c.self.view_is) at c.requires.callable))

pub keep-requires : goal.keep-requires
keep-requires g c =
    takes-pair c.loop-place.invariant c.in-Some.is c.entry_mut-value.ensures.pair _ _ refl refl

pub remove-requires : goal.remove-requires
remove-requires g c =
    renewed-holds _ c.loop-place.list.nodes _ c.in-Some.node
    (rw c.in-Some.is at c.loop-place.invariant.within)

pub loop-place-smaller-then-not-keep : goal.loop-place-smaller-then-not-keep
loop-place-smaller-then-not-keep g c =
    (pair-dropped c.loop-place.invariant c.in-Some.is c.entry_mut-value.ensures.pair
    (called-at g.F.FnMut c.keep.ensures) c.next-place.ensures c.if-not-keep.true c.remove.ensures.removed
    c.remove.ensures.sound).1

pub loop-place-preserved-then-not-keep : goal.loop-place-preserved-then-not-keep
loop-place-preserved-then-not-keep g c =
    (pair-dropped c.loop-place.invariant c.in-Some.is c.entry_mut-value.ensures.pair
    (called-at g.F.FnMut c.keep.ensures) c.next-place.ensures c.if-not-keep.true c.remove.ensures.removed
    c.remove.ensures.sound).0

pub loop-place-smaller : goal.loop-place-smaller
loop-place-smaller g c =
    (pair-kept c.loop-place.invariant c.in-Some.is c.entry_mut-value.ensures.pair
    (called-at g.F.FnMut c.keep.ensures) c.next-place.ensures c.if-not-keep.false).1

pub loop-place-preserved : goal.loop-place-preserved
loop-place-preserved g c =
    (pair-kept c.loop-place.invariant c.in-Some.is c.entry_mut-value.ensures.pair
    (called-at g.F.FnMut c.keep.ensures) c.next-place.ensures c.if-not-keep.false).0

pub returns-clause-retained : goal.returns-clause-retained
returns-clause-retained g c = retained-all c.loop-place.invariant c.in_default.is

pub returns-clause-updates : goal.returns-clause-updates
returns-clause-updates g c =
    let r = returns-clause-retained g c in
    updates-retained (CalledAtPair g.F.FnMut) g.K.PartialEq.eq g.met.K.Eq.laws _ _ r.kept _ _
    (rw c.self.view_is at c.front-place.ensures.sound.distinct) r.calls r.keeps.entries

pub returns-clause-distinct : goal.returns-clause-distinct
returns-clause-distinct g c = c.loop-place.invariant.sound.distinct
