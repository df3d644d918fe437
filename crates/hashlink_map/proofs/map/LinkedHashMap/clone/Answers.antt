use Rattle.hashlink_map.proofs.Names.{[], ◌∷◌, ◌++◌, ap, refl, sym, ◌∙◌, append_assoc, append-nil, MadeFrom}
use Rattle.hashlink_map.proofs.Names.{InsertsPair, entries_of, state_of, ArePairClones, accepts_another}
use Rattle.hashlink_map.proofs.Clones.{cloned_another, clone_equal, clone_same}
use Rattle.hashlink_map.proofs.map.LinkedHashMap.clone.Given as given
use Rattle.hashlink_map.proofs.map.LinkedHashMap.clone.Goals as goal

pub loop-key-init : goal.loop-key-init
loop-key-init g c = record { seen = []; clones = []; is = refl; cloned = tt; inserted = refl }

pub loop-key-preserved : goal.loop-key-preserved
loop-key-preserved g c =
    let inv = c.loop-key.invariant in let new = c.in_ok-insert_clone.ensures in
    let old : g.row.K.Denot × g.row.V.Denot = (c.in-Some.key.now, c.in-Some.value.now) in
    record {
      seen = inv.seen ++ old ∷ [];
      clones = inv.clones ++ new.0 ∷ [];
      is = inv.is ∙ ap (λ xs. inv.seen ++ xs) c.in-Some.ensures.steps
          ∙ sym (append_assoc inv.seen (old ∷ []) c.next.new.self);
      cloned = cloned_another g.K.Clone.is_clone g.V.Clone.is_clone inv.seen inv.clones
          old new.0 inv.cloned new.2 new.3;
      inserted = accepts_another (InsertsPair g.K.PartialEq.eq) (state_of c.with_hasher-map.result)
          (state_of c.loop-key.map) (state_of c.insert_clone.new.self) inv.clones new.0
          new.1 inv.inserted new.4;
    }

whole : (g : given.Over) (c : goal.In-None g)
    → ArePairClones g.K.Clone.is_clone g.V.Clone.is_clone (entries_of c.args.self.now)
    c.loop-key.invariant.clones
whole g c =
    let inv = c.loop-key.invariant in
    rw (sym c.iter-key-items.ensures.rest ∙ (sym c.into_iter-key-iterator.ensures.into_iter_gives
    ∙ (inv.is ∙ (ap (λ xs. inv.seen ++ xs) c.in-None.ensures.steps.0 ∙ append-nil inv.seen)))) inv.cloned

made : (g : given.Over) (c : goal.In-None g)
    → MadeFrom (InsertsPair g.K.PartialEq.eq) c.loop-key.invariant.clones c.in_ok-hash_builder.hash_builder
    (state_of c.loop-key.map)
made g c = rw (← c.with_hasher-map.ensures) c.loop-key.invariant.inserted

pub returns-clause-made : goal.returns-clause-made
returns-clause-made g c = (
  c.in_ok-hash_builder.hash_builder,
  rw (c.hasher.ensures ∙ ap (λ l. l.hasher) c.self.view_is) at c.in_ok-hash_builder.ensures.cases,
  c.loop-key.invariant.clones,
  whole g c,
  made g c,
)

pub returns-clause-equal : goal.returns-clause-equal
returns-clause-equal g c eqv f h =
    clone_equal g.K.Clone.is_clone g.V.Clone.is_clone g.K.PartialEq.eq g.met.K.Eq.laws
    (entries_of c.args.self.now)
    c.loop-key.invariant.clones c.in_ok-hash_builder.hash_builder (state_of c.loop-key.map)
    c.iter-key-items.ensures.distinct (whole g c) (made g c) eqv f h

pub returns-clause-same : goal.returns-clause-same
returns-clause-same g c f h =
    clone_same g.K.Clone.is_clone g.V.Clone.is_clone g.K.PartialEq.eq g.met.K.Eq.laws
    (entries_of c.args.self.now)
    c.loop-key.invariant.clones c.in_ok-hash_builder.hash_builder (state_of c.loop-key.map)
    c.iter-key-items.ensures.distinct (whole g c) (made g c) f h
