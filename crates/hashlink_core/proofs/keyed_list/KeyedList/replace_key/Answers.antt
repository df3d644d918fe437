use Rattle.hashlink_core.proofs.{Names.{refl, ap, sym, fold}, Holding.equal-holds}
use Rattle.hashlink_core.proofs.Calls.{sound, held-inside, part-stored, key-written}
use Rattle.hashlink_core.proofs.keyed_list.KeyedList.replace_key.Goals as goal

-- equal keys have the same hash
pub invariant_of-self : goal.invariant_of-self
invariant_of-self g c =
    let k = c.args.key in
    let H = g.S.Hasher.Hasher in
    let v = c.set_key.ensures in
    (key-written g.met.K.Eq.laws c.self.view_is c.self.invariant c.args.node c.requires.held
    c.set_key.new.self
    k v.entries v.free v.link_writes).0 (
      equal-holds _ _ c.args.node k g.met.K.Eq.laws (sound c.self.view_is c.self.invariant)
          c.requires.held c.requires.equal,
      λ x e. ap (λ l. H.finish (fold H.write (g.S.BuildHasher.build_hasher c.self.inside.hash_builder) l))
          (sym (g.met.K.Hash.respects_eq k x e)),
    )

pub returns-clause-written : goal.returns-clause-written
returns-clause-written g c =
    let v = c.set_key.ensures in
    (key-written g.met.K.Eq.laws c.self.view_is c.self.invariant c.args.node c.requires.held
    c.set_key.new.self
    c.args.key v.entries v.free v.link_writes).1

pub returns-clause-key : goal.returns-clause-key
returns-clause-key g c =
    part-stored g.met.K.Eq.laws c.self.view_is c.self.invariant c.args.node c.requires.held
    (λ h. h.key) (λ e. e.0) (λ h. refl) c.set_key.result c.set_key.ensures.key

pub set_key-requires : goal.set_key-requires
set_key-requires g c = held-inside g.met.K.Eq.laws c.self.view_is c.self.invariant c.args.node c.requires.held

pub returns-clause-sound : goal.returns-clause-sound
returns-clause-sound g c = sound refl (invariant_of-self g c)

pub returns-clause-was_sound : goal.returns-clause-was_sound
returns-clause-was_sound g c = sound c.self.view_is c.self.invariant
