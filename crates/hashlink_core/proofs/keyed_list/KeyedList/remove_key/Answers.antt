use Rattle.hashlink_core.proofs.Names.{◌≡◌, Some, None, refl, ap, sym, ◌∙◌, entries_of, state_of, seen_as}
use Rattle.hashlink_core.proofs.Finding.{Search, query-search, listed-holds, listed-number, told-hash}
use Rattle.hashlink_core.proofs.{Names.{HoldsMatch, hash_with}, Finding.found-by_table, Stepping.was-kept}
use Rattle.hashlink_core.proofs.Calls.{sound, stored, removed-step, removed-node}
use Rattle.hashlink_core.proofs.Steps.{lookup_entry-unplaced, removes_match}
use Rattle.hashlink_core.proofs.keyed_list.KeyedList.remove_key.Goals.{After-short_hash-hash}
use Rattle.hashlink_core.proofs.keyed_list.KeyedList.remove_key.Given as given
use Rattle.hashlink_core.proofs.keyed_list.KeyedList.remove_key.Goals as goal

-- for the keys that the query matches
search-key : (g : given.Over) (c : After-short_hash-hash g)
    → Search (hash_with g.S.BuildHasher.build_hasher g.S.Hasher.Hasher.write g.S.Hasher.Hasher.finish
    g.K.Hash.hash_input c.self.inside.hash_builder) c.self.inside.nodes (g.Q.Equivalent.matches c.args.key)
    c.short_hash-hash.result (λ x b. b ≡ g.Q.Equivalent.matches c.args.key x)
search-key g c =
    query-search g.S.BuildHasher.build_hasher g.S.Hasher.Hasher.write g.S.Hasher.Hasher.finish _ _ _
    (g.met.Q.Equivalent.hashed_alike c.args.key)
    c.self.inside.hash_builder c.args.self.now.hasher (ap (λ m. m.hasher) c.self.view_is) c.hash_of.result _
    c.hash_of.ensures c.short_hash-hash.ensures

pub remove-requires-clause-callable : goal.remove-requires-clause-callable
remove-requires-clause-callable g c number node there _ =
    listed-holds g.met.K.Eq.laws c.self.invariant number node there

pub remove-requires-clause-telling : goal.remove-requires-clause-telling
remove-requires-clause-telling g c = told-hash g.met.K.Eq.laws c.self.invariant
    (search-key g (goal.at.remove-requires-clause-telling g c).After-short_hash-hash)

pub returns-in_err-node-clause-removes : goal.returns-in_err-node-clause-removes
returns-in_err-node-clause-removes g c =
    let passes = g.Q.Equivalent.matches c.args.key in
    let absent = found-by_table g.met.K.Eq.laws c.self.invariant
    (search-key g (goal.at.returns-in_err-node-clause-removes g c).After-short_hash-hash)
    (g.met.Q.Equivalent.finds_equal c.args.key) (λ n. n) None tt c.in_err-node.ensures.none in
    rw c.from_residual.ensures
    (record {
      answer = sym (lookup_entry-unplaced passes (entries_of c.args.self.now)
          (rw (← c.self.view_is) absent));
      step = ap (λ u. state_of (seen_as c.self.inside.nodes u c.self.inside.hash_builder))
          c.in_err-node.ensures.unchanged ∙ ap state_of c.self.view_is;
    })

pub returns-in_err-node-clause-sound : goal.returns-in_err-node-clause-sound
returns-in_err-node-clause-sound g c = rw c.in_err-node.ensures.unchanged (sound refl c.self.invariant)

pub detach_into_free-requires : goal.detach_into_free-requires
detach_into_free-requires g c =
    listed-holds g.met.K.Eq.laws c.self.invariant _ c.in_ok-node.node
    (was-kept c.self.inside.table c.remove.new.self _ _ c.in_ok-node.ensures.removed.0)

-- the node that the table returned is the key's
found : (g : given.Over) (c : goal.After-detach_into_free g)
    → HoldsMatch (g.Q.Equivalent.matches c.args.key) c.args.self.now.nodes c.in_ok-node.node
found g c =
    let r = c.in_ok-node.ensures.removed in
    rw (← c.self.view_is) (found-by_table g.met.K.Eq.laws c.self.invariant
    (search-key g (goal.at.returns-clause-removes g c).After-short_hash-hash)
    (g.met.Q.Equivalent.finds_equal c.args.key) (λ n. n) (Some c.in_ok-node.node)
    (was-kept c.self.inside.table c.remove.new.self _ _ r.0, r.1) tt)

pub invariant_of-self-2 : goal.invariant_of-self-2
invariant_of-self-2 g c =
    let left = c.in_ok-node.ensures.removed.0 in
    let there = was-kept c.self.inside.table c.remove.new.self _ _ left in
    let d = c.detach_into_free in
    removed-step g.met.K.Eq.laws c.self.view_is c.self.invariant c.in_ok-node.node (found g c).within
    d.new.self c.remove.new.self c.short_hash-hash.result
    (listed-number g.met.K.Eq.laws c.self.invariant _ c.in_ok-node.node there) left c.remove.ensures.room
    d.ensures.entries d.ensures.free

pub returns-clause-removes : goal.returns-clause-removes
returns-clause-removes g c =
    let left = c.in_ok-node.ensures.removed.0 in
    let there = was-kept c.self.inside.table c.remove.new.self _ _ left in
    let d = c.detach_into_free in
    let n = c.in_ok-node.node in
    let laws = g.met.K.Eq.laws in
    let within = (found g c).within in
    removes_match (g.Q.Equivalent.matches c.args.key) (state_of c.args.self.now) _ _ (found g c).place
    d.result
    (stored laws c.self.view_is c.self.invariant n within ∙ d.ensures.pair)
    (removed-node laws c.self.view_is c.self.invariant n within d.new.self c.remove.new.self
    c.short_hash-hash.result (listed-number laws c.self.invariant _ n there) left c.remove.ensures.room
    d.ensures.entries d.ensures.free d.ensures.link_writes).state

pub returns-clause-sound : goal.returns-clause-sound
returns-clause-sound g c = sound refl (invariant_of-self-2 g c)

pub returns-in_err-node-clause-was_sound : goal.returns-in_err-node-clause-was_sound
returns-in_err-node-clause-was_sound g c = sound c.self.view_is c.self.invariant

pub returns-clause-was_sound : goal.returns-clause-was_sound
returns-clause-was_sound g c = sound c.self.view_is c.self.invariant
