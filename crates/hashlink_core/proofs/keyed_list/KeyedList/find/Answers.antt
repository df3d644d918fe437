use Rattle.hashlink_core.proofs.{Names.{◌≡◌, ap, hash_with}, Calls.sound}
use Rattle.hashlink_core.proofs.Finding.{Search, query-search, listed-holds, told-hash, found-by_table}
use Rattle.hashlink_core.proofs.keyed_list.KeyedList.find.Goals.{After-short_hash}
use Rattle.hashlink_core.proofs.keyed_list.KeyedList.find.Given as given
use Rattle.hashlink_core.proofs.keyed_list.KeyedList.find.Goals as goal

-- for the keys that the query matches
search-key : (g : given.Over) (c : After-short_hash g)
    → Search (hash_with g.S.BuildHasher.build_hasher g.S.Hasher.Hasher.write g.S.Hasher.Hasher.finish
    g.K.Hash.hash_input c.self.inside.hash_builder) c.self.inside.nodes (g.Q.Equivalent.matches c.args.key)
    c.short_hash.result (λ x b. b ≡ g.Q.Equivalent.matches c.args.key x)
search-key g c =
    query-search g.S.BuildHasher.build_hasher g.S.Hasher.Hasher.write g.S.Hasher.Hasher.finish _ _ _
    (g.met.Q.Equivalent.hashed_alike c.args.key)
    c.self.inside.hash_builder c.args.self.now.hasher (ap (λ m. m.hasher) c.self.view_is) c.args.hash _
    c.requires c.short_hash.ensures

pub look_up-requires-clause-callable : goal.look_up-requires-clause-callable
look_up-requires-clause-callable g c number node there _ =
    listed-holds g.met.K.Eq.laws c.self.invariant number node there

pub look_up-requires-clause-telling : goal.look_up-requires-clause-telling
look_up-requires-clause-telling g c = told-hash g.met.K.Eq.laws c.self.invariant
    (search-key g (goal.at.look_up-requires-clause-telling g c).After-short_hash)

pub returns-clause-found : goal.returns-clause-found
returns-clause-found g c =
    rw (← c.self.view_is) (found-by_table g.met.K.Eq.laws c.self.invariant
    (search-key g (goal.at.returns-clause-found g c).After-short_hash)
    (g.met.Q.Equivalent.finds_equal c.args.key) (λ f. f.node) c.look_up.result c.look_up.ensures.found
    c.look_up.ensures.none)

pub returns-clause-sound : goal.returns-clause-sound
returns-clause-sound g c = sound c.self.view_is c.self.invariant
