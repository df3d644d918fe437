use Rattle.hashlink_core.proofs.Names.{◌≡◌, Some, ap, subst, sym, ◌∙◌, Contains, FnReturnsAt, fold, keys_of}
use Rattle.hashlink_core.proofs.Names.{lookup, Entry, Node, same_node, entries_of, hash_with, short, Tells}
use Rattle.hashlink_core.proofs.{Calls.sound, keyed_list.KeyedList.find_with.Goals.After-short_hash}
use Rattle.hashlink_core.proofs.Finding.{Search, listed-holds, told-hash, found-by_table, key-held, told}
use Rattle.hashlink_core.proofs.keyed_list.KeyedList.find_with.Given as given
use Rattle.hashlink_core.proofs.keyed_list.KeyedList.find_with.Goals as goal

-- the key of a node is in the list
among : (g : given.Over) (c : After-short_hash g) (n : Node) (h : Entry g.row.K.Denot g.row.V.Denot)
    → lookup (same_node n) c.self.inside.nodes.entries ≡ Some h
    → Contains (keys_of (entries_of c.args.self.now)) h.key
among g c n h here =
    subst (λ m. Contains (keys_of (entries_of m)) h.key) c.self.view_is
    (key-held c.self.inside.nodes.entries n h here)

-- for the keys that are equal to k
search-key : (g : given.Over) (c : After-short_hash g) (k : g.row.K.Denot)
    → Tells g.F.Fn g.K.PartialEq.eq
    (hash_with g.S.BuildHasher.build_hasher g.S.Hasher.Hasher.write g.S.Hasher.Hasher.finish
    g.K.Hash.hash_input c.args.self.now.hasher) (keys_of (entries_of c.args.self.now)) c.args.is_match
    c.args.hash k
    → Search (hash_with g.S.BuildHasher.build_hasher g.S.Hasher.Hasher.write g.S.Hasher.Hasher.finish
    g.K.Hash.hash_input c.self.inside.hash_builder) c.self.inside.nodes (g.K.PartialEq.eq k)
    c.short_hash.result (FnReturnsAt g.F.Fn c.args.is_match)
search-key g c k tells =
    let H = g.S.Hasher.Hasher in
    let build = g.S.BuildHasher.build_hasher in
    record {
      hashed = λ x e.
          ap (λ m. short (hash_with build H.write H.finish g.K.Hash.hash_input m.hasher x)) c.self.view_is
          ∙ ap short (sym (ap (λ l. H.finish (fold H.write (build c.args.self.now.hasher) l))
          (g.met.K.Hash.respects_eq k x e)) ∙ sym tells.hashed) ∙ sym c.short_hash.ensures;
      tells = λ n h here b. told g.met.K.Eq.laws tells h.key b (among g c n h here);
    }

pub returns-clause-found : goal.returns-clause-found
returns-clause-found g c k tells =
    let after = (goal.at.returns-clause-found g c).After-short_hash in
    rw (← c.self.view_is) (found-by_table g.met.K.Eq.laws c.self.invariant (search-key g after k tells)
    (g.met.K.Eq.laws.congr k) (λ f. f.node) c.look_up.result c.look_up.ensures.found c.look_up.ensures.none)

pub look_up-requires-clause-callable : goal.look_up-requires-clause-callable
look_up-requires-clause-callable g c number node there _ =
    let after = (goal.at.look_up-requires-clause-callable g c).After-short_hash in (
      listed-holds g.met.K.Eq.laws c.self.invariant number node there,
      λ h here x is. c.requires.1.callable x
          (subst (Contains (keys_of (entries_of c.args.self.now))) (sym is) (among g after node h here)),
    )

pub look_up-requires-clause-telling : goal.look_up-requires-clause-telling
look_up-requires-clause-telling g c =
    let after = (goal.at.look_up-requires-clause-telling g c).After-short_hash in
    told-hash g.met.K.Eq.laws c.self.invariant (search-key g after c.requires.0 c.requires.1)

pub returns-clause-sound : goal.returns-clause-sound
returns-clause-sound g c = sound c.self.view_is c.self.invariant
