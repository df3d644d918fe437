-- What a walk is once a value was written through a key and a value that it lent, and what it lends when it
-- takes a place off. Assumes `Logic`.
use Rattle.hashlink_map.proofs.Names.{◌≡◌, ℕ, [], ◌∷◌, take, refl, sym, ap, ap₂, subst, ◌∙◌, List, Ura, ent}
use Rattle.hashlink_map.proofs.Names.{named, Logic, sem, follows_by, such_by, RattleType, OnSome, IfNone}
use Rattle.hashlink_map.proofs.Names.{slice_get, option_map, Bor, MutBor, follows_if, Node, Holds, IsPlace}
use Rattle.hashlink_map.proofs.Names.{place_number, entries_of, first_of, last_of, node_row, with_value_at}
use Rattle.hashlink_map.proofs.Names.{IterMut, lent_pair, WritingWalk, StandsIn, walk_with, walk_rest}
use Rattle.hashlink_map.proofs.Names.{last_place, after_front, after_back, param, Laws, NamedLft, fres}
use Rattle.std.{proofs.Common.drop, specs.Prelude.{Option, Some, None}}
use Rattle.std.specs.Borrow.{Fml, GName, name_if_some}
use Rattle.hashlink_map.specs.contracts.as_node.NodeAsNode.TheImpl
use Rattle.hashlink_map.specs.contracts.iter_mut.IterMut as walk
use Rattle.hashlink_map.specs.declared.iter_mut.OfEntries.{OfEntries}
use Rattle.hashlink_map.specs.IterMutLends.{walk_with_value, LendsAtWalkNode, LendsPairThere, entries_row}
use Rattle.hashlink_map.proofs.Walking.{written-there, first-taken, last-taken}
use Rattle.hashlink_map.{proofs.LendAtPlace.{Lending, LendingAt}, specs.IterMut.{walk_map, walk_state}}
use Rattle.hashlink_map.specs.IterMutLends.{LendsPairFromWalk, LentFrom, StaysThere, StepsAndWrites, TakesOff}
use Rattle.hashlink_map.specs.WritingWalk.{StandsIn-prop}
use Rattle.hashlink_map.specs.Bounds.{EqGhosts, HashGhosts, HasherGhosts, BuilderGhosts, NodeGhosts}
use types.Kit.{‵, ◌$◌, ◌∵◌, !, qed, fpick, fpack, rewrite, done}

module _ {K V S T : Type 0} {g : EqGhosts K} {h : HashGhosts K} {b : BuilderGhosts S T}
    {w : HasherGhosts T}
    {N L : Type 0} {n : NodeGhosts N} (i : IterMut K V S N L T g h b w n) (at : Node) (v : V) where
  -- whatever proves that its places are still in the list
  pub walk_with_value-is : (p : StandsIn n.node (with_value_at i.map.now at v).nodes i.places)
      → record i { map = record i.map { now = with_value_at i.map.now at v }; stands = p }
      ≡ walk_with_value i at v
  walk_with_value-is p =
      ap (λ q. record (walk_with_value i at v) { stands = q })
      (StandsIn-prop n.node (with_value_at i.map.now at v).nodes i.places p (walk_with_value i at v).stands)

-- from the walk with a place taken off to the walk as it was
module _ {K V S T : Type 0} {g : EqGhosts K} {h : HashGhosts K} {b : BuilderGhosts S T}
    {w : HasherGhosts T}
    {N L : Type 0} {n : NodeGhosts N} (old mid : MutBor (IterMut K V S N L T g h b w n)) (j : ℕ)
    (stepped : WritingWalk K V S) where
  pub steps-on : (taken : Option Node) (r : Option (Bor K × MutBor V))
      → LentFrom (walk_map mid.now).now taken r
      → TakesOff walk_map walk_state old j stepped mid taken
      → (new : IterMut K V S N L T g h b w n) (v : V)
      → OnSome r (StepsAndWrites walk_map walk_state mid.now new (walk_state mid.now)
      (place_number (walk_map mid.now).now.nodes taken) v)
      → OnSome r (StepsAndWrites walk_map walk_state old.now new stepped j v)
  steps-on None None lent t new v told = tt
  steps-on None (Some p) lent t new v told = absurd (cc)
  steps-on (Some x) None lent t new v told = absurd (let e = lent.1 in cc)
  steps-on (Some x) (Some p) lent t new v told = (
    told.0 ∙ t.same_map,
    told.1 ∙ ap₂ (λ s k. walk_with s k v) t.takes.3
        (ap (λ m. place_number m.nodes (Some x)) t.unchanged ∙ t.takes.1),
  )

  pub stays-on : (taken : Option Node) (r : Option (Bor K × MutBor V))
      → LentFrom (walk_map mid.now).now taken r
      → TakesOff walk_map walk_state old j stepped mid taken
      → (new : IterMut K V S N L T g h b w n)
      → StaysThere walk_map walk_state mid.now new
      → IfNone r (StaysThere walk_map walk_state old.now new)
  stays-on None None lent t new told = (told.0 ∙ t.same_map, told.1 ∙ t.unchanged, told.2 ∙ t.takes.1)
  stays-on None (Some p) lent t new told = tt
  stays-on (Some x) None lent t new told = absurd (let e = lent.1 in cc)
  stays-on (Some x) (Some p) lent t new told = tt

-- the place that was taken, and the pair there
module _ {K V S T : Type 0} {g : EqGhosts K} {h : HashGhosts K} {b : BuilderGhosts S T}
    {w : HasherGhosts T} (old mid : MutBor (IterMut K V S Node OfEntries T g h b w TheImpl.ghosts)) where
  pub step-is_place : (j : ℕ) (stepped : WritingWalk K V S) (taken : Option Node)
      → TakesOff walk_map walk_state old j stepped mid taken
      → IsPlace (walk_map mid.now).now.nodes taken
  step-is_place j stepped None t = tt
  step-is_place j stepped (Some n) t = subst (λ m. Holds m.nodes n) (sym t.unchanged) t.takes.0

  -- at a node
  lent-there : (n : Node) (r : Option (Bor K × MutBor V)) (e : Option (K × V))
      → (walk_map mid.now).now ≡ (walk_map old.now).now
      → LentFrom (walk_map mid.now).now (Some n) r
      → slice_get (entries_of (walk_map old.now).now) (place_number (walk_map old.now).now.nodes (Some n)) ≡ e
      → option_map lent_pair r ≡ e
  lent-there n r e same lent is =
      ap (option_map lent_pair) lent.1 ∙ sym lent.2
      ∙ ap (λ m. slice_get (entries_of m) (place_number m.nodes (Some n))) same ∙ is

  pub first-lent : (taken : Option Node) (r : Option (Bor K × MutBor V))
      → LentFrom (walk_map mid.now).now taken r
      → TakesOff walk_map walk_state old (walk_state old.now).at (after_front (walk_state old.now)) mid taken
      → option_map lent_pair r ≡ first_of (walk_rest (walk_state old.now))
  first-lent None r lent t =
      let s = walk_state old.now in
      ap (option_map lent_pair) lent ∙ sym (ap (λ l. first_of (take l (drop s.at s.map.entries))) t.takes.0)
  first-lent (Some n) r lent t =
      lent-there n r _ t.unchanged lent (first-taken old.now.map.now old.now.places n _ _ t.takes)

  pub last-lent : (taken : Option Node) (r : Option (Bor K × MutBor V))
      → LentFrom (walk_map mid.now).now taken r
      → TakesOff walk_map walk_state old (last_place (walk_state old.now))
      (after_back (walk_state old.now)) mid taken
      → option_map lent_pair r ≡ last_of (walk_rest (walk_state old.now))
  last-lent None r lent t =
      let s = walk_state old.now in
      ap (option_map lent_pair) lent ∙ sym (ap (λ l. last_of (take l (drop s.at s.map.entries))) t.takes.0)
  last-lent (Some n) r lent t =
      lent-there n r _ t.unchanged lent
      (last-taken old.now.map.now old.now.places n _ _ old.now.stands t.takes)

module _ (K V S T : RattleType) (g : EqGhosts K.Denot) (h : HashGhosts K.Denot)
    (b : BuilderGhosts S.Denot T.Denot) (w : HasherGhosts T.Denot) where
  abbrev Walk : Type 0
  Walk = IterMut K.Denot V.Denot S.Denot Node OfEntries T.Denot g h b w TheImpl.ghosts

  abbrev Row : RattleType
  Row = walk.the_row (record { mir = named 1; lft = [] }) K V S node_row entries_row T g h b w TheImpl.ghosts

  abbrev Pair : Type 0
  Pair = Option (Bor K.Denot × MutBor V.Denot)

  -- the walk follows what was lent, by some function, or ends as some walk
  abbrev Follows : GName → Pair → (V.Denot → Walk) × Walk → Fml
  Follows name r s = follows_if Row V name (name_if_some (λ p. p.1.ghost_name) r) s.0 s.1

  abbrev There : MutBor Walk → ℕ → Pair → Type 0
  There i j r =
      (s : (V.Denot → Walk) × Walk)
      × ((u : V.Denot) → OnSome r (StepsAndWrites walk_map walk_state i.now (s.0 u) (walk_state i.now) j u))
      × StaysThere walk_map walk_state i.now s.1

  abbrev From : MutBor Walk → WritingWalk K.Denot V.Denot S.Denot → ℕ → Pair → Type 0
  From i stepped j r =
      (s : (V.Denot → Walk) × Walk)
      × ((u : V.Denot) → OnSome r (StepsAndWrites walk_map walk_state i.now (s.0 u) stepped j u))
      × IfNone r (StaysThere walk_map walk_state i.now s.1)

  module _ {M : Type 1} {𝓤 : Ura M} (𝓛 : Logic 𝓤) (i : MutBor Walk) where
    pub lends_some : (at : Node) (q : Bor K.Denot × MutBor V.Denot)
        → ent 𝓤 (sem 𝓛 (LendsAtWalkNode K V S T i at q.1))
        (sem 𝓛 (LendsPairThere K V S T i (place_number i.now.map.now.nodes (Some at)) (Some q)))
    unfolding follows_by such_by
    lends_some at q =
        let m = i.now.map.now in
        let j = place_number m.nodes (Some at) in
        qed 𝓛 (‵ (LendsAtWalkNode K V S T i at q.1) ∷ []) ∵ fpack ! (There i j (Some q))
        (λ s. Follows i.ghost_name (Some q) s.0) (
          (walk_with_value i.now at, i.now),
          (λ u. (refl, written-there m i.now.places at u)),
          (refl, refl, refl),
        )
        $ done !

    pub lends_none : (j : ℕ) → ent 𝓤 (sem 𝓛 (fres i.ghost_name (Row.coded.code i.now)))
        (sem 𝓛 (LendsPairThere K V S T i j None))
    unfolding follows_by such_by
    lends_none j =
        qed 𝓛 (‵ (fres i.ghost_name (Row.coded.code i.now)) ∷ []) ∵ fpack ! (There i j None)
        (λ s. Follows i.ghost_name None s.0)
        (((λ u. i.now), i.now), (λ u. tt), (refl, refl, refl)) $ done !

  module _ {M : Type 1} {𝓤 : Ura M} (𝓛 : Logic 𝓤) (old mid : MutBor Walk) (j : ℕ)
      (stepped : WritingWalk K.Denot V.Denot S.Denot) where
    pub lends_on : (taken : Option Node) (r : Pair) → LentFrom (walk_map mid.now).now taken r
        → TakesOff walk_map walk_state old j stepped mid taken
        → ent 𝓤 (sem 𝓛 (LendsPairThere K V S T mid (place_number (walk_map mid.now).now.nodes taken) r))
        (sem 𝓛 (LendsPairFromWalk K V S T old stepped j r))
    unfolding follows_by such_by
    lends_on taken r lent t =
        let k = place_number (walk_map mid.now).now.nodes taken in
        qed 𝓛 (‵ (LendsPairThere K V S T mid k r) ∷ []) ∵ fpick !
        (λ (s : There mid k r).
        rewrite ! 0 (λ name. ‵ (Follows name r s.0)) t.same_walk refl $
        fpack ! (From old stepped j r) (λ s. Follows old.ghost_name r s.0) (
          s.0,
          (λ u. steps-on old mid j stepped taken r lent t (s.0.0 u) u (s.1 u)),
          stays-on old mid j stepped taken r lent t s.0.1 s.2,
        )
        $ done !)

module _ (K V S T : RattleType) (LK : Laws K) (LV : Laws V) (p : EqGhosts K.Denot) (h : HashGhosts K.Denot)
    (b : BuilderGhosts S.Denot T.Denot) (w : HasherGhosts T.Denot) where
  abbrev pub Writer : NamedLft → RattleType
  Writer ℓ =
      walk.the_row ℓ (param 0 K) (param 1 V) (param 2 S) node_row entries_row (param 3 T) p h b w
      TheImpl.ghosts

  abbrev Held : Type 0
  Held = IterMut K.Denot V.Denot S.Denot Node OfEntries T.Denot p h b w TheImpl.ghosts

  abbrev State : Type 0
  State = WritingWalk K.Denot V.Denot S.Denot

  -- at a node, and at a place
  abbrev pub at_node : {M : Type 1} {𝓤 : Ura M} (𝓛 : Logic 𝓤) → LendingAt K V LK LV Writer 𝓛
  at_node 𝓛 = record {
    NodeTies = λ κs r n q. LendsAtWalkNode (param 0 K) (param 1 V) (param 2 S) (param 3 T) r n q.1;
    NodePair = λ κs r n q.
        slice_get (entries_of r.now.map.now) (place_number r.now.map.now.nodes (Some n)) ≡ Some (lent_pair q);
    Stands = λ κs q. IsPlace q.0.now.map.now.nodes q.1;
    Ties = λ κs q o. LendsPairThere (param 0 K) (param 1 V) (param 2 S) (param 3 T) q.0
        (place_number q.0.now.map.now.nodes q.1) o;
    Pair = λ κs q o. LentFrom q.0.now.map.now q.1 o;
    ties_some = λ κs r n q. lends_some (param 0 K) (param 1 V) (param 2 S) (param 3 T) p h b w 𝓛 r n q;
    pair_some = λ κs r n q has. (q, refl, has);
    ties_none = λ κs r. lends_none (param 0 K) (param 1 V) (param 2 S) (param 3 T) p h b w 𝓛 r
        (place_number r.now.map.now.nodes None);
    pair_none = λ κs r. refl;
  }

  -- the place with the index `place` is taken off, which leaves `after`; its pair is `entry` of the entries
  -- left
  abbrev pub taken_off : {M : Type 1} {𝓤 : Ura M} (𝓛 : Logic 𝓤) (place : State → ℕ) (after : State → State)
      (entry : List (K.Denot × V.Denot) → Option (K.Denot × V.Denot))
      → ((old mid : MutBor Held) (taken : Option Node) (r : Option (Bor K.Denot × MutBor V.Denot))
      → LentFrom (walk_map mid.now).now taken r
      → TakesOff walk_map walk_state old (place (walk_state old.now)) (after (walk_state old.now)) mid taken
      → option_map lent_pair r ≡ entry (walk_rest (walk_state old.now)))
      → Lending K V LK LV Writer 𝓛 (at_node 𝓛)
  taken_off 𝓛 place after entry lent = record {
    Takes = λ κs r q.
        TakesOff walk_map walk_state r (place (walk_state r.now)) (after (walk_state r.now)) q.0 q.1;
    Lends = λ κs r o. LendsPairFromWalk (param 0 K) (param 1 V) (param 2 S) (param 3 T) r
        (after (walk_state r.now)) (place (walk_state r.now)) o;
    Gives = λ κs r o. option_map lent_pair o ≡ entry (walk_rest (walk_state r.now));
    stands = λ κs r q t. step-is_place r q.0 (place (walk_state r.now)) (after (walk_state r.now)) q.1 t;
    ties = λ κs r q o t pair. lends_on (param 0 K) (param 1 V) (param 2 S) (param 3 T) p h b w 𝓛 r q.0
        (place (walk_state r.now)) (after (walk_state r.now)) q.1 o pair t;
    gives = λ κs r q o t pair. lent r q.0 q.1 o pair t;
  }
