-- The places next to a place of a ring.
use Rattle.hashlink_nodes.proofs.Names.{◌≡◌, true, false, [], ◌∷◌, Option, None, Some, refl, sym, ap, ◌∙◌}
use Rattle.hashlink_nodes.proofs.Names.{subst, then_some, is_some, unwrap_or, slice_get, IfSome, keys_of}
use Rattle.hashlink_nodes.proofs.Names.{Node, State, Holds, IsRing, Ring, IsPlace, next_place, prev_place}
use Rattle.hashlink_nodes.proofs.Names.{last_node, lookup, same_node, state_of, Inside, IsSound, ring_of}
use Rattle.hashlink_nodes.proofs.{Names.Entry, Paths.{head_or, last_or, all_left, all_right}}
use Rattle.hashlink_nodes.proofs.Cuts.{AfterPlace, BeforePlace, before_place, after_place}
use Rattle.hashlink_nodes.proofs.Rings.{Entries, Full, Linked, linked}
use Rattle.hashlink_nodes.proofs.Opening.{empty, guard_of, node_in, opened}
use Rattle.std.specs.Prelude.{IfNone}

module _ {K V : Type 0} where
  -- r if it holds an entry, and none for the guard, which holds none
  abbrev pub if_full : State K V → Node → Option Node
  if_full s r = then_some (is_some (s.held r)) r

  full_head : (s : State K V) (g : Node) (es : Entries K V) → s.held g ≡ None → Full s es
      → if_full s (head_or g (keys_of es)) ≡ slice_get (keys_of es) 0
  full_head s g [] bare full = ap (λ h. then_some (is_some h) g) bare
  full_head s g (e ∷ es) bare full = ap (λ h. then_some (is_some h) e.0) full.0

  full_last : (s : State K V) (a : Node) (o : Option Node) (es : Entries K V) → if_full s a ≡ o → Full s es
      → if_full s (last_or a (keys_of es)) ≡ last_node o (keys_of es)
  full_last s a o [] is full = is
  full_last s a o (e ∷ es) is full =
      full_last s e.0 (Some e.0) es (ap (λ h. then_some (is_some h) e.0) full.0) full.1

  -- the node that is returned if it is not tested for an entry
  told : (s : State K V) (r : Node) {answer : Option Node} → if_full s r ≡ answer
      → IfSome answer (λ m. r ≡ m)
  told s r is =
      subst (λ o. IfSome o (λ m. r ≡ m)) is
      (elim (is_some (s.held r)) as (λ b. IfSome (then_some b r) (λ m. r ≡ m)) [ true ↦ refl | false ↦ tt ])

  module _ {n : Inside K V} (sound : IsSound n) {v : Ring K V} (view : ring_of n ≡ v) where
    abbrev s : State K V
    s = state_of n.pool

    -- a place has a block, as have those beside it
    module _ {g : Node} (is : n.guard ≡ Some g) (place : Option Node) (is_place : IsPlace v.entries place)
        {q : Node} (is_q : q ≡ unwrap_or place g) where
      abbrev r : IsRing s [] g n.first_spare v
      r = opened sound view is

      abbrev after : AfterPlace v.entries g place
      after = after_place v.entries g place is_place

      abbrev before : BeforePlace v.entries g place
      before = before_place v.entries g place is_place

      abbrev on : Linked s (last_or g (keys_of after.gap.before)) (head_or g (keys_of after.gap.after))
      on = linked r after.gap.before after.gap.after after.gap.is

      abbrev back : Linked s (last_or g (keys_of before.gap.before)) (head_or g (keys_of before.gap.after))
      back = linked r before.gap.before before.gap.after before.gap.is

      pub place_has : s.has q ≡ true
      place_has = ap s.has (is_q ∙ after.node) ∙ on.has_prev

      -- the nodes to which the links of the place lead
      is_next : {m : Node} → m ≡ s.next q → m ≡ head_or g (keys_of after.gap.after)
      is_next is_m = is_m ∙ ap s.next (is_q ∙ after.node) ∙ on.on

      is_prev : {m : Node} → m ≡ s.prev q → m ≡ last_or g (keys_of before.gap.before)
      is_prev is_m = is_m ∙ ap s.prev (is_q ∙ before.node) ∙ back.back

      pub next_has : {m : Node} → m ≡ s.next q → s.has m ≡ true
      next_has is_m = ap s.has (is_next is_m) ∙ on.has_next

      pub prev_has : {m : Node} → m ≡ s.prev q → s.has m ≡ true
      prev_has is_m = ap s.has (is_prev is_m) ∙ back.has_prev

      -- which places these are, as a test for an entry finds
      pub next_is : {m : Node} → m ≡ s.next q → if_full s m ≡ next_place (keys_of v.entries) place
      next_is is_m =
          let full = all_right (λ e. s.held e.0 ≡ Some e.1) after.gap.before after.gap.after
          (subst (Full s) after.gap.is r.full) in
          ap (if_full s) (is_next is_m) ∙ full_head s g after.gap.after r.bare.0 full ∙ sym after.beside

      pub prev_is : {m : Node} → m ≡ s.prev q → if_full s m ≡ prev_place (keys_of v.entries) place
      prev_is is_m =
          let full = all_left (λ e. s.held e.0 ≡ Some e.1) before.gap.before before.gap.after
          (subst (Full s) before.gap.is r.full) in
          let none = ap (λ h. then_some (is_some h) g) r.bare.0 in
          ap (if_full s) (is_prev is_m) ∙ full_last s g None before.gap.before none full ∙ sym before.beside

    -- the node that is returned in place of the guard is not in the ring
    untold : (r : Node) {answer : Option Node} → if_full s r ≡ answer
        → IfNone answer (lookup (same_node r) v.entries ≡ None)
    untold r is =
        let found = lookup (same_node r) v.entries in
        subst (λ o. IfNone o (found ≡ None)) is
        ((elim found as (λ o. found ≡ o → IfNone (if_full s r) (o ≡ None)) [
          | None ↦ λ none. let nothing : Option (Entry K V) = None in
              elim (is_some (s.held r)) as (λ b. IfNone (then_some b r) (nothing ≡ nothing))
              [ true ↦ tt | false ↦ refl ]
          | Some h ↦ λ there.
              subst (λ o. IfNone (then_some (is_some o) r) (Some h ≡ None))
              (sym (node_in sound view r (ap is_some there)).here.holds) tt
        ]) refl)

    -- the nodes beside a node of the ring, with no test for an entry
    module _ (m : Node) (there : Holds v.entries m) {r : Node} where
      pub next_told : r ≡ s.next m → IfSome (next_place (keys_of v.entries) (Some m)) (λ o. r ≡ o)
      next_told is = told s r (next_is (guard_of sound view m there).1 (Some m) there refl is)

      pub next_untold : r ≡ s.next m
          → IfNone (next_place (keys_of v.entries) (Some m)) (lookup (same_node r) v.entries ≡ None)
      next_untold is = untold r (next_is (guard_of sound view m there).1 (Some m) there refl is)

      pub prev_told : r ≡ s.prev m → IfSome (prev_place (keys_of v.entries) (Some m)) (λ o. r ≡ o)
      prev_told is = told s r (prev_is (guard_of sound view m there).1 (Some m) there refl is)

    -- an empty ring has no next and no previous node
    module _ (is : n.guard ≡ None) where
      pub no_next : (place : Option Node) → next_place (keys_of v.entries) place ≡ None
      no_next None = ap (λ (w : Ring K V). next_place (keys_of w.entries) None) (empty sound view is)
      no_next (Some m) = ap (λ (w : Ring K V). next_place (keys_of w.entries) (Some m)) (empty sound view is)

      pub no_prev : (place : Option Node) → prev_place (keys_of v.entries) place ≡ None
      no_prev None = ap (λ (w : Ring K V). prev_place (keys_of w.entries) None) (empty sound view is)
      no_prev (Some m) = ap (λ (w : Ring K V). prev_place (keys_of w.entries) (Some m)) (empty sound view is)

pub ruleset nodes_told = (next_told, next_untold, prev_told)

pub ruleset neighbours = (nodes_told, place_has, next_has, prev_has, next_is, prev_is, no_next, no_prev)
