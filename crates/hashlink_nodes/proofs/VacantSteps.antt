-- A block that contains nothing, as std has it: room for its parts, and the right to free it. Assumes
-- `Logic`.
use Rattle.hashlink_nodes.proofs.Names
use Names.{◌≡◌, ℕ, ◌+◌, List, [], ◌∷◌, ◌++◌, refl, subst, ◌&&◌, T, Ura, Ty, Tys, tnil, tcons, ty_int}
use Names.{ty_struct, w64, SProp, ent, sep, wand, apply∗, Fml, ftrue, fwand, froom, rooms_at, lone, Val, vptr}
use Names.{vstruct, vcons, vnil, of_list, has_ty, WT, Logic, sem, raw, ◌⊛◌, assume, fjoin3, by, group, split}
use Names.{split3, use1, use2, Item, Goal, Seq, Step, step, ‵, ◌$◌, ◌∵◌, !, qed, keep, move, drop, fsplit}
use Names.{fst∗, never, fsplit3, fjoin, fpick, fpack, feq_i, feq_l, RattleType, Valss, Ptr, block_ptr}
use Names.{null_ptr, ptr_val, in_a_block, room_for, nothing, param, done, layout, within, shape, handle_tells}
use Names.{Good, Links, ghosts, block_room, block_type, deed_owns, pair_offset, number_offset, links_offset}
use Names.{and_tt, true, bare, RawPtr}
use Rattle.hashlink_nodes.proofs.ArenaSteps.{Heap, heap_handle}
use Rattle.std_alloc.specs.Vacant.{vacant}
use Rattle.std_alloc.specs.contracts.room.vacant.Vacant as room
use Rattle.hashlink_nodes.specs.contracts.arena.Block as block

-- a pointer and a handle
abbrev pub both : Val → Val → Val
both v w = vstruct (vcons v (vcons w vnil))

pub vacant_good : (b o : ℕ) (h : Val) → Good (layout Heap) h
    → T (has_ty (layout Heap) h && true) × WT (both (vptr b o) h)
vacant_good b o h fits = (and_tt (has_ty (layout Heap) h) fits.0, (tt, (fits.1, tt)))

module _ (T : RattleType) {M : Type 1} {𝓤 : Ura M} (𝓛 : Logic 𝓤) (b o : ℕ) where
  open 𝓛 use {H}

  abbrev R : RattleType
  R = param 0 T

  abbrev parts : Tys
  parts = tcons (lone R.mir) (tcons (ty_int w64) (tcons (lone Links.mir) tnil))

  -- the type of a block, as the code has it
  abbrev whole : Ty
  whole = ty_struct (block.the_type R).name parts

  abbrev Joins : SProp 𝓤
  Joins = wand 𝓤 (rooms_at 𝓤 H parts 0 b o) (H.room whole b o)

  abbrev pub Rejoins : Fml
  Rejoins = fwand (block_room R (block_ptr b o)) (room_for (block_type R) (block_ptr b o))

  abbrev pair_room_at : Fml
  pair_room_at = froom (lone R.mir) b (o + pair_offset R)

  abbrev number_room_at : Fml
  number_room_at = froom (ty_int w64) b (o + number_offset R)

  abbrev links_room_at : Fml
  links_room_at = froom (lone Links.mir) b (o + links_offset R)

  rejoins : ent 𝓤 Joins (sem 𝓛 Rejoins)
  rejoins =
      qed 𝓛 (raw Joins ∷ []) ∵ assume ! (‵ (block_room R (block_ptr b o))) $ fsplit3 ! $
      use1 𝓛 (‵ pair_room_at) (𝓛.laws.raw-room (lone R.mir) b (o + pair_offset R)) $ move ! (2 ∷ []) $
      use1 𝓛 (‵ links_room_at) (𝓛.laws.raw-room (lone Links.mir) b (o + links_offset R)) $
      nothing ! $ move ! (2 ∷ 3 ∷ 1 ∷ 0 ∷ []) $ group ! 4 $
      use2 𝓛 (‵ (froom whole b o)) (apply∗ 𝓤 (rooms_at 𝓤 H parts 0 b o) (H.room whole b o)) $
      by ! (𝓛.laws.room-raw whole b o)

  -- a block is split into room for its parts, and the right to join them to a block again
  block_cut : ent 𝓤 (H.room (block_type R) b o)
      (sep 𝓤 (sem 𝓛 (block_room R (block_ptr b o))) (sem 𝓛 Rejoins))
  block_cut =
      qed 𝓛 (‵ (froom (block_type R) b o) ∷ []) ∵ use1 𝓛 (‵ (froom whole b o)) (𝓛.laws.raw-room whole b o) $
      use1 𝓛 ((‵ pair_room_at ⊛ ‵ number_room_at ⊛ ‵ links_room_at ⊛ ‵ ftrue) ⊛ raw Joins)
      (𝓛.laws.room_fields (block.the_type R).name parts b o) $ split ! $ split3 ! $ move ! (2 ∷ []) $
      split ! $
      use1 𝓛 (‵ (froom (bare (lone Links.mir)) b (o + links_offset R)))
      (𝓛.laws.room-raw (lone Links.mir) b (o + links_offset R)) $ move ! (2 ∷ []) $
      use1 𝓛 (‵ (froom (bare (lone R.mir)) b (o + pair_offset R)))
      (𝓛.laws.room-raw (lone R.mir) b (o + pair_offset R)) $ move ! (0 ∷ 3 ∷ 1 ∷ []) $ fjoin3 ! $
      move ! (2 ∷ []) $ use1 𝓛 (‵ Rejoins) rejoins $ move ! (1 ∷ 0 ∷ []) $ keep ! (0 ∷ 1 ∷ []) $ done !

  block_glue : ent 𝓤 (sep 𝓤 (sem 𝓛 (block_room R (block_ptr b o))) (sem 𝓛 Rejoins))
      (H.room (block_type R) b o)
  block_glue = apply∗ 𝓤 (sem 𝓛 (block_room R (block_ptr b o))) (H.room (block_type R) b o)

module _ (T : RattleType) where
  abbrev B : RattleType
  B = block.the_row (param 0 T)

  abbrev pub Vacant : RattleType
  Vacant = room.the_row B Heap ghosts

  module _ {M : Type 1} {𝓤 : Ura M} {𝓛 : Logic 𝓤} {K : Type 0} {Γ : List (Item 𝓤)} {G : Goal 𝓤 𝓛.H} where
    pub vacant_out : K → (d : Vacant.Denot) (vs : List Val)
        → ((b o : ℕ) (h : Val) → vs ≡ both (vptr b o) h ∷ [] → Good (layout Heap) h
        → Seq K 𝓛 (‵ (block_room (param 0 T) (block_ptr b o)) ∷ ‵
        (deed_owns (param 0 T) (block_ptr b o)) ∷ Γ) G)
        → Seq K 𝓛 (‵ (Vacant.own_val d vs) ∷ Γ) G
    vacant_out t d vs k =
        let token = ghosts.dealloc_token d.alloc in
        fsplit t $ fpick t
        (λ vss. fsplit t $ feq_l t
        (λ ev. fsplit t $ feq_l t
        (λ ep. fsplit t $ handle_tells heap_handle t d.alloc vss.1.0 (λ h ea fits. drop t $ drop t $
        in_a_block t d.ptr (vacant token B) (fst∗ 𝓤 (never 𝓤) (sem 𝓛 (token (bare (lone B.mir)) null_ptr)))
        (λ b o e. fsplit t $
        use1 𝓛 (‵ (block_room (param 0 T) (block_ptr b o)) ⊛ ‵ (Rejoins T 𝓛 b o)) (block_cut T 𝓛 b o) $
        split t $ move t (2 ∷ 1 ∷ []) $ fjoin t $ move t (1 ∷ 0 ∷ []) $ k b o h
        (subst (λ (p : Ptr). vs ≡ vstruct (of_list (ptr_val p ∷ h ∷ [])) ∷ []) e
        (subst (λ (ws : List Val). vs ≡ vstruct (of_list (ptr_val d.ptr ∷ (ws ++ []))) ∷ []) ea
        (subst (λ (ps : List Val). vs ≡ vstruct (of_list (ps ++ (vss.1.0 ++ []))) ∷ []) ep ev)))
        fits)))))

    pub vacant_in : K → (b o : ℕ) (h : Val) (a : Heap.Denot)
        → Step K 𝓛 (‵ (Vacant.own_val (record { ptr = block_ptr b o; alloc = a })
        (both (vptr b o) h ∷ [])) ∷ Γ)
        G (‵ (block_room (param 0 T) (block_ptr b o)) ∷ ‵ (deed_owns (param 0 T) (block_ptr b o))
        ∷ ‵ (Heap.own_val a (h ∷ [])) ∷ Γ) G
    vacant_in t b o h a = step (λ s. let v : Val = both (vptr b o) h in
        move t (1 ∷ []) $ fsplit t $ move t (2 ∷ 1 ∷ []) $
        use2 𝓛 (‵ (froom (block_type (param 0 T)) b o)) (block_glue T 𝓛 b o) $ move t (0 ∷ 1 ∷ []) $ fjoin t $
        nothing t $ move t (2 ∷ 0 ∷ []) $ fjoin t $ feq_i t (List Val) (vptr b o ∷ []) (vptr b o ∷ []) refl $
        fjoin t $ feq_i t (List Val) (v ∷ []) (v ∷ []) refl $ fjoin t $
        fpack t (Valss (RawPtr ∷ Heap ∷ []))
        (within (shape (room.the_type B Heap ghosts)) (block_ptr b o, (a, tt)) (v ∷ []))
        (vptr b o ∷ [], (h ∷ [], tt)) $ fjoin t $ s)
