-- The types that a raw entry's pair has on its way to the caller, each with its laws.
use Rattle.hashlink_map.proofs.Names.{[], ◌∷◌, refl, Lft, named, param, Laws, param_laws, of_field}
use Rattle.hashlink_map.proofs.Names.{row_shared, copy_shared, mut_ref_shared, RattleType, NamedLft, MutRef}
use Rattle.hashlink_map.proofs.Names.{ShrRef, shr_ref_laws, shr_ref_copy, mut_ref_laws, Tuple, tuple_laws}
use Rattle.std.specs.contracts.result.Result as result
use Rattle.std.proofs.result.Result.TheLaws as result_laws
use Rattle.hashlink_core.specs.contracts.Node as node
use Rattle.hashlink_core.proofs.Node.TheLaws as node_laws
use Rattle.hashlink_map.specs.contracts.as_node.NodeAsNode.TheImpl
use Rattle.hashlink_map.specs.contracts.raw_entry.occupied.RawOccupiedEntryMut as entry
use Rattle.hashlink_map.specs.contracts.raw_entry.RawEntryMut as found
use Rattle.hashlink_map.specs.contracts.raw_entry.vacant.RawVacantEntryMut as vacant
use Rattle.hashlink_map.proofs.raw_entry.RawEntryMut.TheLaws as place_laws
use Rattle.hashlink_map.proofs.raw_entry.occupied.RawOccupiedEntryMut.TheLaws as entry_laws
use Rattle.hashlink_map.proofs.raw_entry.vacant.RawVacantEntryMut.TheLaws as empty_laws
use denote.Struct.Field.{shr_ref_field, mut_ref_field}
use Rattle.hashlink_map.specs.Bounds.{EqGhosts, HashGhosts, HasherGhosts, BuilderGhosts}

abbrev at_lft : Lft → NamedLft
at_lft κ = record { mir = named 0; lft = κ }

abbrev pub key_laws : (K : RattleType) → Laws K → (κ : Lft) → Laws (ShrRef (named 0) κ (param 0 K))
key_laws K LK κ =
    of_field (shr_ref_field (at_lft κ) (param 0 K) tt) (shr_ref_laws (at_lft κ) (param 0 K) tt) refl
    (copy_shared (shr_ref_field (at_lft κ) (param 0 K) tt)
    (shr_ref_copy (at_lft κ) (param 0 K) tt (param_laws 0 K LK).shr_laws))

module _ (K V : RattleType) (LK : Laws K) (LV : Laws V) where
  abbrev pub Given : RattleType
  Given = Tuple (param 0 K ∷ param 1 V ∷ [])

  abbrev pub given_laws : Laws Given
  given_laws = tuple_laws (param 0 K ∷ param 1 V ∷ []) (param_laws 0 K LK, (param_laws 1 V LV, tt))

  module _ (κ : Lft) where
    abbrev pub Lent : RattleType
    Lent = Tuple (ShrRef (named 0) κ (param 0 K) ∷ MutRef (named 0) κ (param 1 V) ∷ [])

    abbrev pub lent_laws : Laws Lent
    lent_laws =
        tuple_laws (ShrRef (named 0) κ (param 0 K) ∷ MutRef (named 0) κ (param 1 V) ∷ []) (
          key_laws K LK κ,
          (
            of_field (mut_ref_field (at_lft κ) (param 1 V) tt) (mut_ref_laws (at_lft κ) (param 1 V) tt) refl
                (mut_ref_shared (at_lft κ) (param 1 V) tt (row_shared (param 1 V) (param_laws 1 V LV))),
            tt,
          ),
        )

    abbrev pub Answer : RattleType
    Answer = result.the_row Lent Given

    abbrev pub answer_laws : Laws Answer
    answer_laws = result_laws.the_row_laws Lent Given lent_laws given_laws

    module _ (S T : RattleType) (LS : Laws S) (LT : Laws T) (p : EqGhosts K.Denot) (h : HashGhosts K.Denot)
        (b : BuilderGhosts S.Denot T.Denot) (w : HasherGhosts T.Denot) where
      abbrev pub Held : RattleType
      Held =
          entry.the_row (at_lft κ) (param 0 K) (param 1 V) (param 2 S) node.the_row
          (param 3 T) p h b w TheImpl.ghosts

      abbrev pub held_laws : Laws Held
      held_laws =
          entry_laws.the_row_laws (at_lft κ) (param 0 K) (param 1 V) (param 2 S) node.the_row
          (param 3 T) p h b w
          TheImpl.ghosts (param_laws 0 K LK) (param_laws 1 V LV) (param_laws 2 S LS) node_laws.the_row_laws
          (param_laws 3 T LT)

      abbrev pub Entered : RattleType
      Entered = result.the_row Held Given

      abbrev pub entered_laws : Laws Entered
      entered_laws = result_laws.the_row_laws Held Given held_laws given_laws

      abbrev pub Vacant : RattleType
      Vacant = vacant.the_row (at_lft κ) (param 0 K) (param 1 V) (param 2 S) (param 3 T) p h b w

      abbrev pub vacant_laws : Laws Vacant
      vacant_laws =
          empty_laws.the_row_laws (at_lft κ) (param 0 K) (param 1 V) (param 2 S) (param 3 T) p h b w
          (param_laws 0 K LK)
          (param_laws 1 V LV) (param_laws 2 S LS) (param_laws 3 T LT)

      abbrev pub Found : RattleType
      Found = found.the_row (at_lft κ) (param 0 K) (param 1 V) (param 2 S) (param 3 T) p h b w

      abbrev pub found_laws : Laws Found
      found_laws =
          place_laws.the_row_laws (at_lft κ) (param 0 K) (param 1 V) (param 2 S) (param 3 T) p h b w
          (param_laws 0 K LK)
          (param_laws 1 V LV) (param_laws 2 S LS) (param_laws 3 T LT)
