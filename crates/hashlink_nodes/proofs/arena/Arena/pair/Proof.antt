-- `pair` lends the pair of one block.
use Rattle.hashlink_nodes.proofs.Names.{rewrite, [], ◌∷◌, refl, IsSome, lookup, a_type, emp, id⊢, ‵, ◌$◌, ◌∵◌}
use Rattle.hashlink_nodes.proofs.Names.{qed, !, move, keep, join, fsplit, use1, done, fact_i, RattleType}
use Rattle.hashlink_nodes.proofs.Names.{param, layouts, entry_in, block_lent, blocks_lent, pair_lent}
use Rattle.hashlink_nodes.proofs.{Names.{pair_offset, same_node, imm}, ArenaBlocks.{found_entry, block_seen}}
use Rattle.hashlink_nodes.proofs.{ArenaSteps.states, ArenaLends.shared, arena.Arena.pair.Statement.statement}
use Rattle.hashlink_nodes.specs.contracts.arena.Arena.pair as F
use Rattle.hashlink_nodes.proofs.arena.Arena.pair.Code as code

pub pair_spec : {M : Type 1} → statement M
pair_spec 𝓤 𝓛 𝓜 𝓡 wired T L =
    let R : RattleType = param 0 T in let inst = layouts (a_type ∷ []) (T, tt) in
    shared 𝓤 𝓛 𝓜 𝓡 T R tt (pair_offset R) (F.Key.name inst) imm 0 (code.unfolded 𝓤 𝓛.H 𝓜 𝓡 wired (T, tt))
    (F.clauses T 𝓛 𝓜.mem 𝓡.returns) refl
    (record {
      Asked = λ a n. IsSome (entry_in (lookup (same_node n) a.blocks));
      Seen = λ a n held. Unit {0};
      part = λ a n held. (found_entry _ held).1.1;
      asks = λ z. id⊢ 𝓤 _;
      shows = λ z held. let k = found_entry _ held in let κ = z.0.0.0 in let n = z.0.3.1.0 in
          qed 𝓛 (‵ (blocks_lent R z.0.3.0.now.blocks κ) ∷ []) ∵
          use1 𝓛 (‵ (block_lent R n.at k.0 κ)) (block_seen R 𝓛 n κ z.0.3.0.now.blocks k.0 k.2) $ fsplit ! $
          rewrite ! 0 (λ x. ‵ (pair_lent R n.at x κ)) k.3 refl $
          states ! {φ = Unit {0}} tt $ move ! (1 ∷ 0 ∷ []) $ join ! $
          keep ! (0 ∷ []) $ done !;
      says = λ z held seen at. fact_i 𝓤 _ (emp 𝓤) (found_entry _ held).4;
    })
