-- `links` lends the links of one block.
use Rattle.hashlink_nodes.proofs.Names.{[], ◌∷◌, refl, ap, IsSome, lookup, a_type, emp, id⊢, ‵, ◌$◌, ◌∵◌, ! }
use Rattle.hashlink_nodes.proofs.Names.{qed, move, keep, join, fsplit3, use1, done, fact_i, RattleType, param}
use Rattle.hashlink_nodes.proofs.Names.{layouts, option_map, Kept, Links, block_lent, blocks_lent}
use Rattle.hashlink_nodes.proofs.{Names.{links_offset, same_node, imm}, ArenaBlocks.{found, block_seen}}
use Rattle.hashlink_nodes.proofs.{ArenaSteps.states, ArenaLends.shared, arena.Arena.links.Statement.statement}
use Rattle.hashlink_nodes.specs.contracts.arena.Arena.links as F
use Rattle.hashlink_nodes.proofs.arena.Arena.links.Code as code

pub links_spec : {M : Type 1} → statement M
links_spec 𝓤 𝓛 𝓜 𝓡 wired T L =
    let R : RattleType = param 0 T in let inst = layouts (a_type ∷ []) (T, tt) in
    shared 𝓤 𝓛 𝓜 𝓡 T Links tt (links_offset R) (F.Key.name inst) imm 2 (code.unfolded 𝓤 𝓛.H 𝓜 𝓡 wired (T, tt))
    (F.clauses T 𝓛 𝓜.mem 𝓡.returns) refl
    (record {
      Asked = λ a n. IsSome (lookup (same_node n) a.blocks);
      Seen = λ a n held. Unit {0};
      part = λ a n held. (found _ held).0.links;
      asks = λ z. id⊢ 𝓤 _;
      shows = λ z held. let k = found _ held in let κ = z.0.0.0 in let n = z.0.3.1.0 in
          qed 𝓛 (‵ (blocks_lent R z.0.3.0.now.blocks κ) ∷ []) ∵
          use1 𝓛 (‵ (block_lent R n.at k.0 κ)) (block_seen R 𝓛 n κ z.0.3.0.now.blocks k.0 k.1) $ fsplit3 ! $
          states ! {φ = Unit {0}} tt $ move ! (3 ∷ 0 ∷ []) $ join ! $
          keep ! (0 ∷ []) $ done !;
      says = λ z held seen at. fact_i 𝓤 _ (emp 𝓤)
          (ap (option_map (λ (x : Kept T.Denot). x.links)) (found _ held).1);
    })
