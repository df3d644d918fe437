-- `number` lends the number of one block.
use Rattle.hashlink_nodes.proofs.Names
use Names.{◌^◌, ◌<◌, sym, subst, usize, [], ◌∷◌, refl, ap, IsSome, lookup, a_type, id⊢, ‵, ◌$◌, ◌∵◌, !, qed}
use Names.{move, keep, join, fsplit, fsplit3, use1, done, RattleType, param, layouts, option_map, Kept}
use Names.{entry_in, number_word, IfSome, block_lent, blocks_lent, number_offset, same_node, imm}
use Rattle.hashlink_nodes.specs.contracts.arena.Arena.number as F
use Rattle.hashlink_nodes.proofs.arena.Arena.number.Code as code
use Rattle.hashlink_nodes.{proofs.ArenaBlocks.{found, block_seen, small_seen}, proofs.ArenaSteps.states}
use Rattle.hashlink_nodes.{proofs.ArenaLends.shared, proofs.arena.Arena.number.Statement.statement}

pub number_spec : {M : Type 1} → statement M
number_spec 𝓤 𝓛 𝓜 𝓡 wired T L =
    let R : RattleType = param 0 T in let inst = layouts (a_type ∷ []) (T, tt) in
    shared 𝓤 𝓛 𝓜 𝓡 T usize tt (number_offset R) (F.Key.name inst) imm 1
    (code.unfolded 𝓤 𝓛.H 𝓜 𝓡 wired (T, tt)) (F.clauses T 𝓛 𝓜.mem 𝓡.returns) refl
    (record {
      Asked = λ a n. IsSome (lookup (same_node n) a.blocks);
      Seen = λ a n held. IfSome (found _ held).0.entry (λ x. x.0 < 2 ^ 48);
      part = λ a n held. number_word (found _ held).0.entry;
      asks = λ z. id⊢ 𝓤 _;
      shows = λ z held. let k = found _ held in let κ = z.0.0.0 in let n = z.0.3.1.0 in
          qed 𝓛 (‵ (blocks_lent R z.0.3.0.now.blocks κ) ∷ []) ∵
          use1 𝓛 (‵ (block_lent R n.at k.0 κ)) (block_seen R 𝓛 n κ z.0.3.0.now.blocks k.0 k.1) $ fsplit3 ! $
          move ! (1 ∷ []) $ fsplit ! $ small_seen R ! k.0.entry (λ small.
          states ! small $ move ! (1 ∷ 0 ∷ []) $ join ! $
          keep ! (0 ∷ []) $ done !);
      says = λ z held small at. let k = found _ held in qed 𝓛 [] ∵
          states ! (subst (λ o. IfSome (entry_in o) (λ x. x.0 < 2 ^ 48)) (sym k.1) small) $
          states ! (ap (option_map (λ (x : Kept T.Denot). number_word x.entry)) k.1) $ join ! $ done !;
    })
