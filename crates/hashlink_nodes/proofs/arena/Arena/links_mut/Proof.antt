-- `links_mut` lends the links of one block for writing, and the arena follows them.
use Rattle.hashlink_nodes.proofs.Names
use Names.{◌∙◌, [], ◌∷◌, refl, sym, ap, Some, IsSome, lookup, full_share, a_type, id⊢, fsep, ‵, ◌$◌, ◌∵◌, ! }
use Names.{qed, move, join, fsplit, fsplit3, fjoin, fjoin3, done, follows, RattleType, lies_at, param}
use Names.{Ptr, layouts, option_map, usize, block_owns, pair_owns, is_small, deed_owns, number_of, links_of}
use Names.{links_offset, Links, altered, Kept, with_links, number_word, same_node, mut, arena_row}
use Rattle.hashlink_nodes.proofs.{ArenaBlocks.found, ArenaSteps.states, ArenaLends.lent}
use Rattle.hashlink_nodes.specs.contracts.arena.Arena.links_mut as F
use Rattle.hashlink_nodes.proofs.arena.Arena.links_mut.Statement.{statement}
use Rattle.hashlink_nodes.proofs.arena.Arena.links_mut.Code as code

pub links_mut_spec : {M : Type 1} → statement M
links_mut_spec 𝓤 𝓛 𝓜 𝓡 wired T L =
    let R : RattleType = param 0 T in let inst = layouts (a_type ∷ []) (T, tt) in
    lent 𝓤 𝓛 𝓜 𝓡 T Links tt (links_offset R) (F.Key.name inst) mut 2 (code.unfolded 𝓤 𝓛.H 𝓜 𝓡 wired (T, tt))
    (F.clauses T 𝓛 𝓜.mem 𝓡.returns) refl
    (record {
      change = with_links;
      Asked = λ a n. IsSome (lookup (same_node n) a.blocks);
      asks = λ z. id⊢ 𝓤 _;
      block = λ a n asked. found _ asked;
      held = λ a n asked. let k = (found _ asked).0 in
          let rest = λ (p : Ptr). fsep (deed_owns R p) (fsep (pair_owns R p k.entry)
          (fsep (is_small R k.entry) (lies_at usize full_share (number_of R p) (number_word k.entry)))) in
          record {
            part = k.links;
            rest = rest;
            out = qed 𝓛 (‵ (block_owns R n.at k) ∷ []) ∵ fsplit3 ! $ move ! (2 ∷ []) $ fsplit ! $
                move ! (2 ∷ 3 ∷ []) $ fjoin ! $ move ! (2 ∷ 0 ∷ []) $ fjoin ! $ move ! (1 ∷ 0 ∷ []) $ join !
                $ done !;
            back = λ w. qed 𝓛 (‵ (lies_at Links full_share (links_of R n.at) w) ∷ ‵ (rest n.at) ∷ []) ∵
                move ! (1 ∷ []) $ fsplit3 ! $ move ! (3 ∷ 0 ∷ []) $ fjoin ! $ move ! (1 ∷ 2 ∷ 0 ∷ []) $
                fjoin3 ! $ done !;
          };
      says = λ z asked r is. qed 𝓛 (‵ (follows (arena_row R) Links z.0.3.0.ghost_name r.ghost_name
          (λ w. altered z.0.3.0.now z.0.3.1.0 (with_links w))) ∷ []) ∵
          states ! (ap (option_map (λ (x : Kept T.Denot). x.links)) (found _ asked).1 ∙ ap Some (sym is)) $
          move ! (1 ∷ 0 ∷ []) $ join ! $ done !;
    })
