-- `pair_mut` lends the pair of one block for writing, and the arena follows it.
use Rattle.hashlink_nodes.proofs.Names
use Names.{◌≡◌, ◌∙◌, [], ◌∷◌, refl, sym, ap, Some, IsSome, lookup, full_share, a_type, id⊢, fsep}
use Names.{‵, ◌$◌, ◌∵◌, !, qed, move, join, fsplit, fjoin, rewrite, done, follows, RattleType, lies_at, param}
use Names.{Ptr, layouts, usize, block_owns, is_small, deed_owns, number_of, links_of, pair_offset}
use Names.{Links, altered, kept, entry_in, with_pair, same_node, pair_place, mut, arena_row}
use Rattle.hashlink_nodes.proofs.{ArenaBlocks.found_entry, ArenaSteps.states, ArenaLends.lent}
use Rattle.hashlink_nodes.specs.contracts.arena.Arena.pair_mut as F
use Rattle.hashlink_nodes.proofs.arena.Arena.pair_mut.Statement.{statement}
use Rattle.hashlink_nodes.proofs.arena.Arena.pair_mut.Code as code

pub pair_mut_spec : {M : Type 1} → statement M
pair_mut_spec 𝓤 𝓛 𝓜 𝓡 wired T L =
    let R : RattleType = param 0 T in let inst = layouts (a_type ∷ []) (T, tt) in
    lent 𝓤 𝓛 𝓜 𝓡 T R tt (pair_offset R) (F.Key.name inst) mut 0 (code.unfolded 𝓤 𝓛.H 𝓜 𝓡 wired (T, tt))
    (F.clauses T 𝓛 𝓜.mem 𝓡.returns) refl
    (record {
      change = with_pair;
      Asked = λ a n. IsSome (entry_in (lookup (same_node n) a.blocks));
      asks = λ z. id⊢ 𝓤 _;
      block = λ a n asked. let k = found_entry _ asked in (k.0, k.2);
      held = λ a n asked. let at_n = found_entry _ asked in let k = at_n.0 in let e = at_n.1 in
          let to : (w : T.Denot) → with_pair w k ≡ kept k.links (Some (e.0, w))
          = λ w. ap (λ x. with_pair w (kept k.links x)) at_n.3 in
          let rest = λ (p : Ptr).
          fsep (fsep (is_small R (Some e)) (lies_at usize full_share (number_of R p) e.0))
          (fsep (lies_at Links full_share (links_of R p) k.links) (deed_owns R p)) in
          record {
            part = e.1;
            rest = rest;
            out = qed 𝓛 (‵ (block_owns R n.at k) ∷ []) ∵
                rewrite ! 0 (λ x. ‵ (block_owns R n.at (kept k.links x))) at_n.3 refl $ fsplit ! $ join ! $
                done !;
            back = λ w. qed 𝓛 (‵ (lies_at R full_share (pair_place R n.at) w) ∷ ‵ (rest n.at) ∷ []) ∵
                fjoin ! $
                rewrite ! 0 (λ x. ‵ (block_owns R n.at x)) (sym (to w)) refl $ done !;
          };
      says = λ z asked r is. qed 𝓛 (‵ (follows (arena_row R) R z.0.3.0.ghost_name r.ghost_name
          (λ w. altered z.0.3.0.now z.0.3.1.0 (with_pair w))) ∷ []) ∵
          states ! ((found_entry _ asked).4 ∙ ap Some (sym is)) $ move ! (1 ∷ 0 ∷ []) $ join ! $ done !;
    })
