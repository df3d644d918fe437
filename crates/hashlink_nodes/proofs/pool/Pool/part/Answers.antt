use Rattle.std.proofs.Common.{map, rules}
use Rattle.hashlink_nodes.proofs.{Names.{keys_of, pair_of, ap}, Chains.{are_found, parts, taken_out}}
use Rattle.hashlink_nodes.proofs.pool.Pool.part.Goals as goal

pub part-requires : goal.part-requires
part-requires g c κs within =
    let path = c.requires.1.1.0 in
    (search rules, are_found (keys_of g.entries) c.args.self.now.arena.blocks path.apart path.there)

pub invariant_of-result : goal.invariant_of-result
invariant_of-result g c =
    (taken_out c.args.self.now.arena.blocks c.part.result.blocks c.args.self.now.writes.count g.entries
    c.requires.1.1.0 c.requires.1.1.1 c.part.ensures.parted).whole

pub returns-clause-pairs : goal.returns-clause-pairs
returns-clause-pairs g c =
    ap (map (λ e. pair_of e.1))
    (taken_out c.args.self.now.arena.blocks c.part.result.blocks c.args.self.now.writes.count
    {count' = c.new.result.count} g.entries c.requires.1.1.0 c.requires.1.1.1 c.part.ensures.parted).is

pub returns-clause-left : goal.returns-clause-left
returns-clause-left g c =
    let path = c.requires.1.1.0 in let bs = c.args.self.now.arena.blocks in
    parts (keys_of g.entries) bs c.part.new.self.blocks c.args.self.now.writes.count
    (are_found (keys_of g.entries) bs path.apart path.there) c.part.ensures.left
