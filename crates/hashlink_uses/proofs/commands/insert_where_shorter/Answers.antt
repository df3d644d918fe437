use Rattle.std.proofs.Common.{arith}
use Rattle.hashlink_uses.proofs.commands.insert_where_shorter.Goals as goal

pub unreachable-requires : goal.unreachable-requires
unreachable-requires g c =
    let some = c.in_ok-run.ensures.spare c.requires (omega arith) in
    let none = c.in-Err.ensures.inserts.may_refuse.no_spare in
    omega arith
