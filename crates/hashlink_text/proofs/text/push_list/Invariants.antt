use Rattle.std.proofs.Common.{◌≡◌, ◌++◌, string_bytes}
use Rattle.hashlink_text.{specs.Transcript.{list_shown, pair_shown}, proofs.Lists.following_shown}
use Rattle.hashlink_text.proofs.text.push_list.Given as goal

abbrev pub invariant-loop-key : goal.invariant-loop-key
invariant-loop-key l = string_bytes l.out ++ following_shown pair_shown l.key-iterator
    ≡ string_bytes l.fn.out ++ list_shown l.fn.pairs
