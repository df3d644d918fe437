use Rattle.std.proofs.Common.{ap}
use Rattle.hashlink_text.proofs.pair_text.run_pair_lines.Goals as goal

pub returns : goal.returns
returns c =
    let small = c.new-small.ensures in
    let large = c.new-large.ensures in
    rw (
      ap (λ s. s.cap) small,
      ap (λ s. s.cap) large,
      ap (λ s. s.map.entries) small,
      ap (λ s. s.map.entries) large,
    ) at c.answer_all.ensures
