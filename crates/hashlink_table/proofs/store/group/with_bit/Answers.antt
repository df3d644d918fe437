use Rattle.std.proofs.Common.{w16, ◌∙◌, sym, ap, cond}
use Rattle.std.proofs.lemmas.Nat.Bits.{bit_at_set_same, bit_at_set_other, bit_at_clear_same}
use Rattle.std.proofs.lemmas.Nat.Bits.{bit_at_clear_other}
use Rattle.hashlink_table.proofs.store.group.with_bit.Goals as goal

pub returns-then-on-clause-same : goal.returns-then-on-clause-same
returns-then-on-clause-same c =
    bit_at_set_same w16 c.args.bits c.args.at c.requires ∙ ap (λ b. cond b 1 0) (sym c.if-on.true)

pub returns-then-on-clause-others : goal.returns-then-on-clause-others
returns-then-on-clause-others c = λ i low ne. bit_at_set_other w16 c.args.bits c.args.at c.requires i ne

pub returns-else-on-clause-same : goal.returns-else-on-clause-same
returns-else-on-clause-same c =
    bit_at_clear_same w16 c.args.bits c.args.at c.requires ∙ ap (λ b. cond b 1 0) (sym c.if-on.false)

pub returns-else-on-clause-others : goal.returns-else-on-clause-others
returns-else-on-clause-others c = λ i low ne. bit_at_clear_other w16 c.args.bits c.args.at c.requires i low ne
