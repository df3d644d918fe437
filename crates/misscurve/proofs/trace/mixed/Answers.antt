use Rattle.std.{proofs.Common.{◌*◌, ◌%◌, ◌^◌, ap, sym, ◌∙◌, get_or, take_all}, specs.Prelude.fold}
use Rattle.std.proofs.lemmas.List.Sums.{fold_more}
use Rattle.misscurve.specs.Trace.{high_bits_down, multiplied}
use Rattle.misscurve.proofs.trace.mixed.Goals as goal

pub loop-byte-preserved : goal.loop-byte-preserved
loop-byte-preserved c =
    let key = c.args.key.now in
    let i = c.loop-byte.byte-index in
    ap (λ sum. multiplied sum (get_or key i 0)) c.loop-byte.invariant
    ∙ sym (fold_more multiplied 0xcbf2_9ce4_8422_2325 key i 0 c.loop-byte-test.true)

pub returns : goal.returns
returns c =
    let all = take_all c.loop-byte.byte-index c.args.key.now c.loop-byte-test.false in
    ap (λ sum. high_bits_down ((high_bits_down sum * 0xff51_afd7_ed55_8ccd) % 2 ^ 64))
    (c.loop-byte.invariant ∙ ap (fold multiplied 0xcbf2_9ce4_8422_2325) all)
