use Rattle.std.{proofs.Common.{◌<◌, ap, length, rules, ◌∙◌}, specs.Io.BufRead.strip_last}
use Rattle.std.specs.Io.KnownBytes.{IsAtEnd}
use Rattle.misscurve.proofs.Lines.{Reads-all, Reads-end, Reads-line, Reads-none}
use Rattle.misscurve.proofs.trace.curve_of.Goals as goal

pub loop-count-init : goal.loop-count-init
loop-count-init g c =
    Reads-none c.args.parts (g.B.Read.remaining c.args.reader.now) c.with_hasher-curve.result
    c.with_hasher-curve.ensures

pub returns-then-not-branch-clause-counted : goal.returns-then-not-branch-clause-counted
returns-then-not-branch-clause-counted g c =
    let left = g.B.Read.remaining c.loop-count.reader in
    let end : IsAtEnd left = search rules in
    Reads-all c.args.parts (g.B.Read.remaining c.args.reader.now) left c.loop-count.curve end
    c.loop-count.invariant

pub returns-then-not-branch-clause-end : goal.returns-then-not-branch-clause-end
returns-then-not-branch-clause-end g c =
    let left = g.B.Read.remaining c.loop-count.reader in
    let end : IsAtEnd left = search rules in
    Reads-end c.args.parts (g.B.Read.remaining c.args.reader.now) left
    (g.B.Read.remaining c.read_line.new.reader) c.loop-count.curve end c.in_ok-read_line.ensures.rest
    c.loop-count.invariant

pub loop-count-preserved : goal.loop-count-preserved
loop-count-preserved g c =
    let left = g.B.Read.remaining c.loop-count.reader in
    let some : 0 < length c.read_line.new.line.items = search rules in
    Reads-line c.args.parts (g.B.Read.remaining c.args.reader.now) left
    (g.B.Read.remaining c.read_line.new.reader) c.loop-count.curve c.record.new.curve
    c.read_line.new.line.items c.without_end.result.now
    c.in_ok-read_line.ensures.read c.in_ok-read_line.ensures.rest some
    (c.without_end.ensures ∙ ap (strip_last 10) c.deref.ensures.value) c.in_ok-record.ensures
    c.loop-count.invariant
