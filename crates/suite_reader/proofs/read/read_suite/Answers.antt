use Rattle.std.proofs.Common.{sym, subst, arith, ◌<◌, ◌≤◌, length}
use Rattle.suite_reader.specs.Errors.{IsRefusedBy}
use Rattle.suite_reader.proofs.SoFar.{kept_so_far, goes, refused_at_line, refused_at_end}
use Rattle.suite_reader.proofs.read.read_suite.Goals as goal

pub suite_at_end-requires : goal.suite_at_end-requires
suite_at_end-requires c = kept_so_far c.args.text.now c.lines.from c.lines.line c.lines.reader c.lines.invariant

pub returns-then-end-text-clause-refused : goal.returns-then-end-text-clause-refused
returns-then-end-text-clause-refused c =
    refused_at_end c.args.text.now c.lines.from c.lines.line c.next_byte-end.result c.lines.reader c.lines.invariant c.next_byte-end.ensures c.if-end-text.true c.suite_at_end.result c.suite_at_end.ensures

pub take_line-requires : goal.take_line-requires
take_line-requires c = kept_so_far c.args.text.now c.lines.from c.lines.line c.lines.reader c.lines.invariant

pub returns-in-Err-take_line-clause-refused : goal.returns-in-Err-take_line-clause-refused
returns-in-Err-take_line-clause-refused c =
    let inside : c.next_byte-end.result < length c.args.text.now = (let up : c.next_byte-end.result ≤ length c.args.text.now = c.next_byte-end.ensures.upto in omega (arith, up, c.if-end-text.false)) in
    subst (IsRefusedBy c.args.text.now) (sym c.refused.ensures)
    (refused_at_line c.args.text.now c.lines.from c.lines.line c.next_byte-end.result c.lines.reader c.take_line.new.reader c.lines.invariant c.next_byte-end.ensures inside c.in-Err-take_line.error c.in-Err-take_line.ensures)

pub lines-preserved : goal.lines-preserved
lines-preserved c =
    let inside : c.next_byte-end.result < length c.args.text.now = (let up : c.next_byte-end.result ≤ length c.args.text.now = c.next_byte-end.ensures.upto in omega (arith, up, c.if-end-text.false)) in
    goes c.args.text.now c.lines.from c.lines.line c.next_byte-end.result c.lines.reader c.take_line.new.reader c.lines.invariant c.next_byte-end.ensures inside c.in-Ok-take_line.ensures
