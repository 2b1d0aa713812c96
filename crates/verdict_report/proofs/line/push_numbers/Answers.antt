use Rattle.std.proofs.Common.{pos, arith, ℤ}
use Rattle.std.proofs.lemmas.Int.{to_z-of_z}
use Rattle.strict_lines.specs.Lines.{Number}
use Rattle.verdict_report.proofs.Lines.{pushes_more, tail_more}
use Rattle.verdict_report.proofs.line.push_numbers.Goals as goal

pub loop-value-preserved : goal.loop-value-preserved
loop-value-preserved c = record {
  pushes = pushes_more c.loop-value.invariant.pushes c.push_number.ensures.pushes
      (let e = tail_more (λ (z : ℤ). Number z) c.args.values.now c.loop-value.value-index (pos 0) c.loop-value-test.true in grind (arith, to_z-of_z, e));
  short = omega (arith, c.push_number.ensures.short);
}
