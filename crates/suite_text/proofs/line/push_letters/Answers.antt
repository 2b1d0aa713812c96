use Rattle.std.proofs.Common.{◌+◌, ◌∷◌, ◌<◌, ℕ, ap, length, get_or, pos, arith, subst, List}
use Rattle.std.specs.Fmt.{decimal}
use Rattle.suite_text.specs.inside.Lines.{Pushes}
use Rattle.strict_lines.specs.Lines.{Number}
use Rattle.suite_text.proofs.Lines.{pushes_more, tail_more}
use Rattle.suite_text.proofs.line.push_letters.Goals as goal

pub push_letter-requires-clause-step : goal.push_letter-requires-clause-step
push_letter-requires-clause-step c = omega (arith, ap length c.loop-step.invariant.pushes.letters)

pub push_letter-requires-clause-room : goal.push_letter-requires-clause-room
push_letter-requires-clause-room c = omega (arith, c.loop-step.invariant.pushes.room)

pub loop-step-preserved : goal.loop-step-preserved
loop-step-preserved c = record {
  pushes = (let inside : c.loop-step.step < length c.args.scratch.now.letters = omega arith in
      pushes_more c.loop-step.invariant.pushes (subst (λ (w : List ℕ). Pushes c.loop-step.scratch c.push_letter.new.scratch (32 ∷ decimal (get_or w c.loop-step.step 0 + 1))) c.loop-step.invariant.pushes.letters c.push_letter.ensures.pushes) (tail_more (λ (a : ℕ). Number (pos (a + 1))) c.args.scratch.now.letters c.loop-step.step 0 inside));
  short = omega (arith, c.push_letter.ensures.short);
}
