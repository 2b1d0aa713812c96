use Rattle.std.proofs.Common.{◌≡◌, ◌∙◌, ◌+◌, ℕ, List, [], ap, arith, get_or, subst, take}
use Rattle.std.proofs.lemmas.List.{take_all}
use Rattle.test_world.specs.Sink.{Grows}
use Rattle.test_world.proofs.Growing.{grows_by_nothing}
use Rattle.suite_text.proofs.Growing.{cut_grows, cut_fails}
use Rattle.suite_text.proofs.Holding.{ends_rise, first_end, last_end}
use Rattle.suite_text.proofs.write.put_steps.Goals as goal

pub loop-step-init : goal.loop-step-init
loop-step-init g c =
    let none : take (get_or c.args.scratch.now.ends 0 0) c.args.scratch.now.line ≡ [] = ap (λ n. take n c.args.scratch.now.line) (first_end c.args.count c.args.scratch.now c.requires.steps) in
    record { upto = omega arith; taken = rw (none) (grows_by_nothing _); later = omega arith }

pub step_line-requires-clause-rising : goal.step_line-requires-clause-rising
step_line-requires-clause-rising g c = ends_rise c.args.count c.loop-step.step (c.loop-step.step + 1) c.args.scratch.now c.requires.steps (omega arith) (omega arith)

pub step_line-requires-clause-within : goal.step_line-requires-clause-within
step_line-requires-clause-within g c =
    let upto = ends_rise c.args.count (c.loop-step.step + 1) c.args.count c.args.scratch.now c.requires.steps (omega arith) (omega arith) in
    omega (arith, upto, last_end c.args.count c.args.scratch.now c.requires.steps)

pub loop-step-preserved : goal.loop-step-preserved
loop-step-preserved g c =
    let later = c.put_all.ensures.put.later in
    let rise = ends_rise c.args.count c.loop-step.step (c.loop-step.step + 1) c.args.scratch.now c.requires.steps (omega arith) (omega arith) in
    record {
      upto = omega arith;
      taken = cut_grows _ _ c.args.scratch.now.line _ _ _ rise c.loop-step.invariant.taken (rw (c.step_line.ensures) at c.in-Ok.ensures.put.put);
      later = omega (arith, later);
    }

pub returns-in-Err : goal.returns-in-Err
returns-in-Err g c =
    let rise = ends_rise c.args.count c.loop-step.step (c.loop-step.step + 1) c.args.scratch.now c.requires.steps (omega arith) (omega arith) in
    cut_fails _ _ c.args.scratch.now.line _ _ _ _ rise c.loop-step.invariant.taken c.loop-step.invariant.later (rw (c.step_line.ensures) at c.in-Err.ensures.put)

pub returns : goal.returns
returns g c =
    let past : c.loop-step.step ≡ c.args.count = omega arith in
    let all : take (get_or c.args.scratch.now.ends c.loop-step.step 0) c.args.scratch.now.line ≡ c.args.scratch.now.line =
    ap (λ n. take (get_or c.args.scratch.now.ends n 0) c.args.scratch.now.line) past ∙ take_all _ c.args.scratch.now.line (omega (arith, last_end c.args.count c.args.scratch.now c.requires.steps)) in
    record {
      put = subst (λ (x : List ℕ). Grows (g.K.Sink.state c.args.out.now) (g.K.Sink.state c.loop-step.out) x) all c.loop-step.invariant.taken;
      later = c.loop-step.invariant.later;
    }
