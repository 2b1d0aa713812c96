use Rattle.std.proofs.Common.{arith, ◌∙◌}
use Rattle.linear_refuter.proofs.CallerLemmas.{within_width}
use Rattle.witness_pick.proofs.Limits.{IsLeast-flat, IsNarrowed-start, IsNarrowed-tight, room_within}
use Rattle.witness_pick.proofs.narrowing.least_from.Goals as goal

pub loop-variable-init : goal.loop-variable-init
loop-variable-init c =
    let t = c.tight-limits.ensures in (
      within_width c.tight-limits.result c.args.part.now t.within,
      IsNarrowed-tight c.args.literals.now c.args.part.now c.args.part.now c.tight-limits.result c.args.vector t
          (IsNarrowed-start c.args.literals.now c.args.part.now c.args.vector c.requires.inside c.requires.said),
    )

pub tight-limits-requires-in-Some : goal.tight-limits-requires-in-Some
tight-limits-requires-in-Some c =
    let s = c.step_of-step.ensures in
    let width = s.width ∙ c.loop-variable.invariant.0 in
    rw width c.requires.shaped

pub loop-variable-preserved : goal.loop-variable-preserved
loop-variable-preserved c =
    let s = c.step_of-step.ensures in
    let t = c.tight-limits-in-Some.ensures in (
      within_width c.tight-limits-in-Some.result c.step_of-step.result.limits t.within ∙ s.width ∙ c.loop-variable.invariant.0,
      IsNarrowed-tight c.args.literals.now c.args.part.now c.step_of-step.result.limits c.tight-limits-in-Some.result c.step_of-step.result.found t
          (s.keeps c.args.part.now c.loop-variable.invariant.1),
    )

pub loop-variable-smaller : goal.loop-variable-smaller
loop-variable-smaller c =
    let s = c.step_of-step.ensures in
    let t = c.tight-limits-in-Some.ensures in
    let n = s.keeps c.args.part.now c.loop-variable.invariant.1 in
    let k = room_within c.tight-limits-in-Some.result c.step_of-step.result.limits c.step_of-step.result.found t.within (t.keeps _ n.inside n.said) in
    omega (arith, s.smaller)

pub returns : goal.returns
returns c = IsLeast-flat c.args.literals.now c.args.part.now c.loop-variable.limits c.loop-variable.found c.in_default.ensures c.loop-variable.invariant.1
