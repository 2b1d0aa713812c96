use Rattle.std.proofs.Common.{FitsSigned, w64, get_or, pos, ap, ◌∙◌, rules}
use Rattle.std.specs.Prelude.{flat_map}
use Rattle.std.proofs.lemmas.Int.{to_z-of_z}
use Rattle.std.proofs.lemmas.List.{take_all}
use Rattle.guard_atoms.specs.inside.Adding.{sums_from}
use Rattle.guard_atoms.proofs.Putting.{flat_more}
use Rattle.guard_atoms.proofs.constants.with_values.Goals as goal

pub loop-constant-preserved : goal.loop-constant-preserved
loop-constant-preserved c =
    let r = c.ranges.coefficient in
    let f : FitsSigned w64 (get_or c.args.constants.now c.loop-constant.constant-index (pos 0)) = search rules in
    let inv = simp to_z-of_z at c.loop-constant.invariant in
    let items = simp to_z-of_z at c.in_ok-add_sums.ensures in
    simp to_z-of_z (flat_more (sums_from c.args.coefficient c.args.memory.now) c.args.constants.now c.loop-constant.constant-index (pos 0) c.loop-constant.sums.items c.add_sums.new.sums.items c.loop-constant-test.true inv items)

pub returns : goal.returns
returns c =
    let r = c.ranges.coefficient in
    let inv = simp to_z-of_z at c.loop-constant.invariant in
    inv ∙ ap (flat_map (sums_from c.args.coefficient c.args.memory.now)) (take_all c.loop-constant.constant-index c.args.constants.now c.loop-constant-test.false)
