use Rattle.std.proofs.Common.{FitsSigned, rules, w64}
use Rattle.std.proofs.lemmas.Int.{to_z-of_z}
use Rattle.chart_meaning.proofs.Starting.{IsSettingInitial-more}
use Rattle.chart_meaning.proofs.start.set_initial.Goals as goal

pub loop-number-preserved : goal.loop-number-preserved
loop-number-preserved c =
    let wide : FitsSigned w64 c.index-memories-number.result.initial = search rules in
    let set = simp to_z-of_z at c.set_memory.ensures in
    IsSettingInitial-more c.args.memories.now c.args.config.now c.loop-number.config c.set_memory.new.self
    c.loop-number.number c.index-memories-number.result c.loop-number-test.true c.index-memories-number.is set
    c.loop-number.invariant
