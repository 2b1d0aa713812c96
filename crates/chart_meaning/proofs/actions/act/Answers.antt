use Rattle.std.proofs.Common.{◌≡◌, Some, ◌∙◌, sym, arith, w64, FitsSigned, ap}
use Rattle.std.specs.Prelude.{slice_get}
use Rattle.std.proofs.lemmas.Int.{to_z-of_z}
use Rattle.std.proofs.lemmas.Option.{slice_get-get_or}
use Rattle.chart_model.specs.Chart.{IsMemory}
use Rattle.chart_meaning.specs.IsConfiguration.{IsInMemory}
use Rattle.chart_meaning.proofs.Acting.{AreWithin-padded, act-memory, act-output, AreValues-memory, length-AllZip, declared_memory, All_found}
use Rattle.chart_meaning.proofs.actions.act.Goals as goal

pub sum-value-requires-clause-small : goal.sum-value-requires-clause-small
sum-value-requires-clause-small c =
    rw c.memory.ensures (AreWithin-padded c.args.chart.now.memories c.args.config.now.memory
    c.args.chart.now.kept.ranges c.requires.values.memory)

pub set_memory-requires-clause-inside : goal.set_memory-requires-clause-inside
set_memory-requires-clause-inside c =
    let declared = declared_memory _ _ c.args.action.now.place c.in-Memory.number c.in-Memory.is c.requires.action.place in
    let same = length-AllZip IsInMemory c.args.chart.now.memories c.args.config.now.memory c.requires.values.memory in
    omega arith

-- the memory that is assigned
found : (c : goal.After-nearest) → slice_get c.args.chart.now.memories c.in-Memory.number ≡ Some c.index-as_slice-number.result
found c =
    let declared = declared_memory _ _ c.args.action.now.place c.in-Memory.number c.in-Memory.is c.requires.action.place in
    let is = rw c.as_slice.ensures at c.index-as_slice-number.is in
    slice_get-get_or c.args.chart.now.memories c.in-Memory.number c.index-as_slice-number.result declared ∙ ap Some (sym is)

pub returns-in-Memory-clause-act : goal.returns-in-Memory-clause-act
returns-in-Memory-clause-act c =
    let wide : FitsSigned w64 c.sum-value.result = record { sfits = c.sum-value.type_inv } in
    let near : FitsSigned w64 c.nearest.result = record { sfits = c.nearest.type_inv } in
    let value = simp to_z-of_z at c.nearest.ensures.value in
    let set = simp to_z-of_z at c.set_memory.ensures in
    let sum = rw c.memory.ensures at c.sum-value.ensures.value in
    rw (set, value) (sym (act-memory c.args.chart.now.memories c.args.action.now c.args.config.now c.in-Memory.number
    c.index-as_slice-number.result c.sum-value.result c.in-Memory.is (found c.before) sum))

pub returns-in-Memory-clause-values : goal.returns-in-Memory-clause-values
returns-in-Memory-clause-values c =
    let wide : FitsSigned w64 c.sum-value.result = record { sfits = c.sum-value.type_inv } in
    let near : FitsSigned w64 c.nearest.result = record { sfits = c.nearest.type_inv } in
    let value = simp to_z-of_z at c.nearest.ensures.value in
    let set = simp to_z-of_z at c.set_memory.ensures in
    let f = found c.before in
    let m = All_found IsMemory c.args.chart.now.memories c.in-Memory.number c.index-as_slice-number.result c.args.chart.now.kept.ranges f in
    rw (set, value) (AreValues-memory c.args.chart.now c.args.config.now c.in-Memory.number
    c.index-as_slice-number.result c.sum-value.result f m c.requires.values)

pub returns-in-Output-clause-act : goal.returns-in-Output-clause-act
returns-in-Output-clause-act c =
    let wide : FitsSigned w64 c.sum-value.result = record { sfits = c.sum-value.type_inv } in
    let set = simp to_z-of_z at c.set_output.ensures in
    let sum = rw c.memory.ensures at c.sum-value.ensures.value in
    rw set (sym (act-output c.args.chart.now.memories c.args.action.now c.args.config.now c.in-Output.number c.sum-value.result c.in-Output.is sum))
