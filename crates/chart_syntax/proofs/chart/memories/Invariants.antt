use Rattle.std.proofs.Common.{◌≡◌, map, take}
use Rattle.chart_syntax.specs.Reading.{memory_of}
use Rattle.chart_syntax.proofs.chart.memories.Given as goal

abbrev pub invariant-memories : goal.invariant-memories
invariant-memories l = l.memories ≡ map memory_of (take l.form-index l.forms)
