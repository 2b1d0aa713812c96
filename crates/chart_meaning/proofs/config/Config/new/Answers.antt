use Rattle.chart_meaning.proofs.Storing.{IsStored-new, seen-new}
use Rattle.chart_meaning.proofs.config.Config.new.Goals as goal

pub invariant_of-result : goal.invariant_of-result
invariant_of-result c =
    IsStored-new c.args.memory_count c.args.state_count c.args.outputs.now c.copy_from_slice.new.self
    c.no_children.result c.requires.memories c.requires.outputs c.requires.states c.copy_from_slice.ensures.after
    c.no_children.ensures

pub returns : goal.returns
returns c = seen-new c.args.memory_count c.args.state_count c.args.outputs.now c.copy_from_slice.new.self
    c.no_children.result c.requires.memories c.requires.states c.copy_from_slice.ensures.after c.no_children.ensures
