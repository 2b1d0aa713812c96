use Rattle.std.proofs.Common.{take, map, ap}
use Rattle.chart_meaning.specs.Same.{child_of}
use Rattle.chart_meaning.proofs.Storing.{narrow-set}
use Rattle.chart_meaning.proofs.config.Config.set_memory.Goals as goal

pub returns : goal.returns
returns c =
    let s = c.self.inside in
    rw (← c.self.view_is)
    (ap (λ l. record {
      leaf = s.leaf;
      memory = l;
      outputs = take s.output_count s.outputs;
      last = map child_of (take s.state_count s.last);
    })
    (narrow-set s.memory_count s.memory c.args.number c.args.value c.requires.small))
