use Rattle.std.proofs.Common.{take, map, ap}
use Rattle.chart_meaning.specs.Same.{child_of}
use Rattle.chart_meaning.proofs.Storing.{wide-set}
use Rattle.chart_meaning.proofs.config.Config.set_output.Goals as goal

pub returns : goal.returns
returns c =
    let s = c.self.inside in
    rw (← c.self.view_is)
    (ap (λ l. record {
      leaf = s.leaf;
      memory = take s.memory_count s.memory;
      outputs = l;
      last = map child_of (take s.state_count s.last);
    })
    (wide-set s.output_count s.outputs c.args.number c.args.value c.ranges.value))
