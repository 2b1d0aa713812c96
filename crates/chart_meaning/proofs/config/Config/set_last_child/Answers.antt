use Rattle.std.proofs.Common.{ap, take}
use Rattle.chart_meaning.proofs.Storing.{children-set}
use Rattle.chart_meaning.proofs.config.Config.set_last_child.Goals as goal

pub returns : goal.returns
returns c =
    let s = c.self.inside in
    rw (← c.self.view_is)
    (ap (λ l. record {
      leaf = s.leaf;
      memory = take s.memory_count s.memory;
      outputs = take s.output_count s.outputs;
      last = l;
    })
    (children-set s.state_count s.last c.args.state c.args.child))
