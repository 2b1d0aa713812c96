use Rattle.command_stages.proofs.Lines.{ArePut}
use Rattle.class_stages.specs.Text.{class_line}
use Rattle.class_stages.proofs.printing.put_classes.Given as goal

abbrev pub invariant-lines : goal.invariant-lines
invariant-lines g l = ArePut class_line l.classes l.class-index (g.K.Sink.state l.fn.out) (g.K.Sink.state l.out)
