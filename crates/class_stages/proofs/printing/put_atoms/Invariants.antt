use Rattle.command_stages.proofs.Lines.{ArePut}
use Rattle.class_stages.specs.Text.{atom_line}
use Rattle.class_stages.proofs.printing.put_atoms.Given as goal

abbrev pub invariant-lines : goal.invariant-lines
invariant-lines g l = ArePut atom_line l.atoms l.atom-index (g.K.Sink.state l.fn.out) (g.K.Sink.state l.out)
