use Rattle.std.proofs.Common.{ap}
use Rattle.command_stages.proofs.Lines.{lines_fail}
use Rattle.class_stages.specs.Text.{atom_line}
use Rattle.class_stages.proofs.printing.put_atoms.Goals as goal

pub returns-in-Err : goal.returns-in-Err
returns-in-Err g c = lines_fail atom_line c.args.atoms.now c.lines.atom-index c.atom-item.result c.lines-test.true c.lines.invariant
    (rw (ap atom_line c.atom-item.is) at (rw (c.bytes.ensures, c.set_atom.ensures) at c.in-Err.ensures.put))
