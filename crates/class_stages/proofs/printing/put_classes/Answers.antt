use Rattle.std.proofs.Common.{ap}
use Rattle.command_stages.proofs.Lines.{lines_fail}
use Rattle.class_stages.specs.Text.{class_line}
use Rattle.class_stages.proofs.printing.put_classes.Goals as goal

pub returns-in-Err : goal.returns-in-Err
returns-in-Err g c = lines_fail class_line c.args.classes.now c.lines.class-index c.class-item.result c.lines-test.true c.lines.invariant
    (rw (ap class_line c.class-item.is) at (rw (c.bytes.ensures, c.set_class.ensures) at c.in-Err.ensures.put))
