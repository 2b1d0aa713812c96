use Rattle.suite_reading.proofs.Printed.{printable_read}
use Rattle.suite_reading.proofs.laws.printed_is_read.Goals as goal

pub returns : goal.returns
returns c = printable_read
