use Rattle.suite_reading.proofs.Whole.{reads_text}
use Rattle.suite_reading.proofs.laws.text_read_is_printed.Goals as goal

pub returns : goal.returns
returns c = reads_text
