use Rattle.suite_reading.proofs.Deciding.{decided}
use Rattle.suite_reading.proofs.laws.reading_is_one.Goals as goal

pub returns : goal.returns
returns c = decided
