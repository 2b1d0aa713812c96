use Rattle.input_classes.proofs.Witnesses.{partition-covers}
use Rattle.input_classes.proofs.laws.partition_covers_its_box.Goals as goal

pub returns : goal.returns
returns c = partition-covers
