use Rattle.input_classes.proofs.One.{one_partition}
use Rattle.input_classes.proofs.laws.partition_is_one.Goals as goal

pub returns : goal.returns
returns c = one_partition
