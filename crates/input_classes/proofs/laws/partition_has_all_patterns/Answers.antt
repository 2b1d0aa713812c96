use Rattle.input_classes.proofs.Few.{few_patterns}
use Rattle.input_classes.proofs.laws.partition_has_all_patterns.Goals as goal

pub returns : goal.returns
returns c = few_patterns
