use Rattle.std.proofs.Common.{subst}
use Rattle.input_classes.specs.Partition.{Covers}
use Rattle.input_classes.specs.VectorSet.{Box}
use Rattle.input_classes.proofs.CallerLemmas.{partition-covers}
use Rattle.subject.proofs.laws.partition_covers_the_box.Goals as goal

pub returns : goal.returns
returns g c = λ r h ranges. subst (λ ranges. Covers (Box ranges r.assumed) r) ranges (partition-covers r h)
