use Rattle.subject.proofs.TwoClasses.{is_partition, assumed_is_partition, corner_covers_nothing}
use Rattle.subject.proofs.tests.definitions.classes_are_as_defined.Goals as goal

pub returns-clause-two : goal.returns-clause-two
returns-clause-two c = is_partition

pub returns-clause-assumed : goal.returns-clause-assumed
returns-clause-assumed c = assumed_is_partition

pub returns-clause-corner : goal.returns-clause-corner
returns-clause-corner c = corner_covers_nothing
