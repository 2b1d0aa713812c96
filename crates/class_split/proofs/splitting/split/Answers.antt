use Rattle.std.proofs.Common.{refl}
use Rattle.input_classes.specs.Partition.{Partition}
use Rattle.class_split.specs.ExactPartition.{partition_of}
use Rattle.class_split.proofs.Few.{has_vector, not_many}
use Rattle.class_split.proofs.splitting.split.Goals as goal

pub returns-in-Ok-TooMany : goal.returns-in-Ok-TooMany
returns-in-Ok-TooMany c = rw (c.in-Ok-TooMany.field-0-is, c.as_slice.ensures.value) at c.in-Ok-TooMany.ensures

pub returns-in-Ok-NoInput : goal.returns-in-Ok-NoInput
returns-in-Ok-NoInput c = rw (c.in-Ok-NoInput.field-0-is, c.as_slice.ensures.value) at c.in-Ok-NoInput.ensures

pub invariant_of-result : goal.invariant_of-result
invariant_of-result c = rw (c.in-Ok-Classes.field-0-is, c.as_slice.ensures.value) at c.in-Ok-Classes.ensures

pub returns-in-Ok-Classes : goal.returns-in-Ok-Classes
returns-in-Ok-Classes c =
    let e = rw (c.in-Ok-Classes.field-0-is, c.as_slice.ensures.value) at c.in-Ok-Classes.ensures in
    let r : Partition = partition_of c.args.atoms c.args.bounds c.args.assumed.items _ in
    record { same_atoms = refl; same_ranges = refl; same_assumed = refl; exact = e; not_many = not_many r e; some = has_vector r e }
