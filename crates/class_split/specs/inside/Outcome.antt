-- What is found out of a box.
use Rattle.std.specs.Prelude.{ℤ, List}
use Rattle.input_classes.specs.Partition.{HasMorePatterns}
use Rattle.lin_form.specs.declared.atom.Atom.{Atom}
use Rattle.lin_form.specs.declared.literal.Literal.{Literal}
use Rattle.class_split.specs.ExactPartition.{IsExactPartition, partition_of}
use Rattle.class_split.specs.Split.{IsEmptyBox}
use Rattle.class_split.specs.declared.splitting.Outcome.{Outcome}
use Rattle.class_split.specs.declared.splitting.Outcome.TheVariants.{Classes, TooMany, NoInput}

abbrev pub IsOutcome : List Atom → List (ℤ × ℤ) → List Literal → Outcome → Type 0
IsOutcome atoms ranges assumed (Classes classes) = IsExactPartition (partition_of atoms ranges assumed classes.items)
IsOutcome atoms ranges assumed TooMany = HasMorePatterns 4096 atoms ranges assumed
IsOutcome atoms ranges assumed (NoInput tree) = IsEmptyBox ranges assumed tree
