-- What a partition keeps in its type.
use Rattle.std.specs.Prelude.{◌≡◌, ◌<◌, ◌≤◌, ℤ, List, length}
use Rattle.std.specs.List.{All}
use Rattle.lin_form.specs.declared.atom.Atom.{Atom}
use Rattle.lin_form.specs.declared.literal.Literal.{Literal}
use Rattle.input_classes.specs.declared.class.Class.{Class}
use Rattle.input_classes.specs.Partition.{Partition, IsPartition}

abbrev pub partition_of : List Atom → List (ℤ × ℤ) → List Literal → List Class → Partition
partition_of atoms ranges assumed classes =
    record { atoms = atoms; ranges = ranges; assumed = assumed; classes = classes }

-- its classes are exactly those that the definition gives, at least one and at most 4,096 of them
pub record IsExactPartition (r : Partition) : Type 0 where
  pub exact : IsPartition r
  pub some : 0 < length r.classes
  pub few : length r.classes ≤ 4096
  pub shaped : All (λ atom. length atom.coefficients ≡ length r.ranges) r.atoms
  pub shaped_assumed : All (λ literal. length literal.atom.coefficients ≡ length r.ranges) r.assumed
  pub few_assumed : length r.assumed ≤ 32
