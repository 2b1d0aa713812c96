-- What `split` answers. Each answer has its cause, and excludes the causes of the others.
use Rattle.std.specs.Prelude.{◌≡◌, ℤ, List}
use Rattle.input_classes.specs.Partition.{Partition, HasMorePatterns}
use Rattle.lin_form.specs.declared.atom.Atom.{Atom}
use Rattle.lin_form.specs.declared.literal.Literal.{Literal}
use Rattle.linear_refuter.specs.Answer.{HasNone}
use Rattle.linear_refuter.specs.Refutation.{IsRefutation, plain}
use Rattle.linear_refuter.specs.declared.tree.Tree.{Tree}
use Rattle.class_split.specs.ExactPartition.{IsExactPartition}
use Rattle.class_split.specs.declared.splitting.SplitError.{SplitError}
use Rattle.class_split.specs.declared.splitting.SplitError.TheVariants.{TooMany, NoInput, Memory}

-- the partition by these atoms, ranges and assumed literals: their box has a vector, and at most 4,096 patterns
pub record IsPartitionOf (atoms : List Atom) (ranges : List (ℤ × ℤ)) (assumed : List Literal) (r : Partition)
    : Type 0 where
  pub same_atoms : r.atoms ≡ atoms
  pub same_ranges : r.ranges ≡ ranges
  pub same_assumed : r.assumed ≡ assumed
  pub exact : IsExactPartition r
  pub not_many : HasMorePatterns 4096 atoms ranges assumed → ⊥
  pub some : HasNone assumed ranges → ⊥

-- the box has no vector, and a refutation says so
pub record IsEmptyBox (ranges : List (ℤ × ℤ)) (assumed : List Literal) (tree : Tree) : Type 0 where
  pub refuted : IsRefutation assumed ranges (plain tree)
  pub none : HasNone assumed ranges

-- why there is no partition
abbrev pub IsSplitFault : List Atom → List (ℤ × ℤ) → List Literal → SplitError → Type 0
IsSplitFault atoms ranges assumed TooMany = HasMorePatterns 4096 atoms ranges assumed
IsSplitFault atoms ranges assumed (NoInput tree) = IsEmptyBox ranges assumed tree
IsSplitFault atoms ranges assumed Memory = Unit {0}
