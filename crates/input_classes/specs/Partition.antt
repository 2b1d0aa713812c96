-- The input equivalence classes of a box, by the truths of atoms (Huang and Peleska), as plain data.
use Rattle.std.specs.Prelude.{◌≡◌, ℕ, ◌<◌, ℤ, Bool, List, length, map, Contains, Option, find, Some, IsSome, slice_get}
use Rattle.std.specs.List.{All}
use Rattle.std.specs.Cmp.Lexicographic.{pointwise}
use Rattle.std.specs.Option.{option_map_or}
use Rattle.std.proofs.Math.Bool.{beq}
use Rattle.lin_form.specs.declared.atom.Atom.{Atom}
use Rattle.lin_form.specs.declared.literal.Literal.{Literal}
use Rattle.lin_form.specs.Atom.{atom_truth}
use Rattle.input_classes.specs.declared.class.Class.{Class}
use Rattle.input_classes.specs.Order.{IsAtMost, AreAscending}
use Rattle.input_classes.specs.VectorSet.{VectorSet, Box, IsIn, IsInBox, Word}

-- a partition: its atoms, its ranges, its assumed literals, and its classes in order
pub record Partition : Type 0 where
  pub atoms : List Atom
  pub ranges : List (ℤ × ℤ)
  pub assumed : List Literal
  pub classes : List Class

-- the vectors that it divides: those of its ranges on which each assumed literal is as it says
abbrev pub box_of_partition : Partition → VectorSet
box_of_partition r = Box r.ranges r.assumed

-- the pattern of a vector: the truth of each atom on it
abbrev pub pattern_of : List Atom → List ℤ → List Bool
pattern_of atoms x = map (λ atom. atom_truth atom x) atoms

-- the vector is in the class: one of the set, with the pattern of the class
abbrev pub IsInClass : VectorSet → Partition → Class → List ℤ → Type 0
IsInClass s r c x = IsIn s x × (pattern_of r.atoms x ≡ c.pattern)

abbrev pub patterns : Partition → List (List Bool)
patterns r = map (λ (c : Class). c.pattern) r.classes

-- the witnesses of the classes, in order
abbrev pub witnesses : Partition → List (List ℤ)
witnesses r = map (λ (c : Class). c.witness) r.classes

-- the witness of a class is its least vector
pub record IsWitnessed (r : Partition) (c : Class) : Type 0 where
  pub member : IsInClass (box_of_partition r) r c c.witness
  pub least : (x : List ℤ) → IsInClass (box_of_partition r) r c x → IsAtMost c.witness x

-- the classes are the patterns that some vector of the box has, ascending, each with its least vector
pub record IsPartition (r : Partition) : Type 0 where
  pub ascending : AreAscending (patterns r)
  pub witnessed : All (IsWitnessed r) r.classes
  pub complete : (x : List ℤ) → IsIn (box_of_partition r) x → Contains (patterns r) (pattern_of r.atoms x)

-- vectors of the box of which no two have one pattern, more than n of them
pub record HasMorePatterns (n : ℕ) (atoms : List Atom) (ranges : List (ℤ × ℤ)) (assumed : List Literal) : Type 0 where
  pub vectors : List (List ℤ)
  pub more : n < length vectors
  pub inside : All (IsInBox ranges assumed) vectors
  pub different : (i j : ℕ) (x y : List ℤ) → slice_get vectors i ≡ Some x → slice_get vectors j ≡ Some y
      → pattern_of atoms x ≡ pattern_of atoms y → i ≡ j

-- the first class with the pattern of the vector
abbrev pub class_of : Partition → List ℤ → Option Class
class_of r x = find (λ (c : Class). pointwise beq c.pattern (pattern_of r.atoms x)) r.classes

-- the witness that stands for a vector: that of its class
abbrev pub witness_of : Partition → List ℤ → List ℤ
witness_of r x = option_map_or (λ (c : Class). c.witness) (class_of r x) x

-- the word of witnesses of a word
abbrev pub in_witnesses : Partition → Word → Word
in_witnesses r w = map (witness_of r) w

-- each vector of the set has a class, and each class has its witness in it
pub record Covers (s : VectorSet) (r : Partition) : Type 0 where
  pub classes : (x : List ℤ) → IsIn s x → IsSome (class_of r x)
  pub witnessed : All (λ (c : Class). IsInClass s r c c.witness) r.classes
