-- Atoms, which are inequalities in normal form, and literals over them.
use Rattle.std.specs.Prelude.{◌≡◌, ⊤, ℕ, ◌≤◌, ℤ, Bool, List, length, Option, None, Some, IfSome, slice_get}
use Rattle.std.specs.List.{All}
use Rattle.lin_form.specs.Inequality.{Inequality, says, put_in, first_of, second_of, AreZero, leads_positive, IsNormalForm}
use Rattle.lin_form.specs.declared.atom.Atom.{Atom}
use Rattle.lin_form.specs.declared.literal.Literal.{Literal}
use Rattle.lin_form.specs.declared.literal.Claim.{Claim}
use Rattle.lin_form.specs.declared.literal.Pair.{Pair}
use Rattle.lin_form.specs.declared.form.Comparison.{Comparison}

abbrev pub inequality_of : Atom → Inequality
inequality_of atom = record { coefficients = atom.coefficients; constant = atom.constant }

-- the truth of an atom on a vector
abbrev pub atom_truth : Atom → List ℤ → Bool
atom_truth atom vector = says (inequality_of atom) vector

-- a literal is as it says on a vector
abbrev pub IsAsSaid : Literal → List ℤ → Type 0
IsAsSaid literal vector = atom_truth literal.atom vector ≡ literal.holds

-- each literal is as it says on a vector
abbrev pub AreAsSaid : List Literal → List ℤ → Type 0
AreAsSaid literals vector = All (λ literal. IsAsSaid literal vector) literals

-- each literal of a claim is as it says on a vector
pub record IsClaimed (claim : Claim) (vector : List ℤ) : Type 0 where
  pub first : IsAsSaid claim.first vector
  pub second : IfSome claim.second (λ literal. IsAsSaid literal vector)

-- the atom of an inequality
abbrev pub IsAtomOf : Inequality → Atom → Type 0
IsAtomOf whole atom = IsNormalForm whole (inequality_of atom)

-- the atom of an inequality, said to hold exactly where the inequality does
pub record IsLiteralOf (whole : Inequality) (literal : Literal) : Type 0 where
  pub atom : IsAtomOf whole literal.atom
  pub side : literal.holds ≡ leads_positive whole.coefficients

-- the same, where there is an inequality
abbrev pub IsLiteralIf : Option Inequality → Option Literal → Type 0
IsLiteralIf None None = ⊤
IsLiteralIf None (Some literal) = ⊥
IsLiteralIf (Some whole) None = ⊥
IsLiteralIf (Some whole) (Some literal) = IsLiteralOf whole literal

-- the atom of an inequality, where there is one
abbrev pub IsAtomIf : Option Inequality → Option Atom → Type 0
IsAtomIf None None = ⊤
IsAtomIf None (Some atom) = ⊥
IsAtomIf (Some whole) None = ⊥
IsAtomIf (Some whole) (Some atom) = IsAtomOf whole atom

-- the atoms of a comparison for the memories' values: none where no input has a coefficient other than 0
pub record IsPairOf (comparison : Comparison) (memory : List ℤ) (pair : Pair) : Type 0 where
  pub none : AreZero comparison.form.inputs → pair ≡ record { first = None; second = None }
  pub first : (AreZero comparison.form.inputs → ⊥) → IsAtomIf (Some (first_of comparison.relation (put_in comparison.form memory))) pair.first
  pub second : (AreZero comparison.form.inputs → ⊥) → IsAtomIf (second_of comparison.relation (put_in comparison.form memory)) pair.second

-- the atoms of a pair have the same truth on two vectors
pub record AgreeOnPair (pair : Pair) (x y : List ℤ) : Type 0 where
  pub first : IfSome pair.first (λ atom. atom_truth atom x ≡ atom_truth atom y)
  pub second : IfSome pair.second (λ atom. atom_truth atom x ≡ atom_truth atom y)

-- the atoms of a pair have n coefficients
pub record IsPairOver (n : ℕ) (pair : Pair) : Type 0 where
  pub first : IfSome pair.first (λ atom. length atom.coefficients ≡ n)
  pub second : IfSome pair.second (λ atom. length atom.coefficients ≡ n)

-- the atoms of a claim have n coefficients
pub record IsClaimOver (n : ℕ) (claim : Claim) : Type 0 where
  pub first : length claim.first.atom.coefficients ≡ n
  pub second : IfSome claim.second (λ literal. length literal.atom.coefficients ≡ n)

-- at most 128 atoms, all different
pub record AreAtoms (atoms : List Atom) : Type 0 where
  pub limit : length atoms ≤ 128
  pub different : (i j : ℕ) (atom : Atom) → slice_get atoms i ≡ Some atom → slice_get atoms j ≡ Some atom → i ≡ j
