-- What functions answer that put the literals of an assumption behind others.
use Rattle.std.specs.Prelude.{◌≡◌, ◌↔◌, ◌+◌, ◌≤◌, ◌*◌, ℕ, ℤ, IsTrue, List, length}
use Rattle.std.specs.List.{All}
use Rattle.lin_form.specs.Atom.{AreAsSaid}
use Rattle.lin_form.specs.Form.{truth_of}
use Rattle.lin_form.specs.declared.form.Comparison.{Comparison}
use Rattle.lin_form.specs.declared.literal.Literal.{Literal}

-- at most two literals are behind those before, and they say what the assumption does
pub record AddsClaim (assumption : Comparison) (old new : List Literal) : Type 0 where
  pub says : (x memory : List ℤ) → AreAsSaid new x ↔ (AreAsSaid old x × IsTrue (truth_of assumption x memory))
  pub few : length new ≤ length old + 2
  pub width : All (λ literal. length literal.atom.coefficients ≡ length assumption.form.inputs) old
      → All (λ literal. length literal.atom.coefficients ≡ length assumption.form.inputs) new

-- literals that say what these assumptions do, at most two for each
pub record AreClaims (inputs : ℕ) (assumed : List Comparison) (literals : List Literal) : Type 0 where
  pub says : (x memory : List ℤ)
      → AreAsSaid literals x ↔ All (λ assumption. IsTrue (truth_of assumption x memory)) assumed
  pub few : length literals ≤ 2 * length assumed
  pub width : All (λ literal. length literal.atom.coefficients ≡ inputs) literals
