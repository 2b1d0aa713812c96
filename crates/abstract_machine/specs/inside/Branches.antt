-- What is known of the steps of one state, by the numbers of their branches.
use Rattle.std.specs.Prelude.{◌≡◌, ℕ, ◌<◌, ◌≤◌, ℤ, Bool, List, slice_get, Option, Some, option_and_then}
use Rattle.std.specs.List.{IsDistinct}
use Rattle.lin_form.specs.Signature.{IsInInputRanges}
use Rattle.subject.specs.Meaning.{Branches, Meaning}
use Rattle.abstract_machine.specs.inside.Exploring.{IsNumbered}

-- what is noted of a branch
abbrev pub step_at : List (Option (ℕ × ℕ)) → ℕ → Option (ℕ × ℕ)
step_at noted k = option_and_then (λ step. step) (slice_get noted k)

-- by some vector on which the step takes the branch k, it leads from t to the first of the numbers among the states,
-- with the second among the replies
pub record IsStepOn {S : Type 0} (m : Meaning S) (branches : Branches S) (states : List S) (replies : List (List ℤ))
    (t : S) (k : ℕ) (step : ℕ × ℕ) : Type 0 where
  pub input : List ℤ
  pub fits : IsInInputRanges m.signature.inputs input
  pub branch : branches t input ≡ Some k
  pub next : slice_get states step.0 ≡ Some (m.next t input)
  pub reply : slice_get replies step.1 ≡ Some (m.reply t input)

-- what is noted of the branches of a state are its steps
abbrev pub AreStepsOn : {S : Type 0} → Meaning S → Branches S → List S → List (List ℤ) → S → List (Option (ℕ × ℕ)) → Type 0
AreStepsOn m branches states replies t noted = (k : ℕ) (step : ℕ × ℕ) → step_at noted k ≡ Some step
    → IsStepOn m branches states replies t k step

-- the numbers of the state to which a step leads and of its reply, which are put in where they are not there
pub record IsStep {S : Type 0} (m : Meaning S) (states : List S) (replies : List (List ℤ)) (t : S) (x : List ℤ)
    (states' : List S) (replies' : List (List ℤ)) (step : ℕ × ℕ) : Type 0 where
  pub next : IsNumbered states (m.next t x) states' step.0
  pub reply : IsNumbered replies (m.reply t x) replies' step.1
  pub low : step.0 < 1024

-- a state goes past the limit
pub record IsPast {S : Type 0} (eq : S → S → Bool) (states : List S) (next : S) (states' : List S) : Type 0 where
  pub number : ℕ
  pub numbered : IsNumbered states next states' number
  pub once : IsDistinct eq states'
  pub most : 1024 ≤ number
