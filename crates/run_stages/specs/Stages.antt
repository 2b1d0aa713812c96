-- The stages of a run: the implementation, its fit, and the verdict.
use Rattle.std.specs.Prelude.{ℕ, ◌+◌, Option, Some, None}
use Rattle.lin_form.specs.declared.signature.Signature.{Signature}
use Rattle.subject.specs.Suite.{SuiteParts, tests_of}
use Rattle.impl_table.specs.declared.fit.Unfit.{Unfit}
use Rattle.impl_table.specs.declared.fit.Unfit.TheVariants as unfit
use Rattle.impl_table.specs.Fitting.{first_difference}
use Rattle.test_subject.specs.declared.verdict.Verdict.{Verdict}
use Rattle.test_subject.specs.Verdict.{IsVerdict}
use Rattle.command_stages.specs.declared.stop.SignaturePlace.{SignaturePlace}
use Rattle.command_stages.specs.declared.stop.SignaturePlace.TheVariants as place
use Rattle.command_stages.specs.declared.stop.Refusal.TheVariants as refusal
use Rattle.command_stages.specs.Stage.{Stage, Then, Is, Unless, TextAt, Reading, text_refusal, Memoryless}
use Rattle.command_stages.specs.Texts.{most_bytes}
use Rattle.run_stages.specs.declared.implementation.Implementation.{Implementation}
use Rattle.run_stages.specs.Implementations.{answers_of, ReadsImplementation, RefusesImplementation}

-- the implementation that the word with this number names
abbrev pub ImplementationAt : ℕ → Stage Implementation
ImplementationAt number = Then (TextAt number most_bytes)
    (λ text. Reading (text_refusal number) (ReadsImplementation text) (RefusesImplementation text))

-- the place of a difference, where inputs and outputs are counted from 1
abbrev pub place_of : Unfit → SignaturePlace
place_of unfit.Inputs = place.Inputs
place_of (unfit.Input number) = place.Input (number + 1)
place_of unfit.Outputs = place.Outputs
place_of (unfit.Output number) = place.Output (number + 1)

-- where there is a difference, it is the refusal
abbrev pub FitsBy : ℕ → Option Unfit → Stage (Unit {0})
FitsBy name None = Is (λ _. Unit {0})
FitsBy name (Some difference) = Unless (Unit {0}) (refusal.Unfit name (place_of difference))

-- the signature of the implementation, which the word with this number names, is the model's; the first difference is the
-- refusal; no memory is taken
abbrev pub FitsOver : ℕ → Signature → Signature → Stage (Unit {0})
FitsOver name model other = Memoryless (FitsBy name (first_difference model other))

-- the verdict on an implementation
abbrev pub VerdictOver : SuiteParts → Implementation → Stage Verdict
VerdictOver suite implementation = Is (IsVerdict (answers_of implementation) (tests_of suite))
