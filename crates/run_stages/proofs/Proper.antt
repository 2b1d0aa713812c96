-- The stages of a run have one outcome.
use Rattle.std.proofs.Common.{◌≡◌, ℕ, Bool, true, false, List, Option, Some, None, refl, ap}
use Rattle.lin_form.specs.declared.signature.Signature.{Signature}
use Rattle.text_lines.specs.Reading.{IsDecided}
use Rattle.chart_syntax.specs.declared.error.Refusal.{Refusal}
use Rattle.impl_table.specs.declared.fit.Unfit.{Unfit}
use Rattle.impl_table.specs.Reading.{ReadsTable, RefusesTable}
use Rattle.impl_table.specs.Fitting.{first_difference}
use Rattle.subject.specs.Suite.{SuiteParts, tests_of}
use Rattle.subject.specs.Tests.{Answers, TestCase}
use Rattle.test_subject.specs.declared.verdict.Verdict.{Verdict}
use Rattle.test_subject.specs.Verdict.{IsVerdict}
use Rattle.command_stages.specs.declared.stop.Source.{Source}
use Rattle.command_stages.specs.declared.stop.Source.TheVariants.{Word}
use Rattle.command_stages.specs.Stage.{IsProper, IsDecidedBy}
use Rattle.command_stages.proofs.Proper.{proper_then, proper_is, proper_text, proper_reading, proper_unless, proper_so}
use Rattle.command_stages.proofs.Readers.{Charts}
use Rattle.run_stages.specs.declared.implementation.Implementation.{Implementation}
use Rattle.run_stages.specs.declared.implementation.Implementation.TheVariants.{Chart as OfChart, Table as OfTable}
use Rattle.run_stages.specs.FirstLine.{is_table_text}
use Rattle.run_stages.specs.Implementations.{ReadsAs, RefusesAs, ReadsImplementation, RefusesImplementation, answers_of}
use Rattle.run_stages.specs.Stages.{ImplementationAt, FitsBy, FitsOver, VerdictOver}

-- each text has at most one reading or refusal as a table
abbrev pub Tables : Type 0
Tables = (text : List ℕ) → IsDecided (ReadsTable text) (RefusesTable text)

-- answers have at most one verdict on tests
abbrev pub Verdicts : Type 0
Verdicts = (answers : Answers) (tests : List TestCase) (v w : Verdict) → IsVerdict answers tests v → IsVerdict answers tests w → v ≡ w

one_as : Charts → Tables → (b : Bool) (text : List ℕ) (x y : Implementation) → ReadsAs b text x → ReadsAs b text y → x ≡ y
one_as charts tables true text (OfTable a) (OfTable b) p q = ap OfTable ((tables text).one_reading a b p q)
one_as charts tables false text (OfChart a) (OfChart b) p q = ap OfChart ((charts text).one_reading a b p q)
one_as charts tables true text (OfChart a) y p q = absurd p
one_as charts tables true text (OfTable a) (OfChart b) p q = absurd q
one_as charts tables false text (OfTable a) y p q = absurd p
one_as charts tables false text (OfChart a) (OfTable b) p q = absurd q

one_refusal_as : Charts → Tables → (b : Bool) (text : List ℕ) (n m : ℕ) (met other : Refusal) → RefusesAs b text n met → RefusesAs b text m other → (n ≡ m) × (met ≡ other)
one_refusal_as charts tables true text n m met other p q = (tables text).one_refusal n m met other p q
one_refusal_as charts tables false text n m met other p q = (charts text).one_refusal n m met other p q

apart_as : Charts → Tables → (b : Bool) (text : List ℕ) (x : Implementation) (n : ℕ) (met : Refusal) → ReadsAs b text x → RefusesAs b text n met → ⊥
apart_as charts tables true text (OfTable a) n met p q = (tables text).apart a n met p q
apart_as charts tables false text (OfChart a) n met p q = (charts text).apart a n met p q
apart_as charts tables true text (OfChart a) n met p q = p
apart_as charts tables false text (OfTable a) n met p q = p

decided : Charts → Tables → (text : List ℕ) → IsDecidedBy (ReadsImplementation text) (RefusesImplementation text)
decided charts tables text = record {
  one_reading = one_as charts tables (is_table_text text) text;
  one_refusal = one_refusal_as charts tables (is_table_text text) text;
  apart = apart_as charts tables (is_table_text text) text;
}

pub implementation_proper : {may : Source → Type 0} → Charts → Tables → (number : ℕ) → may (Word number) → IsProper may (ImplementationAt number)
implementation_proper charts tables number h = proper_then _ _ (proper_text number _ h) (λ text. proper_reading _ _ _ (decided charts tables text))

fits_by : {may : Source → Type 0} (name : ℕ) (d : Option Unfit) → IsProper may (FitsBy name d)
fits_by name None = proper_is _ (λ a b p q. refl)
fits_by name (Some d) = proper_unless _ _

pub fits_proper : {may : Source → Type 0} (name : ℕ) (model other : Signature) → IsProper may (FitsOver name model other)
fits_proper name model other = proper_so _ (fits_by name (first_difference model other))

pub verdict_proper : {may : Source → Type 0} → Verdicts → (suite : SuiteParts) (implementation : Implementation) → IsProper may (VerdictOver suite implementation)
verdict_proper verdicts suite implementation = proper_is _ (verdicts (answers_of implementation) (tests_of suite))
