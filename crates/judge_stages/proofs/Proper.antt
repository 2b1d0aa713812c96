-- The stages of a verdict have one outcome.
use Rattle.std.proofs.Common.{◌≡◌, ℕ, Bool, true, refl, sym, ◌∙◌}
use Rattle.subject.specs.Suite.{SuiteParts}
use Rattle.command_stages.specs.declared.stop.Source.{Source}
use Rattle.command_stages.specs.declared.stop.Source.TheVariants.{Word}
use Rattle.command_stages.specs.Stage.{IsProper}
use Rattle.command_stages.proofs.Proper.{proper_then, proper_is}
use Rattle.command_stages.proofs.ProperBy.{proper_beyond, moved_then}
use Rattle.command_stages.proofs.Readers.{Charts, chart_proper}
use Rattle.class_stages.proofs.Proper.{CutTexts, AreSame, cuts_proper, classes_like}
use Rattle.suite_stages.proofs.Proper.{suite_proper, suite_moved}
use Rattle.run_stages.specs.declared.implementation.Implementation.{Implementation}
use Rattle.run_stages.specs.Implementations.{signature_of}
use Rattle.run_stages.proofs.Proper.{Tables, Verdicts, implementation_proper, fits_proper, verdict_proper}
use Rattle.judge_stages.specs.Verdicts.{Judgement, JudgeBy, JudgeAt, Printing, printed_verdict, PrintsVerdict}

pub judge_by_proper : {may : Source → Type 0} → Verdicts → (suite : SuiteParts) (implementation : Implementation) → IsProper may (JudgeBy suite implementation)
judge_by_proper verdicts suite implementation = proper_then _ _ (verdict_proper verdicts suite implementation) (λ verdict. proper_is _ (λ a b p q. p ∙ sym q))

pub judge_proper : {may : Source → Type 0} → Charts → CutTexts → Tables → Verdicts → (bound : ℕ) (named : Bool) → may (Word 1) → (named ≡ true → may (Word 3)) → may (Word 4) → IsProper may (JudgeAt bound named)
judge_proper charts cuts tables verdicts bound named one three four =
    proper_then _ _ (chart_proper charts 1 one) (λ chart. proper_then _ _ (cuts_proper cuts named 3 chart.signature three) (λ some_cuts.
    proper_then _ _ (implementation_proper charts tables 4 four) (λ implementation.
    proper_then _ _ (fits_proper 4 chart.signature (signature_of implementation)) (λ u.
    proper_beyond (AreSame chart.signature) _ _ (classes_like 1 chart some_cuts)
    (λ partition. proper_then _ _ (suite_proper bound chart partition) (λ suite. judge_by_proper verdicts suite implementation))
    (moved_then (AreSame chart.signature) _ _ (suite_moved bound chart))))))

pub prints_proper : {may : Source → Type 0} (printing : Printing) (judged : Judgement) → IsProper may (PrintsVerdict printing judged)
prints_proper printing judged = proper_is _ (λ a b p q. p ∙ sym q)
