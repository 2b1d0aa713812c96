-- What `gen` comes to is one text.
use Rattle.std.proofs.Common.{ℕ, ◌%◌, []}
use Rattle.chart_gen.specs.Generated.{IsGenerated, generated_text}
use Rattle.command_stages.specs.declared.stop.Source.{Source}
use Rattle.command_stages.specs.Stage.{Is, IsProper}
use Rattle.command_stages.proofs.Proper.{proper_then, proper_is, proper_prints}
use Rattle.command_stages.proofs.ProperBy.{proper_beyond, moved_then}
use Rattle.command_stages.proofs.Readers.{Charts}
use Rattle.class_stages.proofs.Proper.{AreSame, classes_like}
use Rattle.suite_stages.proofs.Proper.{least_proper, least_moved}
use Rattle.run_stages.specs.declared.implementation.Implementation.TheVariants.{Chart as OfChart}
use Rattle.run_stages.proofs.Proper.{Verdicts}
use Rattle.judge_stages.proofs.Proper.{judge_by_proper}
use Rattle.gen_stages.specs.Summary.{SummaryOf}

generated_proper : {may : Source → Type 0} → Charts → (number : ℕ) → IsProper may (Is (IsGenerated number))
generated_proper charts number = proper_is _ (charts (generated_text number)).one_reading

pub summary_proper : {may : Source → Type 0} → Charts → Verdicts → (number : ℕ) → IsProper may (SummaryOf number)
summary_proper charts verdicts number =
    proper_then _ _ (generated_proper charts number) (λ chart.
    proper_beyond (AreSame chart.signature) _ _ (classes_like 1 chart [])
    (λ partition. proper_then _ _ (least_proper chart partition) (λ least.
    proper_then _ _ (generated_proper charts (number % 38)) (λ other.
    proper_then _ _ (judge_by_proper verdicts least.suite (OfChart other)) (λ judged. proper_prints _ _))))
    (moved_then (AreSame chart.signature) _ _ (least_moved chart)))
