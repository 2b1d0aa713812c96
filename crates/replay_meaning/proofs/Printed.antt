-- A suite that is printed can be read back.
use Rattle.std.proofs.Common.{◌≡◌, ℕ, List, map}
use Rattle.lin_form.specs.Atom.{inequality_of}
use Rattle.lin_form.specs.declared.form.Comparison.{Comparison}
use Rattle.input_classes.specs.Partition.{Partition}
use Rattle.input_classes.specs.VectorSet.{VectorSet}
use Rattle.chart_model.specs.declared.chart.Chart.{Chart}
use Rattle.chart_meaning.specs.Plan.{plan_of_chart}
use Rattle.guard_atoms.specs.Atoms.{atoms_in}
use Rattle.subject.specs.Alike.{MembersActAlike}
use Rattle.subject.specs.Domain.{box}
use Rattle.subject.specs.Meaning.{RepliesFit}
use Rattle.subject.specs.Suite.{SuiteParts}
use Rattle.suite_reading.specs.Printable.{IsPrintable}
use Rattle.replay_meaning.specs.Printed.{IsPrintedFor}
use Rattle.replay_meaning.proofs.Dividing.{covered, few_classes, some_class}
use Rattle.replay_meaning.proofs.Naming.{free_names}
use Rattle.replay_meaning.proofs.Shaped.{AreLimited, printable}

-- what is known of every chart: members of a class act alike, and replies fit and are limited
pub record AreKnown : Type 0 where
  pub alike : (chart : Chart) (cuts : List Comparison) (r : Partition) (s : VectorSet) → map inequality_of r.atoms ≡ atoms_in chart cuts → MembersActAlike s r (plan_of_chart chart)
  pub fit : (chart : Chart) → RepliesFit (plan_of_chart chart)
  pub limited : (chart : Chart) → AreLimited (plan_of_chart chart)

pub printed_printable : AreKnown → (chart : Chart) (cuts : List Comparison) (r : Partition) (bound : ℕ) (s : SuiteParts) → IsPrintedFor chart cuts r bound s → IsPrintable s
printed_printable known chart cuts r bound s h =
    let m = plan_of_chart chart in
    printable m r bound s (covered chart cuts r h.partition) (known.alike chart cuts r (box m r) h.partition.atoms) h.shape
    (some_class chart cuts r h.partition h.some_vector) (known.fit chart) (few_classes chart cuts r h.partition 4096 h.few_classes) (known.limited chart)
    (free_names h.text chart h.reads) h.bounded h.few_steps
