-- A chart or a table as an implementation, and what a text reads as.
use Rattle.std.specs.Prelude.{ℕ, Bool, true, false, List}
use Rattle.lin_form.specs.declared.signature.Signature.{Signature}
use Rattle.chart_model.specs.declared.chart.Chart.{Chart}
use Rattle.chart_meaning.specs.Plan.{plan_of_chart}
use Rattle.chart_syntax.specs.declared.error.Refusal.{Refusal}
use Rattle.chart_syntax.specs.Reading.{Reads, Refuses}
use Rattle.impl_table.specs.Plan.{plan_of_table}
use Rattle.impl_table.specs.Reading.{ReadsTable, RefusesTable}
use Rattle.subject.specs.Meaning.{answer}
use Rattle.subject.specs.Tests.{Answers}
use Rattle.run_stages.specs.declared.implementation.Implementation.{Implementation}
use Rattle.run_stages.specs.declared.implementation.Implementation.TheVariants.{Chart as OfChart, Table as OfTable}
use Rattle.run_stages.specs.FirstLine.{is_table_text}

abbrev pub signature_of : Implementation → Signature
signature_of (OfChart chart) = chart.signature
signature_of (OfTable table) = table.signature

-- the replies of its plan
abbrev pub answers_of : Implementation → Answers
answers_of (OfChart chart) = answer (plan_of_chart chart)
answers_of (OfTable table) = answer (plan_of_table table)

-- the text reads as this, as a table or as a chart
abbrev pub ReadsAs : Bool → List ℕ → Implementation → Type 0
ReadsAs true text (OfTable table) = ReadsTable text table
ReadsAs false text (OfChart chart) = Reads text chart
ReadsAs other text implementation = ⊥

-- the text is refused, as a table or as a chart
abbrev pub RefusesAs : Bool → List ℕ → ℕ → Refusal → Type 0
RefusesAs true text line refusal = RefusesTable text line refusal
RefusesAs false text line refusal = Refuses text line refusal

-- its first line tells whether a text is a table
abbrev pub ReadsImplementation : List ℕ → Implementation → Type 0
ReadsImplementation text = ReadsAs (is_table_text text) text

abbrev pub RefusesImplementation : List ℕ → ℕ → Refusal → Type 0
RefusesImplementation text = RefusesAs (is_table_text text) text
