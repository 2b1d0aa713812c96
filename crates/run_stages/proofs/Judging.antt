-- The verdict on an implementation.
use Rattle.std.proofs.Common.{◌≡◌, ℕ, sym, subst}
use Rattle.chart_model.specs.declared.chart.Chart.{Chart}
use Rattle.chart_meaning.specs.Plan.{plan_of_chart}
use Rattle.impl_table.specs.declared.table.Table.{Table}
use Rattle.impl_table.specs.Plan.{plan_of_table}
use Rattle.subject.specs.Meaning.{answer}
use Rattle.subject.specs.Suite.{SuiteParts, tests_of}
use Rattle.test_subject.specs.declared.verdict.Verdict.{Verdict}
use Rattle.test_subject.specs.Verdict.{IsVerdict}
use Rattle.run_stages.specs.declared.implementation.Implementation.{Implementation}
use Rattle.run_stages.specs.declared.implementation.Implementation.TheVariants.{Chart as OfChart, Table as OfTable}
use Rattle.run_stages.specs.Implementations.{answers_of}

pub chart_judged : (suite : SuiteParts) (i : Implementation) (plan chart : Chart) (v : Verdict) → i ≡ OfChart chart → plan ≡ chart → IsVerdict (answer (plan_of_chart plan)) (tests_of suite) v → IsVerdict (answers_of i) (tests_of suite) v
chart_judged suite i plan chart v is same h =
    let P : Chart → Type 0 = λ c. IsVerdict (answer (plan_of_chart c)) (tests_of suite) v in
    let Q : Implementation → Type 0 = λ j. IsVerdict (answers_of j) (tests_of suite) v in
    subst Q (sym is) (subst P same h)

pub table_judged : (suite : SuiteParts) (i : Implementation) (table : Table) (v : Verdict) → i ≡ OfTable table → IsVerdict (answer (plan_of_table table)) (tests_of suite) v → IsVerdict (answers_of i) (tests_of suite) v
table_judged suite i table v is h =
    let Q : Implementation → Type 0 = λ j. IsVerdict (answers_of j) (tests_of suite) v in
    subst Q (sym is) h
