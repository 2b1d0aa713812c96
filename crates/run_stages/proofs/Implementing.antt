-- A text as an implementation.
use Rattle.std.proofs.Common.{◌≡◌, ℕ, Bool, true, false, List, refl, sym, ◌∙◌, ap, subst}
use Rattle.text_lines.specs.Reading.{IsDecided}
use Rattle.chart_model.specs.declared.chart.Chart.{Chart}
use Rattle.chart_syntax.specs.declared.error.Refusal.{Refusal}
use Rattle.chart_syntax.specs.declared.error.ChartError.{ChartError}
use Rattle.chart_syntax.specs.Reading.{Reads, Refuses, IsRefusedBy}
use Rattle.impl_table.specs.declared.table.Table.{Table}
use Rattle.impl_table.specs.Reading.{ReadsTable, RefusesTable}
use Rattle.run_stages.specs.declared.implementation.Implementation.{Implementation}
use Rattle.run_stages.specs.declared.implementation.Implementation.TheVariants.{Chart as OfChart, Table as OfTable}
use Rattle.run_stages.specs.FirstLine.{is_table_text}
use Rattle.run_stages.specs.Implementations.{ReadsAs, RefusesAs, ReadsImplementation, RefusesImplementation}

reads_as : (b : Bool) (text : List ℕ) (i : Implementation) → b ≡ is_table_text text → ReadsAs b text i → ReadsImplementation text i
reads_as b text i is h = let P : Bool → Type 0 = λ c. ReadsAs c text i in subst P is h

refuses_as : (b : Bool) (text : List ℕ) (e : ChartError) → b ≡ is_table_text text → IsRefusedBy (RefusesAs b text) e → IsRefusedBy (RefusesImplementation text) e
refuses_as b text e is h = let P : Bool → Type 0 = λ c. IsRefusedBy (RefusesAs c text) e in subst P is h

pub table_read : (b : Bool) (text : List ℕ) (table : Table) → b ≡ is_table_text text → b ≡ true → ReadsTable text table → ReadsImplementation text (OfTable table)
table_read b text table is test h = reads_as true text (OfTable table) (sym test ∙ is) h

pub table_refused : (b : Bool) (text : List ℕ) (e : ChartError) → b ≡ is_table_text text → b ≡ true → IsRefusedBy (RefusesTable text) e → IsRefusedBy (RefusesImplementation text) e
table_refused b text e is test h = refuses_as true text e (sym test ∙ is) h

pub chart_read : (b : Bool) (text : List ℕ) (chart : Chart) → b ≡ is_table_text text → b ≡ false → Reads text chart → ReadsImplementation text (OfChart chart)
chart_read b text chart is test h = reads_as false text (OfChart chart) (sym test ∙ is) h

pub chart_refused : (b : Bool) (text : List ℕ) (e : ChartError) → b ≡ is_table_text text → b ≡ false → IsRefusedBy (Refuses text) e → IsRefusedBy (RefusesImplementation text) e
chart_refused b text e is test h = refuses_as false text e (sym test ∙ is) h
