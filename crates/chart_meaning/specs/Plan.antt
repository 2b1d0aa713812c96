-- A chart as a plan.
use Rattle.std.specs.Prelude.{ℕ, ℤ, List, Some}
use Rattle.std.specs.List.{position_or_len}
use Rattle.chart_model.specs.declared.chart.Chart.{Chart}
use Rattle.subject.specs.Meaning.{Branches, Meaning}
use Rattle.chart_meaning.specs.Configuration.{Configuration}
use Rattle.chart_meaning.specs.Rows.{candidates}
use Rattle.chart_meaning.specs.Step.{active_states, is_guard_true, next_of, reply_of, start_of}

-- it starts in the starting configuration, and a step gives the next configuration and the reply
abbrev pub plan_of_chart : Chart → Meaning Configuration
plan_of_chart chart = record {
  signature = chart.signature;
  start = start_of chart;
  next = next_of chart;
  reply = reply_of chart;
}

-- among the transitions that may fire, the place of the first whose guard holds; where none fires, their number
abbrev pub branch_of : Chart → Configuration → List ℤ → ℕ
branch_of chart c vector =
    position_or_len (is_guard_true vector c.memory) (candidates chart.transitions (active_states chart.states c))

-- a step takes the branch of the transition that fires
abbrev pub branches_of_chart : Chart → Branches Configuration
branches_of_chart chart c vector = Some (branch_of chart c vector)
