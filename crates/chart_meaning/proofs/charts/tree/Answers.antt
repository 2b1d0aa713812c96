use Rattle.std.proofs.Common.{◌≡◌, ℕ, ◌<◌, true, length, rules}
use Rattle.std.specs.Prelude.{count_by}
use Rattle.chart_model.specs.States.{is_top_start, is_within_depth}
use Rattle.chart_meaning.proofs.SmallCharts.{AreNames-states, AreParentsFirst, HaveStarts, IsTree-tested}
use Rattle.chart_meaning.proofs.charts.tree.Goals as goal

pub returns-clause-names : goal.returns-clause-names
returns-clause-names g c = AreNames-states _ _ c.in_ok-states.ensures.few c.in_ok-states.ensures.names

pub returns-clause-tree : goal.returns-clause-tree
returns-clause-tree g c =
    let first : AreParentsFirst c.in_ok-states.states = search rules in
    let shallow : (s : ℕ) → s < length c.in_ok-states.states → is_within_depth 8 c.in_ok-states.states s ≡ true = search rules in
    let have : HaveStarts c.in_ok-states.states = search rules in
    let one : count_by is_top_start c.in_ok-states.states ≡ 1 = search rules in
    IsTree-tested c.in_ok-states.states first shallow have one
