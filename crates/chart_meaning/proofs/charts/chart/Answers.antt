use Rattle.std.proofs.Common.{◌≡◌, ◌≤◌, ◌∷◌, [], rules, rules}
use Rattle.std.specs.Prelude.{unsigned_abs}
use Rattle.chart_meaning.proofs.SmallCharts.{IsChart-small}
use Rattle.chart_meaning.proofs.charts.chart.Goals as goal

pub invariant_of-result : goal.invariant_of-result
invariant_of-result g c =
    let small : unsigned_abs c.args.initial ≤ 1000 = search rules in
    let memories : c.in_ok-memories.memories ≡ c.memory.result ∷ [] = search rules in
    let initial : c.from_slice-2.result ≡ c.args.initial ∷ c.args.initial ∷ [] = search rules in
    let m = c.memory.ensures in
    let s = c.in_ok-states.ensures in
    let moves = rw c.as_slice.ensures at c.in_ok-transitions.ensures.moves in
    rw (memories, initial, c.new.ensures)
    (record {
      kept = IsChart-small c.in_ok-signature.signature c.args.initial c.memory.result
          c.in_ok-states.states c.in_ok-transitions.transitions c.in_ok-signature.ensures.inputs
          c.in_ok-signature.ensures.outputs small m.memory m.name m.size s.count s.names s.tree s.states
          c.in_ok-transitions.ensures.few moves;
    })
