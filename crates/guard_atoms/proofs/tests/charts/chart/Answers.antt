use Rattle.std.proofs.Common.{◌≡◌, ◌∷◌, [], pos, rules}
use Rattle.guard_atoms.proofs.SmallCharts.{IsChart-plain, only}
use Rattle.guard_atoms.proofs.tests.charts.chart.Goals as goal

pub invariant_of-result : goal.invariant_of-result
invariant_of-result g c =
    let memories : c.in_ok-memories.memories ≡ c.memory.result ∷ [] = search rules in
    let initial : c.from_slice-2.result ≡ pos 0 ∷ [] = search rules in
    let states : c.push.new.self ≡ only c.state_name.result ∷ [] = search rules in
    let moves = rw (c.as_slice.ensures, states) at c.in_ok-transitions.ensures.moves in
    let m = c.memory.ensures in
    let s = c.in_ok-signature.ensures in
    let a = c.in_ok-assumed.ensures in
    rw (memories, initial, states) (record { kept = IsChart-plain c.in_ok-signature.signature c.in_ok-assumed.assumed c.memory.result c.state_name.result c.in_ok-transitions.transitions s.inputs s.outputs m.memory m.name m.size a.assumptions a.few c.state_name.ensures c.in_ok-transitions.ensures.few moves })
