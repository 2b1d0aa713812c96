use Rattle.std.proofs.Common.{◌≡◌, ℕ, ◌<◌, get_or}
use Rattle.charset.specs.inside.Levels.{AreAlikeBy}
use Rattle.charset.proofs.groups.leader_by.Given as goal

abbrev pub invariant-loop-other : goal.invariant-loop-other
invariant-loop-other l = (u : ℕ) → u < l.other → get_or l.finer u 0 ≡ u → ¬ AreAlikeBy l.fsm l.states l.names l.word u l.place
