use Rattle.std.proofs.Common.{◌≡◌, ℕ, ◌<◌, get_or}
use Rattle.charset.specs.inside.Levels.{AreAlikeOnAll}
use Rattle.charset.proofs.levels.leader_of.Given as goal

abbrev pub invariant-loop-other : goal.invariant-loop-other
invariant-loop-other l = (u : ℕ) → u < l.other → get_or l.finer u 0 ≡ u → ¬ AreAlikeOnAll l.fsm l.names u l.state
