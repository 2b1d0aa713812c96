use Rattle.charset.specs.inside.Levels.{AreAlikeOnAll, IsGrouping}
use Rattle.charset.proofs.levels.refined.Given as goal

abbrev pub invariant-loop-state : goal.invariant-loop-state
invariant-loop-state l = IsGrouping l.state l.finer.items (AreAlikeOnAll l.fsm l.names)
