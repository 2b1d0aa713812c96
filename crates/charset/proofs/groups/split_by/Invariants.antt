use Rattle.charset.specs.inside.Levels.{AreAlikeBy, IsGrouping}
use Rattle.charset.proofs.groups.split_by.Given as goal

abbrev pub invariant-loop-place : goal.invariant-loop-place
invariant-loop-place l = IsGrouping l.place l.finer.items (AreAlikeBy l.fsm l.states l.names l.word)
