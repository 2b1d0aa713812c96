use Rattle.std.proofs.Common.{◌≡◌, ℕ, ◌-◌, ◌<◌, ◌≤◌, get_or}
use Rattle.charset.specs.inside.Levels.{level_at}
use Rattle.charset.proofs.separating.parting_level.Given as goal

abbrev pub invariant-loop-level : goal.invariant-loop-level
invariant-loop-level l = record {
  upto : l.level ≤ l.levels.last;
  same : (k : ℕ) → k < l.level → get_or (level_at l.fsm.states l.levels.names.items k) l.state 0 ≡ get_or
      (level_at l.fsm.states l.levels.names.items k) l.other 0;
}

abbrev pub decreases-loop-level : goal.decreases-loop-level
decreases-loop-level l = l.levels.last - l.level
