use Rattle.std.proofs.Common.{◌<◌, ◌≤◌, length}
use Rattle.state_cover.specs.inside.Entered.{AreNamed}
use Rattle.state_cover.proofs.enter_all.Given as goal

abbrev pub invariant-loop-place : goal.invariant-loop-place
invariant-loop-place l = record {
  named : AreNamed l.fn.pool.words l.found l.pool.words l.words.items l.place;
  some : 0 < l.place;
  upto : l.place ≤ length l.found;
}
