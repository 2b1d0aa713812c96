use Rattle.std.proofs.Common.{◌≡◌, take}
use Rattle.suite_model.proofs.scratch.common.Given as goal

abbrev pub invariant-loop-place : goal.invariant-loop-place
invariant-loop-place l = record { same : take l.place l.word ≡ take l.place l.other }
