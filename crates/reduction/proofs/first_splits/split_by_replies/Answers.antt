use Rattle.std.proofs.Common.{◌≡◌, ℕ, List, ap}
use Rattle.fsm_core.specs.Machine.{Machine}
use Rattle.reduction.specs.Blocks.{AreBlocks}
use Rattle.reduction.specs.Quotient.{AreRepresentatives}
use Rattle.reduction.proofs.first_splits.split_by_replies.Goals as goal
use Rattle.reduction.proofs.first_splits.split_by_replies.Goals.{in-Some+in_ok-blocks+in_ok-representatives-2, in_default}

same : (m : Machine) (blocks new representatives picked : List ℕ) → new ≡ blocks → picked ≡ representatives →
    AreBlocks m blocks × AreRepresentatives blocks representatives → AreBlocks m new × AreRepresentatives new picked
same m blocks new representatives picked b r h = rw (b, r) h

pub loop-state-preserved : goal.loop-state-preserved
loop-state-preserved c = elim c.match-first_other_reply.branch [
  | in-Some+in_ok-blocks+in_ok-representatives-2 w ↦ same c.args.fsm.now _ _ _ _ (ap (λ v. v.items) w.blocks-is) (ap (λ v. v.items) w.representatives-is)
      (w.in_ok-blocks.ensures.blocks, rw (w.as_slice-in-Some-2.ensures.value) at w.in_ok-representatives-2.ensures)
  | in_default w ↦ same c.args.fsm.now _ _ _ _ (ap (λ v. v.items) w.blocks-is) (ap (λ v. v.items) w.representatives-is) c.loop-state.invariant
]
