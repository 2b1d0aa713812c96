use Rattle.std.proofs.Common.{◌≡◌, take}
use Rattle.subject.specs.Meaning.{answer, state_after}
use Rattle.subject.proofs.replies.answers.Given as goal

abbrev pub invariant-loop-input : goal.invariant-loop-input
invariant-loop-input g l =
    record {
      replies : l.replies.items ≡ answer (g.P.Plan.plan l.plan) (take l.input-index l.word);
      state : l.state ≡ state_after (g.P.Plan.plan l.plan) (g.P.Plan.plan l.plan).start (take l.input-index l.word);
    }
