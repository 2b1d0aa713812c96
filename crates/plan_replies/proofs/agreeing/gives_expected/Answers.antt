use Rattle.std.proofs.Common.{List, ℤ, subst}
use Rattle.plan_replies.specs.Replies.{AreReplies}
use Rattle.plan_replies.proofs.Expecting.{all_passed, vectors_fit}
use Rattle.plan_replies.proofs.agreeing.gives_expected.Goals as goal

pub are_expected-requires-clause-vectors : goal.are_expected-requires-clause-vectors
are_expected-requires-clause-vectors g c =
    rw (c.classes-classes.ensures) (vectors_fit c.args.suite.now.signature (g.P.Plan.plan c.args.plan.now).signature c.args.suite.now.classes c.requires c.suite_keeps_rules.ensures.vectors)

pub returns : goal.returns
returns g c = λ same.
    let m = g.P.Plan.plan c.args.plan.now in
    let pooled = c.pooled.ensures in
    let words = c.pooled.result.0.now.words in
    let expected = c.pooled.result.1.now in
    all_passed m c.args.suite.now words expected pooled.pool pooled.suite (subst (λ (vs : List (List ℤ)). AreReplies m vs words expected) c.classes-classes.ensures (c.in_ok-same.ensures same))
