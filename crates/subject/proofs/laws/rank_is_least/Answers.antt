use Rattle.std.proofs.Common.{arith}
use Rattle.std.proofs.lemmas.List.Elements.{All-weaker}
use Rattle.input_classes.specs.VectorSet.{IsIn}
use Rattle.subject.proofs.Ranks.{few_apart, rank_within, more_states}
use Rattle.subject.proofs.laws.rank_is_least.Goals as goal

pub returns-clause-least : goal.returns-clause-least
returns-clause-least g c = λ s k n rank most. rank_within (g.P.Plan.plan c.args.plan.now) s s (λ w h. h) k n rank most

pub returns-clause-one : goal.returns-clause-one
returns-clause-one g c = λ s k n first second.
    let up = rank_within (g.P.Plan.plan c.args.plan.now) s s (λ w h. h) k n first second.most in
    let down = rank_within (g.P.Plan.plan c.args.plan.now) s s (λ w h. h) n k second first.most in
    omega arith

pub returns-clause-more : goal.returns-clause-more
returns-clause-more g c = more_states (g.P.Plan.plan c.args.plan.now)

pub returns-clause-within : goal.returns-clause-within
returns-clause-within g c = λ s t k n within rank most. rank_within (g.P.Plan.plan c.args.plan.now) s t (λ w h. All-weaker (IsIn t) (IsIn s) within w h) k n rank most

pub returns-clause-apart : goal.returns-clause-apart
returns-clause-apart g c = λ s t words n within all apart most. few_apart (g.P.Plan.plan c.args.plan.now) s t (λ w h. All-weaker (IsIn t) (IsIn s) within w h) words n all apart most
