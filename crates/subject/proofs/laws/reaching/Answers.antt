use Rattle.std.proofs.Common.{[]}
use Rattle.std.proofs.lemmas.List.Elements.{All-nil}
use Rattle.input_classes.specs.VectorSet.{box_of}
use Rattle.subject.proofs.ReachedStates.{reached_start, reached_step, reached_word, reached_more}
use Rattle.subject.proofs.laws.reaching.Goals as goal

pub returns-clause-start : goal.returns-clause-start
returns-clause-start g c = λ s. reached_start s (g.P.Plan.plan c.args.plan.now)

pub returns-clause-step : goal.returns-clause-step
returns-clause-step g c = λ s. reached_step s (g.P.Plan.plan c.args.plan.now)

pub returns-clause-word : goal.returns-clause-word
returns-clause-word g c = λ s. reached_word s (g.P.Plan.plan c.args.plan.now)

pub returns-clause-more : goal.returns-clause-more
returns-clause-more g c = λ s. reached_more s (g.P.Plan.plan c.args.plan.now)

pub returns-clause-in_ranges : goal.returns-clause-in_ranges
returns-clause-in_ranges g c = λ t x h inside. reached_step (box_of (g.P.Plan.plan c.args.plan.now).signature []) (g.P.Plan.plan c.args.plan.now) t x h (record { inside = inside; said = All-nil _ })
