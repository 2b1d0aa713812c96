use Rattle.std.proofs.Common.{◌≡◌, drop}
use Rattle.lin_form.specs.Inequality.{leads_positive}
use Rattle.lin_form.proofs.direction.leads_positive.Given as goal

abbrev pub invariant-loop-number : goal.invariant-loop-number
invariant-loop-number l = leads_positive (drop l.number-index l.numbers) ≡ leads_positive l.numbers
