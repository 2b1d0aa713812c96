use Rattle.std.proofs.Common.{ℕ, ◌+◌, List, drop, get_or, subst}
use Rattle.std.proofs.lemmas.List.{drop_more}
use Rattle.line_tokens.proofs.Numbers.{IsCounted, counted_over}
use Rattle.line_tokens.proofs.check.number_value.Goals as goal

pub returns-then-value-most : goal.returns-then-value-most
returns-then-value-most c =
    let i : ℕ = c.loop-digit.digit-index in
    let P : List ℕ → Type 0 = λ ds. IsCounted c.args.digits.now ds c.loop-digit.value c.args.most in
    counted_over c.args.digits.now (get_or c.args.digits.now i 0) (drop (i + 1) c.args.digits.now) c.loop-digit.value c.args.most
    (subst P (drop_more c.args.digits.now i 0 c.loop-digit-test.true) c.loop-digit.invariant) c.if-value-most.true
