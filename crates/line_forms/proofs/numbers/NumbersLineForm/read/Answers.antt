use Rattle.std.proofs.Common.{◌≡◌, ◌++◌, ◌∷◌, [], arith, rules}
use Rattle.line_forms.proofs.Numerals.{numbers_more, numbers_end, numbers_failed}
use Rattle.line_forms.proofs.numbers.NumbersLineForm.read.Goals as goal

pub returns-in_default : goal.returns-in_default
returns-in_default c =
    let h = c.numbers-test.true in
    let e = c.len.ensures in
    numbers_failed c.args.line.now c.numbers.at c.numbers.numbers c.numbers.invariant (omega (arith, h, e)) c.in_default.ensures.found

pub numbers-preserved : goal.numbers-preserved
numbers-preserved c =
    let pushed : c.push.new.self ≡ c.numbers.numbers ++ c.in-Some.number ∷ [] = search rules in
    rw (pushed, c.signed_size-at.ensures) (numbers_more c.args.line.now c.numbers.at c.numbers.numbers c.in-Some.number c.numbers.invariant
    c.in-Some.ensures.found c.in-Some.ensures.inside)

pub returns : goal.returns
returns c = numbers_end c.args.line.now c.numbers.at c.numbers.numbers c.numbers.invariant
    (let h = c.numbers-test.false in let e = c.len.ensures in omega (arith, h, e))
