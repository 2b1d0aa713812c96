use Rattle.std.proofs.Common.{◌∙◌, ap, take, drop, length, sym, arith}
use Rattle.std.proofs.lemmas.List.{take_at}
use Rattle.suite_text.proofs.Holding.{goes_on, test_there}
use Rattle.suite_text.proofs.write.set_steps.Goals as goal

pub push_steps-requires-clause-steps : goal.push_steps-requires-clause-steps
push_steps-requires-clause-steps c = λ t e.
    let says = c.next_letters-count.ensures.letters t e in
    goes_on c.args.suite.now c.suite_keeps_rules.ensures c.args.before c.min-from.result c.next_letters-count.result.1 t c.args.scratch.now c.next_letters-count.new.scratch c.back_to.new.self c.requires.before (test_there c.args.suite.now.tests c.args.test t e)
    (omega (arith, c.min-from.ensures)) (omega (arith, c.min-from.ensures)) says.1 (omega (arith, says.0, c.next_letters-count.ensures.within)) c.next_letters-count.ensures.same c.next_letters-count.ensures.line c.next_letters-count.ensures.ends
    c.back_to.ensures.line c.back_to.ensures.ends

pub returns-clause-steps : goal.returns-clause-steps
returns-clause-steps c = λ t e.
    let says = c.next_letters-count.ensures.letters t e in
    record {
      here = test_there c.args.suite.now.tests c.args.test t e;
      count = says.0;
      letters = ap (take c.next_letters-count.result.0) (c.push_steps.ensures.letters ∙ c.back_to.ensures.letters ∙ says.1) ∙ take_at t.letters (drop (length t.letters) c.args.scratch.now.letters) c.next_letters-count.result.0 (sym says.0);
      steps = c.push_steps.ensures.steps t e;
    }
