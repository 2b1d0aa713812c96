use Rattle.std.proofs.Common.{◌≡◌, ◌+◌, ◌++◌, ◌∷◌, [], arith}
use Rattle.line_forms.specs.declared.statement.SignedTerm.{SignedTerm}
use Rattle.line_forms.specs.Grammar.{term_size}
use Rattle.line_forms.proofs.Ends.{sum_begin, sum_more, sum_end, some_term, led_after}
use Rattle.line_checks.proofs.walk.sum_end.Goals as goal

pub terms-init : goal.terms-init
terms-init c =
    let x : SignedTerm = record { negated = c.led-negated.result.0; term = c.in-Some.term } in
    let after = led_after c.args.line.now c.args.at c.led-negated.result.1 c.led-negated.result.0 c.led-negated.ensures in
    let some = some_term c.in-Some.term in (
      x ∷ [],
      rw c.size.ensures (sum_begin c.args.line.now c.args.at c.led-negated.result.1 _ x c.led-negated.ensures c.in-Some.ensures.found
          (omega (arith, after, some)) c.in-Some.ensures.inside),
    )

pub returns-in_default-further_term-clause-found : goal.returns-in_default-further_term-clause-found
returns-in_default-further_term-clause-found c =
    (c.terms.invariant.0, sum_end c.args.line.now c.args.at c.terms.end c.terms.invariant.0 c.terms.invariant.1 c.in_default-further_term.ensures.found)

pub terms-preserved : goal.terms-preserved
terms-preserved c =
    let x : SignedTerm = c.in-Some-further_term.next in
    let found = c.in-Some-further_term.ensures.found in
    let terms = c.terms.invariant.0 in
    let place : c.terms.end + (1 + c.size-in-terms.result) ≡ c.terms.end + 1 + term_size x.term = omega (arith, c.size-in-terms.ensures) in (
      terms ++ x ∷ [],
      rw place (sum_more c.args.line.now c.args.at c.terms.end
          (c.terms.end + 1 + term_size x.term) terms x c.terms.invariant.1 found.0 found.1 (omega arith) c.in-Some-further_term.ensures.inside),
    )
