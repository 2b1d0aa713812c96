use Rattle.std.proofs.Common.{◌+◌, ◌++◌, ◌∷◌, [], arith, sym, subst}
use Rattle.impl_table.proofs.Replies.{IsFront, front_more}
use Rattle.impl_table.proofs.form.reply.Goals as goal

pub numbers-preserved : goal.numbers-preserved
numbers-preserved c =
    let line = c.args.line.now in
    let number = c.in-Some.number in
    let size = c.size-end.ensures in
    let inside = c.in-Some.ensures.inside in
    let more = front_more line c.args.at c.numbers.end c.numbers.numbers number c.numbers.invariant.front c.in-Some.ensures.found in
    record {
      front = subst (IsFront line c.args.at (c.numbers.end + c.size-end.result)) (sym c.in_ok-push.ensures.ok)
          (subst (λ n. IsFront line c.args.at (c.numbers.end + n) (c.numbers.numbers ++ number ∷ [])) (sym size) more);
      inside = omega (arith, size, inside);
    }
