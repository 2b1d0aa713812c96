use Rattle.std.proofs.Common.{◌≡◌, ◌∙◌, ◌++◌, ◌∷◌, [], ℕ, ℤ, List, length, refl, sym, ap, subst, arith, ◌≤◌, None, Some, false, true, MatchBool}
use Rattle.std.proofs.lemmas.Option.{none-some}
use Rattle.subject.specs.Suite.{Test}
use Rattle.test_store.specs.Store.{Enters, IsConflict}
use Rattle.suite_reading.specs.State.{State}
use Rattle.suite_reader.proofs.Stepping.{at_steps, ready, conflicts, enters, went_on, came_to_end, whole_letters}
use Rattle.suite_reader.proofs.reader.Reader.take_step.Goals as goal

pub returns-in-Ok-false : goal.returns-in-Ok-false
returns-in-Ok-false c =
    let four = sym c.check_step.ensures ∙ c.in_default.is in
    let at = ready _ c.args.self.now c.self.inside.store c.reserve.new.self c.steps.result c.index-letter.result.now c.self.view_is refl refl c.self.invariant c.reserve.ensures.tests c.reserve.ensures.now
    (c.requires.counted.opened (at_steps c.args.self.now c.args.vector.now c.args.reply.now four)) c.steps.ensures.replies c.index-letter.ensures in
    let met = (rw c.in-Ok-false.field-0-test at c.in-Ok-false.ensures.entered).0 in
    let found : IsConflict c.reserve.new.self c.index-letter.result.now c.args.reply.now = subst (IsConflict c.reserve.new.self c.index-letter.result.now) c.from_slice.ensures met in
    record {
      cause = sym (conflicts c.reserve.new.self c.args.self.now c.index-letter.result.now c.args.vector.now c.args.reply.now c.requires at four found);
      taken = λ e. absurd (none-some _ (sym e));
    }

pub returns-then-steps-len : goal.returns-then-steps-len
returns-then-steps-len c =
    let four = sym c.check_step.ensures ∙ c.in_default.is in
    let at_place = at_steps c.args.self.now c.args.vector.now c.args.reply.now four in
    let at = ready _ c.args.self.now c.self.inside.store c.reserve.new.self c.steps.result c.index-letter.result.now c.self.view_is refl refl c.self.invariant c.reserve.ensures.tests c.reserve.ensures.now
    (c.requires.counted.opened at_place) c.steps.ensures.replies c.index-letter.ensures in
    let met = rw c.in-Ok-true.field-0-test at c.in-Ok-true.ensures.entered in
    let entered : Enters c.reserve.new.self c.index-letter.result.now c.args.reply.now c.step.new.self = subst (λ x. Enters c.reserve.new.self c.index-letter.result.now x c.step.new.self) c.from_slice.ensures met in
    record {
      cause = sym (enters c.reserve.new.self c.step.new.self c.args.self.now c.index-letter.result.now c.args.vector.now c.args.reply.now at four entered);
      taken = λ e. went_on _ c.args.self.now c.args.vector.now c.args.reply.now (record { letters = c.self.inside.letters.items; replies = c.step.new.self.now.replies }) c.step.new.self.tests c.self.view_is
          (ap (λ (x : State). x.place) c.self.view_is ∙ at_place) (c.in-Ok-true.ensures.tests ∙ c.reserve.ensures.tests) refl
          (entered.replies ∙ ap (λ (t : Test). t.replies ++ c.args.reply.now ∷ []) c.reserve.ensures.now)
          (omega (arith, c.if-steps-len.true, c.steps-2.ensures.replies, c.len.ensures, c.self.inside.letters.ok));
    }

pub returns : goal.returns
returns c =
    let four = sym c.check_step.ensures ∙ c.in_default.is in
    let at = ready _ c.args.self.now c.self.inside.store c.reserve.new.self c.steps.result c.index-letter.result.now c.self.view_is refl refl c.self.invariant c.reserve.ensures.tests c.reserve.ensures.now
    (c.requires.counted.opened (at_steps c.args.self.now c.args.vector.now c.args.reply.now four)) c.steps.ensures.replies c.index-letter.ensures in
    let met = rw c.in-Ok-true.field-0-test at c.in-Ok-true.ensures.entered in
    let entered : Enters c.reserve.new.self c.index-letter.result.now c.args.reply.now c.step.new.self = subst (λ x. Enters c.reserve.new.self c.index-letter.result.now x c.step.new.self) c.from_slice.ensures met in
    let same : length c.args.self.now.now.letters ≡ length c.self.inside.letters.items = ap (λ (x : State). length x.now.letters) (sym c.self.view_is) in
    let over : length c.args.self.now.now.letters ≤ length c.step.new.self.now.replies = omega (arith, c.if-steps-len.false, c.steps-2.ensures.replies, c.len.ensures, c.self.inside.letters.ok, same) in
    let all = whole_letters c.reserve.new.self c.step.new.self c.args.self.now c.index-letter.result.now c.args.reply.now at entered over in
    record {
      cause = sym (enters c.reserve.new.self c.step.new.self c.args.self.now c.index-letter.result.now c.args.vector.now c.args.reply.now at four entered);
      taken = λ e. came_to_end _ c.args.self.now c.args.vector.now c.args.reply.now c.step.new.self.now (record { letters = c.clear.new.self.items; replies = c.finish.new.self.now.replies }) c.finish.new.self.tests c.self.view_is
          (c.finish.ensures.tests ∙ ap (λ (x : List Test). x ++ c.step.new.self.now ∷ []) (c.in-Ok-true.ensures.tests ∙ c.reserve.ensures.tests))
          (all ∙ ap (λ (x : State). x.now.letters) (sym c.self.view_is))
          (entered.replies ∙ ap (λ (t : Test). t.replies ++ c.args.reply.now ∷ []) c.reserve.ensures.now)
          (omega (arith, over, ap length all))
          (λ i. record { letters = c.clear.ensures.items i; replies = (c.finish.ensures.now i).replies });
    }
