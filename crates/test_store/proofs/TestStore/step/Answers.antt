use Rattle.std.proofs.Common.{◌∙◌, ◌++◌, ◌∷◌, ap, sym, List, ℕ, ℤ, arith, []}
use Rattle.suite_model.specs.Pooled.{pooled_test}
use Rattle.word_pool.specs.Words.{word}
use Rattle.test_store.specs.Store.{Store}
use Rattle.test_store.proofs.Entering.{was, enters_at, conflicts, is_new, came_last, read_reply, letters_new, enters_only, conflict_only}
use Rattle.test_store.proofs.TestStore.step.Goals as goal

pub invariant_of-self-then-differ : goal.invariant_of-self-then-differ
invariant_of-self-then-differ c =
    let w = was c.self.inside.pool.words c.extend.new.self.words c.self.inside.replies.items c.self.inside.ids.items c.self.inside.at c.in_ok-id.id c.args.letter c.number-number.result c.words-before.result c.self.invariant.0 c.in_ok-id.ensures.enters c.extend.ensures.keeps c.in_ok-id.ensures.word c.number-number.ensures.number c.words-before.ensures.count c.if-number-before.true in
    rw (w.same, c.reserve.ensures.items) c.self.invariant

pub returns-then-differ-clause-entered : goal.returns-then-differ-clause-entered
returns-then-differ-clause-entered c =
    let w = was c.self.inside.pool.words c.extend.new.self.words c.self.inside.replies.items c.self.inside.ids.items c.self.inside.at c.in_ok-id.id c.args.letter c.number-number.result c.words-before.result c.self.invariant.0 c.in_ok-id.ensures.enters c.extend.ensures.keeps c.in_ok-id.ensures.word c.number-number.ensures.number c.words-before.ensures.count c.if-number-before.true in
    let r = read_reply c.self.inside.pool.words c.self.inside.replies.items c.reserve.new.self.items c.self.inside.ids.items c.self.inside.at c.in_ok-id.id c.args.letter c.number-number.result c.index.result.now c.extend.new.self.words c.self.invariant.0 w c.reserve.ensures.items c.number-number.ensures.number c.index.ensures in (
      conflict_only _ c.args.self.now c.args.letter c.args.reply
          (conflicts c.self.inside.pool.words c.self.inside.replies.items c.self.inside.ids.items c.self.inside.at c.in_ok-id.id c.args.letter c.args.reply c.self.invariant.0 w.inside w.is
          (λ e. c.if-differ.ensures (sym r ∙ e)))
          (ap (λ (s : Store). s.tests) c.self.view_is) (ap (λ (s : Store). s.now) c.self.view_is),
      rw (w.same, c.reserve.ensures.items) c.self.view_is,
    )

pub returns-then-differ-clause-tests : goal.returns-then-differ-clause-tests
returns-then-differ-clause-tests c =
    let w = was c.self.inside.pool.words c.extend.new.self.words c.self.inside.replies.items c.self.inside.ids.items c.self.inside.at c.in_ok-id.id c.args.letter c.number-number.result c.words-before.result c.self.invariant.0 c.in_ok-id.ensures.enters c.extend.ensures.keeps c.in_ok-id.ensures.word c.number-number.ensures.number c.words-before.ensures.count c.if-number-before.true in
    rw (w.same, c.reserve.ensures.items) (ap (λ (s : Store). s.tests) c.self.view_is)

pub invariant_of-self-then-number-before : goal.invariant_of-self-then-number-before
invariant_of-self-then-number-before c =
    let w = was c.self.inside.pool.words c.extend.new.self.words c.self.inside.replies.items c.self.inside.ids.items c.self.inside.at c.in_ok-id.id c.args.letter c.number-number.result c.words-before.result c.self.invariant.0 c.in_ok-id.ensures.enters c.extend.ensures.keeps c.in_ok-id.ensures.word c.number-number.ensures.number c.words-before.ensures.count c.if-number-before.true in
    rw (w.same, c.reserve.ensures.items) (w.stored, c.self.invariant.1)

pub returns-then-number-before-clause-entered : goal.returns-then-number-before-clause-entered
returns-then-number-before-clause-entered c =
    let w = was c.self.inside.pool.words c.extend.new.self.words c.self.inside.replies.items c.self.inside.ids.items c.self.inside.at c.in_ok-id.id c.args.letter c.number-number.result c.words-before.result c.self.invariant.0 c.in_ok-id.ensures.enters c.extend.ensures.keeps c.in_ok-id.ensures.word c.number-number.ensures.number c.words-before.ensures.count c.if-number-before.true in
    let r = read_reply c.self.inside.pool.words c.self.inside.replies.items c.reserve.new.self.items c.self.inside.ids.items c.self.inside.at c.in_ok-id.id c.args.letter c.number-number.result c.index.result.now c.extend.new.self.words c.self.invariant.0 w c.reserve.ensures.items c.number-number.ensures.number c.index.ensures in
    let done = enters_at c.self.inside.pool.words c.self.inside.replies.items c.self.inside.ids.items c.self.inside.at c.in_ok-id.id c.args.letter c.args.reply c.self.invariant.0.pooled w.inside w.is (r ∙ c.if-differ.ensures) in
    enters_only _ _ c.args.self.now _ c.args.letter c.args.reply done (ap (λ (s : Store). s.tests) c.self.view_is) (ap (λ (s : Store). s.now) c.self.view_is)
    (ap (λ (x : List (List ℕ)). pooled_test x c.self.inside.replies.items (word x c.in_ok-id.id)) (sym w.same) ∙ ap (λ (x : List (List ℤ)). pooled_test c.extend.new.self.words x (word c.extend.new.self.words c.in_ok-id.id)) (sym c.reserve.ensures.items))

pub returns-then-number-before-clause-tests : goal.returns-then-number-before-clause-tests
returns-then-number-before-clause-tests c =
    let w = was c.self.inside.pool.words c.extend.new.self.words c.self.inside.replies.items c.self.inside.ids.items c.self.inside.at c.in_ok-id.id c.args.letter c.number-number.result c.words-before.result c.self.invariant.0 c.in_ok-id.ensures.enters c.extend.ensures.keeps c.in_ok-id.ensures.word c.number-number.ensures.number c.words-before.ensures.count c.if-number-before.true in
    rw (w.same, c.reserve.ensures.items) (ap (λ (s : Store). s.tests) c.self.view_is)

pub invariant_of-self-2 : goal.invariant_of-self-2
invariant_of-self-2 c =
    let l = came_last c.self.inside.pool.words c.extend.new.self.words _ c.in_ok-id.id c.in_ok-id.ensures.enters c.in_ok-id.ensures.word (omega (arith, c.number-number.ensures.number, c.words-before.ensures.count, c.if-number-before.false)) in
    let n = is_new c.self.inside.pool.words c.self.inside.replies.items c.self.inside.ids.items c.self.inside.at c.args.letter c.args.reply c.extend.new.self.words c.in_ok-id.id c.self.invariant.0 c.extend.ensures.pooled c.extend.ensures.keeps l.grown l.last in
    rw (c.in-Ok.ensures.items, c.reserve.ensures.items) (n.stored, letters_new c.self.inside.pool.words c.extend.new.self.words c.self.inside.replies.items c.self.inside.ids.items c.self.inside.at c.self.invariant.0 c.self.invariant.1 c.extend.ensures.keeps)

pub returns-clause-entered : goal.returns-clause-entered
returns-clause-entered c =
    let l = came_last c.self.inside.pool.words c.extend.new.self.words _ c.in_ok-id.id c.in_ok-id.ensures.enters c.in_ok-id.ensures.word (omega (arith, c.number-number.ensures.number, c.words-before.ensures.count, c.if-number-before.false)) in
    let n = is_new c.self.inside.pool.words c.self.inside.replies.items c.self.inside.ids.items c.self.inside.at c.args.letter c.args.reply c.extend.new.self.words c.in_ok-id.id c.self.invariant.0 c.extend.ensures.pooled c.extend.ensures.keeps l.grown l.last in
    enters_only _ _ c.args.self.now _ c.args.letter c.args.reply n.enters (ap (λ (s : Store). s.tests) c.self.view_is) (ap (λ (s : Store). s.now) c.self.view_is)
    (ap (λ (x : List (List ℤ)). pooled_test c.extend.new.self.words x (word c.extend.new.self.words c.in_ok-id.id)) (sym (c.in-Ok.ensures.items ∙ ap (λ (x : List (List ℤ)). x ++ c.args.reply ∷ []) c.reserve.ensures.items)))

pub returns-clause-tests : goal.returns-clause-tests
returns-clause-tests c =
    let l = came_last c.self.inside.pool.words c.extend.new.self.words _ c.in_ok-id.id c.in_ok-id.ensures.enters c.in_ok-id.ensures.word (omega (arith, c.number-number.ensures.number, c.words-before.ensures.count, c.if-number-before.false)) in
    let n = is_new c.self.inside.pool.words c.self.inside.replies.items c.self.inside.ids.items c.self.inside.at c.args.letter c.args.reply c.extend.new.self.words c.in_ok-id.id c.self.invariant.0 c.extend.ensures.pooled c.extend.ensures.keeps l.grown l.last in
    rw (c.in-Ok.ensures.items, c.reserve.ensures.items) (n.tests ∙ ap (λ (s : Store). s.tests) c.self.view_is)
