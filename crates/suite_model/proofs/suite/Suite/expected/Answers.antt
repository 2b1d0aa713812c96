use Rattle.std.proofs.Common.{◌≡◌, ◌<◌, ◌∙◌, ℕ, ℤ, List, get_or, ap, sym, length, slice_get, Some, arith}
use Rattle.std.proofs.lemmas.Option.{same_Some, slice_get_within}
use Rattle.word_pool.specs.Words.{word}
use Rattle.subject.specs.Suite.{SuiteParts, Test}
use Rattle.suite_model.specs.Pooled.{pooled_tests}
use Rattle.suite_model.proofs.Reading.{test_here, reply_read, number_some}
use Rattle.suite_model.proofs.suite.Suite.expected.Goals as goal

-- what the two accesses say, at plain values
known : (tests : List Test) (words : List (List ℕ)) (rs : List (List ℤ)) (ids : List ℕ) (i id step : ℕ) → pooled_tests words rs ids ≡ tests → i < length tests → id ≡ get_or ids i id
    → ((t : Test) → slice_get tests i ≡ Some t → step < length t.letters) → step < length (word words id)
known tests words rs ids i id step e inside read asked = asked _ (test_here words rs ids tests i id e inside read)

within : (c : goal.After-length-length) → c.args.step < length (word c.self.inside.pool.words c.index-id.result.now)
within c = known c.args.self.now.tests c.self.inside.pool.words c.self.inside.replies c.self.inside.tests.items c.args.test c.index-id.result.now c.args.step (ap (λ (p : SuiteParts). p.tests) c.self.view_is) c.requires.test c.index-id.ensures c.requires.step

pub overflow_add-step : goal.overflow_add-step
overflow_add-step c = let h = within c in omega arith

pub prefix-id-requires-clause-within : goal.prefix-id-requires-clause-within
prefix-id-requires-clause-within c = let h = within c in omega arith

pub number-requires : goal.number-requires
number-requires c = slice_get_within _ _ _ c.prefix-id.ensures.word

pub at-requires : goal.at-requires
at-requires c =
    let ws = c.self.inside.pool.words in
    let within = known c.args.self.now.tests ws c.self.inside.replies c.self.inside.tests.items c.args.test c.index-id.result.now c.args.step (ap (λ (p : SuiteParts). p.tests) c.self.view_is) c.requires.test c.index-id.ensures c.requires.step in
    let some : 0 < c.prefix-id.result = number_some ws c.self.invariant.0 (word ws c.index-id.result.now) c.args.step c.prefix-id.result within c.prefix-id.ensures.word in
    let inside : c.prefix-id.result < length ws = slice_get_within _ _ _ c.prefix-id.ensures.word in
    omega (arith, c.self.invariant.1.one_each, c.number.ensures.number)

pub returns : goal.returns
returns c = λ t e.
    let ws = c.self.inside.pool.words in
    let rs = c.self.inside.replies in
    let ids = c.self.inside.tests.items in
    let seen = ap (λ (p : SuiteParts). p.tests) c.self.view_is in
    let within = known c.args.self.now.tests ws rs ids c.args.test c.index-id.result.now c.args.step seen c.requires.test c.index-id.ensures c.requires.step in
    let some : 0 < c.prefix-id.result = number_some ws c.self.invariant.0 (word ws c.index-id.result.now) c.args.step c.prefix-id.result within c.prefix-id.ensures.word in
    let inside : c.prefix-id.result < length ws = slice_get_within _ _ _ c.prefix-id.ensures.word in
    let same = same_Some _ _ (sym (test_here ws rs ids c.args.self.now.tests c.args.test c.index-id.result.now seen c.requires.test c.index-id.ensures) ∙ e) in
    ap (λ (t : Test). slice_get t.replies c.args.step) (sym same)
    ∙ reply_read ws rs c.self.invariant.0 (word ws c.index-id.result.now) c.args.step c.prefix-id.result c.at.result.now within inside c.prefix-id.ensures.word
    (omega (arith, c.self.invariant.1.one_each)) (rw (c.number.ensures.number) at c.at.ensures)
