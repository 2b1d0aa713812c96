use Rattle.std.proofs.Common.{◌≡◌, ℕ, ◌+◌, ◌-◌, ◌*◌, ◌<◌, ◌≤◌, List, length, suc, subst, refl, ap, sym, ◌∙◌, arith}
use Rattle.std.proofs.lemmas.Option.{slice_get_within}
use Rattle.word_pool.specs.Words.{word}
use Rattle.word_pool.proofs.CallerLemmas.{keeps_on}
use Rattle.suite_build.specs.inside.Entered.{AreEntered, letters_of}
use Rattle.suite_words.specs.Tests.{IsProductAfter}
use Rattle.suite_build.specs.Steps.{words_upto}
use Rattle.suite_build.proofs.Entered.{IsFilling, few_marks, filling_all, filling_more, filling_none, products_none}
use Rattle.suite_build.proofs.Entered.{room_for_letter, room_for_marks, room_for_products}
use Rattle.suite_build.proofs.products.+enter_products.Goals as goal

room_is : (old : ℕ) (marks : List (List ℕ)) (c d : ℕ) → 0 < d → old + (letters_of marks + 1) * words_upto c d ≤
    4294967295 → old + (letters_of marks + 1) * words_upto c (suc (d - 1)) ≤ 4294967295
room_is old marks c d h room = let e : d ≡ suc (d - 1) = omega arith in
    let P : ℕ → Type 0 = λ k. old + (letters_of marks + 1) * words_upto c k ≤ 4294967295 in
    subst P e room

pub enter_marks-requires-clause-room : goal.enter_marks-requires-clause-room
enter_marks-requires-clause-room t c = room_for_marks (length c.args.pool.now.words) c.args.marks.now c.args.letters c.args.depth c.requires.room

pub loop-letter-init : goal.loop-letter-init
loop-letter-init t c = filling_none c.args.pool.now.words c.enter_marks.new.pool.words c.args.at c.args.letters c.args.marks.now (c.args.depth - 1)
    c.in_ok-enter_marks.ensures.keeps c.in_ok-enter_marks.ensures.few c.in_ok-enter_marks.ensures.entered

pub extend-requires-clause-few : goal.extend-requires-clause-few
extend-requires-clause-few t c = room_for_letter c.args.pool.now.words c.loop-letter.pool.words c.args.at
    c.args.letters c.args.marks.now (c.args.depth - 1) c.loop-letter.letter
    c.loop-letter.invariant c.requires.at (omega (arith, c.loop-letter-test.true, c.requires.letters))
    (room_is (length c.args.pool.now.words) c.args.marks.now c.args.letters c.args.depth c.if-depth-gt0.true c.requires.room)

pub enter_products-requires : goal.enter_products-requires
enter_products-requires t c = (
  omega (arith, c.if-depth-gt0.true),
  (
    slice_get_within c.extend.new.self.words c.in_ok-next.next _ c.in_ok-next.ensures.word,
    (
      c.requires.letters,
      (
        c.requires.some,
        room_for_products c.args.pool.now.words c.loop-letter.pool.words c.args.at c.args.letters c.args.marks.now
            (c.args.depth - 1) c.loop-letter.letter c.loop-letter.invariant c.requires.at
            (omega (arith, c.loop-letter-test.true, c.requires.letters)) (room_is (length c.args.pool.now.words)
            c.args.marks.now c.args.letters c.args.depth c.if-depth-gt0.true c.requires.room)
            c.extend.new.self.words c.in_ok-next.next c.in_ok-next.ensures.enters c.in_ok-next.ensures.keeps c.in_ok-next.ensures.word,
      ),
    ),
  ),
)

pub returns-in_err-enter_products-clause-keeps : goal.returns-in_err-enter_products-clause-keeps
returns-in_err-enter_products-clause-keeps t c =
    keeps_on c.args.pool.now.words c.extend.new.self.words c.enter_products.new.pool.words
    (keeps_on c.args.pool.now.words c.loop-letter.pool.words c.extend.new.self.words c.loop-letter.invariant.keeps
    c.in_ok-next.ensures.keeps) c.in_err-enter_products.ensures.keeps

pub loop-letter-preserved : goal.loop-letter-preserved
loop-letter-preserved t c =
    filling_more c.args.pool.now.words c.loop-letter.pool.words c.args.at c.args.letters c.args.marks.now
    (c.args.depth - 1) c.loop-letter.letter c.loop-letter.invariant c.requires.at
    (omega (arith, c.loop-letter-test.true, c.requires.letters)) (room_is (length c.args.pool.now.words)
    c.args.marks.now c.args.letters c.args.depth c.if-depth-gt0.true c.requires.room)
    c.extend.new.self.words c.in_ok-next.next c.in_ok-next.ensures.enters c.in_ok-next.ensures.keeps c.in_ok-next.ensures.word
    c.enter_products.new.pool.words c.requires.some c.in_ok-enter_products.ensures.keeps
    c.in_ok-enter_products.ensures.few c.in_ok-enter_products.ensures.entered

-- the end of the letters
ends : (old ws : List (List ℕ)) (at c : ℕ) (marks : List (List ℕ)) (d a : ℕ) → 0 < d → a ≡ c → IsFilling old ws at c marks (d - 1) a →
    (length ws + 1 ≤ length old + (letters_of marks + 1) * words_upto c d) × AreEntered old (IsProductAfter (word old at) c marks d) ws
ends old ws at c marks d a h end f =
    let e : d ≡ suc (d - 1) = omega arith in
    let g = filling_all old ws at c marks (d - 1) (rw (end) at f) in
    let P : ℕ → Type 0 = λ k. (length ws + 1 ≤ length old + (letters_of marks + 1) * words_upto c k) ×
    AreEntered old (IsProductAfter (word old at) c marks k) ws in
    subst P (sym e) g

pub returns-after-loop-letter-clause-few : goal.returns-after-loop-letter-clause-few
returns-after-loop-letter-clause-few t c = (ends c.args.pool.now.words c.loop-letter.pool.words c.args.at
    c.args.letters c.args.marks.now c.args.depth c.loop-letter.letter
    c.if-depth-gt0.true (omega (arith, c.loop-letter-test.false, c.loop-letter.auto.letter-end, c.requires.letters)) c.loop-letter.invariant).0

pub returns-after-loop-letter-clause-entered : goal.returns-after-loop-letter-clause-entered
returns-after-loop-letter-clause-entered t c = (ends c.args.pool.now.words c.loop-letter.pool.words c.args.at
    c.args.letters c.args.marks.now c.args.depth c.loop-letter.letter
    c.if-depth-gt0.true (omega (arith, c.loop-letter-test.false, c.loop-letter.auto.letter-end, c.requires.letters)) c.loop-letter.invariant).1

pub returns-else-depth-gt0-clause-entered : goal.returns-else-depth-gt0-clause-entered
returns-else-depth-gt0-clause-entered t c =
    let e : c.args.depth ≡ 0 = omega (arith, c.if-depth-gt0.false) in
    rw (e) (products_none c.args.pool.now.words c.enter_marks.new.pool.words (word c.args.pool.now.words c.args.at)
    c.args.letters c.args.marks.now c.in_ok-enter_marks.ensures.entered)
