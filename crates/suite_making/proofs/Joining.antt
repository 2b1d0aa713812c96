-- The words of a plan's reduced machine are those of the plan.
use Rattle.std.proofs.Common.{◌≡◌, ℕ, ◌+◌, ◌-◌, ◌<◌, ◌≤◌, List, [], ◌∷◌, ◌++◌, length, refl, sym, subst, ◌∙◌, inl, inr, All, arith}
use Rattle.std.proofs.lemmas.Bool.{cases_lt}
use Rattle.std.proofs.lemmas.List.{get_or_append_left, length-append, length-map, nil_from_length}
use Rattle.std.proofs.lemmas.List.Elements.{All-cons, All-from_get_or, All-nil}
use Rattle.abstract_machine.specs.Abstraction.{IsAbstractionOf}
use Rattle.abstract_machine.proofs.Lifted.{cover_is, marks_are, rank_over_all}
use Rattle.concretise.specs.Concrete.{AreSuiteWords, AreWordsFor}
use Rattle.fsm_core.specs.Machine.{IsMachine, IsWord, Machine}
use Rattle.input_classes.specs.declared.class.Class.{Class}
use Rattle.input_classes.specs.Partition.{Covers, Partition}
use Rattle.input_classes.specs.VectorSet.{VectorSet}
use Rattle.subject.specs.Alike.{HasRank, MembersActAlike}
use Rattle.subject.specs.Domain.{box}
use Rattle.subject.specs.Meaning.{Meaning}
use Rattle.subject.proofs.CallerLemmas.{rank_within}
use Rattle.subject.proofs.FromShape.{marks_are_letters, product_letters}
use Rattle.suite_build.specs.Steps.{steps}
use Rattle.suite_words.specs.Cover.{AreLetters}
use Rattle.suite_words.specs.Tests.{AreTests, IsLongest, IsProduct}
use Rattle.charset.specs.Marks.{answer_after}
use Rattle.word_pool.specs.Words.{word, words_at, IsProperPrefix}
use Rattle.word_pool.proofs.CallerLemmas.{word_at}
use Rattle.suite_making.specs.Making.{HasTooManyStates, IsAllowed, IsRefused, IsLeastAllowed, IsLeastRefused}
use Rattle.suite_making.specs.declared.error.MakeError.{MakeError}
use Rattle.suite_making.specs.declared.error.MakeError.TheVariants.{TooManyConfigurations, BoundBelow, TooManySteps, Memory}
use Rattle.suite_making.specs.inside.Refusals.{AreWordsRefused, IsMachineRefused}
use Rattle.suite_making.specs.inside.Words.{AreWordsOf}

front_letters : (c : ℕ) (u v : List ℕ) → AreLetters c (u ++ v) → AreLetters c u
front_letters c u v all i d h = subst (λ x. x < c) (get_or_append_left u v d i h) (all i d (omega (arith, h, length-append u v)))

some_before : (u : List ℕ) → 0 < length u → IsProperPrefix [] u
some_before [] h = absurd (omega (arith, h))
some_before (a ∷ v) h = (a, (v, refl))

module _ (g : Machine) (bound : ℕ) (ws : List (List ℕ)) (cs ms ts : List ℕ) (sound : IsMachine g) (w : AreWordsOf g bound ws cs ms ts) where
  pub cover_letters : All (IsWord g) (words_at ws cs)
  cover_letters i d h = (w.are_cover.least.only i d h).letters

  mark_letters : All (AreLetters g.letters) (words_at ws ms)
  mark_letters = marks_are_letters (answer_after g (words_at ws cs)) (length (words_at ws cs)) g.letters (words_at ws ms) (omega (arith, w.are_cover.size, sound.some_states)) w.are_marks

  test_letters : (k : ℕ) → k < length (words_at ws ts) → AreLetters g.letters (word (words_at ws ts) k)
  test_letters k h = product_letters g.letters (words_at ws cs) (words_at ws ms) cover_letters mark_letters (bound - g.states + 1) (word (words_at ws ts) k) (w.are_tests.only k [] h).product

  word_letters : (i : ℕ) → i < length ws → AreLetters g.letters (word ws i)
  word_letters i h =
      let p = w.prefixes i h in
      front_letters g.letters (word ws i) p.1.1.0 (subst (AreLetters g.letters) p.1.1.1 (test_letters p.0 p.1.0))

  -- a product with one letter
  longer : (t : List ℕ) → IsProduct g.letters (words_at ws cs) (words_at ws ms) (bound - g.states + 1) t → (u : List ℕ) × (IsProduct g.letters (words_at ws cs) (words_at ws ms) (bound - g.states + 1) u × (0 < length u))
  longer t p = (
    word (words_at ws cs) p.i ++ ((0 ∷ []) ++ word (words_at ws ms) p.after.k),
    (
      record {
        i = p.i;
        in_cover = p.in_cover;
        after = record {
          z = 0 ∷ [];
          k = p.after.k;
          letters = All-cons (λ a. a < g.letters) 0 [] sound.some_letters (All-nil (λ a. a < g.letters));
          short = omega arith;
          mark = p.after.mark;
          is = refl;
        };
      },
      omega (arith, length-append (word (words_at ws cs) p.i) ((0 ∷ []) ++ word (words_at ws ms) p.after.k)),
    ),
  )

  test_some : (t : List ℕ) → IsLongest (IsProduct g.letters (words_at ws cs) (words_at ws ms) (bound - g.states + 1)) t → 0 < length t
  test_some t h = elim (cases_lt 0 (length t)) as (λ _. 0 < length t) [
    | inl some ↦ some
    | inr none ↦
        let l = longer t h.product in
        let is : t ≡ [] = nil_from_length t (omega (arith, none)) in
        absurd (h.longest l.0 l.1.0 (subst (λ x. IsProperPrefix x l.0) (sym is) (some_before l.0 l.1.1)))
  ]

  pub suite_words : (c : ℕ) → g.letters ≡ c → AreSuiteWords c ws cs ms ts
  suite_words c e = record {
    letters = subst (λ n. All (AreLetters n) ws) e (All-from_get_or (AreLetters g.letters) ws [] word_letters);
    cover_ids = w.cover_ids;
    mark_ids = w.mark_ids;
    test_ids = w.test_ids;
    some_letter = All-from_get_or (λ i. 0 < length (word ws i)) ts 0 (λ k h.
        let there : k < length (words_at ws ts) = omega (arith, h, length-map ts (word ws)) in
        subst (λ t. 0 < length t) (word_at ws ts k h) (test_some (word (words_at ws ts) k) (w.are_tests.only k [] there)));
    prefixes = w.prefixes;
  }

-- there is one rank
pub one_rank : {S : Type 0} (s : VectorSet) (m : Meaning S) (k n : ℕ) → HasRank s m k → HasRank s m n → k ≡ n
one_rank s m k n first second =
    let up = rank_within m s s (λ w h. h) k n first second.most in
    let down = rank_within m s s (λ w h. h) n k second first.most in
    omega arith

-- a suite for a bound that is the rank is one for the least bound
pub least_allowed : {S : Type 0} (m : Meaning S) (r : Partition) (bound : ℕ) → HasRank (box m r) m bound → IsAllowed m r bound → IsLeastAllowed m r
least_allowed m r bound is h =
    let same : h.states ≡ bound = one_rank (box m r) m h.states bound h.rank is in
    record {
      few = h.few;
      states = bound;
      rank = is;
      few_steps = subst (λ n. steps n (length r.classes) bound ≤ 20000000) same h.few_steps;
    }

pub least_refused : {S : Type 0} (m : Meaning S) (r : Partition) (bound : ℕ) → HasRank (box m r) m bound → (e : MakeError) → IsRefused m r bound e → IsLeastRefused m r e
least_refused m r bound is TooManyConfigurations h = h
least_refused m r bound is (BoundBelow n) h =
    let same : n ≡ bound = one_rank (box m r) m n bound h.rank is in
    absurd (omega (arith, same, h.below))
least_refused m r bound is TooManySteps h =
    let same : h.states ≡ bound = one_rank (box m r) m h.states bound h.rank is in
    record {
      few = h.few;
      states = bound;
      rank = is;
      many = subst (λ n. 20000000 < steps n (length r.classes) bound) same h.many;
    }
least_refused m r bound is Memory h = h

module _ {S : Type 0} (m : Meaning S) (r : Partition) (g : Machine) (a : IsAbstractionOf r m g) (covers : Covers (box m r) r) (alike : MembersActAlike (box m r) r m) where
  pub letters : g.letters ≡ length r.classes
  letters = a.reduced.letters ∙ a.explored.letters ∙ length-map r.classes (λ (c : Class). c.witness)

  pub rank : HasRank (box m r) m g.states
  rank = rank_over_all r m g a (box m r) covers alike

  pub words_for : (bound : ℕ) (ws : List (List ℕ)) (cs ms ts : List ℕ) → g.states ≤ bound → AreWordsOf g bound ws cs ms ts →
      AreWordsFor m r bound (words_at ws cs) (words_at ws ms) (words_at ws ts)
  words_for bound ws cs ms ts within w = record {
    few = omega (arith, within, w.are_cover.size);
    are_cover = cover_is r m g a (box m r) covers alike (words_at ws cs) w.are_cover.least;
    are_marks = marks_are r m g a (words_at ws cs) (words_at ws ms) (cover_letters g bound ws cs ms ts a.reduced.machine w) w.are_marks;
    are_tests = subst (λ n. AreTests (length r.classes) (words_at ws cs) (words_at ws ms) (bound - n + 1) (words_at ws ts)) (sym w.are_cover.size)
        (subst (λ n. AreTests n (words_at ws cs) (words_at ws ms) (bound - g.states + 1) (words_at ws ts)) letters w.are_tests);
  }

  pub allowed : (bound : ℕ) → (HasTooManyStates m r → ⊥) → g.states ≤ bound → steps g.states g.letters bound ≤ 20000000 → IsAllowed m r bound
  allowed bound few within h = record {
    few = few;
    states = g.states;
    rank = rank;
    within = within;
    few_steps = subst (λ n. steps g.states n bound ≤ 20000000) letters h;
  }

  pub refused : (bound : ℕ) (e : MakeError) → (HasTooManyStates m r → ⊥) → AreWordsRefused g.states g.letters bound e → IsRefused m r bound e
  refused bound TooManyConfigurations few h = absurd h
  refused bound (BoundBelow n) few h = record {
    few = few;
    rank = subst (HasRank (box m r) m) (sym h.1) rank;
    below = omega (arith, h.0, h.1);
  }
  refused bound TooManySteps few h = record {
    few = few;
    states = g.states;
    rank = rank;
    within = h.0;
    many = subst (λ n. 20000000 < steps g.states n bound) letters h.1;
  }
  refused bound Memory few h = h

pub machine_refused : {S : Type 0} (m : Meaning S) (r : Partition) (bound : ℕ) (e : MakeError) → IsMachineRefused m r e → IsRefused m r bound e
machine_refused m r bound TooManyConfigurations h = h
machine_refused m r bound (BoundBelow n) h = absurd h
machine_refused m r bound TooManySteps h = absurd h
machine_refused m r bound Memory h = h
