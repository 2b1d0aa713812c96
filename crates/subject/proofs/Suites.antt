-- A suite of either shape: what it decides, and that there is one.
use Rattle.std.proofs.Common.{◌≡◌, ℕ, ◌+◌, ◌-◌, ◌<◌, ◌≤◌, inl, inr, List, [], ◌∷◌, length, map, refl, sym, ap, ◌∙◌, subst, arith, ℤ, Contains}
use Rattle.std.specs.Prelude.{◌↔◌}
use Rattle.std.specs.List.{All}
use Rattle.std.proofs.Math.Logic.{∥∥₁_elim}
use Rattle.std.proofs.lemmas.Bool.{cases_lt}
use Rattle.std.proofs.lemmas.List.{length-map}
use Rattle.std.proofs.lemmas.List.Elements.{All-contains, All-map, All-nil, All-head, All-tail}
use Rattle.input_classes.specs.Partition.{Partition, Covers, witnesses}
use Rattle.input_classes.specs.VectorSet.{VectorSet, IsIn, Word}
use Rattle.input_classes.proofs.CallerLemmas.{contains_map}
use Rattle.suite_words.specs.Cover.{AreLetters}
use Rattle.suite_words.specs.Marks.{AreMarksBy}
use Rattle.suite_words.specs.Tests.{IsProduct, IsLongest, AreLongest}
use Rattle.suite_words.proofs.Unique.{cover_unique, longest_unique, marks_unique}
use Rattle.subject.specs.Alike.{Equal, HasRank}
use Rattle.subject.specs.Domain.{ActByClasses, Inside, box}
use Rattle.subject.specs.Meaning.{Meaning, answer}
use Rattle.subject.specs.Method.{IsAnswered}
use Rattle.subject.specs.Shape.{LeadAlikeBy, answer_after, IsSuiteFor, HasShape, HasWpShape, IsWpProduct}
use Rattle.subject.specs.Suite.{SuiteParts, Test, in_vectors, test_case, tests_of}
use Rattle.subject.specs.Tests.{Passes, TestCase}
use Rattle.subject.proofs.Letters.{all_of_each, in_model_alone}
use Rattle.subject.proofs.Method.{method_decides}
use Rattle.subject.proofs.Ranks.{rank_within}
use Rattle.subject.proofs.FromShape.{in_box, cover_letters, marks_are_letters, product_letters, wp_letters, rank_is_length, w_method, wp_method, IsOwn}

-- a plan has a state
rank_some : {S : Type 0} (s : VectorSet) (m : Meaning S) (n : ℕ) → HasRank s m n → 0 < n
rank_some s m n rank =
    elim (cases_lt 0 n) [
      | inl some ↦ some
      | inr none ↦ absurd (∥∥₁_elim (rank.most.each [] (All-nil (IsIn s))) (λ p q. absurd p) (λ l. let few = rank.most.few in let below = l.there.1 in omega (arith, none, few, below)))
    ]

abbrev letters_of : List Test → List (List ℕ)
letters_of tests = map (λ (t : Test). t.letters) tests

-- tests with the same letters and the replies that these determine
same_tests : (f : List ℕ → List (List ℤ)) (ts us : List Test) → letters_of ts ≡ letters_of us → All (λ (t : Test). t.replies ≡ f t.letters) ts → All (λ (t : Test). t.replies ≡ f t.letters) us → ts ≡ us
same_tests f [] [] e a b = refl
same_tests f [] (u ∷ us) e a b = absurd cc
same_tests f (t ∷ ts) [] e a b = absurd cc
same_tests f (t ∷ ts) (u ∷ us) e a b =
    let first : t.letters ≡ u.letters = cc in
    let later : letters_of ts ≡ letters_of us = cc in
    let reply = All-head (λ (t : Test). t.replies ≡ f t.letters) t ts a ∙ ap f first ∙ sym (All-head (λ (t : Test). t.replies ≡ f t.letters) u us b) in
    let rest = same_tests f ts us later (All-tail (λ (t : Test). t.replies ≡ f t.letters) t ts a) (All-tail (λ (t : Test). t.replies ≡ f t.letters) u us b) in
    λ j. record { letters = first j; replies = reply j } ∷ rest j

module _ {S : Type 0} (m : Meaning S) (r : Partition) (n : ℕ) where
  abbrev c : ℕ
  c = length r.classes

  module _ (s t : SuiteParts) (a : IsSuiteFor m r n s) (b : IsSuiteFor m r n t) where
    same_states : s.states ≡ t.states
    same_states =
        let up = rank_within m (box m r) (box m r) (λ w h. h) s.states t.states a.rank b.rank.most in
        let down = rank_within m (box m r) (box m r) (λ w h. h) t.states s.states b.rank a.rank.most in
        omega (arith, up, down)

    same_cover : s.cover ≡ t.cover
    same_cover = cover_unique c (LeadAlikeBy m r) s.cover t.cover a.cover b.cover

    same_marks : s.marks ≡ t.marks
    same_marks =
        marks_unique (answer_after m r s.cover) s.states c s.marks t.marks (rank_some (box m r) m s.states a.rank) a.marks
        (subst (λ k. AreMarksBy (answer_after m r s.cover) k c t.marks) (sym same_states)
        (subst (λ cover. AreMarksBy (answer_after m r cover) t.states c t.marks) (sym same_cover) b.marks))

    same_suites : letters_of s.tests ≡ letters_of t.tests → s ≡ t
    same_suites letters =
        let classes : s.classes ≡ t.classes = a.classes ∙ sym b.classes in
        let later = subst (λ vs. All (λ (u : Test). u.replies ≡ answer m (in_vectors vs u.letters)) t.tests) (sym classes) b.replies in
        let tests = same_tests (λ w. answer m (in_vectors s.classes w)) s.tests t.tests letters a.replies later in
        let signature = a.signature ∙ sym b.signature in
        let bound = a.same_bound ∙ sym b.same_bound in
        λ j. record {
          signature = signature j;
          bound = bound j;
          states = same_states j;
          classes = classes j;
          cover = same_cover j;
          marks = same_marks j;
          tests = tests j;
        }

  -- at most one suite has the shape
  pub one_shape : (s t : SuiteParts) → HasShape m r n s → HasShape m r n t → s ≡ t
  one_shape s t a b =
      same_suites s t a.suits b.suits (longest_unique (IsProduct c s.cover s.marks (n - s.states + 1)) (letters_of s.tests) (letters_of t.tests) a.tests
      (subst (λ k. AreLongest (IsProduct c s.cover s.marks (n - k + 1)) (letters_of t.tests)) (sym (same_states s t a.suits b.suits))
      (subst (λ marks. AreLongest (IsProduct c s.cover marks (n - t.states + 1)) (letters_of t.tests)) (sym (same_marks s t a.suits b.suits))
      (subst (λ cover. AreLongest (IsProduct c cover t.marks (n - t.states + 1)) (letters_of t.tests)) (sym (same_cover s t a.suits b.suits)) b.tests))))

  pub one_wp_shape : (s t : SuiteParts) → HasWpShape m r n s → HasWpShape m r n t → s ≡ t
  one_wp_shape s t a b =
      same_suites s t a.suits b.suits (longest_unique (IsWpProduct c (LeadAlikeBy m r) (answer_after m r s.cover) s.states s.cover s.marks (n - s.states)) (letters_of s.tests) (letters_of t.tests) a.tests
      (subst (λ k. AreLongest (IsWpProduct c (LeadAlikeBy m r) (answer_after m r s.cover) k s.cover s.marks (n - k)) (letters_of t.tests)) (sym (same_states s t a.suits b.suits))
      (subst (λ marks. AreLongest (IsWpProduct c (LeadAlikeBy m r) (answer_after m r s.cover) t.states s.cover marks (n - t.states)) (letters_of t.tests)) (sym (same_marks s t a.suits b.suits))
      (subst (λ cover. AreLongest (IsWpProduct c (LeadAlikeBy m r) (answer_after m r cover) t.states cover t.marks (n - t.states)) (letters_of t.tests)) (sym (same_cover s t a.suits b.suits)) b.tests))))

  module _ (covers : Covers (box m r) r) (s : SuiteParts) (h : IsSuiteFor m r n s) where
    abbrev cases : List TestCase
    cases = map (test_case (witnesses r)) s.tests

    cases_are : tests_of s ≡ cases
    cases_are = ap (λ vs. map (test_case vs) s.tests) h.classes

    marks_letters : All (AreLetters c) s.marks
    marks_letters = marks_are_letters (answer_after m r s.cover) s.states c s.marks (rank_some (box m r) m s.states h.rank) h.marks

    answered_cases : ((t : Test) → Contains s.tests t → AreLetters c t.letters) → All (IsAnswered (box m r) m) cases
    answered_cases letters =
        All-map (IsAnswered (box m r) m) (test_case (witnesses r)) s.tests (all_of_each (λ t. IsAnswered (box m r) m (test_case (witnesses r) t)) s.tests (λ t k.
        let reply = All-contains (λ (t : Test). t.replies ≡ answer m (in_vectors s.classes t.letters)) s.tests t h.replies k in
        record { is_word = in_box m r covers t.letters (letters t k); expected = reply ∙ ap (λ vs. answer m (in_vectors vs t.letters)) h.classes }))

    longest_letters : (P : List ℕ → Type 0) → AreLongest P (letters_of s.tests) → ((u : List ℕ) → P u → AreLetters c u) → (t : Test) → Contains s.tests t → AreLetters c t.letters
    longest_letters P longest letters t k =
        letters t.letters (All-contains (IsLongest P) (letters_of s.tests) t.letters longest.only (contains_map (λ (t : Test). t.letters) s.tests t k)).product

    module _ {T : Type 0} (i : Meaning T) (inside : Inside m r n i) where
      alone : ActByClasses (box m r) r m m
      alone = in_model_alone (box m r) r m i covers inside.classes

      is_length : s.states ≡ length s.cover
      is_length = rank_is_length m r covers s.cover h.cover alone s.states h.rank

      marks_by_length : AreMarksBy (answer_after m r s.cover) (length s.cover) c s.marks
      marks_by_length = subst (λ k. AreMarksBy (answer_after m r s.cover) k c s.marks) is_length h.marks

      abbrev many : List (List ℕ) → List Word
      many ws = map (in_vectors (witnesses r)) ws

      size : length (many s.cover) ≡ length s.cover
      size = length-map s.cover (in_vectors (witnesses r))

      few_many : length (many s.cover) ≤ n
      few_many = let few = h.few in omega (arith, few, size, is_length)

  module _ (covers : Covers (box m r) r) (s : SuiteParts) where
    w_answered : HasShape m r n s → All (IsAnswered (box m r) m) (map (test_case (witnesses r)) s.tests)
    w_answered h =
        answered_cases covers s h.suits (longest_letters covers s h.suits (IsProduct c s.cover s.marks (n - s.states + 1)) h.tests
        (product_letters c s.cover s.marks (cover_letters m r covers s.cover h.suits.cover) (marks_letters covers s h.suits) (n - s.states + 1)))

    wp_answered : HasWpShape m r n s → All (IsAnswered (box m r) m) (map (test_case (witnesses r)) s.tests)
    wp_answered h =
        answered_cases covers s h.suits (longest_letters covers s h.suits (IsWpProduct c (LeadAlikeBy m r) (answer_after m r s.cover) s.states s.cover s.marks (n - s.states)) h.tests
        (wp_letters c (LeadAlikeBy m r) (answer_after m r s.cover) s.states s.cover s.marks (cover_letters m r covers s.cover h.suits.cover) (marks_letters covers s h.suits) h.suits.marks (n - s.states)))

    -- the expected replies are the model's
    pub shape_answered : HasShape m r n s → All (IsAnswered (box m r) m) (tests_of s)
    shape_answered h = subst (All (IsAnswered (box m r) m)) (sym (cases_are covers s h.suits)) (w_answered h)

    pub wp_shape_answered : HasWpShape m r n s → All (IsAnswered (box m r) m) (tests_of s)
    wp_shape_answered h = subst (All (IsAnswered (box m r) m)) (sym (cases_are covers s h.suits)) (wp_answered h)

    module _ {T : Type 0} (i : Meaning T) (inside : Inside m r n i) where
      -- inside the fault domain the suite decides
      pub shape_decides : HasShape m r n s → (Passes (answer i) (tests_of s) ↔ Equal (box m r) i m)
      shape_decides h =
          let u = h.suits in
          let many_cover = many covers s u i inside s.cover in
          let many_marks = many covers s u i inside s.marks in
          let left : s.states ≡ length many_cover = is_length covers s u i inside ∙ sym (size covers s u i inside) in
          let tests = subst (λ k. AreLongest (IsProduct c s.cover s.marks (n - k + 1)) (letters_of s.tests)) left h.tests in
          subst (λ ts. Passes (answer i) ts ↔ Equal (box m r) i m) (sym (cases_are covers s u))
          (method_decides m r n i many_cover many_marks covers (few_many covers s u i inside) inside (λ q w. Contains many_marks w) (map (test_case (witnesses r)) s.tests)
          (w_method m r covers s.cover u.cover s.marks (marks_by_length covers s u i inside) s.tests (n - length many_cover) tests) (w_answered h))

      pub wp_shape_decides : HasWpShape m r n s → (Passes (answer i) (tests_of s) ↔ Equal (box m r) i m)
      wp_shape_decides h =
          let u = h.suits in
          let many_cover = many covers s u i inside s.cover in
          let many_marks = many covers s u i inside s.marks in
          let marks = marks_by_length covers s u i inside in
          let by_length = subst (λ k. AreLongest (IsWpProduct c (LeadAlikeBy m r) (answer_after m r s.cover) k s.cover s.marks (n - k)) (letters_of s.tests)) (is_length covers s u i inside) h.tests in
          let tests = subst (λ k. AreLongest (IsWpProduct c (LeadAlikeBy m r) (answer_after m r s.cover) (length s.cover) s.cover s.marks (n - k)) (letters_of s.tests)) (sym (size covers s u i inside)) by_length in
          let classes = alone covers s u i inside in
          subst (λ ts. Passes (answer i) ts ↔ Equal (box m r) i m) (sym (cases_are covers s u))
          (method_decides m r n i many_cover many_marks covers (few_many covers s u i inside) inside (IsOwn m r covers s.cover u.cover s.marks marks s.tests classes (n - length many_cover) tests) (map (test_case (witnesses r)) s.tests)
          (wp_method m r covers s.cover u.cover s.marks marks s.tests classes (n - length many_cover) tests) (wp_answered h))
