-- The first failure: there is one exactly where a test is not answered as expected, and there is no other.
use Rattle.std.proofs.Common.{◌≡◌, ◌≢◌, ℕ, suc, ◌+◌, ◌<◌, ◌⊎◌, inl, inr, ℤ, Bool, true, false, List, [], ◌∷◌, length, take, get_or, Some, subst, refl, sym, ap, ◌∙◌, arith}
use Rattle.std.specs.Prelude.{slice_get}
use Rattle.std.specs.Bool.{Decides}
use Rattle.std.specs.List.{All}
use Rattle.std.proofs.lemmas.Bool.{false≢true, cases_lt}
use Rattle.std.proofs.lemmas.Bool.Decides.{Decides-int_eq}
use Rattle.std.proofs.lemmas.List.{get_or-take, length-take-le}
use Rattle.std.proofs.lemmas.List.Elements.{All-nil, All-cons, All-head, All-tail}
use Rattle.std.proofs.lemmas.Option.{slice_get_within, slice_get-get_or, same_Some}
use Rattle.std.proofs.lemmas.Slice.Eq.{slice_eq-Decides}
use Rattle.input_classes.specs.VectorSet.{Word}
use Rattle.subject.specs.Tests.{Answers, TestCase, AnswersTest, Passes, Failure, IsFirstFailure}

read : {X : Type 0} (xs : List X) (k : ℕ) (x d : X) → slice_get xs k ≡ Some x → get_or xs k d ≡ x
read xs k x d h = same_Some (get_or xs k d) x (sym (slice_get-get_or xs k d (slice_get_within xs k x h)) ∙ h)

neither : (a b : ℕ) → (a < b → ⊥) → (b < a → ⊥) → a ≡ b
neither a b h k = elim (cases_lt a b) [ inl less ↦ absurd (h less) | inr more ↦ elim (cases_lt b a) [ inl less ↦ absurd (k less) | inr same ↦ omega arith ] ]

-- the first place where two lists of replies differ
record IsDifference (xs ys : List (List ℤ)) : Type 0 where
  step : ℕ
  given : List ℤ
  expected : List ℤ
  earlier : take step xs ≡ take step ys
  there : slice_get xs step ≡ Some given
  wanted : slice_get ys step ≡ Some expected
  differs : given ≢ expected

decided : (x y : List ℤ) (b : Bool) → Decides b (x ≡ y) → (x ≡ y) ⊎ (x ≢ y)
decided x y true d = inl (d.0 refl)
decided x y false d = inr (λ e. false≢true (d.1 e))

same_or_different : (xs ys : List (List ℤ)) → length xs ≡ length ys → (xs ≡ ys) ⊎ IsDifference xs ys
same_or_different [] [] h = inl refl
same_or_different [] (y ∷ ys) h = let no : ⊥ = omega arith in absurd no
same_or_different (x ∷ xs) [] h = let no : ⊥ = omega arith in absurd no
same_or_different (x ∷ xs) (y ∷ ys) h =
    elim (decided x y _ (slice_eq-Decides Decides-int_eq x y _ refl)) [
      | inr differ ↦ inr (record { step = 0; given = x; expected = y; earlier = refl; there = refl; wanted = refl; differs = differ })
      | inl same ↦ elim (same_or_different xs ys (omega arith)) [
        | inl all ↦ inl (λ i. same i ∷ all i)
        | inr d ↦ inr (record { step = suc d.step; given = d.given; expected = d.expected; earlier = λ i. same i ∷ d.earlier i; there = d.there; wanted = d.wanted; differs = d.differs })
      ]
    ]

module _ (i : Answers) where
  -- the test of a first failure is not answered as expected
  pub fails : (tests : List TestCase) (f : Failure) (h : IsFirstFailure i tests f) → AnswersTest i h.failed → ⊥
  fails tests f h same = h.differs (same_Some f.given h.expected (sym h.given ∙ ap (λ l. slice_get l h.steps_before) same ∙ h.wanted))

  pub excludes : (tests : List TestCase) (f : Failure) → IsFirstFailure i tests f → Passes i tests → ⊥
  excludes tests f h passes =
      let below = slice_get_within tests h.tests_before h.failed h.there in
      let is = same_Some (get_or tests h.tests_before h.failed) h.failed (sym (slice_get-get_or tests h.tests_before h.failed below) ∙ h.there) in
      fails tests f h (subst (AnswersTest i) is (passes h.tests_before h.failed below))

  -- of two first failures neither has an earlier test
  no_earlier_test : (tests : List TestCase) (f g : Failure) (h : IsFirstFailure i tests f) (k : IsFirstFailure i tests g) → h.tests_before < k.tests_before → ⊥
  no_earlier_test tests f g h k less =
      let below = slice_get_within tests h.tests_before h.failed h.there in
      let short = slice_get_within tests k.tests_before k.failed k.there in
      let size = length-take-le k.tests_before tests (omega arith) in
      let is = get_or-take k.tests_before tests h.tests_before h.failed less ∙ read tests h.tests_before h.failed h.failed h.there in
      fails tests f h (subst (AnswersTest i) is (k.passed h.tests_before h.failed (omega arith)))

  -- nor an earlier step in it
  no_earlier_step : (tests : List TestCase) (f g : Failure) (h : IsFirstFailure i tests f) (k : IsFirstFailure i tests g) → h.failed ≡ k.failed → h.steps_before < k.steps_before → ⊥
  no_earlier_step tests f g h k same less =
      let given = sym (get_or-take k.steps_before (i k.failed.word) h.steps_before [] less) ∙ ap (λ l. get_or l h.steps_before []) k.same ∙ get_or-take k.steps_before k.failed.replies h.steps_before [] less in
      h.differs (
      sym (read (i h.failed.word) h.steps_before f.given [] h.given) ∙ ap (λ (t : TestCase). get_or (i t.word) h.steps_before []) same ∙ given
      ∙ sym (ap (λ (t : TestCase). get_or t.replies h.steps_before []) same) ∙ read h.failed.replies h.steps_before h.expected [] h.wanted)

  -- two first failures are one
  pub one_failure : (tests : List TestCase) (f g : Failure) → IsFirstFailure i tests f → IsFirstFailure i tests g → f ≡ g
  one_failure tests f g h k =
      let place : h.tests_before ≡ k.tests_before = neither h.tests_before k.tests_before (no_earlier_test tests f g h k) (no_earlier_test tests g f k h) in
      let test : h.failed ≡ k.failed = same_Some h.failed k.failed (sym h.there ∙ ap (slice_get tests) place ∙ k.there) in
      let step : h.steps_before ≡ k.steps_before = neither h.steps_before k.steps_before (no_earlier_step tests f g h k test) (no_earlier_step tests g f k h (sym test)) in
      let given : f.given ≡ g.given = same_Some f.given g.given (sym h.given ∙ ap (λ (t : TestCase). slice_get (i t.word) h.steps_before) test ∙ ap (slice_get (i k.failed.word)) step ∙ k.given) in
      let tests_same : f.test ≡ g.test = h.test_number ∙ ap (λ n. n + 1) place ∙ sym k.test_number in
      let steps_same : f.step ≡ g.step = h.step_number ∙ ap (λ n. n + 1) step ∙ sym k.step_number in
      λ j. record { test = tests_same j; step = steps_same j; given = given j }

  -- a failure of the first test
  fails_first : (t : TestCase) (tests : List TestCase) → (d : IsDifference (i t.word) t.replies) → IsFirstFailure i (t ∷ tests) (record { test = 1; step = d.step + 1; given = d.given })
  fails_first t tests d = record {
    tests_before = 0;
    steps_before = d.step;
    failed = t;
    expected = d.expected;
    test_number = refl;
    step_number = refl;
    there = refl;
    passed = All-nil (AnswersTest i);
    same = d.earlier;
    given = d.there;
    wanted = d.wanted;
    differs = d.differs;
  }

  -- a failure of a later test
  fails_later : (t : TestCase) (tests : List TestCase) (f : Failure) → AnswersTest i t → IsFirstFailure i tests f → IsFirstFailure i (t ∷ tests) (record f { test = f.test + 1 })
  fails_later t tests f passes h = record {
    tests_before = suc h.tests_before;
    steps_before = h.steps_before;
    failed = h.failed;
    expected = h.expected;
    test_number = (let e = h.test_number in omega arith);
    step_number = h.step_number;
    there = h.there;
    passed = All-cons (AnswersTest i) t (take h.tests_before tests) passes h.passed;
    same = h.same;
    given = h.given;
    wanted = h.wanted;
    differs = h.differs;
  }

  -- every test is answered as expected, or there is a first failure
  pub passes_or_fails : ((w : Word) → length (i w) ≡ length w) → (tests : List TestCase) → All (λ t. length t.replies ≡ length t.word) tests → Passes i tests ⊎ ((f : Failure) × IsFirstFailure i tests f)
  passes_or_fails size [] h = inl (All-nil (AnswersTest i))
  passes_or_fails size (t ∷ tests) h =
      elim (same_or_different (i t.word) t.replies (size t.word ∙ sym (All-head (λ (t : TestCase). length t.replies ≡ length t.word) t tests h))) [
        | inr d ↦ inr (record { test = 1; step = d.step + 1; given = d.given }, fails_first t tests d)
        | inl passes ↦ elim (passes_or_fails size tests (All-tail (λ (t : TestCase). length t.replies ≡ length t.word) t tests h)) [
          | inl all ↦ inl (All-cons (AnswersTest i) t tests passes all)
          | inr f ↦ inr (record f.0 { test = f.0.test + 1 }, fails_later t tests f.0 passes f.1)
        ]
      ]
