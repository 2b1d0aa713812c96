-- Expected replies that are a plan's.
use Rattle.std.proofs.Common.{◌≡◌, ◌≢◌, ℕ, ◌+◌, ◌-◌, ◌<◌, ◌≤◌, ◌⊎◌, inl, inr, Bool, true, false, not, MatchBool, List, [], ◌∷◌, ◌++◌, length, map, get_or, refl, sym, ap, ◌∙◌, subst, arith, ℤ, Some, slice_get}
use Rattle.std.specs.Bool.{Decides}
use Rattle.std.specs.Cmp.Lexicographic.{pointwise}
use Rattle.std.specs.Ordering.{int_eq}
use Rattle.std.proofs.lemmas.Bool.{cases_lt, false≢true}
use Rattle.std.proofs.lemmas.Bool.Decides.{Decides-int_eq}
use Rattle.std.proofs.lemmas.Slice.Eq.{slice_eq-Decides}
use Rattle.std.proofs.lemmas.List.Elements.{All-cons, All-nil}
use Rattle.std.proofs.lemmas.Option.{slice_get-get_or, slice_get_within, get_or_from_slice_get}
use Rattle.lin_form.specs.declared.signature.Signature.{Signature}
use Rattle.lin_form.specs.Range.{IsInRanges}
use Rattle.lin_form.specs.Signature.{IsInInputRanges}
use Rattle.subject.specs.Domain.{IsFitting}
use Rattle.subject.specs.Meaning.{Meaning, answer}
use Rattle.subject.specs.Suite.{SuiteParts, Test, test_case, tests_of}
use Rattle.subject.specs.Tests.{AnswersTest, Passes}
use Rattle.suite_model.specs.Pooled.{IsPooled}
use Rattle.word_pool.specs.Words.{word, ArePooled}
use Rattle.plan_replies.specs.Replies.{AreReplies, answered, reply_of}
use Rattle.plan_replies.specs.inside.Steps.{AreSteps}
use Rattle.plan_replies.specs.inside.Numbers.{AreRepliesTo, AreStepNumbers}
use Rattle.plan_replies.proofs.Answering.{tests_are}

module _ {S : Type 0} (m : Meaning S) (vs : List (List ℤ)) (words : List (List ℕ)) where
  pub none_expected : (expected : List (List ℤ)) → AreRepliesTo m vs words 1 expected
  none_expected expected k u a some small is = absurd (omega (arith, some, small))

  -- the number of a word's step is that of a reply
  pub number_low : (n : ℕ) (states : List S) (met nexts : List ℕ) (replies : List (List ℤ)) (numbers : List ℕ) → AreSteps m vs states met nexts replies → AreStepNumbers m vs words (n + 1) states nexts replies numbers →
      0 < n → (number : ℕ) → number ≡ get_or numbers (n - 1) number → number < length replies
  number_low n states met nexts replies numbers steps h some number read =
      let x = h.each n some (omega arith) in
      let within : get_or numbers (n - 1) 0 < length nexts = slice_get_within nexts _ x.next x.goes in
      let is : number ≡ get_or numbers (n - 1) 0 = sym (get_or_from_slice_get numbers (n - 1) _ 0 (slice_get-get_or numbers (n - 1) number (omega (arith, some, h.one_less))) ∙ sym read) in
      subst (λ k. k < length replies) (sym is) (omega (arith, within, steps.one_each))

  -- one more expected reply is the plan's
  pub more_expected : (n : ℕ) (states : List S) (nexts : List ℕ) (replies : List (List ℤ)) (numbers : List ℕ) (expected : List (List ℤ)) → AreRepliesTo m vs words n expected →
      AreStepNumbers m vs words (n + 1) states nexts replies numbers → 0 < n → n < length words → length words ≡ length expected + 1 → (number : ℕ) (given wanted : List ℤ) → number ≡ get_or numbers (n - 1) number →
      given ≡ get_or replies number given → wanted ≡ get_or expected (n - 1) wanted → given ≡ wanted → AreRepliesTo m vs words (n + 1) expected
  more_expected n states nexts replies numbers expected h steps some inside size number given wanted read_number read_given read_wanted same k u a positive small is = by_case (cases_lt k n)
    where
      number_is : number ≡ get_or numbers (n - 1) 0
      number_is = sym (get_or_from_slice_get numbers (n - 1) _ 0 (slice_get-get_or numbers (n - 1) number (omega (arith, some, steps.one_less))) ∙ sym read_number)

      last : word words n ≡ u ++ a ∷ [] → slice_get expected (n - 1) ≡ Some (reply_of m vs u a)
      last e =
          let x = steps.each n some (omega arith) in
          let made : get_or replies number given ≡ reply_of m vs u a = get_or_from_slice_get replies number _ given (ap (slice_get replies) number_is ∙ x.reply u a e) in
          slice_get-get_or expected (n - 1) wanted (omega (arith, some, inside, size)) ∙ ap Some (sym read_wanted ∙ sym same ∙ read_given ∙ made)

      by_case : (k < n) ⊎ (n ≤ k) → slice_get expected (k - 1) ≡ Some (reply_of m vs u a)
      by_case (inl lower) = h k u a positive lower is
      by_case (inr g) =
          let at : k ≡ n = omega (arith, small, g) in
          ap (λ i. slice_get expected (i - 1)) at ∙ last (ap (word words) (sym at) ∙ is)

  pub all_expected : (n : ℕ) (expected : List (List ℤ)) → AreRepliesTo m vs words n expected → n ≡ length words → length words ≡ length expected + 1 → AreReplies m vs words expected
  all_expected n expected h e size = record { one_each = size; each = λ k u a some small is. h k u a some (omega (arith, small, e)) is }

apart : (b : Bool) (r e : List ℤ) → Decides b (r ≡ e) → MatchBool (not b) (r ≢ e) (r ≡ e)
apart true r e d = d.0 refl
apart false r e d = λ h. false≢true (d.1 h)

pub not_same : (r e : List ℤ) → MatchBool (not (pointwise int_eq r e)) (r ≢ e) (r ≡ e)
not_same r e = apart _ r e (slice_eq-Decides Decides-int_eq r e _ refl)

-- a suite whose expected replies are a plan's is passed by it
pub all_passed : {S : Type 0} (m : Meaning S) (s : SuiteParts) (ws : List (List ℕ)) (rs : List (List ℤ)) → ArePooled ws → IsPooled s ws rs → AreReplies m s.classes ws rs → Passes (answer m) (tests_of s)
all_passed m s ws rs pooled p h =
    subst (λ (ts : List Test). Passes (answer m) (map (test_case s.classes) ts)) (sym (p.tests ∙ tests_are m s.classes ws rs pooled h p.ids p.makes.are_ids)) (each p.ids)
  where
    each : (ids : List ℕ) → Passes (answer m) (map (test_case s.classes) (map (λ i. answered m s.classes (word ws i)) ids))
    each [] = All-nil (AnswersTest (answer m))
    each (i ∷ ids) = All-cons (AnswersTest (answer m)) _ _ refl (each ids)

-- the vectors of a suite are in the ranges of a plan that fits
pub vectors_fit : (model other : Signature) (vs : List (List ℤ)) → IsFitting model other → ((i : ℕ) (d : List ℤ) → i < length vs → IsInInputRanges model.inputs (get_or vs i d)) → (i : ℕ) (d : List ℤ) → i < length vs → IsInInputRanges other.inputs (get_or vs i d)
vectors_fit model other vs fits inside i d small = subst (λ (r : List (ℤ × ℤ)). IsInRanges r (get_or vs i d)) (sym fits.ranges) (inside i d small)
