-- What a first failure shows: two answers that part at its step, and so two plans that are not equal.
use Rattle.std.proofs.Common.{◌≡◌, ◌≢◌, ℕ, ◌+◌, ◌-◌, ◌<◌, List, [], ◌∷◌, ◌++◌, length, take, get_or, Some, subst, sym, ap, ◌∙◌, arith}
use Rattle.std.specs.Prelude.{slice_get, slice_index_or}
use Rattle.std.specs.List.{All}
use Rattle.std.proofs.lemmas.List.{get_or-take, take_more}
use Rattle.std.proofs.lemmas.List.Elements.{All-take}
use Rattle.std.proofs.lemmas.Option.{slice_get_within, slice_get-get_or, same_Some}
use Rattle.input_classes.specs.VectorSet.{VectorSet, IsIn, IsWordOf}
use Rattle.subject.specs.Alike.{Equal}
use Rattle.subject.specs.Meaning.{Meaning, answer}
use Rattle.subject.specs.Method.{IsAnswered}
use Rattle.subject.specs.Tests.{TestCase, Failure, IsFirstFailure, PartAtLast, failed_word}
use Rattle.subject.proofs.Words.{answer_from-take, length-answer_from}

read : {X : Type 0} (xs : List X) (k : ℕ) (x d : X) → slice_get xs k ≡ Some x → get_or xs k d ≡ x
read xs k x d h = same_Some (get_or xs k d) x (sym (slice_get-get_or xs k d (slice_get_within xs k x h)) ∙ h)

module _ {S T : Type 0} (s : VectorSet) (m : Meaning S) (i : Meaning T) (tests : List TestCase) (answered : All (IsAnswered s m) tests) (f : Failure) (h : IsFirstFailure (answer i) tests f) where
  the_test : slice_index_or tests (f.test - 1) (record { word = []; replies = [] }) ≡ h.failed
  the_test =
      let e = h.test_number in
      let place : f.test - 1 ≡ h.tests_before = omega arith in
      ap (λ k. slice_index_or tests k (record { word = []; replies = [] })) place ∙ read tests h.tests_before h.failed (record { word = []; replies = [] }) h.there

  word_is : failed_word tests f ≡ take (h.steps_before + 1) h.failed.word
  word_is = λ j. take (h.step_number j) (the_test j).word

  its_answer : IsAnswered s m h.failed
  its_answer =
      let below = slice_get_within tests h.tests_before h.failed h.there in
      subst (IsAnswered s m) (read tests h.tests_before h.failed h.failed h.there) (answered h.tests_before h.failed below)

  below_word : h.steps_before < length h.failed.word
  below_word =
      let below = slice_get_within (answer i h.failed.word) h.steps_before f.given h.given in
      let size = length-answer_from i i.start h.failed.word in
      omega arith

  split_word : take (h.steps_before + 1) h.failed.word ≡ take h.steps_before h.failed.word ++ get_or h.failed.word h.steps_before [] ∷ []
  split_word = take_more h.failed.word h.steps_before [] below_word

  front_same : answer i (take h.steps_before h.failed.word) ≡ answer m (take h.steps_before h.failed.word)
  front_same =
      answer_from-take i i.start h.failed.word h.steps_before ∙ h.same ∙ ap (take h.steps_before) its_answer.expected ∙ sym (answer_from-take m m.start h.failed.word h.steps_before)

  last_differs : answer i (take (h.steps_before + 1) h.failed.word) ≢ answer m (take (h.steps_before + 1) h.failed.word)
  last_differs same =
      let k = h.steps_before in
      let w = h.failed.word in
      let cut = sym (answer_from-take i i.start w (k + 1)) ∙ same ∙ answer_from-take m m.start w (k + 1) ∙ ap (take (k + 1)) (sym its_answer.expected) in
      h.differs (
      sym (read (answer i w) k f.given [] h.given) ∙ sym (get_or-take (k + 1) (answer i w) k [] (omega arith)) ∙ ap (λ l. get_or l k []) cut
      ∙ get_or-take (k + 1) h.failed.replies k [] (omega arith) ∙ read h.failed.replies k h.expected [] h.wanted)

  pub parts : PartAtLast (answer i) (answer m) (failed_word tests f)
  parts = record {
    front = take h.steps_before h.failed.word;
    last = get_or h.failed.word h.steps_before [];
    is = word_is ∙ split_word;
    same = front_same;
    differ = λ e. last_differs (ap (answer i) (sym word_is) ∙ e ∙ ap (answer m) word_is);
  }

  pub is_word : IsWordOf s (failed_word tests f)
  is_word = subst (IsWordOf s) (sym word_is) (All-take (IsIn s) (h.steps_before + 1) h.failed.word its_answer.is_word)

  pub unequal : Equal s i m → ⊥
  unequal equal = parts.differ (equal (failed_word tests f) is_word)
