-- A suite with the shape keeps the rules of suites, and its parts are within what a text may say.
use Rattle.std.proofs.Common.{◌≡◌, ℕ, ℤ, ◌+◌, ◌-◌, ◌<◌, ◌≤◌, max, List, [], ◌∷◌, ◌++◌, length, map, take, refl, sym, ap, ◌∙◌, subst, arith, inl, inr, Contains}
use Rattle.std.specs.Prelude.{slice_index_or, unsigned_abs}
use Rattle.std.specs.List.{All}
use Rattle.std.proofs.Math.Logic.{∥∥₁_elim}
use Rattle.std.proofs.lemmas.Bool.{cases_eq, cases_lt}
use Rattle.std.proofs.lemmas.List.{length-map, nil_from_length, take-map}
use Rattle.std.proofs.lemmas.List.Elements.{All-contains, All-cons, All-nil, All-head, All-tail, All-map, All-weaker}
use Rattle.lin_form.specs.Range.{AreWithin}
use Rattle.lin_form.specs.Signature.{IsInInputRanges}
use Rattle.lin_form.specs.declared.signature.Signature.{Signature}
use Rattle.input_classes.specs.declared.class.Class.{Class}
use Rattle.input_classes.specs.Partition.{Partition, Covers, IsInClass}
use Rattle.input_classes.specs.VectorSet.{IsIn, Word, IsWordOf, box_of}
use Rattle.input_classes.proofs.CallerLemmas.{contains_map}
use Rattle.word_pool.specs.Words.{word, IsProperPrefix}
use Rattle.suite_words.specs.Cover.{AreLetters}
use Rattle.suite_words.specs.Tests.{IsProduct, IsLongest}
use Rattle.subject.specs.Alike.{MembersActAlike}
use Rattle.subject.specs.Domain.{box}
use Rattle.subject.specs.Meaning.{Meaning, answer, answer_from, IsReached, RepliesFit}
use Rattle.subject.specs.Method.{IsAnswered}
use Rattle.subject.specs.Shape.{HasShape, answer_after}
use Rattle.subject.specs.Suite.{SuiteParts, Test, in_vectors, test_case, tests_of}
use Rattle.subject.proofs.CallerLemmas.{by_classes, length-answer_from, marks_are_letters, product_letters, rank_is_length, reached_start, reached_step, shape_answered, all_of_each}
use Rattle.subject.proofs.FromShape.{cover_letters}
use Rattle.subject.proofs.Words.{answer_from-take}
use Rattle.charset.proofs.Few.{fewer_marks}
use Rattle.strict_lines.specs.Numbers.{most}
use Rattle.suite_build.specs.Steps.{steps}
use Rattle.suite_model.specs.Suite.{IsSuite}
use Rattle.suite_reading.specs.Printable.{AreFreeNames, IsPrintable, names_of}
use Rattle.replay_meaning.proofs.Counting.{some_longest, tests_within_steps}

-- each reply is below 1,000,000,000,000 in absolute value
abbrev pub AreLimited : {S : Type 0} → Meaning S → Type 0
AreLimited {S} m = (t : S) (x : List ℤ) → IsReached m t → All (λ number. unsigned_abs number < 1000000000000) (m.reply t x)

-- what holds of each reply in a state that is reached holds of the replies to a word of the ranges
each_reply : {S : Type 0} (m : Meaning S) (P : List ℤ → Type 0) → ((t : S) (x : List ℤ) → IsReached m t → IsInInputRanges m.signature.inputs x → P (m.reply t x)) → (t : S) → IsReached m t → (w : Word) → IsWordOf (box_of m.signature []) w → All P (answer_from m t w)
each_reply m P reply t reached [] h = All-nil P
each_reply m P reply t reached (x ∷ w) h =
    let b = box_of m.signature [] in
    let here = All-head (IsIn b) x w h in
    All-cons P (m.reply t x) (answer_from m (m.next t x) w) (reply t x reached here.inside)
    (each_reply m P reply (m.next t x) (reached_step b m t x reached here) w (All-tail (IsIn b) x w h))

-- a word with a letter in it goes on from the empty word
goes_on : (p w : List ℕ) (a : ℕ) → IsProperPrefix [] (p ++ (a ∷ w))
goes_on [] w a = (a, (w, refl))
goes_on (b ∷ p) w a = (b, (p ++ (a ∷ w), refl))

module _ {S : Type 0} (m : Meaning S) (r : Partition) (bound : ℕ) (s : SuiteParts) (covers : Covers (box m r) r) (alike : MembersActAlike (box m r) r m) (shape : HasShape m r bound s) where
  abbrev c : ℕ
  c = length r.classes

  abbrev d : ℕ
  d = bound - s.states + 1

  size : length s.classes ≡ c
  size = ap length shape.suits.classes ∙ length-map r.classes (λ (k : Class). k.witness)

  some_state : 0 < s.states
  some_state =
      elim (cases_lt 0 s.states) [
        | inl some ↦ some
        | inr none ↦ (let most = shape.suits.rank.most in absurd (∥∥₁_elim (most.each [] (All-nil (IsIn (box m r)))) (λ p q. absurd p) (λ l. let few = most.few in let inside = l.there.1 in omega (arith, none, few, inside))))
      ]

  cover_size : length s.cover ≡ s.states
  cover_size = sym (rank_is_length m r covers s.cover shape.suits.cover (by_classes (box m r) r m covers alike) s.states shape.suits.rank)

  covers_letters : All (AreLetters c) s.cover
  covers_letters = cover_letters m r covers s.cover shape.suits.cover

  marks_letters : All (AreLetters c) s.marks
  marks_letters = marks_are_letters (answer_after m r s.cover) s.states c s.marks some_state shape.suits.marks

  some_mark : 0 < length s.marks
  some_mark =
      elim (cases_lt 0 (length s.marks)) [
        | inl some ↦ some
        | inr none ↦ elim (cases_eq s.states 1) [
          | inl one ↦ omega (arith, ap length (shape.suits.marks.one one))
          | inr more ↦ absurd (shape.suits.marks.ends 0 1 (omega arith) (omega (arith, more, some_state)) (λ i e inside. absurd (omega (arith, none, inside))))
        ]
      ]

  few_marks : length s.marks ≤ max 1 (s.states - 1)
  few_marks =
      elim (cases_lt 1 s.states) [
        | inl more ↦ (let few = fewer_marks (answer_after m r s.cover) s.states c s.marks shape.suits.marks more in omega (arith, few))
        | inr one ↦ omega (arith, ap length (shape.suits.marks.one (omega (arith, one, some_state))))
      ]

  test_is : (t : Test) → Contains s.tests t → IsLongest (IsProduct c s.cover s.marks d) t.letters
  test_is t k = All-contains (IsLongest (IsProduct c s.cover s.marks d)) (map (λ (u : Test). u.letters) s.tests) t.letters shape.tests.only (contains_map (λ (u : Test). u.letters) s.tests t k)

  test_letters : (t : Test) → Contains s.tests t → AreLetters c t.letters
  test_letters t k = product_letters c s.cover s.marks covers_letters marks_letters d t.letters (test_is t k).product

  -- a product with a letter in it
  abbrev one_letter : List ℕ
  one_letter = word s.cover 0 ++ (0 ∷ word s.marks 0)

  product : 0 < c → IsProduct c s.cover s.marks d one_letter
  product some = record {
    i = 0;
    in_cover = omega (arith, cover_size, some_state);
    after = record { z = 0 ∷ []; k = 0; letters = All-cons (λ a. a < c) 0 [] some (All-nil (λ a. a < c)); short = omega arith; mark = some_mark; is = refl };
  }

  some_letter : 0 < c → (t : Test) → Contains s.tests t → 0 < length t.letters
  some_letter some t k =
      elim (cases_lt 0 (length t.letters)) [
        | inl more ↦ more
        | inr none ↦
            let empty : t.letters ≡ [] = nil_from_length t.letters (omega (arith, none)) in
            absurd ((test_is t k).longest one_letter (product some) (subst (λ w. IsProperPrefix w one_letter) (sym empty) (goes_on (word s.cover 0) (word s.marks 0) 0)))
      ]

  answered : (t : Test) → Contains s.tests t → IsAnswered (box m r) m (test_case s.classes t)
  answered t k = All-contains (IsAnswered (box m r) m) (tests_of s) (test_case s.classes t) (shape_answered m r bound covers s shape) (contains_map (test_case s.classes) s.tests t k)

  replies_are : (t : Test) → Contains s.tests t → t.replies ≡ answer m (in_vectors s.classes t.letters)
  replies_are t k = (answered t k).expected

  in_ranges : (t : Test) → Contains s.tests t → IsWordOf (box_of m.signature []) (in_vectors s.classes t.letters)
  in_ranges t k = All-weaker (IsIn (box m r)) (IsIn (box_of m.signature [])) (λ x h. record { inside = h.inside; said = All-nil _ }) (in_vectors s.classes t.letters) (answered t k).is_word

  replies_have : (P : List ℤ → Type 0) → ((t : S) (x : List ℤ) → IsReached m t → IsInInputRanges m.signature.inputs x → P (m.reply t x)) → (t : Test) → Contains s.tests t → All P t.replies
  replies_have P reply t k = subst (All P) (sym (replies_are t k)) (each_reply m P reply m.start (reached_start (box_of m.signature []) m) (in_vectors s.classes t.letters) (in_ranges t k))

  -- equal prefixes carry equal replies
  replies_front : (t : Test) (n : ℕ) → Contains s.tests t → take n t.replies ≡ answer m (in_vectors s.classes (take n t.letters))
  replies_front t n k =
      ap (take n) (replies_are t k) ∙ sym (answer_from-take m m.start (in_vectors s.classes t.letters) n)
      ∙ ap (answer m) (take-map (λ a. slice_index_or s.classes a []) n t.letters)

  vectors : All (IsInInputRanges s.signature.inputs) s.classes
  vectors =
      let P : List (List ℤ) → Type 0 = λ vs. All (IsInInputRanges m.signature.inputs) vs in
      let Q : Signature → Type 0 = λ signature. All (IsInInputRanges signature.inputs) s.classes in
      subst Q (sym shape.suits.signature) (subst P (sym shape.suits.classes)
      (All-map (IsInInputRanges m.signature.inputs) (λ (k : Class). k.witness) r.classes
      (All-weaker (λ (k : Class). IsInClass (box m r) r k k.witness) (λ (k : Class). IsInInputRanges m.signature.inputs k.witness) (λ k h. h.0.inside) r.classes covers.witnessed)))

  by_size : (ws : List (List ℕ)) → All (AreLetters c) ws → All (AreLetters (length s.classes)) ws
  by_size ws h = subst (λ n. All (AreLetters n) ws) (sym size) h

  module _ (some : 0 < c) (fit : RepliesFit m) where
    counts : (t : Test) → Contains s.tests t → All (λ reply. length reply ≡ length s.signature.outputs) t.replies
    counts t k =
        subst (λ (signature : Signature). All (λ reply. length reply ≡ length signature.outputs) t.replies) (sym shape.suits.signature)
        (replies_have (λ reply. length reply ≡ length m.signature.outputs) fit t k)

    rules : IsSuite s
    rules = record {
      vectors = vectors;
      letters = all_of_each (λ (t : Test). AreLetters (length s.classes) t.letters) s.tests (λ t k. subst (λ n. AreLetters n t.letters) (sym size) (test_letters t k));
      cover_letters = by_size s.cover covers_letters;
      mark_letters = by_size s.marks marks_letters;
      some_letter = all_of_each (λ (t : Test). 0 < length t.letters) s.tests (some_letter some);
      one_each = all_of_each (λ (t : Test). length t.replies ≡ length t.letters) s.tests (λ t k.
          ap length (replies_are t k) ∙ length-answer_from m m.start (in_vectors s.classes t.letters) ∙ length-map t.letters (λ a. slice_index_or s.classes a []));
      counts = all_of_each (λ (t : Test). All (λ reply. length reply ≡ length s.signature.outputs) t.replies) s.tests counts;
      agree = λ t u n k l e. replies_front t n k ∙ ap (λ w. answer m (in_vectors s.classes w)) e ∙ sym (replies_front u n l);
    }

    some_test : 0 < length s.tests
    some_test =
        elim (cases_lt 0 (length s.tests)) [
          | inl more ↦ more
          | inr none ↦ absurd (some_longest c s.cover s.marks d one_letter (product some) (λ w l.
              let there = shape.tests.each w l in
              let inside : there.0 < length (map (λ (t : Test). t.letters) s.tests) = there.1 in
              omega (arith, none, inside, length-map s.tests (λ (t : Test). t.letters))))
        ]

    -- a suite with the shape can be read back
    pub printable : c ≤ 4096 → AreLimited m → AreFreeNames (names_of m.signature) → bound ≤ 1024 → steps s.states c bound ≤ 20000000 → IsPrintable s
    printable few limited names top within =
        let tests = tests_within_steps s.states c bound s.cover s.marks (map (λ (t : Test). t.letters) s.tests) some_state cover_size few_marks shape.tests in
        record {
          rules = rules;
          names = subst (λ (signature : Signature). AreFreeNames (names_of signature)) (sym shape.suits.signature) names;
          some_state = some_state;
          up_to_bound = omega (arith, shape.suits.few, shape.suits.same_bound);
          bound = omega (arith, shape.suits.same_bound, top);
          some_class = omega (arith, size, some);
          few_classes = omega (arith, size, few);
          cover = cover_size;
          some_mark = some_mark;
          some_test = some_test;
          few_tests = omega (arith, tests, within, length-map s.tests (λ (t : Test). t.letters));
          replies = all_of_each (λ (t : Test). All (AreWithin most) t.replies) s.tests (replies_have (AreWithin most) (λ t x reached inside.
              All-weaker (λ number. unsigned_abs number < 1000000000000) (λ number. unsigned_abs number ≤ most) (λ number h. omega (arith, h)) (m.reply t x) (limited t x reached)));
        }
