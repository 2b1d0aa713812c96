-- The parts of the suite, the suite, its shape and its completeness.
use Rattle.std.proofs.Common.{◌≡◌, ℕ, ◌+◌, ◌-◌, List, [], ◌∷◌, length, map, refl, sym, ap, ◌∙◌, subst, ℤ}
use Rattle.std.specs.List.{All}
use Rattle.std.proofs.lemmas.List.{length-map}
use Rattle.std.proofs.lemmas.List.Elements.{All-map, All-weaker}
use Rattle.lin_form.specs.declared.input.Input.{Input}
use Rattle.lin_form.specs.declared.signature.Signature.{Signature}
use Rattle.lin_form.specs.Signature.{IsInInputRanges, ranges_of}
use Rattle.input_classes.specs.declared.class.Class.{Class}
use Rattle.input_classes.specs.Partition.{Covers, IsPartition, IsWitnessed, Partition, witnesses}
use Rattle.input_classes.specs.VectorSet.{Box}
use Rattle.input_classes.proofs.CallerLemmas.{partition-covers}
use Rattle.subject.specs.Alike.{HasRank, MembersActAlike}
use Rattle.subject.specs.Domain.{Complete, box}
use Rattle.subject.specs.FiniteMap.{plan_of_map}
use Rattle.subject.specs.Meaning.{Meaning, RepliesFit, answer}
use Rattle.subject.specs.Shape.{HasShape, answer_after}
use Rattle.subject.specs.Suite.{SuiteParts, Test, in_vectors, tests_of}
use Rattle.subject.proofs.CallerLemmas.{letters_rank, shape_decides}
use Rattle.suite_words.specs.Marks.{AreMarksBy}
use Rattle.suite_words.specs.Tests.{AreTests}
use Rattle.suite_model.specs.Pooled.{MakeSuite, pooled_tests}
use Rattle.word_pool.specs.Words.{word, words_at, ArePooled}
use Rattle.plan_replies.specs.Replies.{AreReplies, answered}
use Rattle.plan_replies.proofs.CallerLemmas.{tests_are}
use Rattle.concretise.specs.Concrete.{AreSuiteWords, AreWordsFor, suite_of}
use Rattle.concretise.proofs.Replying.{parts_are}

-- the witnesses lie in the ranges of the inputs
pub witnesses_inside : (r : Partition) (inputs : List Input) (vs : List (List ℤ)) → vs ≡ witnesses r → r.ranges ≡ ranges_of inputs → IsPartition r → All (IsInInputRanges inputs) vs
witnesses_inside r inputs vs e same exact =
    subst (All (IsInInputRanges inputs)) (sym e) (All-map (IsInInputRanges inputs) (λ (c : Class). c.witness) r.classes
    (All-weaker (IsWitnessed r) (λ (c : Class). IsInInputRanges inputs c.witness) (λ c h. inside c h) r.classes exact.witnessed))
  where
    inside : (c : Class) → IsWitnessed r c → IsInInputRanges inputs c.witness
    inside c h = let there = h.member.0.inside in rw (same) at there

pub count_is : (r : Partition) (vs : List (List ℤ)) → vs ≡ witnesses r → length r.classes ≡ length vs
count_is r vs is = sym (length-map r.classes (λ (c : Class). c.witness)) ∙ ap length (sym is)

pub covers_box : {S : Type 0} (m : Meaning S) (r : Partition) → IsPartition r → r.ranges ≡ ranges_of m.signature.inputs → Covers (box m r) r
covers_box m r exact same = subst (λ ranges. Covers (Box ranges r.assumed) r) same (partition-covers r exact)

module _ {S : Type 0} (m : Meaning S) (r : Partition) (bound : ℕ) (ws : List (List ℕ)) (cs ms ids : List ℕ) where
  letters_are : (xs : List ℕ) → map (λ (t : Test). t.letters) (map (λ i. answered m (witnesses r) (word ws i)) xs) ≡ words_at ws xs
  letters_are [] = refl
  letters_are (i ∷ xs) = ap (λ l. word ws i ∷ l) (letters_are xs)

  count : length (words_at ws cs) ≡ length cs
  count = length-map cs (word ws)

  -- the suite has the shape of the method
  pub shaped : Covers (box m r) r → MembersActAlike (box m r) r m → AreWordsFor m r bound (words_at ws cs) (words_at ws ms) (words_at ws ids) → HasShape m r bound (suite_of m r bound ws cs ms ids)
  shaped covers alike h = record {
    suits = record {
      signature = refl;
      same_bound = refl;
      classes = refl;
      rank = subst (λ n. HasRank (box m r) m n) count (letters_rank m r covers (words_at ws cs) h.are_cover (words_at ws ms) h.are_marks alike);
      few = rw (← count) h.few;
      cover = h.are_cover;
      marks = subst (λ n. AreMarksBy (answer_after m r (words_at ws cs)) n (length r.classes) (words_at ws ms)) count h.are_marks;
      replies = All-map (λ (t : Test). t.replies ≡ answer m (in_vectors (witnesses r) t.letters)) (λ i. answered m (witnesses r) (word ws i)) ids (λ k d below. refl);
    };
    tests = subst (AreTests (length r.classes) (words_at ws cs) (words_at ws ms) (bound - length cs + 1)) (sym (letters_are ids))
        (subst (λ n. AreTests (length r.classes) (words_at ws cs) (words_at ws ms) (bound - n + 1) (words_at ws ids)) count h.are_tests);
  }

  pub suite_complete : (s : SuiteParts) → s ≡ suite_of m r bound ws cs ms ids → IsPartition r → r.ranges ≡ ranges_of m.signature.inputs → MembersActAlike (box m r) r m →
      AreWordsFor m r bound (words_at ws cs) (words_at ws ms) (words_at ws ids) → HasShape m r bound s × Complete m r bound (tests_of s)
  suite_complete s e exact same alike h =
      let covers = covers_box m r exact same in
      let shape : HasShape m r bound s = subst (HasShape m r bound) (sym e) (shaped covers alike h) in
      (shape, λ f inside. shape_decides m r bound covers s (plan_of_map f) inside shape)

  module _ (vs : List (List ℤ)) (is : vs ≡ witnesses r) (pooled : ArePooled ws) (l : AreSuiteWords (length r.classes) ws cs ms ids) where
    size : length r.classes ≡ length vs
    size = count_is r vs is

    pub whole_parts : (signature : Signature) (cover marks : List (List ℕ)) (rs : List (List ℤ)) → signature ≡ m.signature → AreReplies m vs ws rs → RepliesFit m →
        All (IsInInputRanges m.signature.inputs) vs → cover ≡ words_at ws cs → marks ≡ words_at ws ms → MakeSuite signature vs cover marks ws ids rs
    whole_parts signature cover marks rs s h fit inside c k =
        subst (λ (x : Signature). MakeSuite x vs cover marks ws ids rs) (sym s)
        (parts_are m vs cover marks ws cs ms ids rs pooled (subst (λ n. AreSuiteWords n ws cs ms ids) size l) h fit inside c k)

    pub whole_suite : (signature : Signature) (cover marks : List (List ℕ)) (states : ℕ) (rs : List (List ℤ)) → signature ≡ m.signature → AreReplies m vs ws rs → states ≡ length cs →
        cover ≡ words_at ws cs → marks ≡ words_at ws ms → (made : SuiteParts) →
        made ≡ record { signature = signature; bound = bound; states = states; classes = vs; cover = cover; marks = marks; tests = pooled_tests ws rs ids } → made ≡ suite_of m r bound ws cs ms ids
    whole_suite signature cover marks states rs s h n c k made e =
        e ∙ (λ i. record {
          signature = s i;
          bound = bound;
          states = n i;
          classes = is i;
          cover = c i;
          marks = k i;
          tests = (tests_are m vs ws rs pooled h ids l.test_ids ∙ ap (λ xs. map (λ i. answered m xs (word ws i)) ids) is) i;
        })
