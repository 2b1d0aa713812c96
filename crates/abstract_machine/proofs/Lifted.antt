-- What a reduction of an explored machine says of the plan, over the witnesses and over the box.
use Rattle.std.proofs.Common.{◌≡◌, ℕ, ◌<◌, ◌↔◌, List, [], ◌∷◌, length, refl}
use Rattle.std.proofs.Common.{ap, sym, subst, ◌∙◌, All}
use Rattle.std.proofs.lemmas.List.{length-map}
use Rattle.std.proofs.lemmas.List.Elements.{All-get_or, All-head, All-tail, All-weaker}
use Rattle.fsm_core.specs.Machine.{IsWord, Machine, state_after}
use Rattle.fsm_core.specs.Answers.{answer_from}
use Rattle.input_classes.specs.declared.class.Class.{Class}
use Rattle.input_classes.specs.Partition.{Covers, Partition, in_witnesses, witness_of, witnesses}
use Rattle.input_classes.specs.VectorSet.{IsIn, IsWordOf, Members, VectorSet, Word}
use Rattle.input_classes.proofs.CallerLemmas.{word-member, words-within, witnessed}
use Rattle.subject.specs.Alike.{HasRank, LeadAlike, MembersActAlike}
use Rattle.subject.specs.Meaning.{IsReachedOn, LeadsTo, Meaning, after, state_after as plan_after}
use Rattle.subject.specs.Suite.{in_vectors}
use Rattle.subject.proofs.CallerLemmas.{by_classes, lead_alike_from, rank_from_witnesses, reached_start, reached_step}
use Rattle.suite_words.specs.Cover.{AreLetters, IsCoverBy}
use Rattle.suite_words.specs.Marks.{AreMarksBy}
use Rattle.suite_words.proofs.Same.{same_cover, same_marks}
use Rattle.word_pool.specs.Words.{word}
use Rattle.abstract_machine.specs.Abstraction.{IsAbstractionOf}
use Rattle.abstract_machine.specs.Explored.{AnswersAs}
use Rattle.abstract_machine.specs.Reached.{AreAllReached, AreReached, MembersAdvanceAlike, ReachesMore}
use Rattle.abstract_machine.proofs.Abstracting.{after_is, alike_from, alike_to, machine_rank}
use Rattle.abstract_machine.proofs.Reaching.{vectors-members}

module _ {S : Type 0} (r : Partition) (m : Meaning S) (g : Machine) (a : IsAbstractionOf r m g) where
  letters : g.letters ≡ length (witnesses r)
  letters = a.reduced.letters ∙ a.explored.letters

  answers : AnswersAs (witnesses r) m g
  answers w h =
      let hw : IsWord a.machine w = subst (λ n. All (λ b. b < n) w) a.reduced.letters h in
      sym (a.reduced.answers 0 0 a.reduced.start w hw) ∙ a.explored.answers w hw

  count : length (witnesses r) ≡ length r.classes
  count = length-map r.classes (λ (c : Class). c.witness)

  to_word : (w : List ℕ) → AreLetters (length r.classes) w → IsWord g w
  to_word w h = subst (λ n. All (λ b. b < n) w) (sym (letters ∙ count)) h

  from_word : (w : List ℕ) → IsWord g w → AreLetters (length r.classes) w
  from_word w h = subst (λ n. All (λ b. b < n) w) (letters ∙ count) h

  pub rank_over_witnesses : HasRank (Members (witnesses r)) m g.states
  rank_over_witnesses = machine_rank (witnesses r) m g a.reduced.machine letters answers a.reduced.reduced a.reduced.reached

  module _ (s : VectorSet) (covers : Covers s r) (alike : MembersActAlike s r m) where
    pub rank_over_all : HasRank s m g.states
    rank_over_all = rank_from_witnesses m s r covers alike g.states rank_over_witnesses

    abbrev Alike : List ℕ → List ℕ → Type 0
    Alike u w = state_after g 0 u ≡ state_after g 0 w

    abbrev Like : List ℕ → List ℕ → Type 0
    Like u w = LeadAlike s m (in_vectors (witnesses r) u) (in_vectors (witnesses r) w)

    in_set : (w : List ℕ) → IsWord g w → IsWordOf s (in_vectors (witnesses r) w)
    in_set w h = words-within s r covers (in_vectors (witnesses r) w) (vectors-members (witnesses r) w (subst (λ n. All (λ b. b < n) w) letters h))

    one_kind : (u w : List ℕ) → IsWord g u → IsWord g w → Alike u w ↔ Like u w
    one_kind u w hu hw = (
      λ e. lead_alike_from s r m m covers (by_classes s r m covers alike) (in_vectors (witnesses r) u) (in_vectors (witnesses r) w) (in_set u hu) (in_set w hw)
          (alike_from (witnesses r) m g a.reduced.machine letters answers u w hu hw e),
      λ l. alike_to (witnesses r) m g a.reduced.machine letters answers a.reduced.reduced u w hu hw (λ v k. l v (words-within s r covers v k)),
    )

    pub cover_is : (cover : List (List ℕ)) → IsCoverBy g.letters Alike cover → IsCoverBy (length r.classes) Like cover
    cover_is cover h = subst (λ n. IsCoverBy n Like cover) (letters ∙ count) (same_cover g.letters Alike Like one_kind cover h)

  pub marks_are : (cover marks : List (List ℕ)) → All (IsWord g) cover → AreMarksBy
      (λ i w. answer_from g (state_after g 0 (word cover i)) w) (length cover) g.letters marks →
      AreMarksBy (λ i w. after m (in_vectors (witnesses r) (word cover i)) (in_vectors (witnesses r) w)) (length cover) (length r.classes) marks
  marks_are cover marks words h =
      subst (λ n. AreMarksBy (λ i w. after m (in_vectors (witnesses r) (word cover i)) (in_vectors (witnesses r) w)) (length cover) n marks) (letters ∙ count)
      (same_marks (length cover) g.letters (λ i w. answer_from g (state_after g 0 (word cover i)) w)
      (λ i w. after m (in_vectors (witnesses r) (word cover i)) (in_vectors (witnesses r) w))
      (λ i w hi hw. sym (after_is (witnesses r) m g a.reduced.machine letters answers (word cover i) w (All-get_or (IsWord g) cover i [] hi words) hw)) marks h)

-- where members of a class advance alike, the states that are reached on all vectors are those reached on the witnesses
module _ {S : Type 0} (s : VectorSet) (r : Partition) (m : Meaning S) (covers : Covers s r) (alike : MembersAdvanceAlike s r m) where
  same_state : (w : Word) (t : S) → IsReachedOn s m t → IsWordOf s w → plan_after m t w ≡ plan_after m t (in_witnesses r w)
  same_state [] t reached h = refl
  same_state (x ∷ w) t reached h =
      let hx = All-head (IsIn s) x w h in
      let c = witnessed s r covers x hx in
      let step : m.next t x ≡ m.next t (witness_of r x) = (alike t reached c.one c.there x c.one.witness c.member c.witness).0 ∙ ap (m.next t) (sym c.is) in
      same_state w (m.next t x) (reached_step s m t x reached hx) (All-tail (IsIn s) x w h) ∙ ap (λ u. plan_after m u (in_witnesses r w)) step

  pub leads_over : (t : S) → LeadsTo s m t → LeadsTo (Members (witnesses r)) m t
  leads_over t l = record {
    word = in_witnesses r l.word;
    is_word = word-member s r covers l.word l.is_word;
    leads = sym (same_state l.word m.start (reached_start s m) l.is_word) ∙ l.leads;
  }

  pub leads_from : (t : S) → LeadsTo (Members (witnesses r)) m t → LeadsTo s m t
  leads_from t l = record { word = l.word; is_word = words-within s r covers l.word l.is_word; leads = l.leads }

  from_witnesses : (states : List S) → AreReached (Members (witnesses r)) m states → AreReached s m states
  from_witnesses states h = record {
    reached = All-weaker (LeadsTo (Members (witnesses r)) m) (LeadsTo s m) leads_from
        states h.reached;
    different = h.different;
  }

  over_witnesses : (states : List S) → AreReached s m states → AreReached (Members (witnesses r)) m states
  over_witnesses states h = record {
    reached = All-weaker (LeadsTo s m) (LeadsTo (Members (witnesses r)) m) leads_over
        states h.reached;
    different = h.different;
  }

  pub all_from_witnesses : (states : List S) → AreAllReached (Members (witnesses r)) m states → AreAllReached s m states
  all_from_witnesses states h = record { are_reached = from_witnesses states h.are_reached; each = λ t l. h.each t (leads_over t l) }

  pub more_where : (n : ℕ) → ReachesMore n (Members (witnesses r)) m ↔ ReachesMore n s m
  more_where n = (
    λ h. record { states = h.states; are_reached = from_witnesses h.states h.are_reached; more = h.more },
    λ h. record { states = h.states; are_reached = over_witnesses h.states h.are_reached; more = h.more },
  )
