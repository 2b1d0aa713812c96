-- A lamp with a button that has three positions: 1 and 2 turn the lamp on and off, 0 does nothing. Its two states lead
-- differently, and 1 acts like 2, but 0 does not.
use Rattle.std.proofs.Common.{◌≡◌, ℕ, ◌<◌, ◌≤◌, ◌⊎◌, inl, inr, ℤ, pos, Bool, true, false, ◌&&◌, cond, List, [], ◌∷◌, get_or, None, Some, refl, sym, ap, subst, ◌∙◌, arith}
use Rattle.std.specs.List.{All}
use Rattle.std.specs.Option.{option_map_or}
use Rattle.std.proofs.Math.Logic.{∥∥₁_elim}
use Rattle.std.proofs.lemmas.Int.{ints}
use Rattle.std.proofs.lemmas.List.Elements.{All-nil, All-cons}
use Rattle.lin_form.specs.declared.signature.Signature.{Signature}
use Rattle.lin_form.specs.Range.{IsInRanges}
use Rattle.lin_form.specs.Signature.{ranges_of}
use Rattle.subject.specs.declared.case.Case.{Case}
use Rattle.subject.specs.Alike.{ActsLike, LeadAlike, LeadDifferently, IsListed, HasAtMost, HasRank}
use Rattle.subject.specs.FiniteMap.{next_of, plan_of_map}
use Rattle.subject.specs.inside.Examples.{entry, lamp, pressed}
use Rattle.subject.specs.Method.{AgreeOn, IsTested}
use Rattle.subject.specs.Meaning.{Meaning, answer_from, state_after}
use Rattle.input_classes.specs.VectorSet.{VectorSet, IsIn, Word, IsWordOf, box_of}
use Rattle.subject.proofs.Words.{after-state, same_steps-act}

-- the first entry for position 1 does what the first for position 2 does
same_next : (off on : Bool) (t : ℕ) →
    option_map_or (λ (e : Case). e.next) (cond (off && true) (Some (entry 0 1 1 1)) (cond (off && false) (Some (entry 0 2 1 1)) (cond (on && true) (Some (entry 1 1 0 0)) (cond (on && false) (Some (entry 1 2 0 0)) (cond (off && true) (Some (entry 0 1 7 9)) None))))) t
    ≡ option_map_or (λ (e : Case). e.next) (cond (off && false) (Some (entry 0 1 1 1)) (cond (off && true) (Some (entry 0 2 1 1)) (cond (on && false) (Some (entry 1 1 0 0)) (cond (on && true) (Some (entry 1 2 0 0)) (cond (off && false) (Some (entry 0 1 7 9)) None))))) t
same_next true on t = refl
same_next false true t = refl
same_next false false t = refl

same_reply : (off on : Bool) →
    option_map_or (λ (e : Case). e.reply) (cond (off && true) (Some (entry 0 1 1 1)) (cond (off && false) (Some (entry 0 2 1 1)) (cond (on && true) (Some (entry 1 1 0 0)) (cond (on && false) (Some (entry 1 2 0 0)) (cond (off && true) (Some (entry 0 1 7 9)) None))))) []
    ≡ option_map_or (λ (e : Case). e.reply) (cond (off && false) (Some (entry 0 1 1 1)) (cond (off && true) (Some (entry 0 2 1 1)) (cond (on && false) (Some (entry 1 1 0 0)) (cond (on && true) (Some (entry 1 2 0 0)) (cond (off && false) (Some (entry 0 1 7 9)) None))))) []
same_reply true on = refl
same_reply false true = refl
same_reply false false = refl

IsEither : ℕ → Type 0
IsEither t = (t ≡ 0) ⊎ (t ≡ 1)

from_off : (b c : Bool) → IsEither (option_map_or (λ (e : Case). e.next) (cond b (Some (entry 0 1 1 1)) (cond c (Some (entry 0 2 1 1)) (cond b (Some (entry 0 1 7 9)) None))) 0)
unfolding IsEither
from_off true c = inr refl
from_off false true = inr refl
from_off false false = inl refl

from_on : (b c : Bool) → IsEither (option_map_or (λ (e : Case). e.next) (cond b (Some (entry 1 1 0 0)) (cond c (Some (entry 1 2 0 0)) None)) 1)
unfolding IsEither
from_on true c = inl refl
from_on false true = inl refl
from_on false false = inr refl

next_either : (t : ℕ) (x : List ℤ) → IsEither t → IsEither (next_of lamp t x)
unfolding IsEither
next_either t x (inl e) = subst (λ s. IsEither (next_of lamp s x)) (sym e) (from_off _ _)
next_either t x (inr e) = subst (λ s. IsEither (next_of lamp s x)) (sym e) (from_on _ _)

state_either : (sg : Signature) (t : ℕ) (w : Word) → IsEither t → IsEither (state_after (plan_of_map (record { signature = sg; entries = lamp })) t w)
state_either sg t [] h = h
state_either sg t (x ∷ w) h = state_either sg (next_of lamp t x) w (next_either t x h)

first_apart : ([] ∷ []) ≡ ((pos 1 ∷ []) ∷ []) → ⊥
first_apart e = cc

second_apart : ((pos 1 ∷ []) ∷ []) ≡ ((pos 0 ∷ []) ∷ []) → ⊥
second_apart e = cc

module _ (sg : Signature) (ranged : ranges_of sg.inputs ≡ (pos 0, pos 2) ∷ []) where
  abbrev m : Meaning ℕ
  m = plan_of_map (record { signature = sg; entries = lamp })

  abbrev s : VectorSet
  s = box_of sg []

  in_box : (x : ℕ) → x ≤ 2 → IsIn s (pressed x)
  in_box x h = record { inside = subst (λ ranges. IsInRanges ranges (pressed x)) (sym ranged) ((omega (arith, ints), omega (arith, ints)), tt); said = All-nil _ }

  word_of : (x : ℕ) → x ≤ 2 → IsWordOf s (pressed x ∷ [])
  word_of x h = All-cons (IsIn s) (pressed x) [] (in_box x h) (All-nil (IsIn s))

  -- 1 acts like 2
  pub presses_alike : ActsLike s m (pressed 1) (pressed 2)
  presses_alike = same_steps-act m s (pressed 1) (pressed 2) (λ t _. (same_next _ _ t, same_reply _ _))

  -- 0 does not act like 1
  pub presses_apart : ActsLike s m (pressed 0) (pressed 1) → ⊥
  presses_apart acts =
      let same : ([] ∷ []) ≡ ((pos 1 ∷ []) ∷ []) = acts [] [] (All-nil (IsIn s)) (All-nil (IsIn s)) in
      first_apart same

  -- the word of no vectors and a press lead differently
  apart : LeadAlike s m [] (pressed 1 ∷ []) → ⊥
  apart alike =
      let same : ((pos 1 ∷ []) ∷ []) ≡ ((pos 0 ∷ []) ∷ []) = alike (pressed 1 ∷ []) (word_of 1 (omega arith)) in
      second_apart same

  abbrev ways : List Word
  ways = [] ∷ (pressed 1 ∷ []) ∷ []

  are_words : All (IsWordOf s) ways
  are_words = All-cons (IsWordOf s) [] ((pressed 1 ∷ []) ∷ []) (All-nil (IsIn s)) (All-cons (IsWordOf s) (pressed 1 ∷ []) [] (word_of 1 (omega arith)) (All-nil (IsWordOf s)))

  alike_at : (w like : Word) → state_after m 0 w ≡ state_after m 0 like → LeadAlike s m w like
  alike_at w like e v h = after-state m w v ∙ ap (λ t. answer_from m t v) e ∙ sym (after-state m like v)

  listed : (w : Word) → IsEither (state_after m 0 w) → IsListed s m ways w
  unfolding IsEither
  listed w (inl e) = record { like = []; there = (0, omega arith, refl); alike = alike_at w [] e }
  listed w (inr e) = record { like = pressed 1 ∷ []; there = (1, omega arith, refl); alike = alike_at w (pressed 1 ∷ []) e }

  two_at_most : HasAtMost s m 2
  unfolding IsEither
  two_at_most = record { words = ways; are_words = are_words; few = omega arith; each = λ w h. ∣ listed w (state_either sg 0 w (inl refl)) ∣₁ }

  apart_at : (i j : ℕ) (d : Word) → i < j → j < 2 → LeadDifferently s m (get_or ways i d) (get_or ways j d)
  apart_at i j d less below =
      let first : i ≡ 0 = omega arith in
      let second : j ≡ 1 = omega arith in
      subst (λ k. LeadDifferently s m (get_or ways k d) (get_or ways j d)) (sym first) (subst (λ k. LeadDifferently s m [] (get_or ways k d)) (sym second) apart)

  -- the rank of the lamp is 2
  pub two_states : HasRank s m 2
  two_states = record { most = two_at_most; words = ways; are_words = are_words; many = refl; apart = apart_at }

  agree_apart : AgreeOn m ((pressed 1 ∷ []) ∷ []) [] (pressed 1 ∷ []) → ⊥
  agree_apart agree =
      let same : ((pos 1 ∷ []) ∷ []) ≡ ((pos 0 ∷ []) ∷ []) = agree 0 [] (omega arith) in
      second_apart same

  marks_apart : (i j : ℕ) (d : Word) → i < j → j < 2 → AgreeOn m ((pressed 1 ∷ []) ∷ []) (get_or ways i d) (get_or ways j d) → ⊥
  marks_apart i j d less below =
      let first : i ≡ 0 = omega arith in
      let second : j ≡ 1 = omega arith in
      subst (λ k. AgreeOn m ((pressed 1 ∷ []) ∷ []) (get_or ways k d) (get_or ways j d) → ⊥) (sym first) (subst (λ k. AgreeOn m ((pressed 1 ∷ []) ∷ []) [] (get_or ways k d) → ⊥) (sym second) agree_apart)

  -- the lamp passes every test of the method of itself
  pub lamp_is_tested : (d : ℕ) → IsTested s m m ways ((pressed 1 ∷ []) ∷ []) d
  unfolding two_at_most
  lamp_is_tested d = record {
    model = record {
      begins = (0, omega arith, refl);
      cover_words = are_words;
      mark_words = All-cons (IsWordOf s) (pressed 1 ∷ []) [] (word_of 1 (omega arith)) (All-nil (IsWordOf s));
      some_mark = omega arith;
      whole = λ w h never. ∥∥₁_elim (two_at_most.each w h) (λ p q. absurd p) never;
      apart = marks_apart;
    };
    answers = λ p z w a b c e. refl;
  }
