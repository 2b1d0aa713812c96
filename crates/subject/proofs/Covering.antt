-- The words of a state cover with a characterisation set are as many as the rank.
use Rattle.std.proofs.Common.{◌≡◌, ◌⊎◌, inl, inr, List, [], ◌∷◌, length, get_or, Contains, refl, sym, ap, ◌∙◌, subst, arith}
use Rattle.std.proofs.lemmas.List.Elements.{All-nil, All-cons, All-head, All-tail}
use Rattle.input_classes.specs.VectorSet.{VectorSet, Word, IsWordOf}
use Rattle.input_classes.proofs.CallerLemmas.{contains_first, contains_later, contains_cases, contains_none}
use Rattle.subject.specs.Alike.{LeadAlike, IsListed, HasRank}
use Rattle.subject.specs.Meaning.{Meaning, after}
use Rattle.subject.specs.Method.{AgreeOn, AreCoverAndMarks}
use Rattle.subject.proofs.Lifting.{decide_same, stable}
use Rattle.subject.proofs.Method.{agree_is_one}

-- a word of a list that agrees with another on the marks
record IsAgreed {S : Type 0} (m : Meaning S) (words marks : List Word) (w : Word) : Type 0 where
  word : Word
  there : Contains words word
  agrees : AgreeOn m marks word w

module _ {S : Type 0} (m : Meaning S) where
  decide_agree : (marks : List Word) (p q : Word) → AgreeOn m marks p q ⊎ (AgreeOn m marks p q → ⊥)
  decide_agree [] p q = inl (All-nil (λ w. after m p w ≡ after m q w))
  decide_agree (w ∷ marks) p q =
      elim (decide_same (after m p w) (after m q w)) [
        | inr differ ↦ inr (λ agree. differ (All-head (λ w. after m p w ≡ after m q w) w marks agree))
        | inl same ↦ elim (decide_agree marks p q) [
          | inl rest ↦ inl (All-cons (λ w. after m p w ≡ after m q w) w marks same rest)
          | inr never ↦ inr (λ agree. never (All-tail (λ w. after m p w ≡ after m q w) w marks agree))
        ]
      ]

  find_agreed : (words marks : List Word) (w : Word) → IsAgreed m words marks w ⊎ ((p : Word) → Contains words p → AgreeOn m marks p w → ⊥)
  find_agreed [] marks w = inr (λ p k agree. contains_none p k)
  find_agreed (p ∷ words) marks w =
      elim (decide_agree marks p w) [
        | inl agree ↦ inl (record { word = p; there = contains_first p words; agrees = agree })
        | inr never ↦ elim (find_agreed words marks w) [
          | inl f ↦ inl (record { word = f.word; there = contains_later p f.word words f.there; agrees = f.agrees })
          | inr none ↦ inr (λ q k agree. elim (contains_cases p q words k) [
            | inl same ↦ never (subst (λ u. AgreeOn m marks u w) (sym same) agree)
            | inr later ↦ none q later agree
          ])
        ]
      ]

  module _ (s : VectorSet) (cover marks : List Word) (h : AreCoverAndMarks s m cover marks) where
    agree_alike : (p w : Word) → LeadAlike s m w p → AgreeOn m marks p w
    agree_alike p w alike k d below = sym (alike (get_or marks k d) (h.mark_words k d below))

    listed : (w : Word) → IsWordOf s w → IsListed s m cover w
    listed w k =
        elim (find_agreed cover marks w) [
          | inr none ↦ absurd (h.whole w k (λ c. none c.like c.there (agree_alike c.like w c.alike)))
          | inl f ↦ record {
            like = f.word;
            there = f.there;
            alike = λ v b. stable (after m w v) (after m f.word v) (λ differ. h.whole w k (λ c.
                let agree : AgreeOn m marks c.like f.word = λ a d below. agree_alike c.like w c.alike a d below ∙ sym (f.agrees a d below) in
                let same = agree_is_one s m cover marks h c.like f.word c.there f.there agree in
                differ (c.alike v b ∙ ap (λ u. after m u v) same)));
          }
        ]

    pub cover_rank : HasRank s m (length cover)
    cover_rank = record {
      most = record { words = cover; are_words = h.cover_words; few = omega arith; each = λ w k. ∣ listed w k ∣₁ };
      words = cover;
      are_words = h.cover_words;
      many = refl;
      apart = λ a b d less below alike. h.apart a b d less below (λ k e short. alike (get_or marks k e) (h.mark_words k e short));
    }
