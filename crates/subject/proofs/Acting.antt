-- Vectors that act alike: over a set and over its witnesses, and read off the answers after each word.
use Rattle.std.proofs.Common.{◌≡◌, ℤ, List, [], ◌∷◌, ◌++◌, length, drop, sym, ap, ◌∙◌}
use Rattle.std.specs.Prelude.{◌↔◌}
use Rattle.std.proofs.lemmas.List.{append_assoc, length-append, map-append}
use Rattle.std.proofs.lemmas.List.Elements.{All-nil, All-cons, All-append}
use Rattle.input_classes.specs.Partition.{Partition, Covers, witnesses, witness_of, in_witnesses}
use Rattle.input_classes.specs.VectorSet.{VectorSet, Members, IsIn, Word, IsWordOf}
use Rattle.input_classes.proofs.CallerLemmas.{words-within, word-member}
use Rattle.subject.specs.Alike.{ActsLike, LeadAlike, MembersActAlike}
use Rattle.subject.specs.Meaning.{Meaning, answer, after}
use Rattle.subject.proofs.Witnesses.{witness-acts, answers-witnesses}
use Rattle.subject.proofs.Words.{after-cons, answer-after}

module _ {S : Type 0} (s : VectorSet) (r : Partition) (covers : Covers s r) (m : Meaning S) (alike : MembersActAlike s r m) where
  word_between : (u v : Word) (x : List ℤ) → IsWordOf s u → IsIn s x → IsWordOf s v → answer m (u ++ x ∷ v) ≡ answer m (in_witnesses r u ++ witness_of r x ∷ in_witnesses r v)
  word_between u v x a b c =
      answers-witnesses s r covers m alike (u ++ x ∷ v) (All-append (IsIn s) u (x ∷ v) a (All-cons (IsIn s) x v b c))
      ∙ ap (answer m) (map-append (witness_of r) u (x ∷ v))

  -- two vectors act alike exactly where their witnesses do over words of witnesses
  pub acts-over_witnesses : (x y : List ℤ) → IsIn s x → IsIn s y → (ActsLike s m x y ↔ ActsLike (Members (witnesses r)) m (witness_of r x) (witness_of r y))
  acts-over_witnesses x y hx hy = (
    λ acts u v p q.
        let a = words-within s r covers u p in
        let b = words-within s r covers v q in
        sym (witness-acts s r covers m alike x hx u v a b) ∙ acts u v a b ∙ witness-acts s r covers m alike y hy u v a b,
    λ acts u v p q.
        word_between u v x p hx q ∙ acts (in_witnesses r u) (in_witnesses r v) (word-member s r covers u p) (word-member s r covers v q) ∙ sym (word_between u v y p hy q),
  )

module _ {S : Type 0} (s : VectorSet) (m : Meaning S) (x y : List ℤ) where
  same_after : ActsLike s m x y → (u v : Word) → IsWordOf s u → IsWordOf s v → after m (u ++ x ∷ []) v ≡ after m (u ++ y ∷ []) v
  same_after acts u v p q =
      let size : length (u ++ x ∷ []) ≡ length (u ++ y ∷ []) = length-append u (x ∷ []) ∙ sym (length-append u (y ∷ [])) in
      let same = ap (answer m) (append_assoc u (x ∷ []) v) ∙ acts u v p q ∙ sym (ap (answer m) (append_assoc u (y ∷ []) v)) in
      λ i. drop (size i) (same i)

  -- two vectors act alike exactly where after each word they get the same reply and lead alike
  pub acts-after_words : ActsLike s m x y ↔ ((u : Word) → IsWordOf s u → (after m u (x ∷ []) ≡ after m u (y ∷ [])) × LeadAlike s m (u ++ x ∷ []) (u ++ y ∷ []))
  acts-after_words = (
    λ acts u p. (ap (drop (length u)) (acts u [] p (All-nil (IsIn s))), λ v q. same_after acts u v p q),
    λ after_words u v p q.
        let h = after_words u p in
        answer-after m u (x ∷ v) ∙ ap (λ l. answer m u ++ l) (after-cons m u x v ∙ (λ i. h.0 i ++ h.1 v q i) ∙ sym (after-cons m u y v)) ∙ sym (answer-after m u (y ∷ v)),
  )
