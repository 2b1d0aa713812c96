-- From words of witnesses to all words, where every vector has a class that acts like it.
use Rattle.std.proofs.Common.{Contains, ◌≡◌, ◌⊎◌, inl, inr, ℤ, Bool, true, false, List, [], ◌∷◌, ◌++◌, length, drop, refl, sym, ap, ◌∙◌}
use Rattle.std.specs.Bool.{Decides}
use Rattle.std.proofs.Math.Logic.{∥∥₁_elim}
use Rattle.std.proofs.lemmas.Bool.{false≢true}
use Rattle.std.proofs.lemmas.Bool.Decides.{Decides-int_eq}
use Rattle.std.proofs.lemmas.List.{append_assoc}
use Rattle.std.proofs.lemmas.List.Elements.{All-head, All-tail, All-append, All-push, All-nil, All-contains}
use Rattle.std.proofs.lemmas.Slice.Eq.{slice_eq-Decides}
use Rattle.subject.specs.Alike.{Equal, LeadAlike, ActsLike}
use Rattle.subject.specs.Domain.{HasLikeClass, ActByClasses}
use Rattle.subject.specs.Meaning.{Meaning, answer, after}
use Rattle.input_classes.specs.declared.class.Class.{Class}
use Rattle.input_classes.specs.Partition.{Partition, IsInClass, witnesses, Covers}
use Rattle.subject.specs.Alike.{MembersActAlike}
use Rattle.input_classes.specs.VectorSet.{VectorSet, Members, IsIn, Word, IsWordOf}
use Rattle.input_classes.proofs.CallerLemmas.{contains_map, witnessed, words-within}

same_or_not : (x y : List (List ℤ)) (b : Bool) → Decides b (x ≡ y) → (x ≡ y) ⊎ (x ≡ y → ⊥)
same_or_not x y true d = inl (d.0 refl)
same_or_not x y false d = inr (λ e. false≢true (d.1 e))

-- whether two lists of replies are the same
pub decide_same : (x y : List (List ℤ)) → (x ≡ y) ⊎ (x ≡ y → ⊥)
decide_same x y = same_or_not x y _ (slice_eq-Decides (λ a b. slice_eq-Decides Decides-int_eq a b _ refl) x y _ refl)

-- answers that cannot differ are the same
pub stable : (x y : List (List ℤ)) → ((x ≡ y → ⊥) → ⊥) → x ≡ y
stable x y h = elim (decide_same x y) [ inl same ↦ same | inr differ ↦ absurd (h differ) ]

pub from_mere : {A : Type 0} (x y : List (List ℤ)) → ∥ A ∥₁ → (A → x ≡ y) → x ≡ y
from_mere x y h f = stable x y (λ never. ∥∥₁_elim h (λ p q. absurd p) (λ a. never (f a)))

-- where members of each class act alike, every vector has a class that acts like it
pub by_classes : {S : Type 0} (s : VectorSet) (r : Partition) (m : Meaning S) → Covers s r → MembersActAlike s r m → ActByClasses s r m m
by_classes s r m covers alike x h =
    let w = witnessed s r covers x h in
    let acts = λ (y : List ℤ) (k : IsInClass s r w.one y). alike w.one w.there y x k w.member in
    ∣ record { one = w.one; there = w.there; in_model = acts; in_other = acts } ∣₁

-- one vector in the middle of a word, before which another word has led
after-swap : {T : Type 0} (s : VectorSet) (i : Meaning T) (a z v : Word) (x y : List ℤ) → ActsLike s i y x → IsWordOf s (a ++ z) → IsWordOf s v → after i a ((z ++ y ∷ []) ++ v) ≡ after i a (z ++ x ∷ v)
after-swap s i a z v x y acts p q =
    ap (after i a) (append_assoc z (y ∷ []) v)
    ∙ ap (drop (length a)) (sym (ap (answer i) (append_assoc a z (y ∷ v))) ∙ acts (a ++ z) v p q ∙ ap (answer i) (append_assoc a z (x ∷ v)))

module _ {S T : Type 0} (s : VectorSet) (r : Partition) (m : Meaning S) (i : Meaning T) (covers : Covers s r) (classes : ActByClasses s r m i) where
  witness_in : (x : List ℤ) (a : HasLikeClass s r m i x) → IsInClass s r a.one a.one.witness
  witness_in x a = All-contains (λ c. IsInClass s r c c.witness) r.classes a.one covers.witnessed a.there

  witness_is : (x : List ℤ) (a : HasLikeClass s r m i x) → Contains (witnesses r) a.one.witness
  witness_is x a = contains_map (λ (c : Class). c.witness) r.classes a.one a.there

  -- plans that answer words of witnesses alike answer alike
  pub equal_from : Equal (Members (witnesses r)) i m → (u w : Word) → IsWordOf (Members (witnesses r)) u → IsWordOf s w → answer i (u ++ w) ≡ answer m (u ++ w)
  equal_from equal u [] p h = equal (u ++ []) (All-append (Contains (witnesses r)) u [] p (All-nil (Contains (witnesses r))))
  equal_from equal u (x ∷ w) p h =
      let rest = All-tail (IsIn s) x w h in
      let before = words-within s r covers u p in
      from_mere (answer i (u ++ x ∷ w)) (answer m (u ++ x ∷ w)) (classes x (All-head (IsIn s) x w h)) (λ a.
      let y = a.one.witness in
      let k = witness_in x a in
      let later = equal_from equal (u ++ y ∷ []) w (All-push (Contains (witnesses r)) u y p (witness_is x a)) rest in
      sym (a.in_other y k u w before rest) ∙ sym (ap (answer i) (append_assoc u (y ∷ []) w)) ∙ later
      ∙ ap (answer m) (append_assoc u (y ∷ []) w) ∙ a.in_model y k u w before rest)

  -- words that lead alike over words of witnesses lead alike
  pub alike_from : (a b : Word) → IsWordOf s a → IsWordOf s b → LeadAlike (Members (witnesses r)) i a b → (z v : Word) → IsWordOf (Members (witnesses r)) z → IsWordOf s v → after i a (z ++ v) ≡ after i b (z ++ v)
  alike_from a b at bt alike z [] p h = alike (z ++ []) (All-append (Contains (witnesses r)) z [] p (All-nil (Contains (witnesses r))))
  alike_from a b at bt alike z (x ∷ v) p h =
      let rest = All-tail (IsIn s) x v h in
      let before = words-within s r covers z p in
      from_mere (after i a (z ++ x ∷ v)) (after i b (z ++ x ∷ v)) (classes x (All-head (IsIn s) x v h)) (λ c.
      let y = c.one.witness in
      let acts = c.in_other y (witness_in x c) in
      let later = alike_from a b at bt alike (z ++ y ∷ []) v (All-push (Contains (witnesses r)) z y p (witness_is x c)) rest in
      sym (after-swap s i a z v x y acts (All-append (IsIn s) a z at before) rest) ∙ later
      ∙ after-swap s i b z v x y acts (All-append (IsIn s) b z bt before) rest)

  pub lead_alike_from : (a b : Word) → IsWordOf s a → IsWordOf s b → LeadAlike (Members (witnesses r)) i a b → LeadAlike s i a b
  lead_alike_from a b at bt alike v h = alike_from a b at bt alike [] v (All-nil (Contains (witnesses r))) h
