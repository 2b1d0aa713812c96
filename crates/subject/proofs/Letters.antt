-- Words of letters and the words of witnesses for which they stand, and where the latter lead.
use Rattle.std.proofs.Common.{◌≡◌, inl, inr, ℕ, ◌<◌, ℤ, List, [], ◌∷◌, ◌++◌, length, map, drop, get_or, Contains, refl, sym, ap, ◌∙◌, arith}
use Rattle.std.specs.List.{All}
use Rattle.std.proofs.Math.Logic.{∥∥₁_elim, ∥∥₁_map}
use Rattle.std.proofs.lemmas.List.{append_assoc, append-nil, length-append, length-map, get_or_default}
use Rattle.std.proofs.lemmas.List.Elements.{All-contains, All-contains_itself, All-weaker, All-head, All-tail, All-map, All-cons, All-nil, All-append, All-push, Contains-get_or}
use Rattle.input_classes.specs.declared.class.Class.{Class}
use Rattle.input_classes.specs.Partition.{Partition, Covers, IsInClass, witnesses}
use Rattle.input_classes.specs.VectorSet.{VectorSet, Members, IsIn, Word, IsWordOf}
use Rattle.input_classes.proofs.CallerLemmas.{contains_cases, contains_first, contains_later, contains_none, contains_map, words-within}
use Rattle.suite_words.specs.Cover.{AreLetters}
use Rattle.subject.specs.Alike.{LeadAlike}
use Rattle.subject.specs.Domain.{ActByClasses, HasLikeClass}
use Rattle.subject.specs.Meaning.{Meaning, answer, after}
use Rattle.subject.specs.Suite.{in_vectors}

-- an element that is mapped to another
pub record IsMapped {X Y : Type 0} (f : X → Y) (xs : List X) (y : Y) : Type 0 where
  pub from : X
  pub there : Contains xs from
  pub is : f from ≡ y

pub contains_from_map : {X Y : Type 0} (f : X → Y) (xs : List X) (y : Y) → Contains (map f xs) y → IsMapped f xs y
contains_from_map f [] y h = absurd (contains_none y h)
contains_from_map f (x ∷ xs) y h =
    elim (contains_cases (f x) y (map f xs) h) [
      | inl e ↦ record { from = x; there = contains_first x xs; is = e }
      | inr later ↦ (let k = contains_from_map f xs y later in record { from = k.from; there = contains_later x k.from xs k.there; is = k.is })
    ]

-- what holds of each element holds of all
pub all_of_each : {X : Type 0} (P : X → Type 0) (xs : List X) → ((x : X) → Contains xs x → P x) → All P xs
all_of_each P xs f k d below = f (get_or xs k d) (All-contains_itself xs k d below)

module _ (r : Partition) where
  abbrev vs : List (List ℤ)
  vs = witnesses r

  size : length vs ≡ length r.classes
  size = length-map r.classes (λ (c : Class). c.witness)

  -- a word of letters stands for a word of witnesses
  pub word_in : (w : List ℕ) → AreLetters (length r.classes) w → IsWordOf (Members vs) (in_vectors vs w)
  word_in w below =
      All-map (Contains vs) (λ a. get_or vs a []) w (All-weaker (λ a. a < length r.classes) (λ a. Contains vs (get_or vs a [])) (λ a h. Contains-get_or vs a [] (omega (arith, h, size))) w below)

  -- and each word of witnesses has letters
  pub record HasLetters (w : Word) : Type 0 where
    pub letters : List ℕ
    pub below : AreLetters (length r.classes) letters
    pub are : in_vectors vs letters ≡ w

  pub letters_for : (w : Word) → IsWordOf (Members vs) w → HasLetters w
  letters_for [] h = record { letters = []; below = All-nil (λ a. a < length r.classes); are = refl }
  letters_for (x ∷ w) h =
      let k = All-head (Contains vs) x w h in
      let rest = letters_for w (All-tail (Contains vs) x w h) in
      let e : get_or vs k.0 [] ≡ x = get_or_default vs k.0 [] x k.1 ∙ k.2 in
      record {
        letters = k.0 ∷ rest.letters;
        below = All-cons (λ a. a < length r.classes) k.0 rest.letters (omega (arith, k.1, size)) rest.below;
        are = λ j. e j ∷ rest.are j;
      }

-- a word of witnesses that leads alike with a word
pub record HasLikeWord {S : Type 0} (s : VectorSet) (r : Partition) (m : Meaning S) (w : Word) : Type 0 where
  pub like : Word
  pub is_word : IsWordOf (Members (witnesses r)) like
  pub alike : LeadAlike s m w like

module _ {S T : Type 0} (s : VectorSet) (r : Partition) (m : Meaning S) (i : Meaning T) (covers : Covers s r) (classes : ActByClasses s r m i) where
  -- a model whose vectors have classes that act like them in it and another plan has them for itself alone
  pub in_model_alone : ActByClasses s r m m
  in_model_alone x h = ∥∥₁_map (classes x h) (λ c. record { one = c.one; there = c.there; in_model = c.in_model; in_other = c.in_model })

module _ {S : Type 0} (s : VectorSet) (r : Partition) (m : Meaning S) (covers : Covers s r) (classes : ActByClasses s r m m) where
  -- a vector in the middle of a word, and a witness that acts like it
  swapped : (u v : Word) (x : List ℤ) (c : HasLikeClass s r m m x) → IsWordOf s u → IsWordOf s v → LeadAlike s m (u ++ x ∷ v) (u ++ c.one.witness ∷ v)
  swapped u v x c p q w k =
      let y = c.one.witness in
      let member = All-contains (λ d. IsInClass s r d d.witness) r.classes c.one covers.witnessed c.there in
      let same = sym (c.in_model y member u (v ++ w) p (All-append (IsIn s) v w q k)) in
      let left = ap (answer m) (append_assoc u (x ∷ v) w) in
      let right = ap (answer m) (append_assoc u (y ∷ v) w) in
      let long : length (u ++ x ∷ v) ≡ length (u ++ y ∷ v) = length-append u (x ∷ v) ∙ sym (length-append u (y ∷ v)) in
      let whole = left ∙ same ∙ sym right in
      λ j. drop (long j) (whole j)

  liken : (u w : Word) → IsWordOf (Members (witnesses r)) u → IsWordOf s w → (HasLikeWord s r m (u ++ w) → ⊥) → ⊥
  liken u [] p h none = none (record { like = u; is_word = p; alike = λ v k. ap (λ y. after m y v) (append-nil u) })
  liken u (x ∷ w) p h none =
      let in' = All-head (IsIn s) x w h in
      let rest = All-tail (IsIn s) x w h in
      let before = words-within s r covers u p in
      ∥∥₁_elim (classes x in') (λ a b. absurd a) (λ c.
      let y = c.one.witness in
      liken (u ++ y ∷ []) w (All-push (Contains (witnesses r)) u y p (contains_map (λ (d : Class). d.witness) r.classes c.one c.there)) rest (λ l.
      none (record {
        like = l.like;
        is_word = l.is_word;
        alike = λ v k. swapped u w x c before rest v k ∙ ap (λ z. after m z v) (sym (append_assoc u (y ∷ []) w)) ∙ l.alike v k;
      })))

  -- no word leads differently from all words of witnesses
  pub like_word : (w : Word) → IsWordOf s w → (HasLikeWord s r m w → ⊥) → ⊥
  like_word w h = liken [] w (All-nil (Contains (witnesses r))) h
