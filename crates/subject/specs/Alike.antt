-- Where plans, words and vectors cannot be told apart by answers to the words of a set of vectors. `∥ A ∥₁` says that
-- there is an A, and not which.
use Rattle.std.specs.Prelude.{◌≡◌, ℕ, ◌≤◌, ℤ, List, ◌∷◌, ◌++◌, length, Contains}
use Rattle.std.specs.List.{All, AllPairs}
use Rattle.subject.specs.Meaning.{Meaning, answer, after}
use Rattle.input_classes.specs.declared.class.Class.{Class}
use Rattle.input_classes.specs.Partition.{Partition, IsInClass}
use Rattle.input_classes.specs.VectorSet.{VectorSet, Word, IsWordOf}

-- two plans answer every word of the set alike
abbrev pub Equal : {S T : Type 0} → VectorSet → Meaning S → Meaning T → Type 0
Equal s a b = (w : Word) → IsWordOf s w → answer a w ≡ answer b w

-- two words lead alike in a plan: after both, every word of the set gets the same replies
abbrev pub LeadAlike : {S : Type 0} → VectorSet → Meaning S → Word → Word → Type 0
LeadAlike s m u w = (v : Word) → IsWordOf s v → after m u v ≡ after m w v

-- otherwise they lead differently
abbrev pub LeadDifferently : {S : Type 0} → VectorSet → Meaning S → Word → Word → Type 0
LeadDifferently s m u w = LeadAlike s m u w → ⊥

-- one of the words, which leads alike with w
pub record IsListed {S : Type 0} (s : VectorSet) (m : Meaning S) (words : List Word) (w : Word) : Type 0 where
  pub like : Word
  pub there : Contains words like
  pub alike : LeadAlike s m w like

-- at most n states: a list of at most n words such that every word leads alike with one of them
pub record HasAtMost {S : Type 0} (s : VectorSet) (m : Meaning S) (n : ℕ) : Type 0 where
  pub words : List Word
  pub are_words : All (IsWordOf s) words
  pub few : length words ≤ n
  pub each : (w : Word) → IsWordOf s w → ∥ IsListed s m words w ∥₁

-- the rank is n: at most n states, and some n words lead pairwise differently
pub record HasRank {S : Type 0} (s : VectorSet) (m : Meaning S) (n : ℕ) : Type 0 where
  pub most : HasAtMost s m n
  pub words : List Word
  pub are_words : All (IsWordOf s) words
  pub many : length words ≡ n
  pub apart : AllPairs (LeadDifferently s m) words

-- x acts like y in a plan: in the middle of any word one may stand for the other
abbrev pub ActsLike : {S : Type 0} → VectorSet → Meaning S → List ℤ → List ℤ → Type 0
ActsLike s m x y = (u v : Word) → IsWordOf s u → IsWordOf s v → answer m (u ++ x ∷ v) ≡ answer m (u ++ y ∷ v)

-- the members of each class act alike in the plan
abbrev pub MembersActAlike : {S : Type 0} → VectorSet → Partition → Meaning S → Type 0
MembersActAlike s r m = (c : Class) → Contains r.classes c → (x y : List ℤ) → IsInClass s r c x → IsInClass s r c y
    → ActsLike s m x y
