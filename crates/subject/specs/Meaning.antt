-- What a plan means, and what it answers.
use Rattle.std.specs.Prelude.{◌≡◌, ℕ, ℤ, List, [], ◌∷◌, ◌++◌, length, drop, Option, None, Some}
use Rattle.lin_form.specs.declared.signature.Signature.{Signature}
use Rattle.lin_form.specs.Signature.{IsInInputRanges}
use Rattle.input_classes.specs.VectorSet.{VectorSet, Word, IsWordOf, box_of}

-- a signature, a start, and for each state and vector of the signature's ranges a next state and a reply; what stands for
-- other vectors means nothing
pub record Meaning (S : Type 0) : Type 0 where
  pub signature : Signature
  pub start : S
  pub next : S → List ℤ → S
  pub reply : S → List ℤ → List ℤ

-- the state to which a word leads from a state
abbrev pub state_after : {S : Type 0} → Meaning S → S → Word → S
state_after m s [] = s
state_after m s (x ∷ w) = state_after m (m.next s x) w

-- the replies to a word from a state
abbrev pub answer_from : {S : Type 0} → Meaning S → S → Word → List (List ℤ)
answer_from m s [] = []
answer_from m s (x ∷ w) = m.reply s x ∷ answer_from m (m.next s x) w

-- the replies to a word from the start
abbrev pub answer : {S : Type 0} → Meaning S → Word → List (List ℤ)
answer m w = answer_from m m.start w

-- the last replies to u and then v, as many as v has vectors: those after the replies to u
abbrev pub after : {S : Type 0} → Meaning S → Word → Word → List (List ℤ)
after m u v = drop (length u) (answer m (u ++ v))

-- a word of the set that leads from the start to the state
pub record LeadsTo {S : Type 0} (s : VectorSet) (m : Meaning S) (t : S) : Type 0 where
  pub word : Word
  pub is_word : IsWordOf s word
  pub leads : state_after m m.start word ≡ t

-- the state is reached by words of the set: there is such a word (`∥ A ∥₁` says that there is an A, and not which)
abbrev pub IsReachedOn : {S : Type 0} → VectorSet → Meaning S → S → Type 0
IsReachedOn s m t = ∥ LeadsTo s m t ∥₁

-- the state is reached by words of vectors of the signature's ranges
abbrev pub IsReached : {S : Type 0} → Meaning S → S → Type 0
IsReached m t = IsReachedOn (box_of m.signature []) m t

-- each reply has one number for each output
abbrev pub RepliesFit : {S : Type 0} → Meaning S → Type 0
RepliesFit {S} m = (t : S) (x : List ℤ) → IsReached m t → IsInInputRanges m.signature.inputs x
    → length (m.reply t x) ≡ length m.signature.outputs

-- for each state and vector the number of the branch that the step takes, where it is told
abbrev pub Branches : Type 0 → Type 0
Branches S = S → List ℤ → Option ℕ

-- no branch is told
abbrev pub no_branches : {S : Type 0} → Branches S
no_branches state vector = None

-- k is a branch of a state: vectors of the ranges on which its step takes branch k lead from it to the same state with
-- the same reply
abbrev pub IsBranchOf : {S : Type 0} → Meaning S → Branches S → S → ℕ → Type 0
IsBranchOf m branches t k = (x y : List ℤ) → IsInInputRanges m.signature.inputs x → IsInInputRanges m.signature.inputs y
    → branches t x ≡ Some k → branches t y ≡ Some k → (m.next t x ≡ m.next t y) × (m.reply t x ≡ m.reply t y)
