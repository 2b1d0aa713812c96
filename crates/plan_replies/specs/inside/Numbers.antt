-- The numbers of the steps by the last letters of words.
use Rattle.std.specs.Prelude.{◌≡◌, ℕ, ◌+◌, ◌-◌, ◌<◌, ◌≤◌, ℤ, List, [], ◌∷◌, ◌++◌, length, Some, slice_get, slice_index}
use Rattle.subject.specs.Meaning.{Meaning}
use Rattle.word_pool.specs.Words.{word}
use Rattle.plan_replies.specs.Replies.{reply_of, state_of}

-- the number of the step by the last letter of the word with number k
pub record IsStepNumber {S : Type 0} (m : Meaning S) (classes : List (List ℤ)) (words : List (List ℕ)) (k : ℕ)
    (states : List S) (nexts : List ℕ) (replies : List (List ℤ)) (number : ℕ) : Type 0 where
  pub next : ℕ
  pub goes : slice_get nexts number ≡ Some next
  pub leads : slice_get states next ≡ Some (state_of m classes (word words k))
  pub reply : (u : List ℕ) (a : ℕ) → word words k ≡ u ++ a ∷ [] → slice_get replies number ≡ Some (reply_of m classes u a)

-- the numbers for the first n words but the empty one
pub record AreStepNumbers {S : Type 0} (m : Meaning S) (classes : List (List ℤ)) (words : List (List ℕ)) (n : ℕ)
    (states : List S) (nexts : List ℕ) (replies : List (List ℤ)) (numbers : List ℕ) : Type 0 where
  pub one_less : n ≡ length numbers + 1
  pub few : length nexts + 1 ≤ n
  pub each : (k : ℕ) → 0 < k → k < n → IsStepNumber m classes words k states nexts replies (slice_index numbers (k - 1))

-- the replies to the last letters of the first n words but the empty one
abbrev pub AreRepliesTo : {S : Type 0} → Meaning S → List (List ℤ) → List (List ℕ) → ℕ → List (List ℤ) → Type 0
AreRepliesTo m classes words n replies = (k : ℕ) (u : List ℕ) (a : ℕ) → 0 < k → k < n → word words k ≡ u ++ a ∷ []
    → slice_get replies (k - 1) ≡ Some (reply_of m classes u a)
