-- A characterisation set: words that tell the words of a cover apart, found one by one. The function f gives what
-- is answered to a word after the cover word with a number.
use Rattle.std.specs.Prelude.{◌≡◌, ◌≢◌, ℕ, ℤ, ◌<◌, ◌≤◌, ◌⊎◌, List, [], ◌∷◌, take, All, slice_get, Some}
use Rattle.word_pool.specs.Order.{IsUpTo}
use Rattle.suite_words.specs.Cover.{AreLetters}

-- each of the marks is answered alike after the cover words i and j
abbrev pub AgreeOnMarks : (ℕ → List ℕ → List (List ℤ)) → List (List ℕ) → ℕ → ℕ → Type 0
AgreeOnMarks f marks i j = All (λ w. f i w ≡ f j w) marks

-- p and q are the first pair of n cover words, by p and then by q, on which the marks so far agree, and w is the
-- shortlex-least word of c letters that is answered differently after them
pub record IsNextMark (f : ℕ → List ℕ → List (List ℤ)) (n c : ℕ) (marks : List (List ℕ)) (w : List ℕ) : Type 0 where
  pub p : ℕ
  pub q : ℕ
  pub before : p < q
  pub inside : q < n
  pub agree : AgreeOnMarks f marks p q
  pub first : (i j : ℕ) → i < j → j < n → AgreeOnMarks f marks i j → (p < i) ⊎ ((p ≡ i) × (q ≤ j))
  pub letters : AreLetters c w
  pub differ : f p w ≢ f q w
  pub least : (v : List ℕ) → AreLetters c v → f p v ≢ f q v → IsUpTo w v

-- the marks of n cover words: the empty word for one, else one by one until there is no pair on which they agree
pub record AreMarksBy (f : ℕ → List ℕ → List (List ℤ)) (n c : ℕ) (marks : List (List ℕ)) : Type 0 where
  pub one : n ≡ 1 → marks ≡ [] ∷ []
  pub next : (k : ℕ) (w : List ℕ) → 1 < n → slice_get marks k ≡ Some w → IsNextMark f n c (take k marks) w
  pub ends : (i j : ℕ) → i < j → j < n → ¬ AgreeOnMarks f marks i j
