-- What contracts see of a finite machine: a complete deterministic Mealy machine. States and letters count
-- from 0, and the start is the state 0.
use Rattle.std.specs.Prelude.{◌≡◌, ℕ, ℤ, ◌+◌, ◌*◌, ◌/◌, ◌<◌, ◌≤◌, List, [], ◌∷◌, length, All, slice_index_or}

-- the row of the state s and the letter a stands at s * letters + a: the next state, and the number of the reply
pub record Machine : Type 0 where
  pub letters : ℕ
  pub states : ℕ
  pub rows : List (ℕ × ℕ)
  pub replies : List (List ℤ)

-- the machine with these rows, which has as many states as there are rows for each letter
abbrev pub machine_of : ℕ → List (ℕ × ℕ) → List (List ℤ) → Machine
machine_of letters rows replies = record {
  letters = letters;
  states = length rows / letters;
  rows = rows;
  replies = replies;
}

-- the reply with a number, and the empty list past the end
abbrev pub reply_at : List (List ℤ) → ℕ → List ℤ
reply_at replies n = slice_index_or replies n []

-- no reply has two numbers
abbrev pub AreDifferent : List (List ℤ) → Type 0
AreDifferent replies = (i j : ℕ) → i < length replies → j < length replies → reply_at replies i ≡ reply_at replies j → i ≡ j

-- the rules of a machine: its limits, a row for each state and letter, numbers in range, and different replies
pub record IsMachine (m : Machine) : Type 0 where
  pub some_states : 0 < m.states
  pub few_states : m.states ≤ 1024
  pub some_letters : 0 < m.letters
  pub few_letters : m.letters ≤ 4096
  pub size : length m.rows ≡ m.states * m.letters
  pub in_range : All (λ (r : ℕ × ℕ). (r.0 < m.states) × (r.1 < length m.replies)) m.rows
  pub different : AreDifferent m.replies

-- the row of a state and a letter
abbrev pub row : Machine → ℕ → ℕ → ℕ × ℕ
row m s a = slice_index_or m.rows (s * m.letters + a) (0, 0)

-- the state after a letter
abbrev pub next : Machine → ℕ → ℕ → ℕ
next m s a = (row m s a).0

-- the number of the reply to a letter
abbrev pub number : Machine → ℕ → ℕ → ℕ
number m s a = (row m s a).1

-- each letter of the word is one of the machine's
abbrev pub IsWord : Machine → List ℕ → Type 0
IsWord m word = All (λ a. a < m.letters) word

-- the state after a word
abbrev pub state_after : Machine → ℕ → List ℕ → ℕ
state_after m s [] = s
state_after m s (a ∷ word) = state_after m (next m s a) word
