-- The plan of a finite map from pairs (number, vector) to pairs (number, reply).
use Rattle.std.specs.Prelude.{ℕ, ℤ, Bool, ◌&&◌, ◌==◌, List, [], Option, find}
use Rattle.std.specs.Cmp.Lexicographic.{pointwise}
use Rattle.std.specs.Option.{option_map_or}
use Rattle.std.specs.Ordering.{int_eq}
use Rattle.lin_form.specs.declared.signature.Signature.{Signature}
use Rattle.subject.specs.declared.case.Case.{Case}
use Rattle.subject.specs.Meaning.{Meaning}

-- a signature and a finite map, as a list of entries, of which the first for a pair counts
pub record FiniteMap : Type 0 where
  pub signature : Signature
  pub entries : List Case

-- the entry is for the state and the vector
abbrev pub is_for : ℕ → List ℤ → Case → Bool
is_for state input entry = entry.state == state && pointwise int_eq entry.input input

-- the first entry for a state and a vector
abbrev pub entry_of : List Case → ℕ → List ℤ → Option Case
entry_of entries state input = find (is_for state input) entries

-- without an entry the state stays
abbrev pub next_of : List Case → ℕ → List ℤ → ℕ
next_of entries state input = option_map_or (λ entry. entry.next) (entry_of entries state input) state

-- without an entry the reply is the empty list
abbrev pub reply_of : List Case → ℕ → List ℤ → List ℤ
reply_of entries state input = option_map_or (λ entry. entry.reply) (entry_of entries state input) []

-- it starts in 0
abbrev pub plan_of_map : FiniteMap → Meaning ℕ
plan_of_map f = record {
  signature = f.signature;
  start = 0;
  next = next_of f.entries;
  reply = reply_of f.entries;
}
