-- How far the lines of a text are read.
use Rattle.std.proofs.Common.{ℕ, ◌+◌, ◌≤◌, List, length}
use Rattle.std.specs.Prelude.{Option, Result}
use Rattle.text_lines.specs.Lines.{lines_of}
use Rattle.text_lines.specs.Reading.{Leads, RefusesFrom, Refuses}

-- the lines before the rest are taken
pub record IsReadTo {S K : Type 0} (Step : S → List ℕ → Result S K → Type 0) (end : S → Option K)
    (Kept : S → Type 0) (start : S) (text rest : List ℕ) (s : S) (n : ℕ) : Type 0 where
  pub back : (t : S) → Leads Step s (lines_of rest) t → Leads Step start (lines_of text) t
  pub refused : (m : ℕ) (k : K) → RefusesFrom Step end s n (lines_of rest) m k → Refuses Step end start text m k
  pub kept : Kept s
  pub count : n + length rest ≤ length text + 1
