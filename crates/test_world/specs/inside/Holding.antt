-- A writer before which bytes are held back.
use Rattle.std.specs.Prelude.{ℕ, List, Option}
use Rattle.std.specs.Io.KnownBytes.{append_known}

-- what the writer holds, where it is told; the bytes that are held back; how many more can be; and how many writes have failed
pub record Holding : Type 0 where
  pub written : Option (List ℕ)
  pub held : List ℕ
  pub free : ℕ
  pub faults : ℕ

-- all that was taken: what is written, and then what is held back
abbrev pub all_taken : Holding → Option (List ℕ)
all_taken holding = append_known holding.written holding.held
