-- What a chart is in between two steps.
use Rattle.std.specs.Prelude.{ℕ, ℤ, List, Option}

-- the leaf, a value for each memory and each output, and for each state its last child where it remembers one
pub record Configuration : Type 0 where
  pub leaf : ℕ
  pub memory : List ℤ
  pub outputs : List ℤ
  pub last : List (Option ℕ)
