-- A text as its lines, read one after another: what they lead to, and the first line that is refused. A line's outcome
-- from a state is the state that it leads to, or why it is refused; `Step` says which outcomes a line has.
use Rattle.std.specs.Prelude.{◌≡◌, ℕ, ◌+◌, List, [], ◌∷◌, Option, Some, None, Result, Ok, Err, ◌⊎◌}
use Rattle.text_lines.specs.Lines.{lines_of}
use Rattle.text_lines.specs.declared.read.LineError.{LineError}
use Rattle.text_lines.specs.declared.read.LineError.TheVariants as line_error
use Rattle.text_lines.specs.declared.read.TextError.{TextError}
use Rattle.text_lines.specs.declared.read.TextError.TheVariants as text_error

-- the lines are taken one after another, and lead from one state to another
abbrev pub Leads : {S K : Type 0} → (S → List ℕ → Result S K → Type 0) → S → List (List ℕ) → S → Type 0
Leads Step s [] t = s ≡ t
Leads {S} Step s (line ∷ lines) t = (u : S) × Step s line (Ok u) × Leads Step u lines t

-- the first line that is refused, or the end, has the number m, where the lines are counted from n
abbrev pub RefusesFrom : {S K : Type 0} → (S → List ℕ → Result S K → Type 0) → (S → Option K)
    → S → ℕ → List (List ℕ) → ℕ → K → Type 0
RefusesFrom Step end s n [] m k = (m ≡ n) × (end s ≡ Some k)
RefusesFrom {S} Step end s n (line ∷ lines) m k =
    ((m ≡ n) × Step s line (Err k)) ⊎ ((u : S) × Step s line (Ok u) × RefusesFrom Step end u (n + 1) lines m k)

-- the lines are taken, nothing is missing at the end, and this is the content of the last state
pub record Reads {S K X : Type 0} (Step : S → List ℕ → Result S K → Type 0) (end : S → Option K)
    (Is : S → X → Type 0) (start : S) (text : List ℕ) (x : X) : Type 0 where
  pub last : S
  pub leads : Leads Step start (lines_of text) last
  pub ended : end last ≡ None
  pub content : Is last x

-- the text is refused: at this line, from 1, or at the end, whose number is the one after the last line's
abbrev pub Refuses : {S K : Type 0} → (S → List ℕ → Result S K → Type 0) → (S → Option K)
    → S → List ℕ → ℕ → K → Type 0
Refuses Step end start text line refusal = RefusesFrom Step end start 1 (lines_of text) line refusal

-- there is exactly one reading or exactly one refusal: not two, not both, and it cannot be that there is neither
pub record IsDecided {X K : Type 0} (IsReading : X → Type 0) (IsRefusal : ℕ → K → Type 0) : Type 0 where
  pub one_reading : (a b : X) → IsReading a → IsReading b → a ≡ b
  pub one_refusal : (n m : ℕ) (j k : K) → IsRefusal n j → IsRefusal m k → (n ≡ m) × (j ≡ k)
  pub apart : (x : X) (n : ℕ) (k : K) → IsReading x → IsRefusal n k → ⊥
  pub some : ((x : X) → IsReading x → ⊥) → ((n : ℕ) (k : K) → IsRefusal n k → ⊥) → ⊥

-- a line's outcomes, where they are told by what it is parsed as: the check that meets it, or the next state where
-- none does
abbrev pub StepBy : {S V K : Type 0} → (List ℕ → V → Type 0) → (S → V → Option K → Type 0) → (S → V → S)
    → S → List ℕ → Result S K → Type 0
StepBy {V = V} Is Checks next s line (Ok t) = (parsed : V) × Is line parsed × Checks s parsed None × (t ≡ next s parsed)
StepBy {V = V} Is Checks next s line (Err k) = (parsed : V) × Is line parsed × Checks s parsed (Some k)

-- what a function answers that takes a line: it is taken, or this refuses it, or there was no memory
abbrev pub Takes : {S K : Type 0} → (S → List ℕ → Result S K → Type 0)
    → S → S → List ℕ → Result (Unit {0}) (LineError K) → Type 0
Takes Step old new line (Ok u) = Step old line (Ok new)
Takes Step old new line (Err (line_error.Refused k)) = Step old line (Err k)
Takes Step old new line (Err line_error.Memory) = Unit {0}

-- the error tells what refuses, or that there was no memory
abbrev pub IsRefusedAt : {K : Type 0} → (ℕ → K → Type 0) → TextError K → Type 0
IsRefusedAt IsRefusal (text_error.Refused m k) = IsRefusal m k
IsRefusedAt IsRefusal text_error.Memory = Unit {0}
