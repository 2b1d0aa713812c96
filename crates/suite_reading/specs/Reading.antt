-- A suite's text, line by line.
use Rattle.std.specs.Prelude.{◌≡◌, ℕ, ◌+◌, ◌<◌, ◌⊎◌, List, [], ◌∷◌, ◌++◌, length, map, None, Some}
use Rattle.strict_lines.specs.Lines.{Token, line_tokens, pieces_between}
use Rattle.subject.specs.Suite.{SuiteParts}
use Rattle.suite_reading.specs.declared.error.SuiteKind.TheVariants as fault
use Rattle.suite_reading.specs.declared.error.Cause.{Cause}
use Rattle.suite_reading.specs.declared.error.Cause.TheVariants.{Fault}
use Rattle.suite_reading.specs.declared.place.Place.TheVariants.{End}
use Rattle.suite_reading.specs.Items.{Item, item_line}
use Rattle.suite_reading.specs.State.{State, begun, next, whole}
use Rattle.suite_reading.specs.Checks.{checks, first_of}

-- a line is the printed form of an item and passes every check
pub record Says (s : State) (line : List Token) (i : Item) : Type 0 where
  pub is : line ≡ item_line i
  pub passes : first_of (checks s i) ≡ None

-- a line is the printed form of no item, or the first check that it does not pass is this one
abbrev pub RefusesLine : State → List Token → Cause → Type 0
RefusesLine s line cause = (((i : Item) → ¬ (line ≡ item_line i)) × (cause ≡ Fault fault.Form))
    ⊎ ((i : Item) × ((line ≡ item_line i) × (first_of (checks s i) ≡ Some cause)))

-- the lines pass, one after another, and lead from one state to another
abbrev pub Leads : State → List (List Token) → State → Type 0
Leads s [] u = s ≡ u
Leads s (line ∷ lines) u = (i : Item) × (Says s line i × Leads (next s i) lines u)

-- the pieces of a text between line feeds: the last has none behind it
abbrev pub pieces_of_text : List ℕ → List (List ℕ)
pieces_of_text text = pieces_between 10 text

-- each line ends with a line feed, all pass, and together they say the suite
abbrev pub ReadsSuite : List ℕ → SuiteParts → Type 0
ReadsSuite text s = (lines : List (List ℕ))
    × ((pieces_of_text text ≡ lines ++ [] ∷ []) × Leads begun (map line_tokens lines) (whole s))

-- the first line that is refused, with the cause
pub record RefusesAtLine (text : List ℕ) (number : ℕ) (cause : Cause) : Type 0 where
  pub front : List (List ℕ)
  pub line : List ℕ
  pub rest : List (List ℕ)
  pub state : State
  pub pieces : pieces_of_text text ≡ front ++ line ∷ rest
  pub ended : 0 < length rest
  pub at : number ≡ length front + 1
  pub leads : Leads begun (map line_tokens front) state
  pub refused : RefusesLine state (line_tokens line) cause

-- all lines pass, and the last piece is not empty or comes before the end line
pub record RefusesAtEnd (text : List ℕ) (number : ℕ) : Type 0 where
  pub front : List (List ℕ)
  pub last : List ℕ
  pub state : State
  pub pieces : pieces_of_text text ≡ front ++ last ∷ []
  pub at : number ≡ length front + 1
  pub leads : Leads begun (map line_tokens front) state
  pub refused : ¬ ((last ≡ []) × (state.place ≡ End))

abbrev pub RefusesText : List ℕ → ℕ → Cause → Type 0
RefusesText text number cause = RefusesAtLine text number cause
    ⊎ (RefusesAtEnd text number × (cause ≡ Fault fault.End))

-- a text is read as one suite at most or refused at one line for one cause, and not both
pub record IsDecided (text : List ℕ) : Type 0 where
  pub one_reading : (s t : SuiteParts) → ReadsSuite text s → ReadsSuite text t → s ≡ t
  pub one_refusal : (n m : ℕ) (c d : Cause) → RefusesText text n c → RefusesText text m d → (n ≡ m) × (c ≡ d)
  pub apart : (s : SuiteParts) (n : ℕ) (c : Cause) → ReadsSuite text s → RefusesText text n c → ⊥
