-- The checks of a line, in their order.
use Rattle.std.specs.Prelude.{ℕ, ◌+◌, ℤ, int_le, pos, Bool, true, false, not, ◌&&◌, ◌||◌, ◌==◌, nat_eq, nat_lt, nat_le, if◌then◌else◌, List, [], ◌∷◌, length, take, slice_index, slice_index_or, Option, None, Some}
use Rattle.std.specs.List.{list_all, list_any}
use Rattle.std.specs.Str.{bytes_eq}
use Rattle.std.specs.Cmp.Lexicographic.{pointwise}
use Rattle.std.specs.Ordering.{int_eq}
use Rattle.lin_form.specs.Name.{spells_name, reserved_words}
use Rattle.strict_lines.specs.Numbers.{is_within, most}
use Rattle.subject.specs.Suite.{Test}
use Rattle.suite_reading.specs.declared.error.SuiteKind.TheVariants as fault
use Rattle.suite_reading.specs.declared.error.SuiteWhich.TheVariants as limit
use Rattle.suite_reading.specs.declared.error.Cause.{Cause}
use Rattle.suite_reading.specs.declared.error.Cause.TheVariants.{Fault, Limit}
use Rattle.suite_reading.specs.declared.place.Place.{Place}
use Rattle.suite_reading.specs.declared.place.Place.TheVariants as place
use Rattle.suite_reading.specs.declared.place.LineKind.{LineKind}
use Rattle.suite_reading.specs.declared.place.LineKind.TheVariants as kind
use Rattle.suite_reading.specs.Items.{Item, SuiteLine, InputLine, OutputLine, BoundLine, StatesLine, ClassLine, CoverLine, MarkLine, TestLine, StepLine, EndLine}
use Rattle.suite_reading.specs.State.{State, Row}

-- which lines may stand after what was read last
abbrev pub may_stand : LineKind → Place → Bool
may_stand kind.Suite place.Start = true
may_stand kind.Input place.Suite = true
may_stand kind.Input place.Inputs = true
may_stand kind.Output place.Inputs = true
may_stand kind.Output place.Outputs = true
may_stand kind.Bound place.Outputs = true
may_stand kind.States place.Bound = true
may_stand kind.Class place.States = true
may_stand kind.Class place.Classes = true
may_stand kind.Cover place.Classes = true
may_stand kind.Cover place.Cover = true
may_stand kind.Mark place.Classes = true
may_stand kind.Mark place.Cover = true
may_stand kind.Mark place.Marks = true
may_stand kind.Test place.Marks = true
may_stand kind.Test place.Tests = true
may_stand kind.Step place.Steps = true
may_stand kind.End place.Tests = true
may_stand _ _ = false

-- a check that is passed, or the cause of a refusal
abbrev pub unless : Bool → Cause → Option Cause
unless passed cause = if passed then None else Some cause

abbrev pub first_of : List (Option Cause) → Option Cause
first_of [] = None
first_of (None ∷ checks) = first_of checks
first_of (Some cause ∷ checks) = Some cause

abbrev pub is_between : ℤ → ℤ → ℤ → Bool
is_between low high z = int_le low z && int_le z high

abbrev pub is_letter : ℕ → ℤ → Bool
is_letter classes z = is_between (pos 1) (pos classes) z

abbrev pub is_reserved : List ℕ → Bool
is_reserved name = list_any (bytes_eq name) reserved_words

abbrev pub is_input : List Row → List ℕ → Bool
is_input [] name = false
is_input (r ∷ rows) name = pointwise nat_eq r.name name || is_input rows name

abbrev pub is_output : List (List ℕ) → List ℕ → Bool
is_output [] name = false
is_output (n ∷ names) name = pointwise nat_eq n name || is_output names name

-- an input or an output has this name
abbrev pub is_taken : State → List ℕ → Bool
is_taken s name = is_input s.inputs name || is_output s.outputs name

-- one number for each input, each in its range
abbrev pub is_in_box : List Row → List ℤ → Bool
is_in_box [] [] = true
is_in_box (r ∷ rows) (z ∷ zs) = is_between r.low r.high z && is_in_box rows zs
is_in_box _ _ = false

-- the witness of the letter of the next step
abbrev pub witness : State → List ℤ
witness s = slice_index_or s.classes (slice_index s.now.letters (length s.now.replies)) []

-- an earlier test with the same letters up to the next step has another reply there
abbrev pub disagrees : State → List ℤ → Test → Bool
disagrees s reply t =
    bytes_eq (take (length s.now.replies + 1) t.letters) (take (length s.now.replies + 1) s.now.letters)
    && not (pointwise int_eq (slice_index_or t.replies (length s.now.replies) []) reply)

abbrev pub are_within : ℕ → List ℤ → Bool
are_within greatest zs = list_all (is_within greatest) zs

abbrev pub are_letters : State → List ℤ → Bool
are_letters s zs = list_all (is_letter (length s.classes)) zs

abbrev pub checks : State → Item → List (Option Cause)
checks s SuiteLine = unless (may_stand kind.Suite s.place) (Fault fault.Form) ∷ []
checks s (InputLine name low high) =
    unless (may_stand kind.Input s.place && spells_name name) (Fault fault.Form)
    ∷ unless (nat_le (length name) 32) (Limit limit.NameBytes)
    ∷ unless (is_within 1000000 low) (Limit limit.Literal)
    ∷ unless (is_within 1000000 high) (Limit limit.Literal)
    ∷ unless (nat_lt (length s.inputs) 6) (Limit limit.Inputs)
    ∷ unless (not (is_reserved name)) (Fault fault.Fact)
    ∷ unless (not (is_taken s name)) (Fault fault.Fact)
    ∷ unless (int_le low high) (Fault fault.Fact) ∷ []
checks s (OutputLine name) =
    unless (may_stand kind.Output s.place && spells_name name) (Fault fault.Form)
    ∷ unless (nat_le (length name) 32) (Limit limit.NameBytes)
    ∷ unless (nat_lt (length s.outputs) 8) (Limit limit.Outputs)
    ∷ unless (not (is_reserved name)) (Fault fault.Fact)
    ∷ unless (not (is_taken s name)) (Fault fault.Fact) ∷ []
checks s (BoundLine m) =
    unless (may_stand kind.Bound s.place) (Fault fault.Form)
    ∷ unless (is_within most m) (Limit limit.Literal)
    ∷ unless (is_between (pos 1) (pos 1024) m) (Fault fault.Fact) ∷ []
checks s (StatesLine n) =
    unless (may_stand kind.States s.place) (Fault fault.Form)
    ∷ unless (is_within most n) (Limit limit.Literal)
    ∷ unless (is_between (pos 1) (pos s.bound) n) (Fault fault.Fact) ∷ []
checks s (ClassLine zs) =
    unless (may_stand kind.Class s.place && length zs == length s.inputs) (Fault fault.Form)
    ∷ unless (are_within 1000000 zs) (Limit limit.Literal)
    ∷ unless (nat_lt (length s.classes) 4096) (Limit limit.Classes)
    ∷ unless (is_in_box s.inputs zs) (Fault fault.Fact) ∷ []
checks s (CoverLine zs) =
    unless (may_stand kind.Cover s.place) (Fault fault.Form)
    ∷ unless (are_within most zs) (Limit limit.Literal)
    ∷ unless (are_letters s zs) (Fault fault.Fact)
    ∷ unless (nat_lt (length s.cover) s.states) (Fault fault.Count) ∷ []
checks s (MarkLine zs) =
    unless (may_stand kind.Mark s.place) (Fault fault.Form)
    ∷ unless (are_within most zs) (Limit limit.Literal)
    ∷ unless (are_letters s zs) (Fault fault.Fact)
    ∷ unless (nat_le s.states (length s.cover)) (Fault fault.Count) ∷ []
checks s (TestLine zs) =
    unless (may_stand kind.Test s.place && nat_lt 0 (length zs)) (Fault fault.Form)
    ∷ unless (are_within most zs) (Limit limit.Literal)
    ∷ unless (are_letters s zs) (Fault fault.Fact) ∷ []
checks s (StepLine vector reply) =
    unless ((may_stand kind.Step s.place && length vector == length s.inputs) && length reply == length s.outputs)
    (Fault fault.Form)
    ∷ unless (are_within most vector) (Limit limit.Literal)
    ∷ unless (are_within most reply) (Limit limit.Literal)
    ∷ unless (pointwise int_eq vector (witness s)) (Fault fault.Vector)
    ∷ unless (not (list_any (disagrees s reply) s.tests)) (Fault fault.Conflict) ∷ []
checks s (EndLine z) =
    unless (may_stand kind.End s.place) (Fault fault.Form)
    ∷ unless (is_within most z) (Limit limit.Literal)
    ∷ unless (int_eq z (pos (length s.tests))) (Fault fault.Count) ∷ []
