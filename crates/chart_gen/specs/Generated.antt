-- The chart of a number.
use Rattle.std.specs.Prelude.{ℕ, zero, suc, ◌+◌, ◌-◌, ◌*◌, ◌/◌, ◌%◌, List, [], ◌++◌, codes}
use Rattle.std.specs.Fmt.{decimal}
use Rattle.chart_model.specs.declared.chart.Chart.{Chart}
use Rattle.chart_syntax.specs.Reading.{Reads}

-- how many states it has
abbrev pub states_in : ℕ → ℕ
states_in number = 2 + number % 38

-- how far the input falls below the edge to a state before that state is left
abbrev pub gap_in : ℕ → ℕ
gap_in number = 1 + number / 38 % 5

-- the line of a state; the state 0 is the start
abbrev pub state_line : ℕ → List ℕ
state_line zero = codes "state s0 start\n"
state_line (suc i) = codes "state s" ++ decimal (suc i) ++ codes "\n"

-- the lines of the first n states
abbrev pub state_lines : ℕ → List ℕ
state_lines zero = []
state_lines (suc n) = state_lines n ++ state_line n

-- from a state to the next one, where the input is at its edge or above
abbrev pub up_line : ℕ → List ℕ
up_line i = codes "on s" ++ decimal i ++ codes " when v >= " ++ decimal (10 * (i + 1)) ++ codes " do o = "
    ++ decimal (i + 1) ++ codes " go s" ++ decimal (i + 1) ++ codes "\n"

-- and back, where it is below the edge by more than the gap
abbrev pub down_line : ℕ → ℕ → List ℕ
down_line gap i = codes "on s" ++ decimal (i + 1) ++ codes " when v < " ++ decimal (10 * (i + 1) - gap)
    ++ codes " do o = " ++ decimal i ++ codes " go s" ++ decimal i ++ codes "\n"

-- the lines of both, for the first n states
abbrev pub transition_lines : ℕ → ℕ → List ℕ
transition_lines gap zero = []
transition_lines gap (suc n) = transition_lines gap n ++ up_line n ++ down_line gap n

-- the lines of the chart: an input from 0 to ten times the number of states, an output, the states and the transitions
abbrev pub generated_text : ℕ → List ℕ
generated_text number = codes "chart 1\ninput v 0 " ++ decimal (10 * states_in number) ++ codes "\noutput o 0\n"
    ++ state_lines (states_in number) ++ transition_lines (gap_in number) (states_in number - 1)

-- the chart is the reading of these lines
abbrev pub IsGenerated : ℕ → Chart → Type 0
IsGenerated number chart = Reads (generated_text number) chart
