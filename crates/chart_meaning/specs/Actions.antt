-- What actions do to a configuration.
use Rattle.std.specs.Prelude.{ℤ, ◌+ℤ◌, int_lt, if◌then◌else◌, List, [], ◌∷◌, slice_get, slice_set}
use Rattle.std.specs.Option.{option_map_or}
use Rattle.lin_form.specs.declared.form.Form.{Form}
use Rattle.lin_form.specs.Form.{sum_of_products}
use Rattle.chart_model.specs.declared.action.Action.{Action}
use Rattle.chart_model.specs.declared.action.Place.{Place}
use Rattle.chart_model.specs.declared.action.Place.TheVariants as place
use Rattle.chart_model.specs.declared.state.Memory.{Memory}
use Rattle.chart_meaning.specs.Configuration.{Configuration}

-- a sum over memories
abbrev pub sum_of : Form → List ℤ → ℤ
sum_of form memory = sum_of_products form.memory memory +ℤ form.constant

-- the value within a memory's range that is nearest to a number
abbrev pub nearest : Memory → ℤ → ℤ
nearest memory z = if int_lt z memory.lo then memory.lo else (if int_lt memory.hi z then memory.hi else z)

-- a memory takes the value nearest to the sum within its range, an output takes the sum
abbrev pub assign : List Memory → Place → ℤ → Configuration → Configuration
assign memories (place.Memory number) z c =
    record c { memory = slice_set c.memory number (option_map_or (λ memory. nearest memory z) (slice_get memories number) z) }
assign memories (place.Output number) z c = record c { outputs = slice_set c.outputs number z }

-- one action: its sum for the values that it finds is assigned
abbrev pub act : List Memory → Action → Configuration → Configuration
act memories action c = assign memories action.place (sum_of action.value c.memory) c

-- actions run one after another, and each sees what the earlier ones left
abbrev pub run : List Memory → List Action → Configuration → Configuration
run memories [] c = c
run memories (action ∷ actions) c = run memories actions (act memories action c)
