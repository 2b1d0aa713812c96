-- A table as a plan: the first row of a state whose guard holds gives the reply and the next state.
use Rattle.std.specs.Prelude.{ℕ, ℤ, List, [], slice_get}
use Rattle.std.specs.Option.{option_map_or}
use Rattle.subject.specs.Meaning.{Meaning}
use Rattle.impl_table.specs.declared.table.TableState.{TableState}
use Rattle.impl_table.specs.declared.table.Table.{Table}
use Rattle.impl_table.specs.Firing.{first_row}

-- the reply of a state where no row holds
abbrev pub own_reply : List TableState → ℕ → List ℤ
own_reply states state = option_map_or (λ found. found.reply) (slice_get states state) []

-- where no row holds, it stays and gives the state's own reply
abbrev pub plan_of_table : Table → Meaning ℕ
plan_of_table table = record {
  signature = table.signature;
  start = 0;
  next = λ state vector. option_map_or (λ row. row.to) (first_row table.rows state vector) state;
  reply = λ state vector.
      option_map_or (λ row. row.reply) (first_row table.rows state vector) (own_reply table.states state);
}
