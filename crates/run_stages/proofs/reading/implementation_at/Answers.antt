use Rattle.command_stages.proofs.Stages.{made_then, made_stop, made_read, made_not}
use Rattle.run_stages.specs.Implementations.{ReadsImplementation, RefusesImplementation}
use Rattle.run_stages.proofs.Implementing.{table_read, table_refused, chart_read, chart_refused}
use Rattle.run_stages.proofs.reading.implementation_at.Goals as goal

pub returns-in-Err : goal.returns-in-Err
returns-in-Err g c = made_stop _ _ c.in-Err.ensures

pub returns-in-Ok-read_table : goal.returns-in-Ok-read_table
returns-in-Ok-read_table g c = made_then _ _ c.in-Ok.ensures (made_read _ ReadsImplementation RefusesImplementation c.bytes-bytes.ensures (table_read c.is_table.result c.bytes-bytes.result.now c.in-Ok-read_table.table c.is_table.ensures c.if-is_table.true c.in-Ok-read_table.ensures.read))

pub returns-in-Err-read_table : goal.returns-in-Err-read_table
returns-in-Err-read_table g c = made_then _ _ c.in-Ok.ensures (rw c.refused.ensures (made_not _ ReadsImplementation RefusesImplementation c.in-Err-read_table.error c.bytes-bytes.ensures (table_refused c.is_table.result c.bytes-bytes.result.now c.in-Err-read_table.error c.is_table.ensures c.if-is_table.true c.in-Err-read_table.ensures.refused)))

pub returns-in-Ok-read_chart : goal.returns-in-Ok-read_chart
returns-in-Ok-read_chart g c = made_then _ _ c.in-Ok.ensures (made_read _ ReadsImplementation RefusesImplementation c.bytes-bytes.ensures (chart_read c.is_table.result c.bytes-bytes.result.now c.in-Ok-read_chart.chart c.is_table.ensures c.if-is_table.false c.in-Ok-read_chart.ensures.read))

pub returns : goal.returns
returns g c = made_then _ _ c.in-Ok.ensures (rw c.refused-in-Err-read_chart.ensures (made_not _ ReadsImplementation RefusesImplementation c.in-Err-read_chart.error c.bytes-bytes.ensures (chart_refused c.is_table.result c.bytes-bytes.result.now c.in-Err-read_chart.error c.is_table.ensures c.if-is_table.false c.in-Err-read_chart.ensures.refused)))
