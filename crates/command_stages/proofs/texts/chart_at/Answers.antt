use Rattle.chart_syntax.specs.Reading.{Reads, Refuses}
use Rattle.command_stages.proofs.Stages.{made_then, made_stop, made_read, made_not}
use Rattle.command_stages.proofs.texts.chart_at.Goals as goal

pub returns-in-Err : goal.returns-in-Err
returns-in-Err g c = made_stop _ _ c.in-Err.ensures

pub returns-in-Ok-read_chart : goal.returns-in-Ok-read_chart
returns-in-Ok-read_chart g c = made_then _ _ c.in-Ok.ensures (made_read _ Reads Refuses c.bytes.ensures c.in-Ok-read_chart.ensures.read)

pub returns : goal.returns
returns g c = made_then _ _ c.in-Ok.ensures (rw c.refused.ensures (made_not _ Reads Refuses c.in-Err-read_chart.error c.bytes.ensures c.in-Err-read_chart.ensures.refused))
