use Rattle.command_stages.proofs.Stages.{made_is, made_nothing}
use Rattle.gen_stages.proofs.charts.chart_of.Goals as goal

pub returns-in-Ok : goal.returns-in-Ok
returns-in-Ok c = λ words shelf. made_is _ c.in-Ok.ensures

pub returns-in-Err : goal.returns-in-Err
returns-in-Err c = λ words shelf. made_nothing _
