use Rattle.command_stages.proofs.Stages.{made_is, made_nothing}
use Rattle.gen_stages.proofs.charts.fitting_chart.Goals as goal

pub returns-in-Err-clause-made : goal.returns-in-Err-clause-made
returns-in-Err-clause-made c = λ words shelf. made_nothing _

pub returns-in-Ok-fits-clause-made : goal.returns-in-Ok-fits-clause-made
returns-in-Ok-fits-clause-made c = λ words shelf. made_is _ c.in-Ok.ensures

pub returns-in-Err-fits-clause-made : goal.returns-in-Err-fits-clause-made
returns-in-Err-fits-clause-made c = λ words shelf. made_nothing _
