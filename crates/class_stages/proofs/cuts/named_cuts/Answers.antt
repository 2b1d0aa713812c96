use Rattle.cut_syntax.specs.Cuts.{ReadsCuts, RefusesCuts}
use Rattle.command_stages.proofs.Stages.{made_then, made_stop, made_read, made_not}
use Rattle.class_stages.proofs.cuts.named_cuts.Goals as goal

pub returns-in-Err-clause-made : goal.returns-in-Err-clause-made
returns-in-Err-clause-made g c = made_stop _ _ c.in-Err.ensures

pub returns-in-Ok-read_cuts-clause-made : goal.returns-in-Ok-read_cuts-clause-made
returns-in-Ok-read_cuts-clause-made g c = made_then _ _ c.in-Ok.ensures (made_read _ (ReadsCuts c.args.chart.now.signature) (RefusesCuts c.args.chart.now.signature) c.bytes.ensures c.in-Ok-read_cuts.ensures.read)

pub returns-clause-made : goal.returns-clause-made
returns-clause-made g c = made_then _ _ c.in-Ok.ensures (rw c.refused.ensures (made_not _ (ReadsCuts c.args.chart.now.signature) (RefusesCuts c.args.chart.now.signature) c.in-Err-read_cuts.error c.bytes.ensures c.in-Err-read_cuts.ensures.refused))
