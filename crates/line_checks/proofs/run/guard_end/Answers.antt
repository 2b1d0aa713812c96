use Rattle.std.proofs.Common.{refl}
use Rattle.line_forms.proofs.Sound.{sound_line}
use Rattle.line_checks.proofs.run.guard_end.Goals as goal

pub new-requires : goal.new-requires
new-requires c = sound_line c.args.line.now c.content.result.now c.args.tokens.now c.args.tokens.now c.requires c.content.ensures refl
