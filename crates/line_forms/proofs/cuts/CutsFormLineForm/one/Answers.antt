use Rattle.line_forms.proofs.CutLines.{one_cuts}
use Rattle.line_forms.proofs.cuts.CutsFormLineForm.one.Goals as goal

pub returns : goal.returns
returns c = one_cuts
