use Rattle.line_forms.proofs.CutLines.{small_cuts}
use Rattle.line_forms.proofs.Sound.{short_lexed}
use Rattle.line_forms.proofs.cuts.CutsFormLineForm.small.Goals as goal

pub returns : goal.returns
returns c = λ line ts said lexed is. small_cuts line ts said lexed (short_lexed line ts lexed) is
