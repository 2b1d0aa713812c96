use Rattle.line_forms.proofs.Small.{small_statement}
use Rattle.line_forms.proofs.Sound.{short_lexed}
use Rattle.line_forms.proofs.form.StatementLineForm.small.Goals as goal

pub returns : goal.returns
returns c = λ line ts said lexed is. small_statement line ts said lexed (short_lexed line ts lexed) is
