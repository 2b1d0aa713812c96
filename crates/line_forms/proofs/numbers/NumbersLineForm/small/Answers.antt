use Rattle.line_forms.proofs.Small.{plain_lexemes, small_numbers}
use Rattle.line_forms.proofs.numbers.NumbersLineForm.small.Goals as goal

pub returns : goal.returns
returns c = λ line ts said lexed is. small_numbers ts 0 said (plain_lexemes line ts lexed) is
