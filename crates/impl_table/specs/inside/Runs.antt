-- What the readers of parts of a line answer.
use Rattle.std.specs.Prelude.{◌≡◌, ℕ, ◌+◌, List}
use Rattle.line_forms.specs.declared.lexeme.Lexeme.{Lexeme}
use Rattle.impl_table.specs.declared.form.ReplyNumber.{ReplyNumber}
use Rattle.impl_table.specs.Forms.{IsReplyNumber, IsReply, reply_size}

-- no number of a reply stands at a place
abbrev pub Ends : List Lexeme → ℕ → Type 0
Ends ts i = (number : ReplyNumber) → IsReplyNumber ts i number → ⊥

-- the numbers from one place to before another, where there are no more
pub record IsWholeReply (ts : List Lexeme) (i end : ℕ) (reply : List ReplyNumber) : Type 0 where
  pub spelled : IsReply ts i reply
  pub ends : end ≡ i + reply_size reply
  pub no_more : Ends ts end
