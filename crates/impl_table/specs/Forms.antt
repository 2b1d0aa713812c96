-- The forms of the lines of a table: of each, the lexemes that derive from it.
use Rattle.std.specs.Prelude.{◌≡◌, ℕ, ◌+◌, ◌≤◌, ℤ, pos, ◌-ℤ◌, List, [], ◌∷◌, length}
use Rattle.std.specs.Prelude.{Option, Some, None, slice_get, option_map}
use Rattle.std.specs.List.{All}
use Rattle.std.specs.Option.{ForSome}
use Rattle.line_forms.specs.declared.keyword.Keyword.TheVariants as keyword
use Rattle.line_forms.specs.declared.lexeme.Lexeme.{Lexeme}
use Rattle.line_forms.specs.declared.lexeme.Lexeme.TheVariants.{Reserved, Named, Number, Wide, Minus}
use Rattle.line_forms.specs.Grammar.{Has, Guard, guard_tree}
use Rattle.line_forms.specs.Forms.{IsInputForm, IsWhen, when_size}
use Rattle.line_forms.specs.Limits.{IsSmallNumber, IsSmallGuard}
use Rattle.impl_table.specs.declared.form.ReplyNumber.{ReplyNumber}
use Rattle.impl_table.specs.declared.form.ReplyNumber.TheVariants.{Plain, Negated}
use Rattle.impl_table.specs.declared.form.StateForm.{StateForm}
use Rattle.impl_table.specs.declared.form.RowForm.{RowForm}
use Rattle.impl_table.specs.declared.form.TableForm.{TableForm}
use Rattle.impl_table.specs.declared.form.TableForm.TheVariants as form

abbrev pub literal_in : Option Lexeme → Option ℕ
literal_in (Some (Number n)) = Some n
literal_in (Some (Wide n)) = Some n
literal_in other = None

-- the number at a place, as large as a reply's may be
abbrev pub literal_at : List Lexeme → ℕ → Option ℕ
literal_at ts i = literal_in (slice_get ts i)

-- [ - ] NUMBER
abbrev pub IsReplyNumber : List Lexeme → ℕ → ReplyNumber → Type 0
IsReplyNumber ts i (Plain n) = literal_at ts i ≡ Some n
IsReplyNumber ts i (Negated n) = Has ts i Minus × (literal_at ts (i + 1) ≡ Some n)

abbrev pub number_size : ReplyNumber → ℕ
number_size (Plain n) = 1
number_size (Negated n) = 2

abbrev pub value_of : ReplyNumber → ℤ
value_of (Plain n) = pos n
value_of (Negated n) = pos 0 -ℤ pos n

-- the numbers of a reply, one behind the other
abbrev pub IsReply : List Lexeme → ℕ → List ReplyNumber → Type 0
IsReply ts i [] = Unit {0}
IsReply ts i (number ∷ more) = IsReplyNumber ts i number × IsReply ts (i + number_size number) more

abbrev pub reply_size : List ReplyNumber → ℕ
reply_size [] = 0
reply_size (number ∷ more) = number_size number + reply_size more

-- table NUMBER
abbrev pub IsVersionForm : List Lexeme → ℕ → Type 0
IsVersionForm ts n = Has ts 0 (Reserved keyword.Table) × Has ts 1 (Number n) × (length ts ≡ 2)

-- output NAME
abbrev pub IsOutputForm : List Lexeme → List ℕ → Type 0
IsOutputForm ts name = Has ts 0 (Reserved keyword.Output) × Has ts 1 (Named name) × (length ts ≡ 2)

-- state NAME gives REPLY
abbrev pub IsStateForm : List Lexeme → StateForm → Type 0
IsStateForm ts f = Has ts 0 (Reserved keyword.State) × Has ts 1 (Named f.name) × Has ts 2 (Reserved keyword.Gives)
    × IsReply ts 3 f.reply × (length ts ≡ 3 + reply_size f.reply)

-- row NAME [ when GUARD ] gives REPLY go NAME
pub record IsRowForm (ts : List Lexeme) (f : RowForm) : Type 0 where
  pub when : Option Guard
  pub head : Has ts 0 (Reserved keyword.Row)
  pub from : Has ts 1 (Named f.from)
  pub guarded : IsWhen ts 2 when
  pub guard : f.guard ≡ option_map guard_tree when
  pub gives : Has ts (2 + when_size when) (Reserved keyword.Gives)
  pub reply : IsReply ts (2 + when_size when + 1) f.reply
  pub go : Has ts (2 + when_size when + 1 + reply_size f.reply) (Reserved keyword.Go)
  pub to : Has ts (2 + when_size when + 1 + reply_size f.reply + 1) (Named f.to)
  pub whole : length ts ≡ 2 + when_size when + 1 + reply_size f.reply + 2

abbrev pub IsTableForm : List Lexeme → TableForm → Type 0
IsTableForm ts (form.Version n) = IsVersionForm ts n
IsTableForm ts (form.Input f) = IsInputForm ts f
IsTableForm ts (form.Output name) = IsOutputForm ts name
IsTableForm ts (form.State f) = IsStateForm ts f
IsTableForm ts (form.Row f) = IsRowForm ts f

-- what the limits on tokens leave of what a line says

abbrev pub IsSmallReplyNumber : ReplyNumber → Type 0
IsSmallReplyNumber (Plain n) = n ≤ 1000000000000
IsSmallReplyNumber (Negated n) = n ≤ 1000000000000

abbrev pub IsSmallTableForm : TableForm → Type 0
IsSmallTableForm (form.Version n) = Unit {0}
IsSmallTableForm (form.Input f) = IsSmallNumber f.lo × IsSmallNumber f.hi
IsSmallTableForm (form.Output name) = Unit {0}
IsSmallTableForm (form.State f) = All IsSmallReplyNumber f.reply
IsSmallTableForm (form.Row f) = All IsSmallReplyNumber f.reply × ForSome f.guard IsSmallGuard
