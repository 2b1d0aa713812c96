-- A line of a table says one thing, which is read part by part.
use Rattle.std.proofs.Common.{◌≡◌, ℕ, ◌+◌, List, length, Option, refl, sym, ◌∙◌, ap, subst}
use Rattle.std.specs.Prelude.{Err, option_map}
use Rattle.line_forms.specs.declared.error.ParseError.{ParseError}
use Rattle.line_forms.specs.declared.error.ParseError.TheVariants.{Form, Memory}
use Rattle.line_forms.specs.declared.keyword.Keyword.{Keyword}
use Rattle.line_forms.specs.declared.keyword.Keyword.TheVariants as keyword
use Rattle.line_forms.specs.declared.lexeme.Lexeme.{Lexeme}
use Rattle.line_forms.specs.declared.lexeme.Lexeme.TheVariants.{Reserved, Named}
use Rattle.line_forms.specs.Grammar.{Has, Guard, guard_tree}
use Rattle.line_forms.specs.Forms.{IsWhen, when_size}
use Rattle.line_forms.specs.Longest.{in_guard, IsOnly, GivesWhen, Derives}
use Rattle.line_forms.proofs.Ends.{stopped}
use Rattle.line_forms.proofs.Unique.{one_when, one_name, one_input}
use Rattle.impl_table.specs.declared.form.ReplyNumber.{ReplyNumber}
use Rattle.impl_table.specs.declared.form.StateForm.{StateForm}
use Rattle.impl_table.specs.declared.form.RowForm.{RowForm}
use Rattle.impl_table.specs.declared.form.TableForm.{TableForm}
use Rattle.impl_table.specs.declared.form.TableForm.TheVariants as form
use Rattle.impl_table.specs.Forms.{IsReply, reply_size, IsStateForm, IsRowForm, IsTableForm}
use Rattle.impl_table.specs.inside.Runs.{Ends, IsWholeReply}
use Rattle.impl_table.proofs.Replies.{one_reply, ends_with_line, ends_with_word}

-- the reply that was read is that of every derivation which no number follows
pub reply_same : (ts : List Lexeme) (i end : ℕ) (xs ys : List ReplyNumber) → IsWholeReply ts i end xs → IsReply ts i ys → Ends ts (i + reply_size ys) → ys ≡ xs
reply_same ts i end xs ys whole is ends = one_reply ts i ys xs is whole.spelled ends (subst (Ends ts) whole.ends whole.no_more)

pub state_same : (ts : List Lexeme) (end : ℕ) (reply : List ReplyNumber) (f : StateForm) → IsWholeReply ts 3 end reply → IsStateForm ts f → f.reply ≡ reply
state_same ts end reply f whole is = reply_same ts 3 end reply f.reply whole is.3 (ends_with_line ts (3 + reply_size f.reply) is.4)

pub state_length : (ts : List Lexeme) (end : ℕ) (reply : List ReplyNumber) (f : StateForm) → IsWholeReply ts 3 end reply → IsStateForm ts f → length ts ≡ end
state_length ts end reply f whole is = is.4 ∙ ap (λ xs. 3 + reply_size xs) (state_same ts end reply f whole is) ∙ sym whole.ends

pub row_failed : (ts : List Lexeme) (e : ParseError) → GivesWhen (IsWhen ts) when_size ts 2 (Err e) → Derives (IsRowForm ts) (Err e)
row_failed ts Form none = λ f h. none h.when h.guarded (stopped in_guard ts (2 + when_size h.when) (Reserved keyword.Gives) h.gives refl)
row_failed ts Memory none = tt

pub row_place : (ts : List Lexeme) (at : ℕ) (w : Option Guard) (f : RowForm) (h : IsRowForm ts f)
    → IsOnly (IsWhen ts) when_size in_guard ts 2 at w → 2 + when_size h.when ≡ at
row_place ts at w f h read = ap (λ x. 2 + when_size x)
    (read.only h.when h.guarded (stopped in_guard ts (2 + when_size h.when) (Reserved keyword.Gives) h.gives refl)) ∙ sym read.ends

pub row_gives : (ts : List Lexeme) (at : ℕ) (w : Option Guard) (f : RowForm) → IsOnly (IsWhen ts) when_size in_guard ts 2 at w → IsRowForm ts f
    → Has ts at (Reserved keyword.Gives)
row_gives ts at w f read h = subst (λ i. Has ts i (Reserved keyword.Gives)) (row_place ts at w f h read) h.gives

-- what is read of a row before `go`
pub record IsReadToGo (ts : List Lexeme) (w : Option Guard) (reply : List ReplyNumber) (end : ℕ) : Type 0 where
  pub at : ℕ
  pub guarded : IsOnly (IsWhen ts) when_size in_guard ts 2 at w
  pub whole : IsWholeReply ts (at + 1) end reply

row_reply : (ts : List Lexeme) (w : Option Guard) (reply : List ReplyNumber) (end : ℕ) (f : RowForm) → IsReadToGo ts w reply end → IsRowForm ts f
    → f.reply ≡ reply
row_reply ts w reply end f read h =
    let p = row_place ts read.at w f h read.guarded in
    reply_same ts (read.at + 1) end reply f.reply read.whole (subst (λ i. IsReply ts (i + 1) f.reply) p h.reply)
    (subst (λ i. Ends ts (i + 1 + reply_size f.reply)) p (ends_with_word ts (2 + when_size h.when + 1 + reply_size f.reply) keyword.Go h.go))

pub row_end : (ts : List Lexeme) (w : Option Guard) (reply : List ReplyNumber) (end : ℕ) (f : RowForm) → IsReadToGo ts w reply end
    → (h : IsRowForm ts f) → 2 + when_size h.when + 1 + reply_size f.reply ≡ end
row_end ts w reply end f read h =
    let p = row_place ts read.at w f h read.guarded in
    let e = row_reply ts w reply end f read h in
    (λ j. p j + 1 + reply_size (e j)) ∙ sym read.whole.ends

pub row_go : (ts : List Lexeme) (w : Option Guard) (reply : List ReplyNumber) (end : ℕ) (f : RowForm) → IsReadToGo ts w reply end → IsRowForm ts f
    → Has ts end (Reserved keyword.Go)
row_go ts w reply end f read h = subst (λ i. Has ts i (Reserved keyword.Go)) (row_end ts w reply end f read h) h.go

pub row_to : (ts : List Lexeme) (w : Option Guard) (reply : List ReplyNumber) (end : ℕ) (f : RowForm) → IsReadToGo ts w reply end → IsRowForm ts f
    → Has ts (end + 1) (Named f.to)
row_to ts w reply end f read h = subst (λ i. Has ts (i + 1) (Named f.to)) (row_end ts w reply end f read h) h.to

pub row_length : (ts : List Lexeme) (w : Option Guard) (reply : List ReplyNumber) (end : ℕ) (f : RowForm) → IsReadToGo ts w reply end
    → IsRowForm ts f → length ts ≡ end + 2
row_length ts w reply end f read h = h.whole ∙ ap (λ i. i + 2) (row_end ts w reply end f read h)

-- a row of the parts that were read
pub row_read : (ts : List Lexeme) (w : Option Guard) (end : ℕ) (f : RowForm) → (read : IsReadToGo ts w f.reply end)
    → Has ts 0 (Reserved keyword.Row) → Has ts 1 (Named f.from) → f.guard ≡ option_map guard_tree w
    → Has ts read.at (Reserved keyword.Gives) → Has ts end (Reserved keyword.Go) → Has ts (end + 1) (Named f.to) → length ts ≡ end + 2 → IsRowForm ts f
row_read ts w end f read head from guard gives go to whole =
    let p = read.guarded.ends in
    let e : end ≡ 2 + when_size w + 1 + reply_size f.reply = read.whole.ends ∙ ap (λ i. i + 1 + reply_size f.reply) p in
    record {
      when = w;
      head = head;
      from = from;
      guarded = read.guarded.spelled;
      guard = guard;
      gives = subst (λ i. Has ts i (Reserved keyword.Gives)) p gives;
      reply = subst (λ i. IsReply ts (i + 1) f.reply) p read.whole.spelled;
      go = subst (λ i. Has ts i (Reserved keyword.Go)) e go;
      to = subst (λ i. Has ts (i + 1) (Named f.to)) e to;
      whole = whole ∙ ap (λ i. i + 2) e;
    }

one_state : (ts : List Lexeme) (a b : StateForm) → IsStateForm ts a → IsStateForm ts b → a ≡ b
one_state ts a b p q =
    let n = one_name ts 1 a.name b.name p.1 q.1 in
    let r = one_reply ts 3 a.reply b.reply p.3 q.3 (ends_with_line ts (3 + reply_size a.reply) p.4) (ends_with_line ts (3 + reply_size b.reply) q.4) in
    λ j. record { name = n j; reply = r j }

one_row : (ts : List Lexeme) (a b : RowForm) → IsRowForm ts a → IsRowForm ts b → a ≡ b
one_row ts a b p q =
    let n = one_name ts 1 a.from b.from p.from q.from in
    let w = one_when ts 2 p.when q.when p.guarded q.guarded (stopped in_guard ts (2 + when_size p.when) (Reserved keyword.Gives) p.gives refl)
    (stopped in_guard ts (2 + when_size q.when) (Reserved keyword.Gives) q.gives refl) in
    let g : a.guard ≡ b.guard = p.guard ∙ ap (option_map guard_tree) w ∙ sym q.guard in
    let c : 2 + when_size q.when ≡ 2 + when_size p.when = ap (λ x. 2 + when_size x) (sym w) in
    let r = one_reply ts (2 + when_size p.when + 1) a.reply b.reply p.reply (subst (λ i. IsReply ts (i + 1) b.reply) c q.reply)
    (ends_with_word ts (2 + when_size p.when + 1 + reply_size a.reply) keyword.Go p.go)
    (subst (λ i. Ends ts (i + 1 + reply_size b.reply)) c (ends_with_word ts (2 + when_size q.when + 1 + reply_size b.reply) keyword.Go q.go)) in
    let d : 2 + when_size q.when + 1 + reply_size b.reply + 1 ≡ 2 + when_size p.when + 1 + reply_size a.reply + 1 = λ j. c j + 1 + reply_size (sym r j) + 1 in
    let t = one_name ts (2 + when_size p.when + 1 + reply_size a.reply + 1) a.to b.to p.to (subst (λ i. Has ts i (Named b.to)) d q.to) in
    λ j. record { from = n j; guard = g j; reply = r j; to = t j }

-- the first word of a form
abbrev pub first_word : TableForm → Keyword
first_word (form.Version n) = keyword.Table
first_word (form.Input f) = keyword.Input
first_word (form.Output name) = keyword.Output
first_word (form.State f) = keyword.State
first_word (form.Row f) = keyword.Row

pub begins : (ts : List Lexeme) (said : TableForm) → IsTableForm ts said → Has ts 0 (Reserved (first_word said))
begins ts (form.Version n) h = h.0
begins ts (form.Input f) h = h.0
begins ts (form.Output name) h = h.0
begins ts (form.State f) h = h.0
begins ts (form.Row f) h = h.head

pub one_table : (ts : List Lexeme) (a b : TableForm) → IsTableForm ts a → IsTableForm ts b → a ≡ b
one_table ts (form.Version n) (form.Version m) p q = let h = p.1 in let k = q.1 in cc
one_table ts (form.Input f) (form.Input g) p q = ap form.Input (one_input ts f g p q)
one_table ts (form.Output n) (form.Output m) p q = ap form.Output (one_name ts 1 n m p.1 q.1)
one_table ts (form.State f) (form.State g) p q = ap form.State (one_state ts f g p q)
one_table ts (form.Row f) (form.Row g) p q = ap form.Row (one_row ts f g p q)
one_table ts a b p q = let h = begins ts a p in let k = begins ts b q in absurd (cc)
