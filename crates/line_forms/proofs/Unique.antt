-- A line derives from one form at most.
use Rattle.std.proofs.Common.{◌≡◌, ℕ, ◌+◌, ◌<◌, Bool, List, [], ◌∷◌, length, Option, Some, None, refl, sym, ◌∙◌, ap, subst, arith}
use Rattle.std.specs.Prelude.{option_map}
use Rattle.std.proofs.lemmas.Option.{slice_get_within}
use Rattle.line_forms.specs.declared.keyword.Keyword.{Keyword}
use Rattle.line_forms.specs.declared.keyword.Keyword.TheVariants as keyword
use Rattle.line_forms.specs.declared.lexeme.Lexeme.{Lexeme}
use Rattle.line_forms.specs.declared.lexeme.Lexeme.TheVariants.{Reserved, Named, Number, Minus, Comma}
use Rattle.line_forms.specs.declared.statement.Signed.{Signed}
use Rattle.line_forms.specs.declared.statement.Signed.TheVariants.{Plain, Negated}
use Rattle.line_forms.specs.declared.statement.TestForm.{TestForm}
use Rattle.line_forms.specs.declared.statement.ActionForm.{ActionForm}
use Rattle.line_forms.specs.declared.statement.InputForm.{InputForm}
use Rattle.line_forms.specs.declared.statement.OutputForm.{OutputForm}
use Rattle.line_forms.specs.declared.statement.MemoryForm.{MemoryForm}
use Rattle.line_forms.specs.declared.statement.StateForm.{StateForm}
use Rattle.line_forms.specs.declared.statement.ActionsForm.{ActionsForm}
use Rattle.line_forms.specs.declared.statement.OnForm.{OnForm}
use Rattle.line_forms.specs.declared.statement.Statement.{Statement}
use Rattle.line_forms.specs.declared.statement.Statement.TheVariants as says
use Rattle.line_forms.specs.Grammar.{Has, test_size, action_size, IsEach, each_size, Guard, guard_size, guard_tree}
use Rattle.line_forms.specs.Forms.{IsSigned, signed_size, IsInputForm, IsAssumeForm, IsOutputForm, IsMemoryForm, IsNamed, named_size}
use Rattle.line_forms.specs.Forms.{IsMarked, IsStateForm, IsActionsForm, IsWhen, when_size, IsHistory, IsOnForm, IsStatement, AreNumbers}
use Rattle.line_forms.specs.Longest.{in_sum, in_guard, Stops}
use Rattle.line_forms.proofs.Compare.{Compared, same, first, second, one_test, one_action}
use Rattle.line_forms.proofs.Guards.{one_guard}
use Rattle.line_forms.proofs.Effects.{at_end, action_stops}
use Rattle.line_forms.proofs.Parts.{one_named, one_marked, one_history, behind_when, behind_effect, moved, narrower}
use Rattle.line_forms.proofs.Numerals.{one_signed}

-- where nothing continues either of two derivations, they are the same
pub both_end : (E : Type 0) (class : Lexeme → Bool) (ts : List Lexeme) (i m n : ℕ) → Stops class ts (i + m) → Stops class ts (i + n)
    → Compared E class ts i m n → E
both_end E class ts i m n p q (same e) = e
both_end E class ts i m n p q (first less h) = absurd (p h)
both_end E class ts i m n p q (second less h) = absurd (q h)

pub one_each : (ts : List Lexeme) (i : ℕ) (lead : Lexeme) (xs ys : List ActionForm) → IsEach ts i lead xs → IsEach ts i lead ys
    → Stops in_sum ts (i + each_size xs) → Stops in_sum ts (i + each_size ys) → xs ≡ ys
one_each ts i lead [] [] p q s t = refl
one_each ts i lead [] (y ∷ ys) p q s t = absurd (p q.0)
one_each ts i lead (x ∷ xs) [] p q s t = absurd (q p.0)
one_each ts i lead (x ∷ xs) (y ∷ ys) p q s t =
    let a = moved in_sum ts (i + (1 + action_size x + each_size xs)) (i + 1 + action_size x + each_size xs) (omega arith) s in
    let b = moved in_sum ts (i + (1 + action_size y + each_size ys)) (i + 1 + action_size y + each_size ys) (omega arith) t in
    let e = both_end (x ≡ y) in_sum ts (i + 1) (action_size x) (action_size y) (action_stops ts (i + 1 + action_size x) xs p.2 a)
    (action_stops ts (i + 1 + action_size y) ys q.2 b) (one_action ts (i + 1) x y p.1 q.1) in
    let P : ActionForm → Type 0 = λ z. IsEach ts (i + 1 + action_size z) Comma ys in
    let S : ActionForm → Type 0 = λ z. Stops in_sum ts (i + 1 + action_size z + each_size ys) in
    let h = one_each ts (i + 1 + action_size x) Comma xs ys p.2 (subst P (sym e) q.2) a (subst S (sym e) b) in
    λ j. e j ∷ h j

pub one_when : (ts : List Lexeme) (i : ℕ) (a b : Option Guard) → IsWhen ts i a → IsWhen ts i b → Stops in_guard ts (i + when_size a)
    → Stops in_guard ts (i + when_size b) → a ≡ b
one_when ts i None None p q s t = refl
one_when ts i None (Some h) p q s t = absurd (p q.0)
one_when ts i (Some g) None p q s t = absurd (q p.0)
one_when ts i (Some g) (Some h) p q s t =
    let a = moved in_guard ts (i + (1 + guard_size g)) (i + 1 + guard_size g) (omega arith) s in
    let b = moved in_guard ts (i + (1 + guard_size h)) (i + 1 + guard_size h) (omega arith) t in
    ap Some (both_end (g ≡ h) in_guard ts (i + 1) (guard_size g) (guard_size h) a b (one_guard ts (i + 1) g h p.1 q.1))

pub one_name : (ts : List Lexeme) (i : ℕ) (a b : List ℕ) → Has ts i (Named a) → Has ts i (Named b) → a ≡ b
one_name ts i a b p q = cc

pub one_input : (ts : List Lexeme) (a b : InputForm) → IsInputForm ts a → IsInputForm ts b → a ≡ b
one_input ts a b p q =
    let n = one_name ts 1 a.name b.name p.1 q.1 in
    let l = one_signed ts 2 a.lo b.lo p.2 q.2 in
    let h = one_signed ts (2 + signed_size a.lo) a.hi b.hi p.3 (subst (λ s. IsSigned ts (2 + signed_size s) b.hi) (sym l) q.3) in
    λ j. record { name = n j; lo = l j; hi = h j }

one_output : (ts : List Lexeme) (a b : OutputForm) → IsOutputForm ts a → IsOutputForm ts b → a ≡ b
one_output ts a b p q =
    let n = one_name ts 1 a.name b.name p.1 q.1 in
    let v = one_signed ts 2 a.value b.value p.2 q.2 in
    λ j. record { name = n j; value = v j }

one_memory : (ts : List Lexeme) (a b : MemoryForm) → IsMemoryForm ts a → IsMemoryForm ts b → a ≡ b
one_memory ts a b p q =
    let n = one_name ts 1 a.name b.name p.1 q.1 in
    let l = one_signed ts 2 a.lo b.lo p.2 q.2 in
    let h = one_signed ts (2 + signed_size a.lo) a.hi b.hi p.3 (subst (λ s. IsSigned ts (2 + signed_size s) b.hi) (sym l) q.3) in
    let e : 2 + signed_size b.lo + signed_size b.hi ≡ 2 + signed_size a.lo + signed_size a.hi = λ j. 2 + signed_size (sym l j) + signed_size (sym h j) in
    let v = one_signed ts (2 + signed_size a.lo + signed_size a.hi) a.value b.value p.4 (subst (λ k. IsSigned ts k b.value) e q.4) in
    λ j. record { name = n j; lo = l j; hi = h j; value = v j }

one_state : (ts : List Lexeme) (a b : StateForm) → IsStateForm ts a → IsStateForm ts b → a ≡ b
one_state ts a b p q =
    let n = one_name ts 1 a.name b.name p.1 q.1 in
    let o = one_named ts 2 keyword.In a.parent b.parent p.2 q.2 in
    let s = one_marked ts (2 + named_size a.parent) keyword.Start a.start b.start p.3
    (subst (λ t. IsMarked ts (2 + named_size t) keyword.Start b.start) (sym o) q.3) in
    λ j. record { name = n j; parent = o j; start = s j }

one_assume : (ts : List Lexeme) (a b : TestForm) → IsAssumeForm ts a → IsAssumeForm ts b → a ≡ b
one_assume ts a b p q = both_end (a ≡ b) in_sum ts 1 (test_size a) (test_size b) (at_end in_sum ts (1 + test_size a) p.3)
    (at_end in_sum ts (1 + test_size b) q.3) (one_test ts 1 a b p.1 q.1)

one_actions : (ts : List Lexeme) (k : Keyword) (a b : ActionsForm) → IsActionsForm k ts a → IsActionsForm k ts b → a ≡ b
one_actions ts k a b p q =
    let n = one_name ts 1 a.state b.state p.1 q.1 in
    let e = one_each ts 2 (Reserved keyword.Do) a.actions b.actions p.3 q.3 (at_end in_sum ts (2 + each_size a.actions) p.4)
    (at_end in_sum ts (2 + each_size b.actions) q.4) in
    λ j. record { state = n j; actions = e j }

one_on : (ts : List Lexeme) (a b : OnForm) → IsOnForm ts a → IsOnForm ts b → a ≡ b
one_on ts a b p q =
    let n = one_name ts 1 a.source b.source p.source q.source in
    let w = one_when ts 2 p.when q.when p.guarded q.guarded (behind_when ts a p) (behind_when ts b q) in
    let g : a.guard ≡ b.guard = p.guard ∙ ap (option_map guard_tree) w ∙ sym q.guard in
    let P : ℕ → Type 0 = λ i. IsEach ts i (Reserved keyword.Do) b.effect in
    let S : ℕ → Type 0 = λ i. Stops in_sum ts (i + each_size b.effect) in
    let c : 2 + when_size q.when ≡ 2 + when_size p.when = λ j. 2 + when_size (sym w j) in
    let e = one_each ts (2 + when_size p.when) (Reserved keyword.Do) a.effect b.effect p.effect (subst P c q.effect)
    (narrower ts _ (behind_effect ts a p)) (subst S c (narrower ts _ (behind_effect ts b q))) in
    let d : 2 + when_size q.when + each_size b.effect ≡ 2 + when_size p.when + each_size a.effect = λ j. c j + each_size (sym e j) in
    let t = one_named ts (2 + when_size p.when + each_size a.effect) keyword.Go a.target b.target p.target
    (subst (λ i. IsNamed ts i keyword.Go b.target) d q.target) in
    let H : ℕ → Option (List ℕ) → Type 0 = λ i o. IsHistory ts (i + named_size o) o b.history in
    let k : H (2 + when_size p.when + each_size a.effect) a.target = subst (H (2 + when_size p.when + each_size a.effect)) (sym t)
    (subst (λ i. H i b.target) d q.history) in
    let h = one_history ts (2 + when_size p.when + each_size a.effect + named_size a.target) a.target a.history b.history p.history k in
    λ j. record { source = n j; guard = g j; effect = e j; target = t j; history = h j }

-- the first word of a form
abbrev first_word : Statement → Keyword
first_word (says.Chart n) = keyword.Chart
first_word (says.Input f) = keyword.Input
first_word (says.Assume f) = keyword.Assume
first_word (says.Output f) = keyword.Output
first_word (says.Memory f) = keyword.Memory
first_word (says.State f) = keyword.State
first_word (says.Entry f) = keyword.Entry
first_word (says.Exit f) = keyword.Exit
first_word (says.On f) = keyword.On

begins : (ts : List Lexeme) (s : Statement) → IsStatement ts s → Has ts 0 (Reserved (first_word s))
begins ts (says.Chart n) h = h.0
begins ts (says.Input f) h = h.0
begins ts (says.Assume f) h = h.0
begins ts (says.Output f) h = h.0
begins ts (says.Memory f) h = h.0
begins ts (says.State f) h = h.0
begins ts (says.Entry f) h = h.0
begins ts (says.Exit f) h = h.0
begins ts (says.On f) h = h.head

pub one_statement : (ts : List Lexeme) (a b : Statement) → IsStatement ts a → IsStatement ts b → a ≡ b
one_statement ts (says.Chart n) (says.Chart m) p q = let h = p.1 in let k = q.1 in cc
one_statement ts (says.Input f) (says.Input g) p q = ap says.Input (one_input ts f g p q)
one_statement ts (says.Assume f) (says.Assume g) p q = ap says.Assume (one_assume ts f g p q)
one_statement ts (says.Output f) (says.Output g) p q = ap says.Output (one_output ts f g p q)
one_statement ts (says.Memory f) (says.Memory g) p q = ap says.Memory (one_memory ts f g p q)
one_statement ts (says.State f) (says.State g) p q = ap says.State (one_state ts f g p q)
one_statement ts (says.Entry f) (says.Entry g) p q = ap says.Entry (one_actions ts keyword.Entry f g p q)
one_statement ts (says.Exit f) (says.Exit g) p q = ap says.Exit (one_actions ts keyword.Exit f g p q)
one_statement ts (says.On f) (says.On g) p q = ap says.On (one_on ts f g p q)
one_statement ts a b p q = let h = begins ts a p in let k = begins ts b q in absurd (cc)

signed_inside : (ts : List Lexeme) (i : ℕ) (s : Signed) → IsSigned ts i s → i < length ts
signed_inside ts i (Plain n) h = slice_get_within ts i (Number n) h
signed_inside ts i (Negated n) h = slice_get_within ts i Minus h.0

pub one_list : (ts : List Lexeme) (i : ℕ) (xs ys : List Signed) → AreNumbers ts i xs → AreNumbers ts i ys → xs ≡ ys
one_list ts i [] [] p q = refl
one_list ts i [] (y ∷ ys) p q = absurd (let a = signed_inside ts i y q.0 in omega (arith, a))
one_list ts i (x ∷ xs) [] p q = absurd (let a = signed_inside ts i x p.0 in omega (arith, a))
one_list ts i (x ∷ xs) (y ∷ ys) p q =
    let e = one_signed ts i x y p.0 q.0 in
    let h = one_list ts (i + signed_size x) xs ys p.1 (subst (λ s. AreNumbers ts (i + signed_size s) ys) (sym e) q.1) in
    λ j. e j ∷ h j
