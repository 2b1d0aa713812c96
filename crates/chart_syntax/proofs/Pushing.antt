-- What is declared grows by one: its names, its products and its lines of actions.
use Rattle.std.proofs.Common.{◌≡◌, ℕ, ◌*◌, ◌<◌, ◌≤◌, Bool, true, false, ◌||◌, ◌&&◌, not, List, [], ◌∷◌, ◌++◌, length, map, Option, Some}
use Rattle.std.proofs.Common.{None, refl, sym, ◌∙◌, ap, subst, arith, append_assoc, length-append, mul_assoc}
use Rattle.std.specs.Prelude.{nat_lt, nat_le, unsigned_abs, slice_set}
use Rattle.std.specs.List.{All}
use Rattle.std.specs.Option.{ForSome}
use Rattle.std.proofs.lemmas.Bool.Decides.{nat_tests}
use Rattle.std.proofs.lemmas.Int.{ints}
use Rattle.std.proofs.lemmas.List.{map-append, append-nil}
use Rattle.std.proofs.lemmas.List.Elements.{All-nil, All-push, All-set}
use Rattle.std.proofs.lemmas.List.Folds.{list_any-append}
use Rattle.line_forms.specs.declared.statement.Signed.{Signed}
use Rattle.line_forms.specs.declared.statement.Signed.TheVariants.{Plain, Negated}
use Rattle.line_forms.specs.declared.statement.InputForm.{InputForm}
use Rattle.line_forms.specs.declared.statement.OutputForm.{OutputForm}
use Rattle.line_forms.specs.declared.statement.MemoryForm.{MemoryForm}
use Rattle.line_forms.specs.declared.statement.ActionsForm.{ActionsForm}
use Rattle.line_forms.specs.Forms.{value_of}
use Rattle.line_forms.specs.Limits.{IsSmallNumber, IsSmallAction}
use Rattle.chart_model.specs.declared.action.Action.{Action}
use Rattle.chart_syntax.specs.declared.reader.Reader.{Reader}
use Rattle.chart_syntax.specs.declared.error.Kind.TheVariants as kind
use Rattle.chart_syntax.specs.declared.error.Refusal.TheVariants.{Fault, Limit}
use Rattle.line_checks.specs.Names.{is_same, has_name}
use Rattle.chart_syntax.specs.Scopes.{input_names, output_names, memory_names}
use Rattle.chart_syntax.specs.Checks.{is_variable}
use Rattle.chart_syntax.specs.Checks.{limit_check, double_check, actions_check, actions_of}
use Rattle.chart_syntax.specs.Checks.{memory_size}
use Rattle.chart_syntax.specs.inside.Promises.{HasFew, AreLines, AreActions, IsMove, AreMoves, product_of}
use Rattle.chart_syntax.specs.inside.Promises.{variable_names}
use Rattle.chart_syntax.proofs.Fresh.{if_none}
use Rattle.chart_syntax.proofs.Moderate.{good_actions}

pub one_more : {X : Type 0} (xs : List X) (x : X) (n : ℕ) → length xs < n → length (xs ++ x ∷ []) ≤ n
one_more xs x n h = let e = length-append xs (x ∷ []) in omega arith

pub limit_none : (b : Bool) (w : _) → limit_check b w ≡ None → b ≡ false
limit_none b w e = if_none b (Limit w) e

pub small_value : (n : Signed) → IsSmallNumber n → unsigned_abs (value_of n) ≤ 1000000
small_value (Plain n) h = omega (arith, ints)
small_value (Negated n) h = omega (arith, ints)

-- a name that is no variable is none of their names
pub new_name : (s : Reader) (name : List ℕ) → double_check (is_variable s name) ≡ None → has_name name (variable_names s) ≡ false
new_name s name h =
    list_any-append (is_same name) (input_names s ++ output_names s) (memory_names s)
    ∙ ap (λ b. b || has_name name (memory_names s)) (list_any-append (is_same name) (input_names s) (output_names s))
    ∙ if_none (is_variable s name) (Fault kind.Double) h

pub no_lines : (s : Reader) (lines : List (Option (List Action))) → All (λ line. line ≡ None) lines → AreLines s lines
no_lines s lines h = λ k d less. let e = h k d less in λ actions f. absurd (cc)

pub no_moves : (s : Reader) (t : Reader) → s.transitions ≡ [] → AreMoves t s.transitions
no_moves s t e = subst (AreMoves t) (sym e) (All-nil (IsMove (length t.inputs) (length t.memories) (length t.outputs) t.states))

pub push_names : {X : Type 0} (f : X → List ℕ) (front : List (List ℕ)) (xs : List X) (x : X) → front ++ map f (xs ++ x ∷ []) ≡ (front ++ map f xs) ++ f x ∷ []
push_names f front xs x = ap (λ ys. front ++ ys) (map-append f xs (x ∷ [])) ∙ sym (append_assoc front (map f xs) (f x ∷ []))

pub push_inputs : (s : Reader) (f : InputForm) → s.outputs ≡ [] → s.memories ≡ []
    → map (λ form. form.name) (s.inputs ++ f ∷ []) ++ output_names s ++ memory_names s ≡ variable_names s ++ f.name ∷ []
push_inputs s f o m =
    let P : List OutputForm → List MemoryForm → Type 0 = λ outs mems. map (λ form. form.name) (s.inputs ++ f ∷ []) ++ map (λ form. form.name) outs
    ++ map (λ form. form.name) mems ≡ (input_names s ++ map (λ form. form.name) outs ++ map (λ form. form.name) mems) ++ f.name ∷ [] in
    let all = map (λ (form : InputForm). form.name) (s.inputs ++ f ∷ []) in
    let none : (xs : List (List ℕ)) → xs ++ [] ++ [] ≡ xs = λ xs. append-nil (xs ++ []) ∙ append-nil xs in
    subst (P s.outputs) (sym m) (subst (λ outs. P outs []) (sym o) (none all ∙ map-append (λ form. form.name) s.inputs (f ∷ [])
    ∙ ap (λ xs. xs ++ f.name ∷ []) (sym (none (input_names s)))))

pub push_outputs : (s : Reader) (f : OutputForm) → s.memories ≡ [] → input_names s ++ map (λ form. form.name) (s.outputs ++ f ∷ []) ++ memory_names s
    ≡ variable_names s ++ f.name ∷ []
push_outputs s f m =
    let P : List MemoryForm → Type 0 = λ mems. input_names s ++ map (λ form. form.name) (s.outputs ++ f ∷ []) ++ map (λ form. form.name) mems
    ≡ (input_names s ++ output_names s ++ map (λ form. form.name) mems) ++ f.name ∷ [] in
    subst P (sym m) (append-nil (input_names s ++ map (λ form. form.name) (s.outputs ++ f ∷ []))
    ∙ push_names (λ (form : OutputForm). form.name) (input_names s) s.outputs f
    ∙ ap (λ xs. xs ++ f.name ∷ []) (sym (append-nil (input_names s ++ output_names s))))

pub product_push : (forms : List MemoryForm) (f : MemoryForm) → product_of (forms ++ f ∷ []) ≡ product_of forms * memory_size f
product_push [] f = omega arith
product_push (g ∷ forms) f = let e = product_push forms f in ap (λ n. memory_size g * n) e ∙ sym (mul_assoc (memory_size g) (product_of forms) (memory_size f))

pub not_true : (b : Bool) → not b ≡ false → b ≡ true
not_true true e = refl
not_true false e = absurd (cc)

pub both_true : (a b : Bool) → (a && b) ≡ true → (a ≡ true) × (b ≡ true)
both_true true b e = (refl, e)
both_true false b e = absurd (cc)

pub at_most : (n m : ℕ) → nat_le n m ≡ true → n ≤ m
at_most n m e = grind (arith, nat_tests)

pub at_most_not : (n m : ℕ) → nat_lt m n ≡ false → n ≤ m
at_most_not n m e = grind (arith, nat_tests)

pub all_none : (lines : List (Option (List Action))) → All (λ line. line ≡ None) lines → All (λ line. line ≡ None) (lines ++ None ∷ [])
all_none lines h = All-push (λ (line : Option (List Action)). line ≡ None) lines None h refl

pub some_same : {X : Type 0} (a b : X) → Some a ≡ Some b → a ≡ b
some_same a b e = cc

pub good_line : (s : Reader) (actions : List Action) → AreActions (length s.inputs) (length s.memories) (length s.outputs) actions
    → ForSome (Some actions) (AreActions (length s.inputs) (length s.memories) (length s.outputs))
good_line s actions h = λ xs e. subst (AreActions (length s.inputs) (length s.memories) (length s.outputs)) (some_same actions xs e) h

pub new_lines : (s : Reader) (lines : List (Option (List Action))) (k : ℕ) (f : ActionsForm) → HasFew s → AreLines s lines
    → All IsSmallAction f.actions → actions_check s f.actions ≡ None → AreLines s (slice_set lines k (Some (actions_of s f.actions)))
new_lines s lines k f few kept small passes = All-set (λ line. ForSome line (AreActions (length s.inputs) (length s.memories) (length s.outputs)))
    lines k (Some (actions_of s f.actions)) (good_line s (actions_of s f.actions) (good_actions s f.actions few small passes)) kept
