-- Actions that are resolved one after another.
use Rattle.std.proofs.Common.{◌≡◌, ◌<◌, ◌+◌, ℕ, List, length, drop, get_or, Some, sym, ◌∙◌, ap}
use Rattle.std.proofs.lemmas.List.{drop_more}
use Rattle.std.specs.Option.{option_or}
use Rattle.line_forms.specs.declared.statement.ActionForm.{ActionForm}
use Rattle.chart_syntax.specs.declared.reader.Reader.{Reader}
use Rattle.chart_syntax.specs.declared.error.Refusal.{Refusal}
use Rattle.chart_syntax.specs.Checks.{action_check, actions_check}

-- an action that is refused refuses all of them
pub actions_failed : (s : Reader) (forms : List ActionForm) (i : ℕ) (a : ActionForm) (r : Refusal)
    → i < length forms → a ≡ get_or forms i a → actions_check s (drop i forms) ≡ actions_check s forms → action_check s a ≡ Some r
    → actions_check s forms ≡ Some r
actions_failed s forms i a r less is same h =
    sym same ∙ ap (actions_check s) (drop_more forms i a less) ∙ ap (λ b. option_or (action_check s b) (actions_check s (drop (i + 1) forms)))
    (sym is) ∙ ap (λ o. option_or o (actions_check s (drop (i + 1) forms))) h
