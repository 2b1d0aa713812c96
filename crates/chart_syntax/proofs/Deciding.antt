-- A text is read or refused in one way.
use Rattle.std.proofs.Common.{◌≡◌, ℕ, List, [], ◌∷◌, map, Some, None, refl, sym, ◌∙◌, ap}
use Rattle.std.specs.Prelude.{Ok}
use Rattle.std.specs.List.{All}
use Rattle.std.specs.Option.{ForSome}
use Rattle.std.proofs.lemmas.List.Elements.{All-head, All-tail}
use Rattle.lin_form.specs.declared.input.Input.{Input}
use Rattle.lin_form.specs.declared.signature.Signature.{Signature}
use Rattle.chart_model.specs.declared.chart.Chart.{Chart}
use Rattle.text_lines.proofs.CallerLemmas.{decided}
use Rattle.line_forms.specs.declared.statement.InputForm.{InputForm}
use Rattle.line_forms.specs.declared.statement.OutputForm.{OutputForm}
use Rattle.line_forms.specs.declared.statement.Statement.{Statement}
use Rattle.line_forms.specs.declared.parsed.ParsedLine.{ParsedLine}
use Rattle.line_forms.specs.Forms.{IsStatement, value_of}
use Rattle.line_forms.specs.Limits.{IsSmallStatement}
use Rattle.line_forms.specs.Parsing.{AreParsed, IsParsed}
use Rattle.chart_syntax.specs.declared.reader.Reader.{Reader}
use Rattle.chart_syntax.specs.Checks.{start, end_check, first_of, checks, next}
use Rattle.chart_syntax.specs.inside.Promises.{HasRange, IsPartial}
use Rattle.chart_syntax.specs.Reading.{bounds_of_input, bounds_of_form, memory_of, states_of, IsContent, TakesLine, IsDecided}
use Rattle.chart_syntax.proofs.CallerLemmas.{IsOneParse, IsSomeParse, one_taken, some_taken, taken_keeps}
use Rattle.chart_syntax.proofs.Partial.{partial_start}
use Rattle.chart_syntax.proofs.Placing.{partial_parsed_line}
use Rattle.chart_syntax.proofs.Same.{same_chart}
use Rattle.chart_syntax.proofs.Whole.{inputs_fit, outputs_fit, is_chart}

same_content : (s : Reader) (a b : Chart) → IsContent s a → IsContent s b → a ≡ b
same_content s a b p q = same_chart a b (record {
  inputs = p.inputs ∙ sym q.inputs;
  outputs = p.outputs ∙ sym q.outputs;
  initial = p.initial ∙ sym q.initial;
  assumed = p.assumed ∙ sym q.assumed;
  memories = p.memories ∙ sym q.memories;
  states = p.states ∙ sym q.states;
  transitions = p.transitions ∙ sym q.transitions;
})

inputs_exist : (forms : List InputForm) → All HasRange forms → (inputs : List Input) × (map bounds_of_input inputs ≡ map bounds_of_form forms)
inputs_exist [] h = ([], refl)
inputs_exist (form ∷ forms) h =
    let rest = inputs_exist forms (All-tail HasRange form forms h) in
    let input : Input = record { name = form.name; lo = value_of form.lo; hi = value_of form.hi; ranged = All-head HasRange form forms h } in
    (input ∷ rest.0, ap (λ xs. (form.name, value_of form.lo, value_of form.hi) ∷ xs) rest.1)

-- what was declared is the content of a chart
chart_exists : (s : Reader) → IsPartial s → end_check s ≡ None → (chart : Chart) × IsContent s chart
chart_exists s p e =
    let found = inputs_exist s.inputs p.ranges in
    let outputs = map (λ (form : OutputForm). form.name) s.outputs in
    let initial = map (λ (form : OutputForm). value_of form.value) s.outputs in
    let signature : Signature = record {
      inputs = found.0;
      outputs = outputs;
      inputs_fit = inputs_fit s found.0 p e found.1;
      outputs_fit = outputs_fit s outputs p e refl;
    } in
    let chart : Chart = record {
      signature = signature;
      initial = initial;
      assumed = s.assumed;
      memories = map memory_of s.memories;
      states = states_of s.states s.entries s.exits;
      transitions = s.transitions;
      kept = is_chart s signature initial (map memory_of s.memories) (states_of s.states s.entries s.exits) p e found.1 refl refl refl refl;
    } in
    (chart, record { inputs = found.1; outputs = refl; initial = refl; assumed = refl; memories = refl; states = refl; transitions = refl })

-- what a line says is small
abbrev pub IsSmallAll : Type 0
IsSmallAll = (line : List ℕ) (parsed : ParsedLine Statement) → IsParsed (AreParsed IsStatement) line (Ok (Some parsed))
    → ForSome parsed.form IsSmallStatement

exists : (s : Reader) → IsPartial s → end_check s ≡ None → ((chart : Chart) → IsContent s chart → ⊥) → ⊥
exists s p e none = let found = chart_exists s p e in none found.0 found.1

pub chart_decided : IsOneParse IsStatement → IsSomeParse IsStatement → IsSmallAll → (text : List ℕ) → IsDecided text
chart_decided one some small text =
    decided TakesLine end_check IsContent IsPartial start text
    (one_taken IsStatement (first_of checks) next one) (some_taken IsStatement (first_of checks) next some)
    partial_start (taken_keeps IsStatement (first_of checks) next IsPartial
    (λ s line l p is e. partial_parsed_line s l (is.first ∷ is.more) p is.says (small line l is) e))
    same_content exists
