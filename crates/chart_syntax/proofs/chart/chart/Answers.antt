use Rattle.std.proofs.Common.{ap, map, ◌∙◌}
use Rattle.line_forms.specs.Forms.{value_of}
use Rattle.chart_syntax.specs.Reading.{bounds_of_form, memory_of, states_of}
use Rattle.chart_syntax.proofs.Whole.{inputs_fit, outputs_fit, is_chart}
use Rattle.chart_syntax.proofs.chart.chart.Goals as goal

pub invariant_of-result : goal.invariant_of-result
invariant_of-result c = record {
  inputs_fit = inputs_fit c.args.reader c.in_ok-inputs.inputs c.requires.partial c.requires.complete
      (c.in_ok-inputs.ensures ∙ ap (map bounds_of_form) c.as_slice.ensures);
  outputs_fit = outputs_fit c.args.reader c.in_ok-outputs.outputs c.requires.partial c.requires.complete
      (c.in_ok-outputs.ensures ∙ ap (map (λ form. form.name)) c.as_slice-2.ensures);
}

pub invariant_of-result-2 : goal.invariant_of-result-2
invariant_of-result-2 c = record {
  kept = is_chart c.args.reader _ c.in_ok-initial.initial c.in_ok-memories.memories c.in_ok-states.states c.requires.partial c.requires.complete
      (c.in_ok-inputs.ensures ∙ ap (map bounds_of_form) c.as_slice.ensures) (c.in_ok-outputs.ensures ∙ ap (map (λ form. form.name)) c.as_slice-2.ensures)
      (c.in_ok-initial.ensures ∙ ap (map (λ form. value_of form.value)) c.as_slice-3.ensures)
      (c.in_ok-memories.ensures ∙ ap (map memory_of) c.as_slice-4.ensures)
      (c.in_ok-states.ensures ∙ ap (λ xs. states_of xs c.args.reader.entries c.args.reader.exits) c.as_slice-5.ensures);
}
