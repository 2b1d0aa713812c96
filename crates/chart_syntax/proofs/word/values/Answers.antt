use Rattle.std.proofs.Common.{◌≡◌, ◌++◌, ◌∷◌, [], map, take, arith, rules, ap, sym, ◌∙◌, slice_index_or, to_z, of_z, w64}
use Rattle.std.proofs.lemmas.List.{take_more, take_more_set, map-append, length-set}
use Rattle.line_forms.specs.declared.statement.Signed.TheVariants.{Plain}
use Rattle.line_forms.specs.Forms.{value_of}
use Rattle.chart_syntax.proofs.word.values.Goals as goal

pub numbers-preserved : goal.numbers-preserved
numbers-preserved c =
    let same : to_z w64 (of_z w64 c.value.result) ≡ c.value.result = search rules in
    let i = c.numbers.index in
    let numbers = c.args.numbers.now in
    let size = c.numbers.invariant.size in
    let few = c.requires in
    let less = c.numbers-test.true in
    rw same (record {
      size = length-set c.numbers.values i c.value.result ∙ size;
      done = take_more_set c.numbers.values i c.value.result (omega (arith, size, few, less))
          ∙ ap (λ front. front ++ c.value.result ∷ []) c.numbers.invariant.done
          ∙ ap (λ x. map value_of (take i numbers) ++ x ∷ []) c.value.ensures.value
          ∙ sym (ap (map value_of) (take_more numbers i (Plain 0) less) ∙ map-append value_of (take i numbers) (slice_index_or numbers i (Plain 0) ∷ []));
    })
