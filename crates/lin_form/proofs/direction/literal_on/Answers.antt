use Rattle.std.proofs.Common.{FitsSigned, w64, ◌∙◌}
use Rattle.std.proofs.lemmas.Int.{to_z-of_z}
use Rattle.lin_form.proofs.Directions.{literal_made}
use Rattle.lin_form.proofs.direction.literal_on.Goals as goal

pub invariant_of-atom : goal.invariant_of-atom
invariant_of-atom c =
    let fits : FitsSigned w64 c.constant_on.result = record { sfits = c.constant_on.type_inv } in
    let d = c.ranges.divisor in
    let k = c.ranges.constant in
    record {
      normal = (literal_made c.args.leads c.args.divisor c.args.constant _ c.args.normal.now
          c.from_slice.result c.requires.direction c.requires.small (c.from_slice.ensures ∙ c.as_slice.ensures.value)
          (to_z-of_z w64 c.constant_on.result fits ∙ simp to_z-of_z at c.constant_on.ensures)).0;
    }

pub returns : goal.returns
returns c =
    let fits : FitsSigned w64 c.constant_on.result = record { sfits = c.constant_on.type_inv } in
    let d = c.ranges.divisor in
    let k = c.ranges.constant in
    record {
      atom = (literal_made c.args.leads c.args.divisor c.args.constant _ c.args.normal.now c.from_slice.result
          c.requires.direction c.requires.small (c.from_slice.ensures ∙ c.as_slice.ensures.value)
          (to_z-of_z w64 c.constant_on.result fits ∙ simp to_z-of_z at c.constant_on.ensures)).1;
      side = c.requires.direction.side;
    }
