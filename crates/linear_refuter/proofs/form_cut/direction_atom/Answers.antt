use Rattle.std.proofs.Common.{arith, rules}
use Rattle.std.proofs.lemmas.Int.{ints}
use Rattle.lin_form.specs.Range.{AreWithin}
use Rattle.lin_form.proofs.Sizes.{size-small}
use Rattle.linear_refuter.proofs.form_cut.direction_atom.Goals as goal

pub as_literals-requires-clause-moderate : goal.as_literals-requires-clause-moderate
as_literals-requires-clause-moderate c =
    let within : AreWithin 1000000 c.args.numbers.now = search rules in
    record {
      constant = omega (arith, ints);
      memory = search rules;
      inputs = size-small c.from_slice.result c.args.numbers.now c.from_slice.ensures c.requires within;
    }
