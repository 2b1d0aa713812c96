use Rattle.std.proofs.Common.{arith}
use Rattle.std.proofs.lemmas.List.Elements.{recursion_from_All}
use Rattle.linear_refuter.proofs.Bits.{bits_start}
use Rattle.linear_refuter.proofs.seeking.seek.Goals as goal

pub search-requires-clause-bits : goal.search-requires-clause-bits
search-requires-clause-bits c = bits_start c.args.part.now _ (recursion_from_All _ c.args.part.now c.inputs.ensures.ranged.each) (omega (arith, c.inputs.ensures.number))
