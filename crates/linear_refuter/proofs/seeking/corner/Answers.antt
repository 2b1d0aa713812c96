use Rattle.std.proofs.lemmas.Bool.{false≢true}
use Rattle.lin_form.specs.Atom.{AreAsSaid}
use Rattle.std.proofs.Common.{length, ap, sym, ◌∙◌}
use Rattle.std.proofs.lemmas.List.Elements.{recursion_from_All}
use Rattle.lin_form.proofs.CallerLemmas.{length-IsInRanges}
use Rattle.linear_refuter.specs.TightPart.{lows}
use Rattle.linear_refuter.proofs.Clashes.{lows_at_most, lows_in}
use Rattle.linear_refuter.proofs.seeking.corner.Goals as goal

pub all_as_said-requires : goal.all_as_said-requires
all_as_said-requires c =
    let e =
    ap length c.lowest-lowest.ensures.value
    ∙ sym (length-IsInRanges c.args.part.now (lows c.args.part.now) (lows_in c.args.part.now (recursion_from_All _ c.args.part.now c.lowest-lowest.ensures.ranged.each))) in
    rw e c.requires

pub returns-then-all_as_said : goal.returns-then-all_as_said
returns-then-all_as_said c =
    record {
      lowest = c.lowest-lowest.ensures.value;
      inside = rw (c.lowest-lowest.ensures.value) (lows_in c.args.part.now (recursion_from_All _ c.args.part.now c.lowest-lowest.ensures.ranged.each));
      said = c.all_as_said.ensures.0 c.if-all_as_said.true;
      least = λ x h. rw (c.lowest-lowest.ensures.value) (lows_at_most c.args.part.now x h);
    }

pub returns : goal.returns
returns c =
    let none : AreAsSaid c.args.literals.now c.lowest-lowest.result → ⊥ = λ s. false≢true (sym c.if-all_as_said.false ∙ c.all_as_said.ensures.1 s) in
    rw (c.lowest-lowest.ensures.value) at none
