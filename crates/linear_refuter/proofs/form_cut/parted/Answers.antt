use Rattle.linear_refuter.proofs.Parting.{AreHalves-from}
use Rattle.linear_refuter.specs.declared.form_cut.Halves.{Halves}
use Rattle.linear_refuter.proofs.form_cut.parted.Goals as goal

pub returns : goal.returns
returns c =
    let h : Halves = record { low = c.in_ok-low.low; high = c.in_ok-high.high } in
    AreHalves-from c.args.literals.now c.args.part.now c.args.atom.now h c.requires.shaped c.requires.width c.in_ok-low.ensures c.in_ok-high.ensures
