use Rattle.class_stages.proofs.Dividing.{unlisted, unassumed, unbounded, undivided, made_classes}
use Rattle.class_stages.proofs.classes.classes_over.Goals as goal

pub returns-in-Err-clause-made : goal.returns-in-Err-clause-made
returns-in-Err-clause-made c = λ words shelf. rw c.stop_of_atoms.ensures (unlisted c.args.name c.args.chart.now c.args.cuts.now c.in-Err.error c.in-Err.ensures)

pub returns-in-Err-assumed-clause-made : goal.returns-in-Err-assumed-clause-made
returns-in-Err-assumed-clause-made c = λ words shelf. rw c.stop_of_atoms-in-Err-assumed.ensures (unassumed c.args.name c.args.chart.now c.args.cuts.now c.in-Err-assumed.error c.in-Err-assumed.ensures)

pub returns-in-Err-of-clause-made : goal.returns-in-Err-of-clause-made
returns-in-Err-of-clause-made c = λ words shelf. unbounded c.args.name c.args.chart.now c.args.cuts.now

pub returns-in-Ok-split-clause-made : goal.returns-in-Ok-split-clause-made
returns-in-Ok-split-clause-made c = λ words shelf.
    made_classes c.args.name c.args.chart.now c.args.cuts.now (record { atoms_are = c.in-Ok.ensures; literals_are = c.in-Ok-assumed.ensures; ranges_are = c.in-Ok-of.ensures }) c.in-Ok-split.ensures

pub returns-in-Err-split-clause-made : goal.returns-in-Err-split-clause-made
returns-in-Err-split-clause-made c = λ words shelf. rw c.stop_of_split.ensures
    (undivided c.args.name c.args.chart.now c.args.cuts.now (record { atoms_are = c.in-Ok.ensures; literals_are = c.in-Ok-assumed.ensures; ranges_are = c.in-Ok-of.ensures }) c.in-Err-split.error c.in-Err-split.ensures)
