use Rattle.std.proofs.Common.{length}
use Rattle.concretise.specs.Concrete.{AreWordsFor}
use Rattle.subject.specs.Alike.{MembersActAlike}
use Rattle.subject.specs.Domain.{Complete, box}
use Rattle.subject.specs.Shape.{HasShape}
use Rattle.subject.specs.Suite.{tests_of}
use Rattle.word_pool.specs.Words.{words_at}
use Rattle.concretise.proofs.Whole.{covers_box}
use Rattle.suite_making.proofs.Joining.{allowed, letters, refused, suite_words, words_for}
use Rattle.suite_making.proofs.Passing.{passed_up}
use Rattle.suite_making.specs.Making.{IsRefused}
use Rattle.suite_making.proofs.making.suite_of.Goals as goal

pub returns-in_err-letters-clause-refused : goal.returns-in_err-letters-clause-refused
returns-in_err-letters-clause-refused g c =
    let m = g.P.Plan.plan c.args.plan.now in
    let r = c.args.partition.now in
    let exact = c.classes-classes.ensures.exact in
    let a = c.requires.machine in
    passed_up c.from_residual-in_err-letters.result c.in_err-letters.field-0.0 (IsRefused m r c.args.bound) c.from_residual-in_err-letters.ensures.1
    (refused m r c.args.fsm.now a (covers_box m r exact.exact c.requires.ranges) c.requires.alike c.args.bound c.in_err-letters.field-0.0 c.requires.few c.in_err-letters.ensures.refused)

pub concrete-requires-clause-words : goal.concrete-requires-clause-words
concrete-requires-clause-words g c =
    let m = g.P.Plan.plan c.args.plan.now in
    let r = c.args.partition.now in
    let exact = c.classes-classes.ensures.exact in
    let a = c.requires.machine in
    suite_words c.args.fsm.now c.args.bound c.words_of.new.pool.words c.in_ok-letters.letters.cover c.in_ok-letters.letters.marks c.in_ok-letters.letters.tests.items a.reduced.machine
    c.in_ok-letters.ensures.words (length r.classes) (letters m r c.args.fsm.now a (covers_box m r exact.exact c.requires.ranges) c.requires.alike)

pub returns-clause-allowed : goal.returns-clause-allowed
returns-clause-allowed g c =
    let m = g.P.Plan.plan c.args.plan.now in
    let r = c.args.partition.now in
    let exact = c.classes-classes.ensures.exact in
    allowed m r c.args.fsm.now c.requires.machine (covers_box m r exact.exact c.requires.ranges) c.requires.alike c.args.bound c.requires.few c.in_ok-letters.ensures.within
    c.in_ok-letters.ensures.steps

pub returns-clause-shape : goal.returns-clause-shape
returns-clause-shape g c =
    let m = g.P.Plan.plan c.args.plan.now in
    let r = c.args.partition.now in
    let exact = c.classes-classes.ensures.exact in
    let made : MembersActAlike (box (g.P.Plan.plan c.args.plan.now) c.args.partition.now) c.args.partition.now (g.P.Plan.plan c.args.plan.now)
    → AreWordsFor (g.P.Plan.plan c.args.plan.now) c.args.partition.now c.args.bound (words_at c.words_of.new.pool.words c.in_ok-letters.letters.cover) (words_at c.words_of.new.pool.words c.in_ok-letters.letters.marks) (words_at c.words_of.new.pool.words c.in_ok-letters.letters.tests.items)
    → HasShape (g.P.Plan.plan c.args.plan.now) c.args.partition.now c.args.bound c.in_ok-suite.suite × Complete (g.P.Plan.plan c.args.plan.now) c.args.partition.now c.args.bound (tests_of c.in_ok-suite.suite) = rw c.in_ok-letters.ensures.bound at c.in_ok-suite.ensures.complete in
    (made c.requires.alike (words_for m r c.args.fsm.now c.requires.machine (covers_box m r exact.exact c.requires.ranges) c.requires.alike c.args.bound c.words_of.new.pool.words
    c.in_ok-letters.letters.cover c.in_ok-letters.letters.marks c.in_ok-letters.letters.tests.items c.in_ok-letters.ensures.within c.in_ok-letters.ensures.words)).0

pub returns-clause-complete : goal.returns-clause-complete
returns-clause-complete g c =
    let m = g.P.Plan.plan c.args.plan.now in
    let r = c.args.partition.now in
    let exact = c.classes-classes.ensures.exact in
    let made : MembersActAlike (box (g.P.Plan.plan c.args.plan.now) c.args.partition.now) c.args.partition.now (g.P.Plan.plan c.args.plan.now)
    → AreWordsFor (g.P.Plan.plan c.args.plan.now) c.args.partition.now c.args.bound (words_at c.words_of.new.pool.words c.in_ok-letters.letters.cover) (words_at c.words_of.new.pool.words c.in_ok-letters.letters.marks) (words_at c.words_of.new.pool.words c.in_ok-letters.letters.tests.items)
    → HasShape (g.P.Plan.plan c.args.plan.now) c.args.partition.now c.args.bound c.in_ok-suite.suite × Complete (g.P.Plan.plan c.args.plan.now) c.args.partition.now c.args.bound (tests_of c.in_ok-suite.suite) = rw c.in_ok-letters.ensures.bound at c.in_ok-suite.ensures.complete in
    (made c.requires.alike (words_for m r c.args.fsm.now c.requires.machine (covers_box m r exact.exact c.requires.ranges) c.requires.alike c.args.bound c.words_of.new.pool.words
    c.in_ok-letters.letters.cover c.in_ok-letters.letters.marks c.in_ok-letters.letters.tests.items c.in_ok-letters.ensures.within c.in_ok-letters.ensures.words)).1
