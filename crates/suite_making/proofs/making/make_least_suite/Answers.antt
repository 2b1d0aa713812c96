use Rattle.std.proofs.Common.{◌≡◌, sym, subst}
use Rattle.concretise.proofs.Whole.{covers_box}
use Rattle.subject.specs.Alike.{HasRank}
use Rattle.subject.specs.Domain.{Complete, box}
use Rattle.subject.specs.Shape.{HasShape}
use Rattle.subject.specs.Suite.{tests_of}
use Rattle.suite_making.proofs.Joining.{least_allowed, least_refused, one_rank, rank}
use Rattle.suite_making.proofs.Passing.{passed_up}
use Rattle.suite_making.specs.Making.{IsLeastRefused}
use Rattle.suite_making.proofs.making.make_least_suite.Goals as goal

pub returns-in_err-suite-clause-refused : goal.returns-in_err-suite-clause-refused
returns-in_err-suite-clause-refused g c =
    let m = g.P.Plan.plan c.args.plan.now in
    let r = c.args.partition.now in
    let is : HasRank (box m r) m c.states-bound.result = subst (HasRank (box m r) m) (sym c.states-bound.ensures.count) (rank m r c.in_ok-found.found.fsm c.in_ok-found.ensures.machine (covers_box m r c.classes-classes.ensures.exact.exact c.requires.ranges) c.requires.alike) in
    passed_up c.from_residual-in_err-suite.result c.in_err-suite.field-0.0 (IsLeastRefused m r) c.from_residual-in_err-suite.ensures.1 (least_refused m r c.states-bound.result is c.in_err-suite.field-0.0 c.in_err-suite.ensures.refused)

pub returns-clause-allowed : goal.returns-clause-allowed
returns-clause-allowed g c =
    let m = g.P.Plan.plan c.args.plan.now in
    let r = c.args.partition.now in
    let is : HasRank (box m r) m c.states-bound.result = subst (HasRank (box m r) m) (sym c.states-bound.ensures.count) (rank m r c.in_ok-found.found.fsm c.in_ok-found.ensures.machine (covers_box m r c.classes-classes.ensures.exact.exact c.requires.ranges) c.requires.alike) in
    least_allowed m r c.states-bound.result is c.in_ok-suite.ensures.allowed

pub returns-clause-shape : goal.returns-clause-shape
returns-clause-shape g c =
    let m = g.P.Plan.plan c.args.plan.now in
    let r = c.args.partition.now in
    let is : HasRank (box m r) m c.states-bound.result = subst (HasRank (box m r) m) (sym c.states-bound.ensures.count) (rank m r c.in_ok-found.found.fsm c.in_ok-found.ensures.machine (covers_box m r c.classes-classes.ensures.exact.exact c.requires.ranges) c.requires.alike) in
    let same : c.states-bound.result ≡ c.in_ok-suite.suite.states = one_rank (box m r) m c.states-bound.result c.in_ok-suite.suite.states is c.in_ok-suite.ensures.shape.suits.rank in
    subst (λ n. HasShape m r n c.in_ok-suite.suite) same c.in_ok-suite.ensures.shape

pub returns-clause-complete : goal.returns-clause-complete
returns-clause-complete g c =
    let m = g.P.Plan.plan c.args.plan.now in
    let r = c.args.partition.now in
    let is : HasRank (box m r) m c.states-bound.result = subst (HasRank (box m r) m) (sym c.states-bound.ensures.count) (rank m r c.in_ok-found.found.fsm c.in_ok-found.ensures.machine (covers_box m r c.classes-classes.ensures.exact.exact c.requires.ranges) c.requires.alike) in
    let same : c.states-bound.result ≡ c.in_ok-suite.suite.states = one_rank (box m r) m c.states-bound.result c.in_ok-suite.suite.states is c.in_ok-suite.ensures.shape.suits.rank in
    subst (λ n. Complete m r n (tests_of c.in_ok-suite.suite)) same c.in_ok-suite.ensures.complete
