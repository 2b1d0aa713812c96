use Rattle.std.proofs.Common.{◌≡◌, List, [], ◌∷◌, map, sym, ap, subst, ◌∙◌, arith}
use Rattle.std.specs.Cmp.Lexicographic.{pointwise}
use Rattle.std.specs.Ordering.{int_eq}
use Rattle.std.proofs.lemmas.Cmp.{int_eq_equiv, lists_equiv}
use Rattle.input_classes.specs.declared.class.Class.{Class}
use Rattle.input_classes.specs.Partition.{witnesses}
use Rattle.input_classes.specs.VectorSet.{Members}
use Rattle.abstract_machine.specs.Reached.{ReachesMore}
use Rattle.abstract_machine.specs.declared.error.ExploreError.{ExploreError}
use Rattle.abstract_machine.proofs.Branching.{passed_up}
use Rattle.abstract_machine.proofs.Keys.{first_key}
use Rattle.abstract_machine.proofs.Searching.{exploring_start}
use Rattle.abstract_machine.proofs.Making.{different_from, made_all, made_explored, made_machine, made_states}
use Rattle.abstract_machine.proofs.exploring.explore.Goals as goal

pub loop-at-init : goal.loop-at-init
loop-at-init g c =
    let m = g.P.Plan.plan c.args.plan.now in
    let start = first_key c.new-states.result.keys c.begin.result c.number_of.new.keys.keys c.in_ok-_start._start
    c.new-states.ensures.empty (c.in_ok-_start.ensures.numbered g.met.P.Plan.same) in
    rw (c.new-replies.ensures.empty, c.in_ok-rows.ensures)
    (exploring_start (map (λ (c : Class). c.witness) c.classes-classes.result.now) m c.number_of.new.keys.keys (start ∙ ap (λ t. t ∷ []) c.begin.ensures))

pub loop-at-preserved : goal.loop-at-preserved
loop-at-preserved g c = c.in_ok-expand.ensures.exploring

pub from_rows-fsm-requires : goal.from_rows-fsm-requires
from_rows-fsm-requires g c =
    let exact = c.classes-classes.ensures.exact in
    let value = c.classes-classes.ensures.value in
    made_machine c.classes-classes.result.now c.args.partition.now value (g.P.Plan.plan c.args.plan.now)
    c.loop-at.states.keys c.loop-at.replies.keys c.loop-at.rows c.loop-at.at
    c.loop-at.invariant (let upto = c.loop-at.invariant.upto in omega (
      arith,
      c.loop-at-test.false,
      c.len.ensures.len,
      upto,
    )) (rw (value) exact.some) (rw (value) exact.few)
    c.in_ok-replies.replies.items (c.in_ok-replies.ensures.items ∙ c.as_slice.ensures.keys)
    (different_from (pointwise int_eq) (lists_equiv int_eq_equiv) c.loop-at.replies.keys c.as_slice.ensures.unique)

pub returns-clause-explored : goal.returns-clause-explored
returns-clause-explored g c =
    let exact = c.classes-classes.ensures.exact in
    let value = c.classes-classes.ensures.value in
    made_explored c.classes-classes.result.now c.args.partition.now value (g.P.Plan.plan c.args.plan.now)
    c.loop-at.states.keys c.loop-at.replies.keys c.loop-at.rows c.loop-at.at
    c.loop-at.invariant (let upto = c.loop-at.invariant.upto in omega (
      arith,
      c.loop-at-test.false,
      c.len.ensures.len,
      upto,
    )) (rw (value) exact.some) (rw (value) exact.few)
    c.in_ok-replies.replies.items (c.in_ok-replies.ensures.items ∙ c.as_slice.ensures.keys)
    (different_from (pointwise int_eq) (lists_equiv int_eq_equiv) c.loop-at.replies.keys c.as_slice.ensures.unique)
    g.P.State.PartialEq.eq g.met.P.State.Eq.laws g.met.P.Plan.same c.len.ensures.unique c.from_rows-fsm.result c.from_rows-fsm.ensures.made

pub returns-clause-configurations : goal.returns-clause-configurations
returns-clause-configurations g c =
    let exact = c.classes-classes.ensures.exact in
    let value = c.classes-classes.ensures.value in
    c.len-configurations.ensures.len ∙ sym (made_states c.classes-classes.result.now c.args.partition.now value
    (g.P.Plan.plan c.args.plan.now) c.loop-at.states.keys c.loop-at.replies.keys
    c.loop-at.rows c.loop-at.at c.loop-at.invariant (let upto = c.loop-at.invariant.upto in
    omega (arith, c.loop-at-test.false, c.len.ensures.len, upto)) (rw (value) exact.some)
    (rw (value) exact.few) c.in_ok-replies.replies.items (c.in_ok-replies.ensures.items ∙ c.as_slice.ensures.keys)
    (different_from (pointwise int_eq) (lists_equiv int_eq_equiv) c.loop-at.replies.keys c.as_slice.ensures.unique)
    c.from_rows-fsm.result c.from_rows-fsm.ensures.made)

pub returns-clause-few : goal.returns-clause-few
returns-clause-few g c =
    let exact = c.classes-classes.ensures.exact in
    let value = c.classes-classes.ensures.value in
    made_all c.classes-classes.result.now c.args.partition.now value (g.P.Plan.plan c.args.plan.now)
    c.loop-at.states.keys c.loop-at.replies.keys c.loop-at.rows c.loop-at.at
    c.loop-at.invariant (let upto = c.loop-at.invariant.upto in omega (
      arith,
      c.loop-at-test.false,
      c.len.ensures.len,
      upto,
    )) (rw (value) exact.some) (rw (value) exact.few)
    c.in_ok-replies.replies.items (c.in_ok-replies.ensures.items ∙ c.as_slice.ensures.keys)
    (different_from (pointwise int_eq) (lists_equiv int_eq_equiv) c.loop-at.replies.keys c.as_slice.ensures.unique)
    g.P.State.PartialEq.eq g.met.P.State.Eq.laws g.met.P.Plan.same c.len.ensures.unique

pub returns-in_err-expand-clause-many : goal.returns-in_err-expand-clause-many
returns-in_err-expand-clause-many g c =
    let m = g.P.Plan.plan c.args.plan.now in
    passed_up c.from_residual-in_err-expand.result c.in_err-expand.field-0.0
    (λ e. e ≡ ExploreError.TooManyConfigurations → ReachesMore 1024 (Members (witnesses c.args.partition.now)) m)
    c.from_residual-in_err-expand.ensures.1
    (λ many. subst (λ (cs : List Class). ReachesMore 1024 (Members (map (λ (c : Class). c.witness) cs)) m)
    c.classes-classes.ensures.value (c.in_err-expand.ensures.many many))
