-- The reduced machine of a plan.
use Rattle.std.specs.Prelude.{ℕ, List}
use Rattle.fsm_core.specs.Machine.{Machine}
use Rattle.fsm_core.specs.Reduction.{IsReductionOf}
use Rattle.input_classes.specs.Partition.{Partition, witnesses}
use Rattle.subject.specs.Meaning.{Meaning}
use Rattle.abstract_machine.specs.Explored.{IsExplored}

-- g is what a reduction promises of the machine that exploring the plan on the witnesses gives
pub record IsAbstractionOf {S : Type 0} (r : Partition) (m : Meaning S) (g : Machine) : Type 0 where
  pub machine : Machine
  pub image : List ℕ
  pub explored : IsExplored (witnesses r) m machine
  pub reduced : IsReductionOf machine g image
