-- The fault domain, and what it means that tests are complete for it. `∥ A ∥₁` says that there is an A, and not which.
use Rattle.std.specs.Prelude.{◌≡◌, ◌↔◌, ℕ, ℤ, List, map, Contains}
use Rattle.lin_form.specs.declared.signature.Signature.{Signature}
use Rattle.lin_form.specs.Signature.{ranges_of}
use Rattle.subject.specs.Alike.{Equal, HasAtMost, ActsLike}
use Rattle.subject.specs.FiniteMap.{FiniteMap, plan_of_map}
use Rattle.subject.specs.Meaning.{Meaning, answer}
use Rattle.input_classes.specs.declared.class.Class.{Class}
use Rattle.input_classes.specs.Partition.{Partition, IsInClass}
use Rattle.subject.specs.Tests.{TestCase, Passes}
use Rattle.input_classes.specs.VectorSet.{VectorSet, IsIn, box_of}

-- a signature fits that of a model: the same number of inputs, each with the same name and range, and the same number
-- of outputs with the same names
pub record IsFitting (model other : Signature) : Type 0 where
  pub names : map (λ input. input.name) other.inputs ≡ map (λ input. input.name) model.inputs
  pub ranges : ranges_of other.inputs ≡ ranges_of model.inputs
  pub outputs : other.outputs ≡ model.outputs

-- a class that has only members that act like x in both plans
pub record HasLikeClass {S T : Type 0} (s : VectorSet) (r : Partition) (m : Meaning S) (i : Meaning T)
    (x : List ℤ) : Type 0 where
  pub one : Class
  pub there : Contains r.classes one
  pub in_model : (y : List ℤ) → IsInClass s r one y → ActsLike s m y x
  pub in_other : (y : List ℤ) → IsInClass s r one y → ActsLike s i y x

-- for each vector of the set there is such a class
abbrev pub ActByClasses : {S T : Type 0} → VectorSet → Partition → Meaning S → Meaning T → Type 0
ActByClasses s r m i = (x : List ℤ) → IsIn s x → ∥ HasLikeClass s r m i x ∥₁

-- the box of a model with a partition: the vectors of the model's ranges on which the partition's literals are as said
abbrev pub box : {S : Type 0} → Meaning S → Partition → VectorSet
box m r = box_of m.signature r.assumed

-- the other plan lies inside the fault domain of the model with the partition and the bound; the partition is meant to be
-- one (`IsPartition`): a class without members would act like every vector
pub record Inside {S T : Type 0} (model : Meaning S) (partition : Partition) (bound : ℕ)
    (other : Meaning T) : Type 0 where
  pub fits : IsFitting model.signature other.signature
  pub states : HasAtMost (box model partition) other bound
  pub classes : ActByClasses (box model partition) partition model other

-- the tests are complete: every finite map inside passes exactly when it answers every word of the box as the model
abbrev pub Complete : {S : Type 0} → Meaning S → Partition → ℕ → List TestCase → Type 0
Complete model partition bound tests = (f : FiniteMap) → Inside model partition bound (plan_of_map f)
    → (Passes (answer (plan_of_map f)) tests ↔ Equal (box model partition) (plan_of_map f) model)
