-- The steps of a plan that were made.
use Rattle.std.specs.Prelude.{◌≡◌, ℕ, ◌+◌, ◌-◌, ◌*◌, ◌<◌, ◌≤◌, ◌⊎◌, ℤ, List, [], length, Some, slice_get, slice_index, slice_index_or}
use Rattle.subject.specs.Meaning.{Meaning, IsReached}

-- what stands at a place stays there
abbrev pub Stays : {A : Type 0} → List A → List A → Type 0
Stays {A} old new = (i : ℕ) (x : A) → slice_get old i ≡ Some x → slice_get new i ≡ Some x

-- n is the place of the key, all others stay where they are, nothing else is new, and at most one is
pub record IsNumbered {K : Type 0} (old : List K) (key : K) (new : List K) (n : ℕ) : Type 0 where
  pub there : slice_get new n ≡ Some key
  pub stays : Stays old new
  pub only : (i : ℕ) (k : K) → slice_get new i ≡ Some k → (slice_get old i ≡ Some k) ⊎ (k ≡ key)
  pub few : length new ≤ length old + 1

-- the step with a number is that from the state at a place by the witness of a letter
pub record IsStepOf {S : Type 0} (m : Meaning S) (classes : List (List ℤ)) (states : List S) (nexts : List ℕ)
    (replies : List (List ℤ)) (place letter number : ℕ) : Type 0 where
  pub state : S
  pub next : ℕ
  pub start : slice_get states place ≡ Some state
  pub goes : slice_get nexts number ≡ Some next
  pub leads : slice_get states next ≡ Some (m.next state (slice_index_or classes letter []))
  pub reply : slice_get replies number ≡ Some (m.reply state (slice_index_or classes letter []))

-- i is the number of the pair of a place and a letter, and the step from there has the number
pub record IsMet {S : Type 0} (m : Meaning S) (classes : List (List ℤ)) (states : List S) (nexts : List ℕ)
    (replies : List (List ℤ)) (i number : ℕ) : Type 0 where
  pub place : ℕ
  pub letter : ℕ
  pub inside : letter < length classes
  pub pair : i ≡ place * length classes + letter
  pub is : IsStepOf m classes states nexts replies place letter number

-- the steps that were made, and the numbers that are kept for pairs of a state's place and a letter, where they are not 0
pub record AreSteps {S : Type 0} (m : Meaning S) (classes : List (List ℤ)) (states : List S) (met nexts : List ℕ)
    (replies : List (List ℤ)) : Type 0 where
  pub few : length states ≤ length nexts + 1
  pub one_each : length replies ≡ length nexts
  pub first : slice_get states 0 ≡ Some m.start
  pub reached : (k : ℕ) (s : S) → slice_get states k ≡ Some s → IsReached m s
  pub met_are : (i : ℕ) → 0 < slice_index met i → IsMet m classes states nexts replies i (slice_index met i - 1)

-- at most one more step was made, and the step from the state at a place by a letter has the number
pub record MakesStep {S : Type 0} (m : Meaning S) (classes : List (List ℤ)) (states : List S) (nexts : List ℕ)
    (replies : List (List ℤ)) (states' : List S) (met' nexts' : List ℕ) (replies' : List (List ℤ))
    (place letter number : ℕ) : Type 0 where
  pub are : AreSteps m classes states' met' nexts' replies'
  pub states_stay : Stays states states'
  pub nexts_stay : Stays nexts nexts'
  pub replies_stay : Stays replies replies'
  pub few : length nexts' ≤ length nexts + 1
  pub is : IsStepOf m classes states' nexts' replies' place letter number
