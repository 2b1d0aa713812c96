-- What a reduction of a machine promises.
use Rattle.std.specs.Prelude.{◌≡◌, ℕ, ◌<◌, List, length, All, Contains, Some, slice_get}
use Rattle.fsm_core.specs.Machine.{Machine, IsMachine}
use Rattle.fsm_core.specs.Answers.{AllReached, IsReduced, JoinAlike, KeepAnswers}

-- `r` is the reduced machine of `m`, and the list gives each state of `m` its image in it
pub record IsReductionOf (m r : Machine) (image : List ℕ) : Type 0 where
  -- a state and its image answer alike, and two states of the reduced machine answer some word differently
  pub answers : KeepAnswers m r image
  pub joined : JoinAlike m image
  pub reduced : IsReduced r
  pub reached : AllReached r
  pub machine : IsMachine r
  pub letters : r.letters ≡ m.letters
  pub replies : r.replies ≡ m.replies
  -- each state has an image, each image is a state, and each state is an image
  pub start : slice_get image 0 ≡ Some 0
  pub each : length image ≡ m.states
  pub within : All (λ i. i < r.states) image
  pub onto : (i : ℕ) → i < r.states → Contains image i
