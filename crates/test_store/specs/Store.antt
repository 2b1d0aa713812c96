-- What contracts see of a store of tests.
use Rattle.std.specs.Prelude.{◌≡◌, ◌≢◌, ℕ, ◌+◌, ℤ, List, [], ◌∷◌, ◌++◌, length, take, slice_get, Some, Contains}
use Rattle.subject.specs.Suite.{Test}

-- the tests so far, the steps so far of the next one, how many words there are, and for how many tests there is room
pub record Store : Type 0 where
  pub tests : List Test
  pub now : Test
  pub words : ℕ
  pub spare : ℕ

-- the test that is entered has one more step
pub record Enters (old : Store) (letter : ℕ) (reply : List ℤ) (new : Store) : Type 0 where
  pub letters : new.now.letters ≡ old.now.letters ++ letter ∷ []
  pub replies : new.now.replies ≡ old.now.replies ++ reply ∷ []
  pub agrees : (t : Test) → Contains old.tests t →
      take (length old.now.letters + 1) t.letters ≡ old.now.letters ++ letter ∷ [] →
      slice_get t.replies (length old.now.letters) ≡ Some reply

-- an earlier test with the same letters up to this step has another reply there
pub record IsConflict (old : Store) (letter : ℕ) (reply : List ℤ) : Type 0 where
  pub test : Test
  pub among : Contains old.tests test
  pub same : take (length old.now.letters + 1) test.letters ≡ old.now.letters ++ letter ∷ []
  pub differs : slice_get test.replies (length old.now.letters) ≢ Some reply
