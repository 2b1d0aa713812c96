-- The place of a name among those of a list.
use Rattle.std.proofs.Common.{◌≡◌, ℕ, ◌+◌, Bool, List, [], ◌∷◌, map, length, Option, Some, None, refl, sym, ◌∙◌, ap}
use Rattle.std.specs.Prelude.{position, not, nat_lt, if◌then◌else◌}
use Rattle.std.specs.List.{prefix_len}
use Rattle.std.proofs.lemmas.List.{length-map}
use Rattle.line_checks.specs.declared.scope.Variable.TheVariants as variable
use Rattle.line_checks.specs.Names.{is_same, place_of, variable_in}

prefix_map : {T : Type 0} (name_of : T → List ℕ) (p : List ℕ → Bool) (xs : List T) → prefix_len p (map name_of xs) ≡ prefix_len (λ x. p (name_of x)) xs
prefix_map name_of p [] = refl
prefix_map name_of p (x ∷ xs) = ap (λ n. if p (name_of x) then 1 + n else 0) (prefix_map name_of p xs)

abbrev first : ℕ → ℕ → Option ℕ
first n size = if nat_lt n size then Some n else None

place_map : {T : Type 0} (name_of : T → List ℕ) (name : List ℕ) (xs : List T) → place_of name (map name_of xs) ≡ position (λ x. is_same name (name_of x)) xs
place_map name_of name xs =
    let size : length (map name_of xs) ≡ length xs = length-map xs name_of in
    λ j. first (prefix_map name_of (λ x. not (is_same name x)) xs j) (size j)

-- a name that is found among those of a list of inputs
pub found_in : {T : Type 0} (name_of : T → List ℕ) (place : Option ℕ) (name : List ℕ) (xs : List T) (i : ℕ)
    → place ≡ position (λ x. is_same name (name_of x)) xs → place ≡ Some i
    → variable_in (place_of name (map name_of xs)) None ≡ Some (variable.Input i)
found_in name_of place name xs i p e = ap (λ o. variable_in o None) (place_map name_of name xs ∙ sym p ∙ e)

-- a name that is not
pub not_found : {T : Type 0} (name_of : T → List ℕ) (place : Option ℕ) (name : List ℕ) (xs : List T)
    → place ≡ position (λ x. is_same name (name_of x)) xs → place ≡ None → variable_in (place_of name (map name_of xs)) None ≡ None
not_found name_of place name xs p e = ap (λ o. variable_in o None) (place_map name_of name xs ∙ sym p ∙ e)
