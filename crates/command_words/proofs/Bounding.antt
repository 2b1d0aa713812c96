-- The bound of a command.
use Rattle.std.proofs.Common.{◌≡◌, ℕ, ◌<◌, ◌≤◌, ◌-◌, Bool, true, false, ◌&&◌, if◌then◌else◌, nat_lt, List, [], ◌∷◌, refl, arith}
use Rattle.std.specs.Prelude.{nat_le}
use Rattle.std.proofs.lemmas.Bool.{ltb-true, leb-true}
use Rattle.command_words.specs.declared.command.Place.{Place}
use Rattle.command_words.specs.declared.command.Place.TheVariants.{Text, Bound}
use Rattle.command_words.specs.Command.{bound_of, bound_at, fits_places, is_input, takes}

and_first : (a b : Bool) → (a && b) ≡ true → a ≡ true
and_first true b h = refl
and_first false b h = absurd cc

and_second : (a b : Bool) → (a && b) ≡ true → b ≡ true
and_second true b h = h
and_second false b h = absurd cc

if_last : (c a b d : Bool) → (if c then a && d else (b && d)) ≡ true → d ≡ true
if_last true a b d h = and_second a d h
if_last false a b d h = and_second b d h

at_bound : (left : ℕ) (rest : List Place) (words : List (List ℕ)) → fits_places left (Bound ∷ rest) words ≡ true → (1 ≤ bound_at words 0) × (bound_at words 0 ≤ 1024)
at_bound left rest [] h = absurd cc
at_bound left rest (word ∷ words) h =
    let taken : (nat_lt 0 (bound_of word) && nat_le (bound_of word) 1024) ≡ true = and_first (takes Bound word) (fits_places left rest words) h in
    let above : 0 < bound_of word = ltb-true 0 (bound_of word) (and_first (nat_lt 0 (bound_of word)) (nat_le (bound_of word) 1024) taken) in
    let below : bound_of word ≤ 1024 = leb-true (bound_of word) 1024 (and_second (nat_lt 0 (bound_of word)) (nat_le (bound_of word) 1024) taken) in
    (omega arith, below)

-- a bound between a name and any other places
pub after_name : (rest : List Place) (words : List (List ℕ)) → fits_places 1 (Text ∷ Bound ∷ rest) words ≡ true → (1 ≤ bound_at words 1) × (bound_at words 1 ≤ 1024)
after_name rest [] h = absurd cc
after_name rest (word ∷ words) h = here (is_input Text word) h
  where
    here : (input : Bool) → (if input then nat_lt 0 1 && fits_places (1 - 1) (Bound ∷ rest) words else (takes Text word && fits_places 1 (Bound ∷ rest) words)) ≡ true → (1 ≤ bound_at (word ∷ words) 1) × (bound_at (word ∷ words) 1 ≤ 1024)
    here true k = at_bound (1 - 1) rest words (and_second (nat_lt 0 1) (fits_places (1 - 1) (Bound ∷ rest) words) k)
    here false k = at_bound 1 rest words (and_second (takes Text word) (fits_places 1 (Bound ∷ rest) words) k)
