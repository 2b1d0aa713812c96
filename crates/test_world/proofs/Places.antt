-- The place of a name among texts, and the text that is found there.
use Rattle.std.proofs.Common.{◌≡◌, ◌∙◌, ap, refl, ℕ, ◌+◌, ◌≤◌, arith, Bool, true, false, cond, not, List, [], ◌∷◌, length, drop, Option, Some, None, is_some, option_map, find, position, slice_get, nat_lt, bytes_eq, String, Vec, string_bytes}
use Rattle.std.specs.List.{position_or_len}
use Rattle.std.specs.declared.alloc.Global.{Global}
use Rattle.std.proofs.lemmas.Bool.{ltb-true, ltb-false}
use Rattle.std.proofs.lemmas.List.{length-map}
use Rattle.std.proofs.lemmas.List.Folds.{find_at}
use Rattle.std.proofs.lemmas.Option.{slice_get-get_or, slice_get_past}
use Rattle.std.proofs.lemmas.Slice.Eq.{bytes_eq-Decides}
use Rattle.test_world.specs.Shelf.{Current}
use Rattle.test_world.specs.Memory.{named_texts, bytes_in, whole_text, current_at, IsPlaced}

-- a whole text, as the current one
abbrev from_start : List ℕ × List ℕ → Current
from_start text = record { name = text.0; left = drop 0 text.1 }

found_here : (name : List ℕ) (text : List ℕ × List ℕ) (later : Option (List ℕ × List ℕ)) (b : Bool) → bytes_eq text.0 name ≡ b → option_map from_start later ≡ option_map (λ bytes. record { name = name; left = bytes }) (option_map (λ t. t.1) later) → option_map from_start (cond b (Some text) later) ≡ option_map (λ bytes. record { name = name; left = bytes }) (option_map (λ t. t.1) (cond b (Some text) later))
found_here name text later true same past =
    let is_name : text.0 ≡ name = (bytes_eq-Decides text.0 name).0 same in
    ap (λ (n : List ℕ). Some (let current : Current = record { name = n; left = text.1 } in current)) is_name
found_here name text later false same past = past

found_whole : (name : List ℕ) (texts : List (List ℕ × List ℕ)) → option_map from_start (find (λ text. bytes_eq text.0 name) texts) ≡ whole_text texts name
found_whole name [] = refl
found_whole name (text ∷ texts) = found_here name text (find (λ t. bytes_eq t.0 name) texts) (bytes_eq text.0 name) refl (found_whole name texts)

same_place : (name : List ℕ) (texts : List (String Global × Vec ℕ Global)) → position_or_len (λ text. bytes_eq (string_bytes text.0) name) texts ≡ position_or_len (λ text. bytes_eq text.0 name) (named_texts texts)
same_place name [] = refl
same_place name (text ∷ texts) = ap (λ n. cond (not (bytes_eq (string_bytes text.0) name)) (1 + n) 0) (same_place name texts)

-- what is at a place, if it is a place of the list
record IsAt (texts : List (List ℕ × List ℕ)) (place : Option ℕ) (text : Option (List ℕ × List ℕ)) : Type 0 where
  current : current_at texts place 0 ≡ option_map from_start text
  variant : is_some place ≡ is_some (option_map (λ t. t.1) text)
  placed : IsPlaced texts place 0

at_place : (texts : List (List ℕ × List ℕ)) (n : ℕ) (b : Bool) → nat_lt n (length texts) ≡ b → IsAt texts (cond b (Some n) None) (slice_get texts n)
at_place texts n true within =
    let e : slice_get texts n ≡ Some _ = slice_get-get_or texts n ([], []) (ltb-true n (length texts) within) in
    record { current = refl; variant = rw e refl; placed = rw e (omega arith) }
at_place texts n false past =
    let beyond : length texts ≤ n = ltb-false n (length texts) past in
    let e : slice_get texts n ≡ None = slice_get_past texts n beyond in
    record { current = rw e refl; variant = rw e refl; placed = tt }

first_place : (name : List ℕ) (texts : List (String Global × Vec ℕ Global)) → IsAt (named_texts texts) (position (λ text. bytes_eq (string_bytes text.0) name) texts) (find (λ text. bytes_eq text.0 name) (named_texts texts))
first_place name texts =
    let n : ℕ = position_or_len (λ text. bytes_eq (string_bytes text.0) name) texts in
    let within : nat_lt n (length (named_texts texts)) ≡ nat_lt n (length texts) = ap (nat_lt n) (length-map texts _) in
    rw (find_at (λ text. bytes_eq text.0 name) (named_texts texts), ← same_place name texts) (at_place (named_texts texts) n (nat_lt n (length texts)) within)

-- a place that was looked for has the whole text of the name, or there is neither
pub record IsFound (texts : List (List ℕ × List ℕ)) (name : List ℕ) (place : Option ℕ) : Type 0 where
  pub whole : current_at texts place 0 ≡ whole_text texts name
  pub variant : is_some place ≡ is_some (bytes_in texts name)
  pub placed : IsPlaced texts place 0

pub found : (name : List ℕ) (texts : List (String Global × Vec ℕ Global)) (place : Option ℕ) → place ≡ position (λ text. bytes_eq (string_bytes text.0) name) texts → IsFound (named_texts texts) name place
found name texts place e =
    let first = first_place name texts in
    rw e (record { whole = first.current ∙ found_whole name (named_texts texts); variant = first.variant; placed = first.placed })
