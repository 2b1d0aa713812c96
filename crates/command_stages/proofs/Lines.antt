-- A text that is put line by line, one line for each element of a list.
use Rattle.std.proofs.Common.{◌≡◌, ℕ, ◌+◌, ◌<◌, ◌≤◌, List, [], ◌∷◌, ◌++◌, length, take, drop, get_or, Result, Ok, Err, refl, sym, ◌∙◌, ap, subst, append-nil, arith}
use Rattle.std.specs.List.{flat_map}
use Rattle.std.proofs.lemmas.List.{take_more, take-append-drop, take_all}
use Rattle.std.proofs.lemmas.List.Concat.{flat_map-append}
use Rattle.test_world.specs.Sink.{SinkState, Puts}
use Rattle.test_world.proofs.Growing.{grows_by_nothing, puts_then, puts_exit}

-- the lines of the first i elements were put
abbrev pub ArePut : {X : Type 0} → (X → List ℕ) → List X → ℕ → SinkState → SinkState → Type 0
ArePut line xs i old now = Puts {T = Unit {0}} {E = Unit {0}} old now (flat_map line (take i xs)) (Ok tt)

front_more : {X : Type 0} (line : X → List ℕ) (xs : List X) (i : ℕ) (x : X) → i < length xs → flat_map line (take (i + 1) xs) ≡ flat_map line (take i xs) ++ line (get_or xs i x)
front_more line xs i x less =
    ap (flat_map line) (take_more xs i x less) ∙ flat_map-append line (take i xs) (get_or xs i x ∷ []) ∙ ap (λ y. flat_map line (take i xs) ++ y) (append-nil (line (get_or xs i x)))

pub lines_none : {X : Type 0} (line : X → List ℕ) (xs : List X) (old : SinkState) → ArePut line xs 0 old old
lines_none line xs old = record { put = grows_by_nothing old.taken; later = omega arith }

pub lines_more : {X Y E : Type 0} {y : Y} (line : X → List ℕ) (xs : List X) (i : ℕ) (x : X) {old between new : SinkState} → i < length xs → ArePut line xs i old between → Puts {T = Y} {E = E} between new (line (get_or xs i x)) (Ok y) → ArePut line xs (i + 1) old new
lines_more {X} {Y} {E} {y} line xs i x {old} {between} {new} less first next =
    let P : List ℕ → Type 0 = λ bytes. Puts {T = Unit {0}} {E = Unit {0}} old new bytes (Ok tt) in
    let rest : Puts {T = Unit {0}} {E = Unit {0}} between new (line (get_or xs i x)) (Ok tt) = record { put = next.put; later = next.later } in
    subst P (sym (front_more line xs i x less)) (puts_then first rest)

pub lines_fail : {X Y Z E F : Type 0} {e : E} {f : F} (line : X → List ℕ) (xs : List X) (i : ℕ) (x : X) {old between new : SinkState} → i < length xs → ArePut line xs i old between → Puts {T = Y} {E = E} between new (line (get_or xs i x)) (Err e) → Puts {T = Z} {E = F} old new (flat_map line xs) (Err f)
lines_fail {X} {Y} {Z} {E} {F} {e} {f} line xs i x {old} {between} {new} less first next =
    let whole : flat_map line xs ≡ (flat_map line (take i xs) ++ line (get_or xs i x)) ++ flat_map line (drop (i + 1) xs) =
    ap (flat_map line) (sym (take-append-drop (i + 1) xs)) ∙ flat_map-append line (take (i + 1) xs) (drop (i + 1) xs) ∙ ap (λ y. y ++ flat_map line (drop (i + 1) xs)) (front_more line xs i x less) in
    let P : List ℕ → Type 0 = λ bytes. Puts {T = Z} {E = F} old new bytes (Err f) in
    let both : Puts {T = Y} {E = E} old new (flat_map line (take i xs) ++ line (get_or xs i x)) (Err e) = puts_then first next in
    subst P (sym whole) (puts_exit (flat_map line (drop (i + 1) xs)) refl both)

pub lines_all : {X Y E : Type 0} {y : Y} (line : X → List ℕ) (xs : List X) (i : ℕ) {old new : SinkState} → length xs ≤ i → ArePut line xs i old new → Puts {T = Y} {E = E} old new (flat_map line xs) (Ok y)
lines_all {X} {Y} {E} {y} line xs i {old} {new} all puts =
    let P : List X → Type 0 = λ front. Puts {T = Y} {E = E} old new (flat_map line front) (Ok y) in
    subst P (take_all i xs all) (record { put = puts.put; later = puts.later })
