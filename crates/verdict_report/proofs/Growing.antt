-- A sink that takes the parts of a text one after another.
use Rattle.std.proofs.Common.{◌≡◌, ℕ, ◌+◌, ◌<◌, ◌≤◌, ◌*◌, List, [], ◌∷◌, ◌++◌, length, take, drop, Option, Some, Err, ap, sym, subst, ◌∙◌, append-nil, arith, slice_get}
use Rattle.std.specs.List.{flat_map, All}
use Rattle.std.proofs.lemmas.List.{take_more, take-append-drop, get_or-take, length-take-le}
use Rattle.std.proofs.lemmas.List.Concat.{flat_map-append}
use Rattle.std.proofs.lemmas.Option.{slice_get_within, slice_get-get_or, get_or_from_slice_get}
use Rattle.test_world.specs.Growth.{IsLonger}
use Rattle.test_world.specs.Sink.{SinkState, Grows, GrowsByPrefix, Puts}
use Rattle.test_world.proofs.Growing.{grows_by_both, prefix_after, prefix_before, rose_before}
use Rattle.subject.specs.Suite.{SuiteParts, Test}
use Rattle.suite_model.specs.Scratch.{Place, IsMadeFor}

-- the parts up to one more
front_more : {X : Type 0} (f : X → List ℕ) (xs : List X) (i : ℕ) (x : X) → slice_get xs i ≡ Some x → flat_map f (take (i + 1) xs) ≡ flat_map f (take i xs) ++ f x
front_more f xs i x e =
    ap (flat_map f) (take_more xs i x (slice_get_within xs i x e) ∙ ap (λ y. take i xs ++ y ∷ []) (get_or_from_slice_get xs i x x e))
    ∙ flat_map-append f (take i xs) (x ∷ []) ∙ ap (λ y. flat_map f (take i xs) ++ y) (append-nil (f x))

pub part_more : {X : Type 0} (f : X → List ℕ) (xs : List X) (i : ℕ) (x : X) (old between new : Option (List ℕ)) → slice_get xs i ≡ Some x → IsLonger old between (flat_map f (take i xs)) → IsLonger between new (f x) → IsLonger old new (flat_map f (take (i + 1) xs))
part_more f xs i x old between new e first next = subst (IsLonger old new) (sym (front_more f xs i x e)) (grows_by_both old between new _ _ first next)

part_stop : {X : Type 0} (f : X → List ℕ) (xs : List X) (i : ℕ) (x : X) (old between new : SinkState) → slice_get xs i ≡ Some x → Grows old between (flat_map f (take i xs)) → GrowsByPrefix between new (f x) → GrowsByPrefix old new (flat_map f xs)
part_stop f xs i x old between new e first next =
    let whole : flat_map f xs ≡ (flat_map f (take i xs) ++ f x) ++ flat_map f (drop (i + 1) xs) =
    ap (flat_map f) (sym (take-append-drop (i + 1) xs)) ∙ flat_map-append f (take (i + 1) xs) (drop (i + 1) xs) ∙ ap (λ y. y ++ flat_map f (drop (i + 1) xs)) (front_more f xs i x e) in
    subst (GrowsByPrefix old new) (sym whole) (prefix_before old new _ _ (prefix_after old between new _ _ first next))

-- the exit of a loop at a part that was not put whole
pub part_fails : {T E : Type 0} {X : Type 0} (f : X → List ℕ) (xs : List X) (i : ℕ) (x : X) (old between new : SinkState) (e : E) → slice_get xs i ≡ Some x → Grows old between (flat_map f (take i xs)) → old.faults ≤ between.faults
    → Puts {T = T} {E = E} between new (f x) (Err e) → Puts {T = T} {E = E} old new (flat_map f xs) (Err e)
part_fails f xs i x old between new e there first early next =
    let late : between.faults ≤ new.faults = next.later in
    record { put = (part_stop f xs i x old between new there first next.put.0, rose_before old.faults between.faults new.faults early next.put.1); later = omega arith }

-- an element of a front
pub in_front : {X : Type 0} (xs : List X) (n i : ℕ) (x : X) → i < n → n ≤ length xs → slice_get xs i ≡ Some x → slice_get (take n xs) i ≡ Some x
in_front xs n i x inside within there =
    let size = length-take-le n xs within in
    slice_get-get_or (take n xs) i x (omega arith) ∙ ap (λ y. Some y) (get_or-take n xs i x inside ∙ get_or_from_slice_get xs i x x there)

pub still_made : (s : SuiteParts) (p q : Place) → IsMadeFor s p → q.letters ≡ p.letters → q.room ≡ p.room → IsMadeFor s q
still_made s p q made letters room = record {
  tests = subst (λ (x : List ℕ). All (λ (t : Test). length t.letters ≤ length x) s.tests) (sym letters) made.tests;
  cover = subst (λ (x : List ℕ). All (λ w. length w ≤ length x) s.cover) (sym letters) made.cover;
  marks = subst (λ (x : List ℕ). All (λ w. length w ≤ length x) s.marks) (sym letters) made.marks;
  line = (let h : 320 + 6 * length p.letters ≤ p.room = made.line in omega (arith, ap length letters, room));
}

pub no_test : Test
no_test = record { letters = []; replies = [] }
