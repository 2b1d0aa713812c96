-- A sink that takes one part of a list of bytes after another.
use Rattle.std.proofs.Common.{◌≡◌, ℕ, ◌+◌, ◌-◌, ◌≤◌, List, [], ◌++◌, length, take, drop, Option, Some, None, Result, Ok, Err, sym, subst, append_assoc, append-nil, arith, length-append, ◌⊎◌, inl, inr}
use Rattle.std.proofs.Math.Seq.{take-add, take-append-add, take-length}
use Rattle.std.proofs.lemmas.List.{take_rest, take-append-le}
use Rattle.test_world.specs.Count.{Rose}
use Rattle.test_world.specs.Growth.{IsLonger}
use Rattle.test_world.specs.Sink.{SinkState, Grows, GrowsByPrefix, IsPutBy, Puts}

-- the first `done` bytes, and then the next `n`, are the first `done + n`
pub grows_on : (old between new : Option (List ℕ)) (bytes : List ℕ) (done n : ℕ) → IsLonger old between (take done bytes) → IsLonger between new (take n (take (length bytes - done) (drop done bytes))) → IsLonger old new (take (done + n) bytes)
grows_on None None None bytes done n before next = before
grows_on None None (Some new) bytes done n before next = next
grows_on None (Some between) new bytes done n before next = absurd before
grows_on (Some old) None new bytes done n before next = absurd before
grows_on (Some old) (Some between) None bytes done n before next = next
grows_on (Some old) (Some between) (Some new) bytes done n before next =
    let after = rw (take_rest bytes done, before, append_assoc) at next in rw take-add after

-- a sink that took nothing
pub grows_by_nothing : {A : Type 0} (taken : Option (List A)) → IsLonger taken taken []
grows_by_nothing None = tt
grows_by_nothing (Some taken) = sym (append-nil taken)

-- some, and then some more
pub grows_by_both : {A : Type 0} (old between new : Option (List A)) (front rest : List A) → IsLonger old between front → IsLonger between new rest → IsLonger old new (front ++ rest)
grows_by_both None None None front rest first next = tt
grows_by_both None None (Some new) front rest first next = next
grows_by_both None (Some between) new front rest first next = absurd first
grows_by_both (Some old) None new front rest first next = absurd first
grows_by_both (Some old) (Some between) None front rest first next = next
grows_by_both (Some old) (Some between) (Some new) front rest first next = rw (next, first, append_assoc)

-- some bytes, and then a prefix of some more
pub prefix_after : (old between new : SinkState) (front rest : List ℕ) → Grows old between front → GrowsByPrefix between new rest → GrowsByPrefix old new (front ++ rest)
prefix_after old between new front rest first next =
    let whole : Grows old new (front ++ take next.0 rest) = grows_by_both old.taken between.taken new.taken front (take next.0 rest) first next.2 in
    let within : length front + next.0 ≤ length (front ++ rest) = rw length-append (let few : next.0 ≤ length rest = next.1 in omega arith) in
    (length front + next.0, within, rw (take-append-add front rest next.0) whole)

-- a prefix of some bytes is one of those and more
pub prefix_before : (old new : SinkState) (front rest : List ℕ) → GrowsByPrefix old new front → GrowsByPrefix old new (front ++ rest)
prefix_before old new front rest next =
    let few : next.0 ≤ length front = next.1 in
    let within : next.0 ≤ length (front ++ rest) = rw length-append (omega arith) in
    (next.0, within, rw (take-append-le next.0 front rest) next.2)

pub rose_before : (before between after : ℕ) → before ≤ between → Rose between after → Rose before after
rose_before before between after later (inl h) = inl (omega (arith, later, h))
rose_before before between after later (inr h) = inr h

put_then : {T E : Type 0} (old between new : SinkState) (front rest : List ℕ) (r : Result T E) → Grows old between front → old.faults ≤ between.faults → IsPutBy between new rest r → IsPutBy old new (front ++ rest) r
put_then old between new front rest (Ok v) first later next = grows_by_both old.taken between.taken new.taken front rest first next
put_then old between new front rest (Err e) first later next = (prefix_after old between new front rest first next.0, rose_before old.faults between.faults new.faults later next.1)

-- a piece that was put, and what is answered of the rest
pub puts_then : {T E X Y : Type 0} {old between new : SinkState} {front rest : List ℕ} {x : X} {r : Result T E} → Puts {T = X} {E = Y} old between front (Ok x) → Puts between new rest r → Puts old new (front ++ rest) r
puts_then {T} {E} {X} {Y} {old} {between} {new} {front} {rest} {x} {r} first next =
    let early : old.faults ≤ between.faults = first.later in
    let late : between.faults ≤ new.faults = next.later in
    record { put = put_then old between new front rest r first.put early next.put; later = omega arith }

-- a piece that was not put whole, at the exit of a `?`
pub puts_exit : {T E X Y : Type 0} {old new : SinkState} {front : List ℕ} (rest : List ℕ) {y : Y} {r : Result T E} {x : E} → r ≡ Err x → Puts {T = X} {E = Y} old new front (Err y) → Puts old new (front ++ rest) r
puts_exit {T} {E} {X} {Y} {old} {new} {front} rest {y} {r} {x} e first =
    let P : Result T E → Type 0 = λ z. Puts old new (front ++ rest) z in
    subst P (sym e) (record { put = (prefix_before old new front rest first.put.0, first.put.1); later = first.later })

-- all of the bytes are a prefix of them
pub prefix_whole : (old new : SinkState) (bytes : List ℕ) → Grows old new bytes → GrowsByPrefix old new bytes
prefix_whole old new bytes h = (length bytes, omega arith, let P : List ℕ → Type 0 = λ b. Grows old new b in subst P (sym (take-length bytes)) h)
