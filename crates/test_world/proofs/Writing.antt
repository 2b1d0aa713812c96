-- A writer that writes the front of what is left of some bytes.
use Rattle.std.proofs.Common.{◌≡◌, ℕ, ◌+◌, ◌-◌, ◌≤◌, List, ◌++◌, length, take, drop, Option, Some, None, sym, ◌∙◌, ap, append_assoc}
use Rattle.std.proofs.lemmas.List.{take_rest, take-append-drop, drop-drop, drop-append-le}
use Rattle.std.specs.Io.KnownBytes.{Keeps, Appends, append_known}

-- the next `n` bytes were written
pub writes_on : (old between new : Option (List ℕ)) (rest bytes : List ℕ) (start n : ℕ) → Keeps (append_known old rest) (append_known between (drop start bytes)) → Appends between new (take n (take (length bytes - start) (drop start bytes))) → Keeps (append_known old rest) (append_known new (drop (start + n) bytes))
writes_on None between new rest bytes start n before next = tt
writes_on (Some old) None new rest bytes start n before next = absurd before
writes_on (Some old) (Some between) None rest bytes start n before next = next
writes_on (Some old) (Some between) (Some new) rest bytes start n before next =
    let more : new ≡ between ++ take n (drop start bytes) = rw (take_rest bytes start) at next in
    let left : take n (drop start bytes) ++ drop (start + n) bytes ≡ drop start bytes = ap (λ l. take n (drop start bytes) ++ l) (sym (drop-drop n start bytes)) ∙ take-append-drop n (drop start bytes) in
    ap (λ l. l ++ drop (start + n) bytes) more ∙ append_assoc between (take n (drop start bytes)) (drop (start + n) bytes) ∙ ap (λ l. between ++ l) left ∙ before

-- more bytes stand behind those that are held
pub held_on : (start : ℕ) (all before held more : List ℕ) → all ≡ before ++ more → start ≤ length before → held ≡ drop start before → drop start all ≡ held ++ more
held_on start all before held more whole within is = ap (drop start) whole ∙ drop-append-le start before more within ∙ ap (λ l. l ++ more) (sym is)
