-- Steps of a word, part by part, and the exchange that goes on after turns whose replies were the expected ones.
use Rattle.std.proofs.Common.{◌≡◌, ◌≢◌, ℕ, ◌+◌, ℤ, Bool, true, false, not, cond, MatchBool, List, [], ◌∷◌, ◌++◌, length, take, drop, Some, refl, sym, ap, ◌∙◌, arith, append_assoc, append-nil, slice_get}
use Rattle.std.specs.Cmp.Lexicographic.{pointwise}
use Rattle.std.specs.Ordering.{int_eq}
use Rattle.std.specs.Bool.{Decides}
use Rattle.std.proofs.lemmas.Bool.{false≢true}
use Rattle.std.proofs.lemmas.Bool.Decides.{Decides-int_eq}
use Rattle.std.proofs.lemmas.Slice.Eq.{slice_eq-Decides}
use Rattle.std.proofs.lemmas.List.{take-append-drop, take_more, length-take-le}
use Rattle.std.proofs.lemmas.List.Concat.{flat_map-append}
use Rattle.std.proofs.lemmas.Option.{slice_get_within, get_or_from_slice_get}
use Rattle.input_classes.specs.VectorSet.{Word}
use Rattle.test_subject.specs.Subject.{reset_line, in_line}
use Rattle.test_subject.specs.Exchange.{Turn, Reset, Step, turn_line, lines, steps, exchange}
use Rattle.suite_run.specs.inside.Running.{turn_replies, replies}

-- a list up to one more
pub one_more : {X : Type 0} (xs : List X) (k : ℕ) (x : X) → slice_get xs k ≡ Some x → take (k + 1) xs ≡ take k xs ++ x ∷ []
one_more xs k x e = take_more xs k x (slice_get_within xs k x e) ∙ ap (λ y. take k xs ++ y ∷ []) (get_or_from_slice_get xs k x x e)

-- a list cut at a place
pub cut_at : {X : Type 0} (xs : List X) (k : ℕ) (x : X) → slice_get xs k ≡ Some x → xs ≡ take k xs ++ x ∷ drop (k + 1) xs
cut_at xs k x e = sym (take-append-drop (k + 1) xs) ∙ ap (λ l. l ++ drop (k + 1) xs) (one_more xs k x e) ∙ append_assoc (take k xs) (x ∷ []) (drop (k + 1) xs)

pub steps-append : (u v : Word) (q s : List (List ℤ)) → length u ≡ length q → steps (u ++ v) (q ++ s) ≡ steps u q ++ steps v s
steps-append [] v [] s e = refl
steps-append [] v (r ∷ q) s e = let no : ⊥ = omega arith in absurd no
steps-append (x ∷ u) v [] s e = let no : ⊥ = omega arith in absurd no
steps-append (x ∷ u) v (r ∷ q) s e = ap (λ l. Step x r ∷ l) (steps-append u v q s (omega arith))

-- the steps of a word at one of them
module _ (w : Word) (r : List (List ℤ)) (step : ℕ) (x e : List ℤ) (word_at : slice_get w step ≡ Some x) (reply_at : slice_get r step ≡ Some e) where
  sizes : length (take step w) ≡ length (take step r)
  sizes =
      let a = slice_get_within w step x word_at in
      let b = slice_get_within r step e reply_at in
      length-take-le step w (omega arith) ∙ sym (length-take-le step r (omega arith))

  -- those before it and it, with any reply
  pub steps_to : (g : List ℤ) → steps (take (step + 1) w) (take step r ++ g ∷ []) ≡ steps (take step w) (take step r) ++ Step x g ∷ []
  steps_to g = ap (λ u. steps u (take step r ++ g ∷ [])) (one_more w step x word_at) ∙ steps-append (take step w) (x ∷ []) (take step r) (g ∷ []) sizes

  pub steps_at : steps w r ≡ steps (take step w) (take step r) ++ Step x e ∷ steps (drop (step + 1) w) (drop (step + 1) r)
  steps_at =
      ap (λ u. steps u r) (cut_at w step x word_at) ∙ ap (steps (take step w ++ x ∷ drop (step + 1) w)) (cut_at r step e reply_at)
      ∙ steps-append (take step w) (x ∷ drop (step + 1) w) (take step r) (e ∷ drop (step + 1) r) sizes

pub replies-steps : (u : Word) (q : List (List ℤ)) → length u ≡ length q → replies (steps u q) ≡ q
replies-steps [] [] e = refl
replies-steps [] (r ∷ q) e = let no : ⊥ = omega arith in absurd no
replies-steps (x ∷ u) [] e = let no : ⊥ = omega arith in absurd no
replies-steps (x ∷ u) (r ∷ q) e = ap (λ l. r ∷ l) (replies-steps u q (omega arith))

same_reply : (r : List ℤ) → pointwise int_eq r r ≡ true
same_reply r = (slice_eq-Decides Decides-int_eq r r _ refl).1 refl

unequal : (b : Bool) (r e : List ℤ) → Decides b (r ≡ e) → r ≢ e → b ≡ false
unequal true r e d h = absurd (h (d.0 refl))
unequal false r e d h = refl

other_reply : (r e : List ℤ) → r ≢ e → pointwise int_eq r e ≡ false
other_reply r e h = unequal _ r e (slice_eq-Decides Decides-int_eq r e _ refl) h

apart : (b : Bool) (r e : List ℤ) → Decides b (r ≡ e) → MatchBool (not b) (r ≢ e) (r ≡ e)
apart true r e d = d.0 refl
apart false r e d = λ h. false≢true (d.1 h)

pub not_same : (r e : List ℤ) → MatchBool (not (pointwise int_eq r e)) (r ≢ e) (r ≡ e)
not_same r e = apart _ r e (slice_eq-Decides Decides-int_eq r e _ refl)

-- after turns with the expected replies the exchange goes on with what comes then
pub exchange-ran : (x y : List Turn) (coming left : List (List ℤ)) → coming ≡ replies x ++ left → exchange (x ++ y) coming ≡ lines x ++ exchange y left
exchange-ran [] y coming left e = ap (exchange y) e
exchange-ran (Reset ∷ x) y coming left e = ap (λ l. reset_line ++ l) (exchange-ran x y coming left e) ∙ sym (append_assoc reset_line (lines x) (exchange y left))
exchange-ran (Step i r ∷ x) y coming left e =
    ap (exchange (Step i r ∷ (x ++ y))) e
    ∙ ap (λ b. in_line i ++ cond b (exchange (x ++ y) (replies x ++ left)) []) (same_reply r)
    ∙ ap (λ l. in_line i ++ l) (exchange-ran x y (replies x ++ left) left refl)
    ∙ sym (append_assoc (in_line i) (lines x) (exchange y left))

-- an exchange ends with a step to which another reply comes
pub exchange-differs : (x y : List Turn) (i g e : List ℤ) (coming left : List (List ℤ)) → g ≢ e → coming ≡ replies (x ++ Step i g ∷ []) ++ left → exchange (x ++ Step i e ∷ y) coming ≡ lines (x ++ Step i g ∷ [])
exchange-differs x y i g e coming left differs is =
    let front : coming ≡ replies x ++ g ∷ left = is ∙ ap (λ l. l ++ left) (flat_map-append turn_replies x (Step i g ∷ [])) ∙ append_assoc (replies x) (g ∷ []) left in
    exchange-ran x (Step i e ∷ y) coming (g ∷ left) front
    ∙ ap (λ b. lines x ++ (in_line i ++ cond b (exchange y left) [])) (other_reply g e differs)
    ∙ sym (flat_map-append turn_line x (Step i g ∷ []))

-- an exchange begins with the line of its first turn
pub exchange-next : (t : Turn) (y : List Turn) (coming : List (List ℤ)) → (rest : List ℕ) × (exchange (t ∷ y) coming ≡ turn_line t ++ rest)
exchange-next Reset y coming = (exchange y coming, refl)
exchange-next (Step i e) y [] = ([], sym (append-nil (in_line i)))
exchange-next (Step i e) y (r ∷ coming) = (cond (pointwise int_eq r e) (exchange y coming) [], refl)
