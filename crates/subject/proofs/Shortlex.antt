-- Induction in shortlex order.
use Rattle.std.proofs.Common.{◌≡◌, ℕ, zero, suc, ◌<◌, inl, inr, List, [], ◌∷◌, length, refl, sym, ap, ◌∙◌, subst, arith}
use Rattle.word_pool.specs.Order.{IsBefore, IsBelow}

-- induction in the order of words of one length
tail_below : (k a : ℕ) (Q : List ℕ → Type 0) (v : List ℕ) → ((b : ℕ) → b < a → (u : List ℕ) → length u ≡ k → Q (b ∷ u)) → ((u : List ℕ) → length u ≡ k → IsBelow u v → Q (a ∷ u)) → (u : List ℕ) → length u ≡ suc k → IsBelow u (a ∷ v) → Q u
tail_below k a Q v earlier same [] e l = absurd (omega (arith, e))
tail_below k a Q v earlier same (b ∷ u) e (inl h) = earlier b h u (omega (arith, e))
tail_below k a Q v earlier same (b ∷ u) e (inr h) = subst (λ x. Q (x ∷ u)) (sym h.0) (same u (omega (arith, e)) h.1)

heads : (k : ℕ) → ((Q : List ℕ → Type 0) → ((w : List ℕ) → length w ≡ k → ((u : List ℕ) → length u ≡ k → IsBelow u w → Q u) → Q w) → (w : List ℕ) → length w ≡ k → Q w)
    → (Q : List ℕ → Type 0) → ((w : List ℕ) → length w ≡ suc k → ((u : List ℕ) → length u ≡ suc k → IsBelow u w → Q u) → Q w) → (n a : ℕ) → a < n → (w : List ℕ) → length w ≡ k → Q (a ∷ w)
heads k rec Q step zero a h w e = absurd (omega (arith, h))
heads k rec Q step (suc n) a h w e = rec (λ v. Q (a ∷ v)) (λ v ev smaller. step (a ∷ v) (ap suc ev) (tail_below k a Q v (λ b hb u eu. heads k rec Q step n b (omega (arith, h, hb)) u eu) smaller)) w e

by_order : (k : ℕ) (Q : List ℕ → Type 0) → ((w : List ℕ) → length w ≡ k → ((u : List ℕ) → length u ≡ k → IsBelow u w → Q u) → Q w) → (w : List ℕ) → length w ≡ k → Q w
by_order zero Q step [] e = step [] e (λ u h l. absurd l)
by_order zero Q step (a ∷ w) e = absurd (omega (arith, e))
by_order (suc k) Q step [] e = absurd (omega (arith, e))
by_order (suc k) Q step (a ∷ w) e = heads k (by_order k) Q step (suc a) a (omega arith) w (omega (arith, e))

before_cases : (Q : List ℕ → Type 0) (v : List ℕ) → ((u : List ℕ) → length u < length v → Q u) → ((u : List ℕ) → length u ≡ length v → IsBelow u v → Q u) → (u : List ℕ) → IsBefore u v → Q u
before_cases Q v shorter same u (inl h) = shorter u h
before_cases Q v shorter same u (inr h) = same u h.0 h.1

by_length : (n : ℕ) (Q : List ℕ → Type 0) → ((w : List ℕ) → ((u : List ℕ) → IsBefore u w → Q u) → Q w) → (w : List ℕ) → length w < n → Q w
by_length zero Q step w h = absurd (omega (arith, h))
by_length (suc n) Q step w h =
    by_order (length w) Q (λ v e smaller. step v (before_cases Q v (λ u l. by_length n Q step u (omega (arith, h, l, e))) (λ u eu l. smaller u (eu ∙ e) l))) w refl

pub by_shortlex : (Q : List ℕ → Type 0) → ((w : List ℕ) → ((u : List ℕ) → IsBefore u w → Q u) → Q w) → (w : List ℕ) → Q w
by_shortlex Q step w = by_length (suc (length w)) Q step w (omega arith)

pub none_before : (u : List ℕ) → IsBefore u [] → ⊥
none_before u (inl h) = omega (arith, h)
none_before u (inr h) = absurd h.1
