-- A text is read as one suite at most, or refused at one line for one cause.
use Rattle.std.proofs.Common.{◌≡◌, ℕ, ◌+◌, ◌<◌, ◌⊎◌, inl, inr, List, [], ◌∷◌, ◌++◌, length, map, refl, sym, ap, ◌∙◌, subst, arith, length-append, Some}
use Rattle.std.proofs.lemmas.Option.{same_Some}
use Rattle.strict_lines.specs.Lines.{Token, line_tokens}
use Rattle.subject.specs.Suite.{SuiteParts}
use Rattle.suite_reading.specs.declared.error.Cause.{Cause}
use Rattle.suite_reading.specs.State.{State, begun, whole}
use Rattle.suite_reading.specs.Checks.{checks, first_of}
use Rattle.suite_reading.specs.Reading.{Says, RefusesLine, Leads, RefusesAtLine, RefusesAtEnd, RefusesText, IsDecided}
use Rattle.suite_reading.proofs.Leading.{leads_one, not_refused, item_one}
use Rattle.suite_reading.proofs.Whole.{leads_split, map_line, reads_one, not_both}
use Rattle.suite_reading.proofs.Same.{same_suite}

one_cause : (s : State) (line : List Token) (c d : Cause) → RefusesLine s line c → RefusesLine s line d → c ≡ d
one_cause s line c d (inl h) (inl k) = h.1 ∙ sym k.1
one_cause s line c d (inl h) (inr k) = absurd (h.0 k.0 k.1.0)
one_cause s line c d (inr h) (inl k) = absurd (k.0 h.0 h.1.0)
one_cause s line c d (inr h) (inr k) = same_Some _ _ (sym h.1.1 ∙ ap (λ i. first_of (checks s i)) (item_one line h.0 k.0 h.1.0 k.1.0) ∙ k.1.1)

-- two cuts of one list are the same, or one comes before the other
abbrev Cuts : List (List ℕ) → List ℕ → List (List ℕ) → List (List ℕ) → List ℕ → List (List ℕ) → Type 0
Cuts f x s g y t = ((f ≡ g) × (x ≡ y) × (s ≡ t)) ⊎ (((h : List (List ℕ)) × (g ≡ f ++ x ∷ h)) ⊎ ((h : List (List ℕ)) × (f ≡ g ++ y ∷ h)))

under : (l m : List ℕ) (f : List (List ℕ)) (x : List ℕ) (s g : List (List ℕ)) (y : List ℕ) (t : List (List ℕ)) → l ≡ m → Cuts f x s g y t → Cuts (l ∷ f) x s (m ∷ g) y t
under l m f x s g y t e (inl h) = inl ((λ i. e i ∷ h.0 i), h.1, h.2)
under l m f x s g y t e (inr (inl h)) = let k = h.1 in inr (inl (h.0, (λ i. sym e i ∷ k i)))
under l m f x s g y t e (inr (inr h)) = let k = h.1 in inr (inr (h.0, (λ i. e i ∷ k i)))

cuts : (f : List (List ℕ)) (x : List ℕ) (s g : List (List ℕ)) (y : List ℕ) (t : List (List ℕ)) → f ++ x ∷ s ≡ g ++ y ∷ t → Cuts f x s g y t
cuts [] x s [] y t e = let a : x ≡ y = cc in let b : s ≡ t = cc in inl (refl, a, b)
cuts [] x s (m ∷ g) y t e = let a : x ≡ m = cc in inr (inl (g, (λ i. sym a i ∷ g)))
cuts (l ∷ f) x s [] y t e = let a : l ≡ y = cc in inr (inr (f, (λ i. a i ∷ f)))
cuts (l ∷ f) x s (m ∷ g) y t e = let a : l ≡ m = cc in let b : f ++ x ∷ s ≡ g ++ y ∷ t = cc in under l m f x s g y t a (cuts f x s g y t b)

-- a line that is refused is not passed
not_passed : (f : List (List ℕ)) (x : List ℕ) (h g : List (List ℕ)) (s u : State) (c : Cause) → Leads begun (map line_tokens f) s → RefusesLine s (line_tokens x) c → g ≡ f ++ x ∷ h → Leads begun (map line_tokens g) u → ⊥
not_passed f x h g s u c leads refused e more =
    let split = leads_split begun u (map line_tokens f) (line_tokens x) (map line_tokens h) (subst (λ ls. Leads begun ls u) (ap (map line_tokens) e ∙ map_line f x h) more) in
    let same : split.middle ≡ s = leads_one begun split.middle s (map line_tokens f) split.leads leads in
    not_refused s (line_tokens x) split.item c (subst (λ v. Says v (line_tokens x) split.item) same split.says) refused

at_lines : (text : List ℕ) (n m : ℕ) (c d : Cause) → RefusesAtLine text n c → RefusesAtLine text m d → (n ≡ m) × (c ≡ d)
at_lines text n m c d r q = by (cuts r.front r.line r.rest q.front q.line q.rest (sym r.pieces ∙ q.pieces))
  where
    by : Cuts r.front r.line r.rest q.front q.line q.rest → (n ≡ m) × (c ≡ d)
    by (inl h) =
        let same : r.state ≡ q.state = leads_one begun r.state q.state (map line_tokens q.front) (subst (λ f. Leads begun (map line_tokens f) r.state) h.0 r.leads) q.leads in (
          r.at ∙ ap (λ f. length f + 1) h.0 ∙ sym q.at,
          one_cause q.state (line_tokens q.line) c d (subst (λ s. RefusesLine s (line_tokens q.line) c) same (subst (λ l. RefusesLine r.state (line_tokens l) c) h.1 r.refused)) q.refused,
        )
    by (inr (inl h)) = absurd (not_passed r.front r.line h.0 q.front r.state q.state c r.leads r.refused h.1 q.leads)
    by (inr (inr h)) = absurd (not_passed q.front q.line h.0 r.front q.state r.state d q.leads q.refused h.1 r.leads)

not_at_both : (text : List ℕ) (n m : ℕ) (c : Cause) → RefusesAtLine text n c → RefusesAtEnd text m → ⊥
not_at_both text n m c r q = by (cuts r.front r.line r.rest q.front q.last [] (sym r.pieces ∙ q.pieces))
  where
    size : length r.front + length r.rest ≡ length q.front
    size = omega (arith, ap length (sym r.pieces ∙ q.pieces), length-append r.front (r.line ∷ r.rest), length-append q.front (q.last ∷ []))

    by : Cuts r.front r.line r.rest q.front q.last [] → ⊥
    by (inl h) = let some : 0 < length r.rest = r.ended in omega (arith, some, ap length h.2)
    by (inr (inl h)) = not_passed r.front r.line h.0 q.front r.state q.state c r.leads r.refused h.1 q.leads
    by (inr (inr h)) = omega (arith, size, ap length h.1, length-append q.front (q.last ∷ h.0))

at_ends : (text : List ℕ) (n m : ℕ) → RefusesAtEnd text n → RefusesAtEnd text m → n ≡ m
at_ends text n m r q = omega (arith, r.at, q.at, ap length (sym r.pieces ∙ q.pieces), length-append r.front (r.last ∷ []), length-append q.front (q.last ∷ []))

one_refusal : (text : List ℕ) (n m : ℕ) (c d : Cause) → RefusesText text n c → RefusesText text m d → (n ≡ m) × (c ≡ d)
one_refusal text n m c d (inl r) (inl q) = at_lines text n m c d r q
one_refusal text n m c d (inl r) (inr q) = absurd (not_at_both text n m c r q.0)
one_refusal text n m c d (inr r) (inl q) = absurd (not_at_both text m n d q r.0)
one_refusal text n m c d (inr r) (inr q) = (at_ends text n m r.0 q.0, r.1 ∙ sym q.1)

pub decided : (text : List ℕ) → IsDecided text
decided text = record {
  one_reading = λ s t a b. same_suite s t (reads_one text s t a b);
  one_refusal = one_refusal text;
  apart = λ s n c. not_both text s n c;
}
