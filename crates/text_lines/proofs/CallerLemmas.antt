-- A text is read or refused in one way, where each line is.
use Rattle.std.proofs.Common.{◌≡◌, ℕ, ◌+◌, List, [], ◌∷◌, refl, sym, ◌∙◌, ap, subst, inl, inr}
use Rattle.std.specs.Prelude.{Option, Some, None, Result, Ok, Err}
use Rattle.text_lines.specs.Lines.{lines_of}
use Rattle.text_lines.specs.Reading.{Leads, RefusesFrom, Refuses, Reads, IsDecided, StepBy}

some_same : {X : Type 0} (a b : X) → Some a ≡ Some b → a ≡ b
some_same a b e = cc

-- two answers are the same
abbrev Same : (S K : Type 0) → Result S K → Result S K → Type 0
Same S K a b = a ≡ b

ok_same : {S K : Type 0} (a b : S) → Same S K (Ok a) (Ok b) → a ≡ b
ok_same a b e = cc

err_same : {S K : Type 0} (a b : K) → Same S K (Err a) (Err b) → a ≡ b
err_same a b e = cc

not_both : {S K : Type 0} (a : S) (b : K) → Ok a ≡ Err b → ⊥
not_both a b e = cc

none_not : {K : Type 0} (o : Option K) (k : K) → o ≡ None → o ≡ Some k → ⊥
none_not o k e h = cc

-- a line has one outcome from a state
abbrev pub HasOne : {S K : Type 0} → (S → List ℕ → Result S K → Type 0) → Type 0
HasOne {S} {K} Step = (s : S) (line : List ℕ) (a b : Result S K) → Step s line a → Step s line b → a ≡ b

-- it cannot be that a line has none
abbrev pub HasSome : {S K : Type 0} → (S → List ℕ → Result S K → Type 0) → Type 0
HasSome {S} {K} Step = (s : S) (line : List ℕ) → ((a : Result S K) → Step s line a → ⊥) → ⊥

-- a line keeps what is kept of the states
abbrev pub Keeps : {S K : Type 0} → (S → Type 0) → (S → List ℕ → Result S K → Type 0) → Type 0
Keeps {S} Kept Step = (s t : S) (line : List ℕ) → Kept s → Step s line (Ok t) → Kept t

pub leads_keep : {S K : Type 0} (Kept : S → Type 0) (Step : S → List ℕ → Result S K → Type 0) → Keeps Kept Step
    → (lines : List (List ℕ)) (s t : S) → Kept s → Leads Step s lines t → Kept t
leads_keep Kept Step keeps [] s t k h = subst Kept h k
leads_keep Kept Step keeps (line ∷ lines) s t k h = leads_keep Kept Step keeps lines h.0 t (keeps s h.0 line k h.1) h.2

one_end : {S K : Type 0} (Step : S → List ℕ → Result S K → Type 0) → HasOne Step → (lines : List (List ℕ)) (s t u : S) → Leads Step s lines t
    → Leads Step s lines u → t ≡ u
one_end Step one [] s t u p q = sym p ∙ q
one_end Step one (line ∷ lines) s t u p q =
    let e = ok_same p.0 q.0 (one s line (Ok p.0) (Ok q.0) p.1 q.1) in
    one_end Step one lines p.0 t u p.2 (subst (λ v. Leads Step v lines u) (sym e) q.2)

not_refused : {S K : Type 0} (Step : S → List ℕ → Result S K → Type 0) (end : S → Option K) → HasOne Step
    → (lines : List (List ℕ)) (s t : S) (n m : ℕ) (k : K) → Leads Step s lines t → end t ≡ None → RefusesFrom Step end s n lines m k → ⊥
not_refused Step end one [] s t n m k p e q = none_not (end s) k (ap end p ∙ e) q.1
not_refused Step end one (line ∷ lines) s t n m k p e (inl q) = not_both p.0 k (one s line (Ok p.0) (Err k) p.1 q.1)
not_refused Step end one (line ∷ lines) s t n m k p e (inr q) =
    let same = ok_same p.0 q.0 (one s line (Ok p.0) (Ok q.0) p.1 q.1) in
    not_refused Step end one lines p.0 t (n + 1) m k p.2 e (subst (λ v. RefusesFrom Step end v (n + 1) lines m k) (sym same) q.2)

one_refused : {S K : Type 0} (Step : S → List ℕ → Result S K → Type 0) (end : S → Option K) → HasOne Step
    → (lines : List (List ℕ)) (s : S) (n i j : ℕ) (a b : K) → RefusesFrom Step end s n lines i a → RefusesFrom Step end s n lines j b
    → (i ≡ j) × (a ≡ b)
one_refused Step end one [] s n i j a b p q = (p.0 ∙ sym q.0, some_same a b (sym p.1 ∙ q.1))
one_refused Step end one (line ∷ lines) s n i j a b (inl p) (inl q) = (p.0 ∙ sym q.0, err_same a b (one s line (Err a) (Err b) p.1 q.1))
one_refused Step end one (line ∷ lines) s n i j a b (inl p) (inr q) = absurd (not_both q.0 a (one s line (Ok q.0) (Err a) q.1 p.1))
one_refused Step end one (line ∷ lines) s n i j a b (inr p) (inl q) = absurd (not_both p.0 b (one s line (Ok p.0) (Err b) p.1 q.1))
one_refused Step end one (line ∷ lines) s n i j a b (inr p) (inr q) =
    let same = ok_same p.0 q.0 (one s line (Ok p.0) (Ok q.0) p.1 q.1) in
    one_refused Step end one lines p.0 (n + 1) i j a b p.2 (subst (λ v. RefusesFrom Step end v (n + 1) lines j b) (sym same) q.2)

at_end : {S K : Type 0} (Step : S → List ℕ → Result S K → Type 0) (end : S → Option K) (s : S) (n : ℕ) (o : Option K) → end s ≡ o
    → ((t : S) → Leads Step s [] t → end t ≡ None → ⊥) → ((m : ℕ) (k : K) → RefusesFrom Step end s n [] m k → ⊥) → ⊥
at_end Step end s n None e read refused = read s refl e
at_end Step end s n (Some k) e read refused = refused n k (refl, e)

at_line : {S K : Type 0} (Step : S → List ℕ → Result S K → Type 0) (end : S → Option K) (s : S) (n : ℕ) (line : List ℕ) (lines : List (List ℕ))
    (a : Result S K) → Step s line a
    → ((t : S) → Leads Step s (line ∷ lines) t → end t ≡ None → ⊥) → ((m : ℕ) (k : K) → RefusesFrom Step end s n (line ∷ lines) m k → ⊥)
    → ((u : S) → ((t : S) → Leads Step u lines t → end t ≡ None → ⊥) → ((m : ℕ) (k : K) → RefusesFrom Step end u (n + 1) lines m k → ⊥) → ⊥) → ⊥
at_line Step end s n line lines (Ok u) h read refused later = later u (λ t p. read t (u, h, p)) (λ m k p. refused m k (inr (u, h, p)))
at_line Step end s n line lines (Err k) h read refused later = refused n k (inl (refl, h))

-- it cannot be that the lines lead nowhere and nothing refuses them
some_end : {S K : Type 0} (Step : S → List ℕ → Result S K → Type 0) (end : S → Option K) → HasSome Step → (lines : List (List ℕ)) (s : S) (n : ℕ)
    → ((t : S) → Leads Step s lines t → end t ≡ None → ⊥) → ((m : ℕ) (k : K) → RefusesFrom Step end s n lines m k → ⊥) → ⊥
some_end Step end some [] s n read refused = at_end Step end s n (end s) refl read refused
some_end Step end some (line ∷ lines) s n read refused =
    some s line (λ a h. at_line Step end s n line lines a h read refused (λ u. some_end Step end some lines u (n + 1)))

-- a text is read or refused in one way, where each line is, and the last state has one content
pub decided : {S K X : Type 0} (Step : S → List ℕ → Result S K → Type 0) (end : S → Option K) (Is : S → X → Type 0) (Kept : S → Type 0)
    (start : S) (text : List ℕ) → HasOne Step → HasSome Step → Kept start → Keeps Kept Step
    → ((s : S) (a b : X) → Is s a → Is s b → a ≡ b) → ((s : S) → Kept s → end s ≡ None → ((x : X) → Is s x → ⊥) → ⊥)
    → IsDecided (Reads Step end Is start text) (Refuses Step end start text)
decided Step end Is Kept start text one some begun keeps same exists = record {
  one_reading = λ a b p q.
      let e = one_end Step one (lines_of text) start p.last q.last p.leads q.leads in
      same p.last a b p.content (subst (λ s. Is s b) (sym e) q.content);
  one_refusal = λ n m j k. one_refused Step end one (lines_of text) start 1 n m j k;
  apart = λ x n k p. not_refused Step end one (lines_of text) start p.last 1 n k p.leads p.ended;
  some = λ read refused. some_end Step end some (lines_of text) start 1 (λ t leads ended.
      exists t (leads_keep Kept Step keeps (lines_of text) start t begun leads) ended
      (λ x is. read x (record { last = t; leads = leads; ended = ended; content = is }))) refused;
}

-- a line is taken in one way, where it is one thing and one check's answer meets it
pub one_step : {S V K : Type 0} (Is : List ℕ → V → Type 0) (Checks : S → V → Option K → Type 0) (next : S → V → S)
    → ((line : List ℕ) (a b : V) → Is line a → Is line b → a ≡ b)
    → ((s : S) (parsed : V) (a b : Option K) → Checks s parsed a → Checks s parsed b → a ≡ b) → HasOne (StepBy Is Checks next)
one_step Is Checks next one check s line (Ok t) (Ok u) p q = let e = one line p.0 q.0 p.1 q.1 in let h : t ≡ u = p.3 ∙ ap (next s) e ∙ sym q.3 in λ j. Ok (h j)
one_step Is Checks next one check s line (Ok t) (Err k) p q =
    let e = one line q.0 p.0 q.1 p.1 in
    absurd (none_not None k refl (sym (check s p.0 (Some k) None (subst (λ v. Checks s v (Some k)) e q.2) p.2)))
one_step Is Checks next one check s line (Err k) (Ok t) p q =
    let e = one line p.0 q.0 p.1 q.1 in
    absurd (none_not None k refl (sym (check s q.0 (Some k) None (subst (λ v. Checks s v (Some k)) e p.2) q.2)))
one_step Is Checks next one check s line (Err j) (Err k) p q =
    let e = one line q.0 p.0 q.1 p.1 in
    let h = some_same j k (check s p.0 (Some j) (Some k) p.2 (subst (λ v. Checks s v (Some k)) e q.2)) in
    λ i. Err (h i)

at_check : {S V K : Type 0} (Is : List ℕ → V → Type 0) (Checks : S → V → Option K → Type 0) (next : S → V → S) (s : S) (line : List ℕ) (parsed : V)
    (o : Option K) → Is line parsed → Checks s parsed o
    → ((a : Result S K) → StepBy Is Checks next s line a → ⊥) → ⊥
at_check Is Checks next s line parsed None is c none = none (Ok (next s parsed)) (parsed, is, c, refl)
at_check Is Checks next s line parsed (Some k) is c none = none (Err k) (parsed, is, c)

pub some_step : {S V K : Type 0} (Is : List ℕ → V → Type 0) (Checks : S → V → Option K → Type 0) (next : S → V → S)
    → ((line : List ℕ) → ((a : V) → Is line a → ⊥) → ⊥)
    → ((s : S) (parsed : V) → ((a : Option K) → Checks s parsed a → ⊥) → ⊥) → HasSome (StepBy Is Checks next)
some_step Is Checks next some check s line none = some line (λ parsed is. check s parsed (λ o c. at_check Is Checks next s line parsed o is c none))
