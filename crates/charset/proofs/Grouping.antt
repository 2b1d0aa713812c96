-- Groups of numbers that are alike by a relation, one number more at a time, and how many groups there are.
use Rattle.std.proofs.Common.{◌≡◌, ℕ, ◌+◌, ◌<◌, ◌≤◌, List, [], ◌∷◌, ◌++◌, get_or, zero, suc, refl, ap, sym, ◌∙◌, ◌⊎◌, inl, inr, arith, cond, eqb}
use Rattle.std.proofs.lemmas.Bool.{cases_eq, cases_lt, eq-eqb, ne_eqb}
use Rattle.std.proofs.lemmas.List.{get_or_append_left, get_or_push, length_push}
use Rattle.charset.specs.inside.Levels.{IsGrouping, IsLeader}

module _ (R : ℕ → ℕ → Type 0) (itself : (s : ℕ) → R s s) (flip : (s t : ℕ) → R s t → R t s) (chain : (s t u : ℕ) → R s t → R t u → R s u) where
  pub grouping_none : IsGrouping 0 [] R
  grouping_none = record {
    size = refl;
    low = λ s h. absurd (omega (arith, h));
    own = λ s h. absurd (omega (arith, h));
    alike = λ s t h. absurd (omega (arith, h));
    joined = λ s t h. absurd (omega (arith, h));
  }

  module _ (names : List ℕ) (at : ℕ) (g : IsGrouping at names R) (l : ℕ) (leads : IsLeader names R at l) where
    kept : (s : ℕ) → s < at → get_or (names ++ l ∷ []) s 0 ≡ get_or names s 0
    kept s h = get_or_append_left names (l ∷ []) 0 s (omega (arith, h, g.size))

    latest : get_or (names ++ l ∷ []) at 0 ≡ l
    latest = get_or_push names l 0 at g.size

    each : (P : ℕ → ℕ → Type 0) → ((s : ℕ) → s < at → P s (get_or names s 0)) → P at l → (s : ℕ) → s < at + 1 → P s (get_or (names ++ l ∷ []) s 0)
    each P before here s h = elim (cases_lt s at) as (λ _. P s (get_or (names ++ l ∷ []) s 0)) [
      | inl low ↦ rw (kept s low) (before s low)
      | inr high ↦ let e : s ≡ at = omega (arith, h, high) in rw (e, latest) here
    ]

    -- an earlier number with the new one's name is alike, and the other way round
    alike_new : (s : ℕ) → s < at → get_or names s 0 ≡ l → R s at
    alike_new s h e = elim (cases_lt l at) as (λ _. R s at) [
      | inl low ↦ chain s l at (g.alike s l h low (e ∙ sym ((leads.earlier low).0))) ((leads.earlier low).1)
      | inr high ↦ absurd (omega (arith, g.low s h, e, high, h))
    ]

    new_alike : (s : ℕ) → s < at → R s at → get_or names s 0 ≡ l
    new_alike s h r =
        let u : ℕ = get_or names s 0 in
        let hu : get_or names s 0 < at = omega (arith, g.low s h, h) in
        let ru : R (get_or names s 0) at = chain (get_or names s 0) s at (g.alike (get_or names s 0) s hu h (g.own s h)) r in
        elim (cases_lt l at) as (λ _. get_or names s 0 ≡ l) [
          | inl low ↦ g.joined s l h low (chain s at l r (flip l at ((leads.earlier low).1))) ∙ (leads.earlier low).0
          | inr high ↦ absurd (leads.none (omega (arith, high, leads.upto)) (get_or names s 0) hu (g.own s h) ru)
        ]

    pub grouping_more : IsGrouping (at + 1) (names ++ l ∷ []) R
    grouping_more = record {
      size = length_push names l ∙ ap (λ n. n + 1) g.size;
      low = each (λ s x. x ≤ s) g.low leads.upto;
      own = each (λ s x. get_or (names ++ l ∷ []) x 0 ≡ x)
          (λ s h. kept (get_or names s 0) (omega (arith, g.low s h, h)) ∙ g.own s h)
          (elim (cases_lt l at) as (λ _. get_or (names ++ l ∷ []) l 0 ≡ l) [
            | inl low ↦ kept l low ∙ (leads.earlier low).0
            | inr high ↦ let e : l ≡ at = omega (arith, high, leads.upto) in ap (λ i. get_or (names ++ l ∷ []) i 0) e ∙ latest
          ]);
      alike = λ s t hs ht. each (λ s' x. x ≡ get_or (names ++ l ∷ []) t 0 → R s' t)
          (λ s' h'. each (λ t' y. get_or names s' 0 ≡ y → R s' t') (λ t' h'' e. g.alike s' t' h' h'' e) (λ e. alike_new s' h' e) t ht)
          (each (λ t' y. l ≡ y → R at t') (λ t' h'' e. flip t' at (alike_new t' h'' (sym e))) (λ _. itself at) t ht)
          s hs;
      joined = λ s t hs ht. each (λ s' x. R s' t → x ≡ get_or (names ++ l ∷ []) t 0)
          (λ s' h'. each (λ t' y. R s' t' → get_or names s' 0 ≡ y) (λ t' h'' r. g.joined s' t' h' h'' r) (λ r. new_alike s' h' r) t ht)
          (each (λ t' y. R at t' → l ≡ y) (λ t' h'' r. sym (new_alike t' h'' (flip at t' r))) (λ _. refl) t ht)
          s hs;
    }

-- how many of the first n numbers lead a group
pub one : ℕ → ℕ → ℕ
one x s = cond (eqb x s) 1 0

pub leaders : List ℕ → ℕ → ℕ
leaders names zero = 0
leaders names (suc n) = leaders names n + one (get_or names n 0) n

one_is : (x s : ℕ) → x ≡ s → one x s ≡ 1
unfolding one
one_is x s e = ap (λ b. cond b 1 0) (eq-eqb x s e)

one_not : (x s : ℕ) → (x ≡ s → ⊥) → one x s ≡ 0
unfolding one
one_not x s d = ap (λ b. cond b 1 0) (ne_eqb x s d)

pub leaders_upto : (names : List ℕ) (n : ℕ) → leaders names n ≤ n
unfolding leaders
leaders_upto names zero = omega arith
leaders_upto names (suc n) = elim (cases_eq (get_or names n 0) n) as (λ _. leaders names n + one (get_or names n 0) n ≤ suc n) [
  | inl e ↦ omega (arith, leaders_upto names n, one_is (get_or names n 0) n e)
  | inr d ↦ omega (arith, leaders_upto names n, one_not (get_or names n 0) n d)
]

-- the first number leads a group
pub leaders_some : (names : List ℕ) (n : ℕ) → get_or names 0 0 ≡ 0 → 0 < n → 0 < leaders names n
unfolding leaders
leaders_some names zero e h = absurd (omega (arith, h))
leaders_some names (suc n) e h = elim (cases_eq n 0) as (λ _. 0 < leaders names n + one (get_or names n 0) n) [
  | inl z ↦ let z' : n ≡ 0 = z in omega (arith, one_is (get_or names n 0) n (ap (λ i. get_or names i 0) z' ∙ (e ∙ sym z')))
  | inr d ↦ omega (arith, leaders_some names n e (omega (arith, d)))
]

-- leaders go on being leaders: there is one more, or no leader is new
pub same_or_more : (old new : List ℕ) (n : ℕ) → ((s : ℕ) → s < n → get_or old s 0 ≡ s → get_or new s 0 ≡ s) →
    (leaders old n < leaders new n) ⊎ ((leaders old n ≡ leaders new n) × ((s : ℕ) → s < n → get_or new s 0 ≡ s → get_or old s 0 ≡ s))
unfolding leaders
same_or_more old new zero keeps = inr (refl, λ s h. absurd (omega (arith, h)))
same_or_more old new (suc n) keeps =
    let rest = same_or_more old new n (λ s h. keeps s (omega (arith, h))) in
    let Goal : Type 0 = (leaders old n + one (get_or old n 0) n < leaders new n + one (get_or new n 0) n) ⊎
    ((leaders old n + one (get_or old n 0) n ≡ leaders new n + one (get_or new n 0) n) × ((s : ℕ) → s < suc n → get_or new s 0 ≡ s → get_or old s 0 ≡ s)) in
    elim (cases_eq (get_or old n 0) n) as (λ _. Goal) [
      | inl e ↦
          let a = one_is (get_or old n 0) n e in
          let b = one_is (get_or new n 0) n (keeps n (omega arith) e) in
          elim rest as (λ _. Goal) [
            | inl more ↦ inl (omega (arith, more, a, b))
            | inr same ↦ inr (
              omega (arith, same.0, a, b),
              λ s h f. elim (cases_eq s n) as (λ _. get_or old s 0 ≡ s) [
                | inl d ↦ let d' : s ≡ n = d in rw (d') e
                | inr d ↦ same.1 s (omega (arith, h, d)) f
              ],
            )
          ]
      | inr d ↦
          let a = one_not (get_or old n 0) n d in
          elim (cases_eq (get_or new n 0) n) as (λ _. Goal) [
            | inl f ↦
                let b = one_is (get_or new n 0) n f in
                elim rest as (λ _. Goal) [
                  | inl more ↦ inl (omega (arith, more, a, b))
                  | inr same ↦ inl (omega (arith, same.0, a, b))
                ]
            | inr g ↦
                let b = one_not (get_or new n 0) n g in
                elim rest as (λ _. Goal) [
                  | inl more ↦ inl (omega (arith, more, a, b))
                  | inr same ↦ inr (
                    omega (arith, same.0, a, b),
                    λ s h f. elim (cases_eq s n) as (λ _. get_or old s 0 ≡ s) [
                      | inl e ↦ let e' : s ≡ n = e in absurd (g (rw (e') at f))
                      | inr e ↦ same.1 s (omega (arith, h, e)) f
                    ],
                  )
                ]
          ]
    ]

-- two groupings of the first n numbers, the second finer
module _ (n : ℕ) (old new : List ℕ) (R S : ℕ → ℕ → Type 0) (g : IsGrouping n old R) (h : IsGrouping n new S) (finer : (s t : ℕ) → S s t → R s t) where
  finer_names : (s t : ℕ) → s < n → t < n → get_or new s 0 ≡ get_or new t 0 → get_or old s 0 ≡ get_or old t 0
  finer_names s t hs ht e = g.joined s t hs ht (finer s t (h.alike s t hs ht e))

  leads_on : (s : ℕ) → s < n → get_or old s 0 ≡ s → get_or new s 0 ≡ s
  leads_on s hs e =
      let low : get_or new s 0 ≤ s = h.low s hs in
      let hu : get_or new s 0 < n = omega (arith, low, hs) in
      let same = finer_names (get_or new s 0) s hu hs (h.own s hs) in
      let low' : get_or old (get_or new s 0) 0 ≤ get_or new s 0 = g.low (get_or new s 0) hu in
      omega (arith, low, low', same, e)

  -- there are more groups, or the names are the same
  pub more_or_same : (leaders old n < leaders new n) ⊎ ((s : ℕ) → s < n → get_or new s 0 ≡ get_or old s 0)
  more_or_same = elim (same_or_more old new n leads_on) as (λ _. (leaders old n < leaders new n) ⊎ ((s : ℕ) → s < n → get_or new s 0 ≡ get_or old s 0)) [
    | inl more ↦ inl more
    | inr same ↦ inr (λ s hs.
        let hu : get_or new s 0 < n = omega (arith, h.low s hs, hs) in
        sym (same.1 (get_or new s 0) hu (h.own s hs)) ∙ finer_names (get_or new s 0) s hu hs (h.own s hs))
  ]
