-- How the program keeps a configuration, and what `==` says of two of them: they are the same configuration.
use Rattle.std.specs.Prelude.{◌≡◌, ℕ, zero, suc, ℤ, pos, Bool, true, false, ◌&&◌, List, [], ◌∷◌, ◌++◌, length, map, take, Option, None, Some, nat_eq}
use Rattle.std.specs.Cmp.{IsEquivalence}
use Rattle.std.specs.Cmp.Lexicographic.{pointwise}
use Rattle.std.specs.Ordering.{on, eq_of_both, int_eq}
use Rattle.std.specs.Hash as fed
use Rattle.std.proofs.Common.{refl, ap, sym, ◌∙◌}
use Rattle.std.proofs.lemmas.Bool.{false≢true}
use Rattle.std.proofs.lemmas.Bool.Decides.{Decides-eqb}
use Rattle.std.proofs.lemmas.Cmp.{nat_eq_equiv, int_eq_equiv, lists_equiv, on_equiv, and_equiv}
use Rattle.std.proofs.lemmas.List.{length-map}
use Rattle.lin_form.specs.Padded.{padded, IsPadded, padded-take, length-taken}
use Rattle.lin_form.specs.Same.{same_numbers, same_bytes}
use Rattle.chart_meaning.specs.Configuration.{Configuration}

-- a last child as a number: 0 for none, and else one more than the child's
abbrev pub code_of : Option ℕ → ℕ
code_of None = 0
code_of (Some child) = suc child

-- the last child that a number stands for
abbrev pub child_of : ℕ → Option ℕ
child_of zero = None
child_of (suc child) = Some child

-- the arrays of a configuration hold zeros past what the chart declares
pub record IsStored (memories outputs states : ℕ) (memory values : List ℤ) (last : List ℕ) : Type 0 where
  pub memory_places : IsPadded (pos 0) 4 memories memory
  pub output_places : IsPadded (pos 0) 8 outputs values
  pub last_places : IsPadded 0 64 states last

-- the last children as numbers
abbrev pub codes_of : Configuration → List ℕ
codes_of c = map code_of c.last

-- all parts are the same
abbrev pub is_same : Configuration → Configuration → Bool
is_same = eq_of_both (on (λ (c : Configuration). c.leaf) nat_eq)
    (eq_of_both (on (λ (c : Configuration). c.memory) (pointwise int_eq))
    (eq_of_both (on (λ (c : Configuration). c.outputs) (pointwise int_eq)) (on codes_of (pointwise nat_eq))))

pub is_same_equiv : IsEquivalence is_same
is_same_equiv = and_equiv (on_equiv (λ (c : Configuration). c.leaf) nat_eq_equiv)
    (and_equiv (on_equiv (λ (c : Configuration). c.memory) (lists_equiv int_eq_equiv))
    (and_equiv (on_equiv (λ (c : Configuration). c.outputs) (lists_equiv int_eq_equiv)) (on_equiv codes_of (lists_equiv nat_eq_equiv))))

pub map-child_of : (codes : List ℕ) → map code_of (map child_of codes) ≡ codes
map-child_of [] = refl
map-child_of (zero ∷ codes) = ap (λ rest. zero ∷ rest) (map-child_of codes)
map-child_of (suc child ∷ codes) = ap (λ rest. suc child ∷ rest) (map-child_of codes)

pub codes-taken : {states : ℕ} {codes : List ℕ} → IsPadded 0 64 states codes → padded 0 64 (map code_of (map child_of (take states codes))) ≡ codes
codes-taken {states = states} {codes} h = ap (padded 0 64) (map-child_of (take states codes)) ∙ padded-take h

pub length-children : {states : ℕ} {codes : List ℕ} → IsPadded 0 64 states codes → length (map child_of (take states codes)) ≡ states
length-children {states = states} {codes} h = length-map (take states codes) child_of ∙ length-taken h

map-code_of : (last : List (Option ℕ)) → map child_of (map code_of last) ≡ last
map-code_of [] = refl
map-code_of (None ∷ last) = ap (λ rest. None ∷ rest) (map-code_of last)
map-code_of (Some child ∷ last) = ap (λ rest. Some child ∷ rest) (map-code_of last)

-- the same codes are those of the same children
same_codes : (x y : List (Option ℕ)) → map code_of x ≡ map code_of y → x ≡ y
same_codes x y e = sym (map-code_of x) ∙ ap (map child_of) e ∙ map-code_of y

both_true : (a b : Bool) → (a && b) ≡ true → (a ≡ true) × (b ≡ true)
both_true true b e = (refl, e)
both_true false b e = absurd (false≢true e)

-- what `==` finds the same is the same
pub same_configurations : (x y : Configuration) → is_same x y ≡ true → x ≡ y
same_configurations x y e =
    let p = both_true (nat_eq x.leaf y.leaf) _ e in
    let q = both_true (pointwise int_eq x.memory y.memory) _ p.1 in
    let r = both_true (pointwise int_eq x.outputs y.outputs) _ q.1 in
    let leaf : x.leaf ≡ y.leaf = (Decides-eqb x.leaf y.leaf).0 p.0 in
    let memory : x.memory ≡ y.memory = same_numbers x.memory y.memory q.0 in
    let outputs : x.outputs ≡ y.outputs = same_numbers x.outputs y.outputs r.0 in
    let last : x.last ≡ y.last = same_codes x.last y.last (same_bytes (codes_of x) (codes_of y) r.1) in
    λ i. record { leaf = leaf i; memory = memory i; outputs = outputs i; last = last i }

-- what a hasher is fed
abbrev pub fed_by : Configuration → fed.HashWrites
fed_by c = fed.u8 c.leaf ++ (fed.slice fed.i16 c.memory ++ (fed.slice fed.i64 c.outputs ++ codes_of c ∷ []))
