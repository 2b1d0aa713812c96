-- The rows of a leaf, as they are listed and as they are read.
use Rattle.std.proofs.Common.{◌≡◌, ℕ, zero, suc, ◌+◌, ◌<◌, ◌≤◌, Bool, true, false, cond, List, [], ◌∷◌, ◌++◌, length, get_or, drop, Option, None}
use Rattle.std.proofs.Common.{Some, Vec, ◌==◌, ◌&&◌, ◌⊎◌, inl, inr, ⊎_elim, refl, ap, sym, subst, ◌∙◌, arith, ℤ}
use Rattle.std.specs.Prelude.{not, slice_get, find, filter}
use Rattle.std.specs.Option.{option_or}
use Rattle.std.specs.List.{AllZip, position_or_len}
use Rattle.std.specs.declared.alloc.Global.{Global}
use Rattle.std.proofs.lemmas.Bool.Decides.{nat_tests}
use Rattle.std.proofs.lemmas.List.{append_assoc, append-nil, length_push, drop_more, drop_all}
use Rattle.std.proofs.lemmas.List.Folds.{find-append}
use Rattle.std.proofs.lemmas.List.FromFn.{get_or-map-range_with_len, length-map-range_with_len}
use Rattle.std.proofs.lemmas.Option.{same_Some, slice_get_past, slice_get_read, slice_get_within}
use Rattle.chart_model.specs.declared.chart.Chart.{Chart}
use Rattle.chart_model.specs.declared.state.State.{State}
use Rattle.chart_model.specs.declared.transition.Transition.{Transition}
use Rattle.chart_model.specs.States.{has_children}
use Rattle.chart_meaning.specs.declared.rows.Row.{Row}
use Rattle.chart_meaning.specs.Step.{firing, is_guard_true}
use Rattle.chart_meaning.specs.Rows.{candidates, AreRows, AreWaysDown, IsRowOf, IsRowThatFires}
use Rattle.chart_meaning.specs.Tree.{start_descendants, ancestors}

kept_at : {X : Type 0} (p q : X → Bool) (x : X) (xs : List X) (b : Bool)
    → find p (filter q xs) ≡ find (λ x. q x && p x) xs → find p (cond b (x ∷ filter q xs) (filter q xs))
    ≡ cond (b && p x) (Some x) (find (λ x. q x && p x) xs)
kept_at {X} p q x xs true e = ap (λ (o : Option X). cond (p x) (Some x) o) e
kept_at p q x xs false e = e

-- the first that passes of those that are kept
find-filter : {X : Type 0} (p q : X → Bool) (xs : List X) → find p (filter q xs) ≡ find (λ x. q x && p x) xs
find-filter p q [] = refl
find-filter p q (x ∷ xs) = kept_at p q x xs (q x) (find-filter p q xs)

-- of the transitions that may fire, the first whose guard holds is the one that fires
pub find-candidates : (transitions : List Transition) (vector memory : List ℤ) (way : List ℕ)
    → find (is_guard_true vector memory) (candidates transitions way) ≡ firing transitions vector memory way
find-candidates transitions vector memory [] = refl
find-candidates transitions vector memory (s ∷ outer) =
    let own = filter (λ (t : Transition). t.source == s) transitions in
    find-append (is_guard_true vector memory) own (candidates transitions outer)
    ∙ (λ i. option_or (find-filter (is_guard_true vector memory) (λ t. t.source == s) transitions i) (find-candidates transitions vector memory outer i))

-- the place of the first transition whose guard holds, of those that may fire
abbrev pub place_of_firing : Chart → ℕ → List ℤ → List ℤ → ℕ
place_of_firing chart leaf vector memory = position_or_len (is_guard_true vector memory) (candidates chart.transitions (ancestors chart.states leaf))

-- the first i rows do not fire
pub record IsScanning (chart : Chart) (leaf : ℕ) (vector memory : List ℤ) (rows : List Row) (i : ℕ) : Type 0 where
  pub rest : List Transition
  pub zip : AllZip (IsRowOf chart leaf) rest (drop i rows)
  pub goes : find (is_guard_true vector memory) rest ≡ firing chart.transitions vector memory (ancestors chart.states leaf)
  pub place : i + position_or_len (is_guard_true vector memory) rest ≡ place_of_firing chart leaf vector memory

pub IsScanning-start : (chart : Chart) (leaf : ℕ) (vector memory : List ℤ) (rows : List Row) → AreRows chart leaf rows
    → IsScanning chart leaf vector memory rows 0
IsScanning-start chart leaf vector memory rows are = record {
  rest = candidates chart.transitions (ancestors chart.states leaf);
  zip = are;
  goes = find-candidates chart.transitions vector memory (ancestors chart.states leaf);
  place = omega arith;
}

-- the next row, and its transition
pub record IsNextRow (chart : Chart) (leaf : ℕ) (vector memory : List ℤ) (rows : List Row) (i : ℕ) (row : Row) : Type 0 where
  pub transition : Transition
  pub is : IsRowOf chart leaf transition row
  pub rest : List Transition
  pub zip : AllZip (IsRowOf chart leaf) rest (drop (i + 1) rows)
  pub goes : cond (is_guard_true vector memory transition) (Some transition) (find (is_guard_true vector memory) rest)
      ≡ firing chart.transitions vector memory (ancestors chart.states leaf)
  pub place : i + cond (not (is_guard_true vector memory transition)) (1 + position_or_len (is_guard_true vector memory) rest) 0
      ≡ place_of_firing chart leaf vector memory

next_row : (chart : Chart) (leaf : ℕ) (vector memory : List ℤ) (rows : List Row) (i : ℕ) (row : Row)
    (rest : List Transition) → AllZip (IsRowOf chart leaf) rest (row ∷ drop (i + 1) rows)
    → find (is_guard_true vector memory) rest ≡ firing chart.transitions vector memory (ancestors chart.states leaf)
    → i + position_or_len (is_guard_true vector memory) rest ≡ place_of_firing chart leaf vector memory
    → IsNextRow chart leaf vector memory rows i row
next_row chart leaf vector memory rows i row [] zip goes place = absurd zip
next_row chart leaf vector memory rows i row (t ∷ rest) zip goes place =
    record { transition = t; is = zip.0; rest = rest; zip = zip.1; goes = goes; place = place }

pub IsScanning-next : (chart : Chart) (leaf : ℕ) (vector memory : List ℤ) (rows : List Row) (i : ℕ) (row : Row)
    → i < length rows → row ≡ get_or rows i row → IsScanning chart leaf vector memory rows i
    → IsNextRow chart leaf vector memory rows i row
IsScanning-next chart leaf vector memory rows i row h is s =
    let here : drop i rows ≡ row ∷ drop (i + 1) rows = drop_more rows i row h ∙ ap (λ (r : Row). r ∷ drop (i + 1) rows) (sym is) in
    next_row chart leaf vector memory rows i row s.rest (subst (AllZip (IsRowOf chart leaf) s.rest) here s.zip) s.goes s.place

pub row_inside : (chart : Chart) (leaf : ℕ) (vector memory : List ℤ) (rows : List Row) (i : ℕ) (row : Row)
    → i < length rows → row ≡ get_or rows i row → IsScanning chart leaf vector memory rows i
    → row.transition < length chart.transitions
row_inside chart leaf vector memory rows i row h is s = let n =
    IsScanning-next chart leaf vector memory rows i row h is s in
    slice_get_within chart.transitions row.transition n.transition n.is.is

pub IsScanning-more : (chart : Chart) (leaf : ℕ) (vector memory : List ℤ) (rows : List Row) (i : ℕ) (row : Row)
    (n : IsNextRow chart leaf vector memory rows i row) → is_guard_true vector memory n.transition ≡ false
    → IsScanning chart leaf vector memory rows (i + 1)
IsScanning-more chart leaf vector memory rows i row n fails = record {
  rest = n.rest;
  zip = n.zip;
  goes = sym (ap (λ b. cond b (Some n.transition) (find (is_guard_true vector memory) n.rest)) fails) ∙ n.goes;
  place =
      let here = ap (λ b. i + cond (not b) (1 + position_or_len (is_guard_true vector memory) n.rest) 0) fails in
      let place = n.place in
      omega arith;
}

-- the place of the row that fires
pub IsScanning-place : (chart : Chart) (leaf : ℕ) (vector memory : List ℤ) (rows : List Row) (i : ℕ) (row : Row)
    (n : IsNextRow chart leaf vector memory rows i row) → is_guard_true vector memory n.transition ≡ true
    → i ≡ place_of_firing chart leaf vector memory
IsScanning-place chart leaf vector memory rows i row n holds =
    let here = ap (λ b. i + cond (not b) (1 + position_or_len (is_guard_true vector memory) n.rest) 0) holds in
    let place = n.place in
    omega arith

pub IsScanning-found : (chart : Chart) (leaf : ℕ) (vector memory : List ℤ) (rows : List Row) (i : ℕ) (row : Row)
    (n : IsNextRow chart leaf vector memory rows i row) → i < length rows → row ≡ get_or rows i row
    → is_guard_true vector memory n.transition ≡ true
    → IsRowThatFires chart leaf (firing chart.transitions vector memory (ancestors chart.states leaf)) (slice_get rows i)
IsScanning-found chart leaf vector memory rows i row n h is holds =
    subst (IsRowThatFires chart leaf (firing chart.transitions vector memory (ancestors chart.states leaf)))
    (sym (slice_get_read rows (length rows) i row refl h is))
    (n.transition, (sym n.goes ∙ ap (λ b. cond b (Some n.transition) (find (is_guard_true vector memory) n.rest)) holds, n.is))

none_left : (chart : Chart) (leaf : ℕ) (vector memory : List ℤ) (rest : List Transition)
    → AllZip (IsRowOf chart leaf) rest [] → find (is_guard_true vector memory) rest ≡ None
none_left chart leaf vector memory [] zip = refl
none_left chart leaf vector memory (t ∷ rest) zip = absurd zip

-- where no row is left, none fires
pub IsScanning-end : (chart : Chart) (leaf : ℕ) (vector memory : List ℤ) (rows : List Row) (i : ℕ) → length rows ≤ i
    → IsScanning chart leaf vector memory rows i
    → IsRowThatFires chart leaf (firing chart.transitions vector memory (ancestors chart.states leaf)) (slice_get rows (length rows))
IsScanning-end chart leaf vector memory rows i h s =
    subst (IsRowThatFires chart leaf (firing chart.transitions vector memory (ancestors chart.states leaf)))
    (sym (slice_get_past rows (length rows) (omega arith)))
    (sym s.goes ∙ none_left chart leaf vector memory s.rest
    (subst (AllZip (IsRowOf chart leaf) s.rest) (drop_all i rows h) s.zip))

place_left : (chart : Chart) (leaf : ℕ) (vector memory : List ℤ) (rest : List Transition)
    → AllZip (IsRowOf chart leaf) rest [] → position_or_len (is_guard_true vector memory) rest ≡ 0
place_left chart leaf vector memory [] zip = refl
place_left chart leaf vector memory (t ∷ rest) zip = absurd zip

-- and the place is past them all
pub IsScanning-past : (chart : Chart) (leaf : ℕ) (vector memory : List ℤ) (rows : List Row) (i : ℕ) → i ≡ length rows
    → IsScanning chart leaf vector memory rows i → length rows ≡ place_of_firing chart leaf vector memory
IsScanning-past chart leaf vector memory rows i h s =
    let none = place_left chart leaf vector memory s.rest
    (subst (AllZip (IsRowOf chart leaf) s.rest) (drop_all i rows (omega (arith, h))) s.zip) in
    let place = s.place in
    omega (arith, h)

pub AllZip-grown : {A B : Type 0} (R : A → B → Type 0) (xs : List A) (ys : List B) (x : A) (y : B) → AllZip R xs ys
    → R x y → AllZip R (xs ++ x ∷ []) (ys ++ y ∷ [])
AllZip-grown R [] [] x y h r = (r, h)
AllZip-grown R [] (b ∷ ys) x y h r = absurd h
AllZip-grown R (a ∷ xs) [] x y h r = absurd h
AllZip-grown R (a ∷ xs) (b ∷ ys) x y h r = (h.0, AllZip-grown R xs ys x y h.1 r)

-- the rows of a state's first i transitions are added to earlier rows
pub record IsAdded (chart : Chart) (leaf s : ℕ) (before : List Transition) (i : ℕ) (rows : List Row) : Type 0 where
  pub seen : List Transition
  pub zip : AllZip (IsRowOf chart leaf) seen rows
  pub goes : seen ++ filter (λ t. t.source == s) (drop i chart.transitions) ≡ before ++ filter (λ t. t.source == s) chart.transitions

pub record IsAdding (chart : Chart) (leaf s : ℕ) (old : List Row) (i : ℕ) (rows : List Row) : Type 0 where
  pub each : (before : List Transition) → AllZip (IsRowOf chart leaf) before old → IsAdded chart leaf s before i rows

pub IsAdding-start : (chart : Chart) (leaf s : ℕ) (rows : List Row) → IsAdding chart leaf s rows 0 rows
IsAdding-start chart leaf s rows = record { each = λ before zip. record { seen = before; zip = zip; goes = refl } }

kept : (s : ℕ) (t : Transition) (rest : List Transition) → t.source ≡ s → filter (λ t. t.source == s) (t ∷ rest) ≡ t ∷ filter (λ t. t.source == s) rest
kept s t rest e = let b : (t.source == s) ≡ true =
    grind (arith, nat_tests) in
    ap (λ x. cond x (t ∷ filter (λ t. t.source == s) rest) (filter (λ t. t.source == s) rest)) b

dropped : (s : ℕ) (t : Transition) (rest : List Transition) → (t.source ≡ s → ⊥) → filter (λ t. t.source == s) (t ∷ rest) ≡ filter (λ t. t.source == s) rest
dropped s t rest e = let b : (t.source == s) ≡ false =
    grind (arith, nat_tests) in
    ap (λ x. cond x (t ∷ filter (λ t. t.source == s) rest) (filter (λ t. t.source == s) rest)) b

pub IsAdding-push : (chart : Chart) (leaf s : ℕ) (old : List Row) (i : ℕ) (rows : List Row) (t : Transition)
    (row : Row) → i < length chart.transitions → t ≡ get_or chart.transitions i t → t.source ≡ s
    → IsRowOf chart leaf t row → IsAdding chart leaf s old i rows → IsAdding chart leaf s old (i + 1) (rows ++ row ∷ [])
IsAdding-push chart leaf s old i rows t row h is from of a = record {
  each = λ before zip.
      let b = a.each before zip in
      let here : drop i chart.transitions ≡ t ∷ drop (i + 1) chart.transitions =
      drop_more chart.transitions i t h ∙ ap (λ (x : Transition). x ∷ drop (i + 1) chart.transitions) (sym is) in
      let more : filter (λ t. t.source == s) (drop i chart.transitions) ≡ t ∷ filter (λ t. t.source == s) (drop (i + 1) chart.transitions) =
      ap (filter (λ (t : Transition). t.source == s)) here ∙ kept s t (drop (i + 1) chart.transitions) from in
      record {
        seen = b.seen ++ t ∷ [];
        zip = AllZip-grown (IsRowOf chart leaf) b.seen rows t row b.zip of;
        goes = append_assoc b.seen (t ∷ []) (filter (λ t. t.source == s) (drop (i + 1) chart.transitions))
            ∙ ap (λ (r : List Transition). b.seen ++ r) (sym more) ∙ b.goes;
      };
}

pub IsAdding-skip : (chart : Chart) (leaf s : ℕ) (old : List Row) (i : ℕ) (rows : List Row) (t : Transition)
    → i < length chart.transitions → t ≡ get_or chart.transitions i t → (t.source ≡ s → ⊥)
    → IsAdding chart leaf s old i rows → IsAdding chart leaf s old (i + 1) rows
IsAdding-skip chart leaf s old i rows t h is from a = record {
  each = λ before zip.
      let b = a.each before zip in
      let here : drop i chart.transitions ≡ t ∷ drop (i + 1) chart.transitions =
      drop_more chart.transitions i t h ∙ ap (λ (x : Transition). x ∷ drop (i + 1) chart.transitions) (sym is) in
      let more : filter (λ t. t.source == s) (drop i chart.transitions) ≡ filter (λ t. t.source == s) (drop (i + 1) chart.transitions) =
      ap (filter (λ (t : Transition). t.source == s)) here ∙ dropped s t (drop (i + 1) chart.transitions) from in
      record { seen = b.seen; zip = b.zip; goes = ap (λ (r : List Transition). b.seen ++ r) (sym more) ∙ b.goes };
}

added_all : (chart : Chart) (leaf s : ℕ) (before seen : List Transition) (rows : List Row)
    → AllZip (IsRowOf chart leaf) seen rows → seen ++ [] ≡ before ++ filter (λ t. t.source == s) chart.transitions
    → AllZip (IsRowOf chart leaf) (before ++ filter (λ t. t.source == s) chart.transitions) rows
added_all chart leaf s before seen rows zip e = subst (λ (ts : List Transition). AllZip (IsRowOf chart leaf) ts rows) (sym (append-nil seen) ∙ e) zip

pub IsAdding-end : (chart : Chart) (leaf s : ℕ) (old : List Row) (i : ℕ) (rows : List Row)
    → length chart.transitions ≤ i → IsAdding chart leaf s old i rows → (before : List Transition)
    → AllZip (IsRowOf chart leaf) before old
    → AllZip (IsRowOf chart leaf) (before ++ filter (λ t. t.source == s) chart.transitions) rows
IsAdding-end chart leaf s old i rows h a before zip =
    let b = a.each before zip in
    added_all chart leaf s before b.seen rows b.zip
    (ap (λ (ts : List Transition). b.seen ++ filter (λ t. t.source == s) ts)
    (sym (drop_all i chart.transitions h)) ∙ b.goes)

-- the rows of the first i active states are listed
pub record IsCollecting (chart : Chart) (leaf : ℕ) (way : List ℕ) (i : ℕ) (rows : List Row) : Type 0 where
  pub seen : List Transition
  pub zip : AllZip (IsRowOf chart leaf) seen rows
  pub goes : seen ++ candidates chart.transitions (drop i way) ≡ candidates chart.transitions way

pub IsCollecting-start : (chart : Chart) (leaf : ℕ) (way : List ℕ) (rows : List Row) → rows ≡ [] → IsCollecting chart leaf way 0 rows
IsCollecting-start chart leaf way rows e = record { seen = []; zip = rw e tt; goes = refl }

pub IsCollecting-more : (chart : Chart) (leaf : ℕ) (way : List ℕ) (i : ℕ) (old rows : List Row) → i < length way
    → ((seen : List Transition) → AllZip (IsRowOf chart leaf) seen old
    → AllZip (IsRowOf chart leaf) (seen ++ filter (λ t. t.source == get_or way i 0) chart.transitions) rows)
    → IsCollecting chart leaf way i old → IsCollecting chart leaf way (i + 1) rows
IsCollecting-more chart leaf way i old rows h added x =
    let own = filter (λ (t : Transition). t.source == get_or way i 0) chart.transitions in
    record {
      seen = x.seen ++ own;
      zip = added x.seen x.zip;
      goes = append_assoc x.seen own (candidates chart.transitions (drop (i + 1) way))
          ∙ ap (λ (w : List ℕ). x.seen ++ candidates chart.transitions w) (sym (drop_more way i 0 h)) ∙ x.goes;
    }

pub IsCollecting-end : (chart : Chart) (leaf : ℕ) (way : List ℕ) (i : ℕ) (rows : List Row) → length way ≤ i
    → IsCollecting chart leaf way i rows → AllZip (IsRowOf chart leaf) (candidates chart.transitions way) rows
IsCollecting-end chart leaf way i rows h x =
    subst (λ (ts : List Transition). AllZip (IsRowOf chart leaf) ts rows)
    (sym (append-nil x.seen) ∙ ap (λ (w : List ℕ). x.seen ++ candidates chart.transitions w)
    (sym (drop_all i way h)) ∙ x.goes) x.zip

-- the rows of the first i states are listed
pub record IsListing (chart : Chart) (i : ℕ) (all : List (Vec Row Global)) : Type 0 where
  pub size : length all ≡ i
  pub leaf : (s : ℕ) (seen : Vec Row Global) → slice_get all s ≡ Some seen → has_children chart.states s ≡ false → AreRows chart s seen.items

slice_get_push : {X : Type 0} (xs : List X) (y : X) (s : ℕ) (x : X) → slice_get (xs ++ y ∷ []) s ≡ Some x
    → ((s ≡ length xs) × (y ≡ x)) ⊎ (slice_get xs s ≡ Some x)
slice_get_push [] y zero x e = inl (refl, same_Some y x e)
slice_get_push [] y (suc s) x e = absurd cc
slice_get_push (z ∷ xs) y zero x e = inr e
slice_get_push (z ∷ xs) y (suc s) x e = ⊎_elim (λ p. inl (ap suc p.0, p.1)) (λ q. inr q) (slice_get_push xs y s x e)

pub IsListing-push : (chart : Chart) (i : ℕ) (all : List (Vec Row Global)) (rows : Vec Row Global)
    → (has_children chart.states i ≡ false → AreRows chart i rows.items) → IsListing chart i all
    → IsListing chart (i + 1) (all ++ rows ∷ [])
IsListing-push chart i all rows are x = record {
  size = let n = length_push all rows in let size = x.size in omega arith;
  leaf = λ s seen e none.
      ⊎_elim (λ p.
      let at : s ≡ i = p.0 ∙ x.size in
      subst (λ (v : Vec Row Global). AreRows chart s v.items) p.1
      (subst (λ (k : ℕ). AreRows chart k rows.items) (sym at)
      (are (subst (λ (k : ℕ). has_children chart.states k ≡ false) at none)))) (λ q. x.leaf s seen q none)
      (slice_get_push all rows s seen e);
}

-- a way down that is kept
pub way_kept : (states : List State) (ways : List (List ℕ)) (s : ℕ) (way : List ℕ) → AreWaysDown states ways
    → s < length states → way ≡ get_or ways s way → way ≡ start_descendants states s
way_kept states ways s way are h is =
    is ∙ ap (λ (ws : List (List ℕ)). get_or ws s way) are ∙ get_or-map-range_with_len (start_descendants states) 0
    (length states) s s way h (omega arith)

pub way_inside : (states : List State) (ways : List (List ℕ)) (s : ℕ) → AreWaysDown states ways → s < length states → s < length ways
way_inside states ways s are h = let n = ap length are in let m = length-map-range_with_len (start_descendants states) 0 (length states) in omega arith
