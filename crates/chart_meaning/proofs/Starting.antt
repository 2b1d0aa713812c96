-- How the starting configuration is filled in.
use Rattle.std.proofs.Common.{◌≡◌, ℕ, zero, suc, ◌+◌, ◌-◌, ◌<◌, ◌≤◌, Bool, true, false, List, [], ◌∷◌, ◌++◌, length, get_or, take, set, map}
use Rattle.std.proofs.Common.{replicate, Option, None, Some, ℤ, pos, if◌then◌else◌, refl, ap, sym, subst, ◌∙◌, arith}
use Rattle.std.specs.Prelude.{slice_get, unsigned_abs}
use Rattle.std.specs.List.{AllByRecursion, AllZip, range_with_len}
use Rattle.std.proofs.lemmas.List.{append_assoc, append-nil, length-append, length-map, length-take-le, map_more, set_at, take_all, get_or_at}
use Rattle.std.proofs.lemmas.List.Elements.{All-weaker, recursion_from_All}
use Rattle.std.proofs.lemmas.List.FromFn.{length-range_with_len, get_or-range_with_len, get_or-map-range_with_len, length-map-range_with_len}
use Rattle.std.proofs.lemmas.Option.{slice_get-get_or, slice_get_within, get_or_from_slice_get, same_Some}
use Rattle.chart_model.specs.declared.chart.Chart.{Chart}
use Rattle.chart_model.specs.declared.state.Memory.{Memory}
use Rattle.chart_model.specs.Chart.{IsMemory}
use Rattle.chart_model.specs.States.{is_start_child_of}
use Rattle.chart_meaning.specs.Configuration.{Configuration}
use Rattle.chart_meaning.specs.Step.{declared, enter, enter_all, first_last, is_remembering}
use Rattle.chart_meaning.specs.Tree.{start_child, start_descendants}
use Rattle.chart_meaning.specs.IsConfiguration.{AreLastChildren, AreValues, IsConfiguration, IsInMemory, IsLastOf}
use Rattle.chart_meaning.proofs.Climbing.{start_child-parent}
use Rattle.chart_meaning.proofs.Moving.{AreStates-start_descendants, enter_all-last, enter_all-leaf, first_counted, reached, reached-inside, start_descendants-childless}
use Rattle.chart_meaning.proofs.Leaving.{AreLastChildren-same, remembering-children}

-- the first i places hold their values, the others the filler
pub record IsFilled {X Y : Type 0} (f : X → Y) (filler : Y) (xs : List X) (i : ℕ) (ys : List Y) : Type 0 where
  pub is : ys ≡ map f (take i xs) ++ replicate (length xs - i) filler

pub IsFilled-start : {X Y : Type 0} (f : X → Y) (filler : Y) (xs : List X) (ys : List Y) → ys ≡ replicate (length xs) filler → IsFilled f filler xs 0 ys
IsFilled-start {X} {Y} f filler xs ys e = record { is = let n : length xs ≡ length xs - 0 = omega arith in e ∙ ap (λ m. replicate {A = Y} m filler) n }

length-filled : {X Y : Type 0} (f : X → Y) (xs : List X) (i : ℕ) → i ≤ length xs → length (map f (take i xs)) ≡ i
length-filled f xs i h = length-map (take i xs) f ∙ length-take-le i xs h

fillers : {Y : Type 0} (filler : Y) (n i : ℕ) → i < n → replicate (n - i) filler ≡ filler ∷ replicate (n - (i + 1)) filler
fillers {Y} filler n i h = let e : n - i ≡ suc (n - (i + 1)) = omega arith in ap (λ m. replicate {A = Y} m filler) e

pub IsFilled-more : {X Y : Type 0} (f : X → Y) (filler : Y) (xs : List X) (i : ℕ) (d : X) (ys : List Y) (y : Y)
    → i < length xs → y ≡ f (get_or xs i d) → IsFilled f filler xs i ys → IsFilled f filler xs (i + 1) (set ys i y)
IsFilled-more {X} {Y} f filler xs i d ys y h e s = record {
  is =
      let front = map f (take i xs) in
      let rest = replicate (length xs - (i + 1)) filler in
      let whole : ys ≡ front ++ filler ∷ rest = s.is ∙ ap (λ (r : List Y). front ++ r) (fillers filler (length xs) i h) in
      ap (λ (l : List Y). set l i y) whole ∙ set_at front filler rest y i (length-filled f xs i (omega arith)) ∙ sym (append_assoc front (y ∷ []) rest)
      ∙ ap (λ (l : List Y). l ++ rest) (ap (λ (z : Y). front ++ z ∷ []) e ∙ sym (map_more f xs i d h));
}

pub IsFilled-at : {X Y : Type 0} (f : X → Y) (filler : Y) (xs : List X) (i : ℕ) (ys : List Y) → i < length xs
    → IsFilled f filler xs i ys → slice_get ys i ≡ Some filler
IsFilled-at {X} {Y} f filler xs i ys h s =
    let front = map f (take i xs) in
    let rest = replicate (length xs - (i + 1)) filler in
    let whole : ys ≡ front ++ filler ∷ rest = s.is ∙ ap (λ (r : List Y). front ++ r) (fillers filler (length xs) i h) in
    let n = length-filled f xs i (omega arith) in
    let size = length-append front (filler ∷ rest) in
    let inside : i < length (front ++ filler ∷ rest) = omega arith in
    ap (λ (l : List Y). slice_get l i) whole ∙ slice_get-get_or (front ++ filler ∷ rest) i filler inside ∙ ap Some (get_or_at front filler rest filler i n)

pub IsFilled-inside : {X Y : Type 0} (f : X → Y) (filler : Y) (xs : List X) (i : ℕ) (ys : List Y) → i < length xs → IsFilled f filler xs i ys → i < length ys
IsFilled-inside f filler xs i ys h s = slice_get_within ys i filler (IsFilled-at f filler xs i ys h s)

pub IsFilled-end : {X Y : Type 0} (f : X → Y) (filler : Y) (xs : List X) (i : ℕ) (ys : List Y) → length xs ≤ i → IsFilled f filler xs i ys → ys ≡ map f xs
IsFilled-end {X} {Y} f filler xs i ys h s =
    let none : length xs - i ≡ 0 = omega arith in
    s.is ∙ (λ j. map f (take_all i xs h j) ++ replicate (none j) filler) ∙ append-nil (map f xs)

-- the memories take their declared values one by one
pub record IsSettingInitial (memories : List Memory) (start : Configuration) (i : ℕ) (c : Configuration) : Type 0 where
  pub filled : IsFilled (λ (memory : Memory). memory.initial) (pos 0) memories i c.memory
  pub same : c ≡ record start { memory = c.memory }

pub record IsSettingLast (chart : Chart) (start : Configuration) (i : ℕ) (c : Configuration) : Type 0 where
  pub filled : IsFilled (first_last chart) None (range_with_len 0 (length chart.states)) i c.last
  pub same : c ≡ record start { last = c.last }

pub IsSettingInitial-more : (memories : List Memory) (start c d : Configuration) (i : ℕ) (memory : Memory)
    → i < length memories → memory ≡ get_or memories i memory
    → d ≡ record c { memory = set c.memory i memory.initial } → IsSettingInitial memories start i c
    → IsSettingInitial memories start (i + 1) d
IsSettingInitial-more memories start c d i memory h is e s =
    let values : d.memory ≡ set c.memory i memory.initial = ap (λ (x : Configuration). x.memory) e in
    record {
      filled = rw values (IsFilled-more (λ (m : Memory). m.initial) (pos 0) memories i memory c.memory memory.initial
          h (ap (λ (m : Memory). m.initial) is) s.filled);
      same = e ∙ ap (λ (x : Configuration). record x { memory = set c.memory i memory.initial }) s.same
          ∙ ap (λ (values : List ℤ). record start { memory = values }) (sym values);
    }

pub IsSettingLast-start : (chart : Chart) (c : Configuration) → c.last ≡ replicate (length chart.states) None → IsSettingLast chart c 0 c
IsSettingLast-start chart c e = record {
  filled = IsFilled-start (first_last chart) None (range_with_len 0 (length chart.states)) c.last
      (let n = length-range_with_len 0 (length chart.states) in e ∙ ap (λ m. replicate {A = Option ℕ} m None) (sym n));
  same = refl;
}

pub IsSettingLast-none : (chart : Chart) (start c : Configuration) (i : ℕ) → i < length chart.states
    → IsSettingLast chart start i c → slice_get c.last i ≡ Some None
IsSettingLast-none chart start c i h s = let n = length-range_with_len 0 (length chart.states) in
    IsFilled-at (first_last chart) None (range_with_len 0 (length chart.states)) i c.last (omega arith) s.filled

pub IsSettingLast-more : (chart : Chart) (start c d : Configuration) (i : ℕ) → i < length chart.states
    → d ≡ record c { last = set c.last i (first_last chart i) } → IsSettingLast chart start i c
    → IsSettingLast chart start (i + 1) d
IsSettingLast-more chart start c d i h e s =
    let n = length-range_with_len 0 (length chart.states) in
    let inside : i < length (range_with_len 0 (length chart.states)) = omega arith in
    let last : d.last ≡ set c.last i (first_last chart i) = ap (λ (x : Configuration). x.last) e in
    let at : i ≡ get_or (range_with_len 0 (length chart.states)) i 0 = let g = get_or-range_with_len 0 (length chart.states) i 0 h in omega arith in
    record {
      filled = rw last (IsFilled-more (first_last chart) None (range_with_len 0 (length chart.states)) i 0 c.last
          (first_last chart i) inside (ap (first_last chart) at) s.filled);
      same = e ∙ ap (λ (x : Configuration). record x { last = set c.last i (first_last chart i) }) s.same
          ∙ ap (λ (last : List (Option ℕ)). record start { last = last }) (sym last);
    }

pub IsSettingLast-end : (chart : Chart) (start c : Configuration) (i : ℕ) → length chart.states ≤ i
    → IsSettingLast chart start i c
    → c ≡ record start { last = map (first_last chart) (range_with_len 0 (length chart.states)) }
IsSettingLast-end chart start c i h s =
    let n = length-range_with_len 0 (length chart.states) in
    s.same ∙ ap (λ (last : List (Option ℕ)). record start { last = last })
    (IsFilled-end (first_last chart) None (range_with_len 0 (length chart.states)) i c.last (omega arith) s.filled)

pub set_same : {X : Type 0} (xs : List X) (i : ℕ) (x : X) → slice_get xs i ≡ Some x → set xs i x ≡ xs
set_same [] i x e = refl
set_same {X} (y ∷ xs) zero x e = ap (λ (z : X). z ∷ xs) (sym (same_Some y x e))
set_same {X} (y ∷ xs) (suc i) x e = ap (λ (l : List X). y ∷ l) (set_same xs i x e)

-- a remembering state has a start child
first_child : (chart : Chart) (s : ℕ) (o : Option ℕ) → is_remembering chart.transitions s ≡ true → start_child chart.states s ≡ o → IsLastOf chart s o
first_child chart s None r e = absurd (first_counted (is_start_child_of s) chart.states (chart.kept.tree.starts s (remembering-children chart s r)) e)
first_child chart s (Some child) r e = (r, (start_child-parent chart.states s child e).1)

first_last_at : (chart : Chart) (s : ℕ) (b : Bool) → is_remembering chart.transitions s ≡ b → IsLastOf chart s (if b then start_child chart.states s else None)
first_last_at chart s true e = first_child chart s (start_child chart.states s) e refl
first_last_at chart s false e = e

pub IsLastOf-first : (chart : Chart) (s : ℕ) → IsLastOf chart s (first_last chart s)
IsLastOf-first chart s = first_last_at chart s (is_remembering chart.transitions s) refl

pub AreLastChildren-declared : (chart : Chart) (s : ℕ) → AreLastChildren chart (declared chart s)
AreLastChildren-declared chart s =
    let n = length chart.states in
    record {
      one_each = length-map-range_with_len (first_last chart) 0 n;
      child = λ t o g.
          let size = length-map-range_with_len (first_last chart) 0 n in
          let h = slice_get_within (map (first_last chart) (range_with_len 0 n)) t o g in
          let is : first_last chart t ≡ o =
          sym (get_or-map-range_with_len (first_last chart) 0 n t t o (omega arith) (omega arith))
          ∙ get_or_from_slice_get (map (first_last chart) (range_with_len 0 n)) t o o g in
          subst (IsLastOf chart t) is (IsLastOf-first chart t);
    }

initial_in : (memories : List Memory) → AllByRecursion IsMemory memories → AllZip IsInMemory memories (map (λ memory. memory.initial) memories)
initial_in [] h = tt
initial_in (memory ∷ memories) h = ((h.0.above, h.0.below), initial_in memories h.1)

pub AreValues-declared : (chart : Chart) (s : ℕ) → AreValues chart (declared chart s)
AreValues-declared chart s = record {
  memory = initial_in chart.memories (recursion_from_All IsMemory chart.memories chart.kept.ranges);
  outputs = chart.kept.one_value_each;
  limited = All-weaker (λ z. unsigned_abs z ≤ 1000000) (λ z. unsigned_abs z < 1000000000000) (λ z h. omega arith) chart.initial chart.kept.small;
}

-- the starting configuration
pub IsConfiguration-started : (chart : Chart) (top : ℕ) (c d e : Configuration) → top < length chart.states
    → AreLastChildren chart c → AreValues chart e → d ≡ enter chart top c
    → e ≡ enter_all chart (start_descendants chart.states top) d → IsConfiguration chart e
IsConfiguration-started chart top c d e h last values entered down =
    let way = start_descendants chart.states top in
    let whole : e ≡ enter_all chart (top ∷ way) c = down ∙ ap (enter_all chart way) entered in
    let leaf : e.leaf ≡ reached top way = ap (λ (x : Configuration). x.leaf) whole ∙ enter_all-leaf chart (top ∷ way) c in
    record {
      state = rw leaf (reached-inside chart.states top way h (AreStates-start_descendants chart.states top));
      childless = rw leaf (start_descendants-childless chart.states chart.kept.tree top h);
      values = values;
      last = AreLastChildren-same chart c e (ap (λ (x : Configuration). x.last) whole ∙ enter_all-last chart (top ∷ way) c) last;
    }
