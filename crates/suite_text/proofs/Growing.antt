-- A sink that takes the parts of a text one after another.
use Rattle.std.proofs.Common.{codes, ◌≡◌, ℕ, ℤ, zero, suc, ◌+◌, ◌<◌, ◌≤◌, ◌*◌, List, [], ◌∷◌, ◌++◌, length, take, drop, map, get_or, Option, Some, None, refl, ap, sym, subst, ◌∙◌, append-nil, arith, slice_get, option_map, Err}
use Rattle.std.specs.List.{flat_map}
use Rattle.std.proofs.lemmas.List.{take_more, take_at, get_or-take, get_or_read, take-append-drop, take-take, length-map}
use Rattle.std.proofs.lemmas.List.Concat.{flat_map-append}
use Rattle.std.proofs.lemmas.Option.{slice_get_within, slice_get-get_or, get_or_from_slice_get, slice_get-map, same_Some, none-some}
use Rattle.test_world.specs.Growth.{IsLonger}
use Rattle.test_world.specs.Sink.{SinkState, Grows, GrowsByPrefix, Puts}
use Rattle.test_world.proofs.Growing.{grows_by_both, prefix_after, prefix_before, rose_before}
use Rattle.suite_model.specs.Scratch.{Place, IsMadeFor}
use Rattle.strict_lines.specs.Lines.{Token, line_text}
use Rattle.suite_model.specs.Text.{natural_line, input_line, output_line, class_line, letters_line, step_line, step_lines, test_lines, suite_text}
use Rattle.suite_text.specs.inside.Parts.{text_of, part_text, parts, parts_text}
use Rattle.suite_text.specs.declared.write.Part.{Part}
use Rattle.subject.specs.Suite.{SuiteParts, Test}
use Rattle.suite_model.specs.Suite.{IsSuite}
use Rattle.std.specs.List.{All, AllZip}
use Rattle.std.proofs.lemmas.List.Elements.{All-get_or}
use Rattle.lin_form.specs.Range.{IsInRange}
use Rattle.lin_form.specs.Signature.{IsInInputRanges, ranges_of, range_of}

-- the parts up to one more
pub front_more : {X : Type 0} (f : X → List ℕ) (xs : List X) (i : ℕ) (x : X) → slice_get xs i ≡ Some x → flat_map f (take (i + 1) xs) ≡ flat_map f (take i xs) ++ f x
front_more f xs i x e =
    ap (flat_map f) (take_more xs i x (slice_get_within xs i x e) ∙ ap (λ y. take i xs ++ y ∷ []) (get_or_from_slice_get xs i x x e))
    ∙ flat_map-append f (take i xs) (x ∷ []) ∙ ap (λ y. flat_map f (take i xs) ++ y) (append-nil (f x))

pub part_more : {X : Type 0} (f : X → List ℕ) (xs : List X) (i : ℕ) (x : X) (old between new : Option (List ℕ)) → slice_get xs i ≡ Some x → IsLonger old between (flat_map f (take i xs)) → IsLonger between new (f x) → IsLonger old new (flat_map f (take (i + 1) xs))
part_more f xs i x old between new e first next = subst (IsLonger old new) (sym (front_more f xs i x e)) (grows_by_both old between new _ _ first next)

pub part_stop : {X : Type 0} (f : X → List ℕ) (xs : List X) (i : ℕ) (x : X) (old between new : SinkState) → slice_get xs i ≡ Some x → Grows old between (flat_map f (take i xs)) → GrowsByPrefix between new (f x) → GrowsByPrefix old new (flat_map f xs)
part_stop f xs i x old between new e first next =
    let whole : flat_map f xs ≡ (flat_map f (take i xs) ++ f x) ++ flat_map f (drop (i + 1) xs) =
    ap (flat_map f) (sym (take-append-drop (i + 1) xs)) ∙ flat_map-append f (take (i + 1) xs) (drop (i + 1) xs) ∙ ap (λ y. y ++ flat_map f (drop (i + 1) xs)) (front_more f xs i x e) in
    subst (GrowsByPrefix old new) (sym whole) (prefix_before old new _ _ (prefix_after old between new _ _ first next))

-- a row of a list of rows is that of an element
pub of_map : {X Y : Type 0} (f : X → Y) (xs : List X) (i : ℕ) (y : Y) → slice_get (map f xs) i ≡ Some y → (x : X) × (slice_get xs i ≡ Some x) × (f x ≡ y)
of_map f xs i y e = here (slice_get xs i) refl
  where
    here : (o : Option _) → slice_get xs i ≡ o → (x : _) × (slice_get xs i ≡ Some x) × (f x ≡ y)
    here None h = absurd (none-some y (sym (ap (option_map f) h) ∙ sym (slice_get-map f xs i) ∙ e))
    here (Some x) h = (x, h, same_Some _ _ (sym (ap (option_map f) h) ∙ sym (slice_get-map f xs i) ∙ e))

pub lettered : (word w : List ℕ) (n : ℕ) (put old line : List ℕ) → n ≡ length w → put ≡ w ++ drop (length w) old → line ≡ line_text (letters_line word (take n put)) → line ≡ line_text (letters_line word w)
lettered word w n put old line count e is = is ∙ ap (λ x. line_text (letters_line word x)) (ap (take n) e ∙ take_at w (drop (length w) old) n (sym count))

pub row_lettered : (word : List ℕ) (ws : List (List ℕ)) (i : ℕ) (row : List Token) (n : ℕ) (put old line : List ℕ) → slice_get (map (letters_line word) ws) i ≡ Some row
    → ((w : List ℕ) → slice_get ws i ≡ Some w → (n ≡ length w) × (put ≡ w ++ drop (length w) old)) → line ≡ line_text (letters_line word (take n put)) → line ≡ line_text row
row_lettered word ws i row n put old line e says is =
    let x = of_map (letters_line word) ws i row e in
    let s = says x.0 x.1 in
    lettered word x.0 n put old line s.0 s.1 is ∙ ap line_text x.2

pub row_there : (rows : List (List Token)) (i n : ℕ) → i < n → n ≡ length rows → slice_get rows i ≡ Some (get_or rows i [])
row_there rows i n inside e = slice_get-get_or rows i [] (omega arith)

-- the exit of a loop at a part that was not put whole
pub part_fails : {T E : Type 0} {X : Type 0} (f : X → List ℕ) (xs : List X) (i : ℕ) (x : X) (old between new : SinkState) (e : E) → slice_get xs i ≡ Some x → Grows old between (flat_map f (take i xs)) → old.faults ≤ between.faults
    → Puts {T = T} {E = E} between new (f x) (Err e) → Puts {T = T} {E = E} old new (flat_map f xs) (Err e)
part_fails f xs i x old between new e there first early next =
    let late : between.faults ≤ new.faults = next.later in
    record { put = (part_stop f xs i x old between new there first next.put.0, rose_before old.faults between.faults new.faults early next.put.1); later = omega arith }

-- a line up to a later end
cut_more : {A : Type 0} (a b : ℕ) (line : List A) → a ≤ b → take b line ≡ take a line ++ drop a (take b line)
cut_more a b line small = sym (take-append-drop a (take b line)) ∙ ap (λ x. x ++ drop a (take b line)) (take-take a b line small)

pub cut_grows : (a b : ℕ) (line : List ℕ) (old between new : Option (List ℕ)) → a ≤ b → IsLonger old between (take a line) → IsLonger between new (drop a (take b line)) → IsLonger old new (take b line)
cut_grows a b line old between new small first next = subst (IsLonger old new) (sym (cut_more a b line small)) (grows_by_both old between new _ _ first next)

-- the exit of a loop at a cut of a line that was not put whole
pub cut_fails : {T E : Type 0} (a b : ℕ) (line : List ℕ) (old between new : SinkState) (e : E) → a ≤ b → Grows old between (take a line) → old.faults ≤ between.faults
    → Puts {T = T} {E = E} between new (drop a (take b line)) (Err e) → Puts {T = T} {E = E} old new line (Err e)
cut_fails a b line old between new e small first early next =
    let late : between.faults ≤ new.faults = next.later in
    let upto = prefix_after old between new _ _ first next.put.0 in
    let whole : (take a line ++ drop a (take b line)) ++ drop b line ≡ line = ap (λ x. x ++ drop b line) (sym (cut_more a b line small)) ∙ take-append-drop b line in
    record {
      put = (subst (GrowsByPrefix old new) whole (prefix_before old new _ (drop b line) upto), rose_before old.faults between.faults new.faults early next.put.1);
      later = omega arith;
    }

abbrev pub no_test : Test
no_test = record { letters = []; replies = [] }

pub step_row : (classes : List (List ℤ)) (w : List ℕ) (rs : List (List ℤ)) (k a : ℕ) (r : List ℤ) → slice_get w k ≡ Some a → slice_get rs k ≡ Some r → slice_get (step_lines classes w rs) k ≡ Some (step_line (get_or classes a []) r)
step_row classes [] rs k a r e f = absurd (none-some a e)
step_row classes (b ∷ w) [] k a r e f = absurd (none-some r f)
step_row classes (b ∷ w) (q ∷ rs) zero a r e f = ap (λ x. Some (step_line (get_or classes x []) q)) (same_Some _ _ e) ∙ ap (λ x. Some (step_line (get_or classes a []) x)) (same_Some _ _ f)
step_row classes (b ∷ w) (q ∷ rs) (suc k) a r e f = step_row classes w rs k a r e f

-- what is known at a step of a test
pub record IsAtStep (s : SuiteParts) (t : Test) (step letter : ℕ) : Type 0 where
  pub is : slice_get t.letters step ≡ Some letter
  pub inside : letter < length s.classes
  pub some : 0 < length (get_or s.classes letter [])

zip_length : {A B : Type 0} (R : A → B → Type 0) (xs : List A) (ys : List B) → AllZip R xs ys → length xs ≡ length ys
zip_length R [] [] h = refl
zip_length R [] (y ∷ ys) h = absurd h
zip_length R (x ∷ xs) [] h = absurd h
zip_length R (x ∷ xs) (y ∷ ys) h = ap suc (zip_length R xs ys h.1)

pub at_step : (s : SuiteParts) → IsSuite s → (test : ℕ) (t : Test) → slice_get s.tests test ≡ Some t → (count : ℕ) (first now : List ℕ) → count ≡ length t.letters → take count first ≡ t.letters → now ≡ first
    → (step letter : ℕ) → step < count → letter ≡ get_or now step 0 → IsAtStep s t step letter
at_step s suite test t there count first now size front same step letter inside read =
    let within : step < length t.letters = omega arith in
    let value : letter ≡ get_or t.letters step 0 = read ∙ ap (λ x. get_or x step 0) same ∙ sym (get_or-take count first step 0 inside) ∙ ap (λ x. get_or x step 0) front in
    let below : letter < length s.classes = subst (λ n. n < length s.classes) (sym value) (of_test (λ (t : Test). All (λ a. a < length s.classes) t.letters) suite.letters step 0 within) in
    let vector = All-get_or (IsInInputRanges s.signature.inputs) s.classes letter [] below suite.vectors in
    record {
      is = slice_get-get_or t.letters step 0 within ∙ ap (λ x. Some x) (sym value);
      inside = below;
      some = omega (arith, zip_length IsInRange (ranges_of s.signature.inputs) (get_or s.classes letter []) vector, length-map s.signature.inputs range_of, s.signature.inputs_fit.least);
    }
  where
    of_test : (P : Test → Type 0) → All P s.tests → P t
    of_test P all = subst P (get_or_from_slice_get s.tests test t t there) (All-get_or P s.tests test t (slice_get_within s.tests test t there) all)

pub test_fits : (s : SuiteParts) (p : Place) (test : ℕ) (t : Test) → slice_get s.tests test ≡ Some t → IsMadeFor s p → length t.letters ≤ length p.letters
test_fits s p test t there made = subst (λ (u : Test). length u.letters ≤ length p.letters) (get_or_from_slice_get s.tests test t t there) (All-get_or (λ (u : Test). length u.letters ≤ length p.letters) s.tests test t (slice_get_within s.tests test t there) made.tests)

pub few_rows : (classes : List (List ℤ)) (w : List ℕ) (rs : List (List ℤ)) → length (step_lines classes w rs) ≤ length w
few_rows classes [] rs = omega arith
few_rows classes (a ∷ w) [] = omega arith
few_rows classes (a ∷ w) (r ∷ rs) = let h = few_rows classes w rs in omega arith

pub step_text : (classes seen : List (List ℤ)) (letter : ℕ) (v item r reply : List ℤ) (line : List ℕ) → seen ≡ classes → letter < length classes → v ≡ item → item ≡ get_or seen letter item → reply ≡ r
    → line ≡ line_text (step_line v reply) → line ≡ line_text (step_line (get_or classes letter []) r)
step_text classes seen letter v item r reply line same inside e read f is =
    is ∙ ap (λ x. line_text (step_line x reply)) (e ∙ get_or_read classes letter item inside (read ∙ ap (λ x. get_or x letter item) same) []) ∙ ap (λ x. line_text (step_line (get_or classes letter []) x)) f

pub still_made : (s : SuiteParts) (p q : Place) → IsMadeFor s p → q.letters ≡ p.letters → q.room ≡ p.room → IsMadeFor s q
still_made s p q made letters room = record {
  tests = subst (λ (x : List ℕ). All (λ (t : Test). length t.letters ≤ length x) s.tests) (sym letters) made.tests;
  cover = subst (λ (x : List ℕ). All (λ w. length w ≤ length x) s.cover) (sym letters) made.cover;
  marks = subst (λ (x : List ℕ). All (λ w. length w ≤ length x) s.marks) (sym letters) made.marks;
  line = (let h : 320 + 6 * length p.letters ≤ p.room = made.line in omega (arith, ap length letters, room));
}

section : (lines more : List (List Token)) (rest : List ℕ) → rest ≡ text_of more → text_of lines ++ rest ≡ text_of (lines ++ more)
section lines more rest e = ap (λ x. text_of lines ++ x) e ∙ sym (flat_map-append line_text lines more)

tests_section : (classes : List (List ℤ)) (tests : List Test) → flat_map (λ (t : Test). text_of (test_lines classes t)) tests ≡ text_of (flat_map (test_lines classes) tests)
tests_section classes [] = refl
tests_section classes (t ∷ tests) = section (test_lines classes t) (flat_map (test_lines classes) tests) _ (tests_section classes tests)

-- the parts of a suite's text make up the text of its lines
pub by_parts : (s : SuiteParts) → parts_text s ≡ suite_text s
by_parts s =
    let last = natural_line (codes "end") (length s.tests) ∷ [] in
    let tests = flat_map (test_lines s.classes) s.tests ++ last in
    let marks = map (letters_line (codes "mark")) s.marks ++ tests in
    let cover = map (letters_line (codes "cover")) s.cover ++ marks in
    let classes = map class_line s.classes ++ cover in
    let states = natural_line (codes "bound") s.bound ∷ natural_line (codes "states") s.states ∷ classes in
    let outputs = map output_line s.signature.outputs ++ states in
    ap (λ x. line_text (natural_line (codes "suite") 1) ++ x)
    (section (map input_line s.signature.inputs) outputs _ (section (map output_line s.signature.outputs) states _
    (ap (λ x. line_text (natural_line (codes "bound") s.bound) ++ (line_text (natural_line (codes "states") s.states) ++ x))
    (section (map class_line s.classes) cover _ (section (map (letters_line (codes "cover")) s.cover) marks _ (section (map (letters_line (codes "mark")) s.marks) tests _
    (ap (λ x. x ++ text_of last) (tests_section s.classes s.tests) ∙ sym (flat_map-append line_text (flat_map (test_lines s.classes) s.tests) last))))))))

-- the exit of the loop over the parts
pub parts_fail : {T E : Type 0} (s : SuiteParts) (i : ℕ) (p : Part) (old between new : SinkState) (e : E) → slice_get parts i ≡ Some p → Grows old between (flat_map (part_text s) (take i parts)) → old.faults ≤ between.faults
    → Puts {T = T} {E = E} between new (part_text s p) (Err e) → Puts {T = T} {E = E} old new (suite_text s) (Err e)
parts_fail {T} {E} s i p old between new e there first early next =
    subst (λ x. Puts {T = T} {E = E} old new x (Err e)) (by_parts s) (part_fails (part_text s) parts i p old between new e there first early next)
