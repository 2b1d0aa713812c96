-- What the accessors of a suite read, and that a scratch stays made for it.
use Rattle.std.proofs.Common.{◌≡◌, ℕ, suc, ◌+◌, ◌-◌, ◌<◌, ◌≤◌, List, [], ◌∷◌, ◌++◌, length, take, drop, get_or, refl, sym, ap, ◌∙◌, subst, arith, ℤ, length-append, length-drop, ◌*◌, Contains, Some, slice_get, option_map, Vec}
use Rattle.std.specs.List.{All}
use Rattle.std.proofs.lemmas.List.{take_more, take_all, length-take-le, length-map, get_or_read, get_or-map}
use Rattle.std.proofs.lemmas.List.Elements.{All-push, All-weaker, All-map, All-get_or, All-contains, Contains-get_or}
use Rattle.std.proofs.lemmas.Option.{slice_get-map, slice_get_read, slice_get_within, get_or_from_slice_get}
use Rattle.word_pool.specs.Words.{word, words_at, ArePooled}
use Rattle.lin_form.specs.declared.signature.Signature.{Signature}
use Rattle.subject.specs.Suite.{SuiteParts, Test}
use Rattle.suite_model.specs.Suite.{IsSuite}
use Rattle.suite_words.specs.Cover.{AreLetters}
use Rattle.suite_model.specs.Pooled.{lists, pooled_test, pooled_tests, replies_from, MakeSuite}
use Rattle.suite_model.specs.Scratch.{Place, IsMadeFor}
use Rattle.suite_model.proofs.Words.{IsThere, not_first, reply_at, length-replies_from, take-replies_from, get-replies_from, each_reply}

pub element : {A : Type 0} (vs : List (Vec ℕ A)) (v : Vec ℕ A) (i : ℕ) (cover : List (List ℕ)) → lists vs ≡ cover → i < length cover → v ≡ get_or vs i v → slice_get cover i ≡ Some (v.items)
element {A} vs v i cover e inside read =
    ap (λ x. slice_get x i) (sym e) ∙ slice_get-map (λ (w : Vec ℕ A). w.items) vs i
    ∙ ap (option_map (λ (w : Vec ℕ A). w.items)) (slice_get_read vs (length vs) i v refl (omega (arith, length-map vs (λ (w : Vec ℕ A). w.items), ap length e)) read)

pub fits : {X : Type 0} (P : X → Type 0) (xs : List X) (i : ℕ) (x : X) → slice_get xs i ≡ Some x → All P xs → P x
fits P xs i x e all = subst P (get_or_from_slice_get xs i x x e) (All-get_or P xs i x (slice_get_within xs i x e) all)

pub answered : (v w : List ℕ) (n : ℕ) (new old : List ℕ) → v ≡ w → n ≡ length v → new ≡ v ++ drop (length v) old → (n ≡ length w) × (new ≡ w ++ drop (length w) old)
answered v w n new old e count put = (count ∙ ap length e, put ∙ ap (λ x. x ++ drop (length x) old) e)

pub still_made : (s : SuiteParts) (p q : Place) (w : List ℕ) → IsMadeFor s p → length w ≤ length p.letters → q.letters ≡ w ++ drop (length w) p.letters → q.room ≡ p.room → IsMadeFor s q
still_made s p q w made within put room =
    let same : length p.letters ≡ length q.letters = omega (arith, ap length put, length-append w (drop (length w) p.letters), length-drop (length w) p.letters) in
    record {
      tests = subst (λ n. All (λ (t : Test). length t.letters ≤ n) s.tests) same made.tests;
      cover = subst (λ n. All (λ w. length w ≤ n) s.cover) same made.cover;
      marks = subst (λ n. All (λ w. length w ≤ n) s.marks) same made.marks;
      line = (let h : 320 + 6 * length p.letters ≤ p.room = made.line in omega (arith, same, room));
    }

pub longest_more : {X : Type 0} (f : X → ℕ) (xs : List X) (i : ℕ) (x : X) (most now : ℕ) → i < length xs → x ≡ get_or xs i x → All (λ y. f y ≤ most) (take i xs) → most ≤ now → f x ≤ now → All (λ y. f y ≤ now) (take (i + 1) xs)
longest_more {X} f xs i x most now inside read all up here =
    subst (All (λ y. f y ≤ now)) (ap (λ y. take i xs ++ y ∷ []) read ∙ sym (take_more xs i x inside))
    (All-push (λ y. f y ≤ now) (take i xs) x (All-weaker (λ y. f y ≤ most) (λ y. f y ≤ now) (λ y h. omega arith) (take i xs) all) here)

pub all_taken : {X : Type 0} (P : X → Type 0) (xs : List X) (i : ℕ) → length xs ≤ i → All P (take i xs) → All P xs
all_taken P xs i h all = subst (All P) (take_all i xs h) all

pub test_here : (words : List (List ℕ)) (rs : List (List ℤ)) (ids : List ℕ) (tests : List Test) (i id : ℕ) → pooled_tests words rs ids ≡ tests → i < length tests → id ≡ get_or ids i id → slice_get tests i ≡ Some (pooled_test words rs (word words id))
test_here words rs ids tests i id e inside read =
    ap (λ x. slice_get x i) (sym e) ∙ slice_get-map (λ j. pooled_test words rs (word words j)) ids i
    ∙ ap (option_map (λ j. pooled_test words rs (word words j))) (slice_get_read ids (length ids) i id refl (omega (arith, length-map ids (λ j. pooled_test words rs (word words j)), ap length e)) read)

there_at : (words : List (List ℕ)) (id : ℕ) → id < length words → IsThere words ([] ++ word words id)
there_at words id inside = record { place = id; inside = inside; is = refl }

-- the reply that is read for a step
pub reply_read : (words : List (List ℕ)) (rs : List (List ℤ)) → ArePooled words → (w : List ℕ) (step n : ℕ) (r : List ℤ) → step < length w → n < length words → slice_get words n ≡ Some (take (step + 1) w) → n - 1 < length rs → r ≡ get_or rs (n - 1) r → slice_get (replies_from words rs [] w) step ≡ Some r
reply_read words rs pooled w step n r within inside found below read =
    get-replies_from words rs [] w step within
    ∙ ap (λ (x : List ℤ). Some x) (reply_at words rs pooled (take (suc step) w) n inside (get_or_from_slice_get words n (take (suc step) w) [] (found ∙ add_one))
    ∙ sym (get_or_read rs (n - 1) r below read []))
  where
    add_one : Some (take (step + 1) w) ≡ Some (take (suc step) w)
    add_one = ap (λ k. Some (take k w)) (let e : step + 1 ≡ suc step = omega arith in e)

pub suite_holds : (s : SuiteParts) (words : List (List ℕ)) (ids : List ℕ) (rs : List (List ℤ)) → ArePooled words → MakeSuite s.signature s.classes s.cover s.marks words ids rs → pooled_tests words rs ids ≡ s.tests → IsSuite s
suite_holds s words ids rs pooled parts e = record {
  vectors = parts.vectors;
  letters = of_tests (λ t. AreLetters (length s.classes) t.letters) (λ i h. parts.letters i [] h);
  cover_letters = parts.cover_letters;
  mark_letters = parts.mark_letters;
  some_letter = subst (All (λ (t : Test). 0 < length t.letters)) e (All-map (λ (t : Test). 0 < length t.letters) make ids parts.some_letter);
  one_each = of_tests (λ t. length t.replies ≡ length t.letters) (λ i h. length-replies_from words rs [] (word words i));
  counts = of_tests (λ t. All (λ r. length r ≡ length s.signature.outputs) t.replies)
      (λ i h. each_reply (λ r. length r ≡ length s.signature.outputs) words rs pooled parts.one_each parts.counts [] (word words i) (there_at words i h));
  agree = λ t u n among also same. ap (take n) (made_of t among) ∙ take-replies_from words rs n [] t.letters ∙ ap (replies_from words rs []) same
      ∙ sym (take-replies_from words rs n [] u.letters) ∙ sym (ap (take n) (made_of u also));
}
  where
    make : ℕ → Test
    make i = pooled_test words rs (word words i)

    of_tests : (P : Test → Type 0) → ((i : ℕ) → i < length words → P (make i)) → All P s.tests
    of_tests P each = subst (All P) e (All-map P make ids (All-weaker (λ i. i < length words) (λ i. P (make i)) each ids parts.are_ids))

    made_of : (t : Test) → Contains s.tests t → t.replies ≡ replies_from words rs [] t.letters
    made_of t among = All-contains (λ (t : Test). t.replies ≡ replies_from words rs [] t.letters) s.tests t (of_tests (λ t. t.replies ≡ replies_from words rs [] t.letters) (λ i h. refl)) among

-- a prefix that has a letter is not the first word
pub number_some : (words : List (List ℕ)) → ArePooled words → (w : List ℕ) (step n : ℕ) → step < length w → slice_get words n ≡ Some (take (step + 1) w) → 0 < n
number_some words pooled w step n within found =
    not_first words pooled n (take (step + 1) w) (get_or_from_slice_get words n (take (step + 1) w) [] found) (omega (arith, length-take-le (step + 1) w (omega arith)))

-- a suite has a test
pub some_test : {signature : Signature} {classes : List (List ℤ)} {cover marks words : List (List ℕ)} {ids : List ℕ} {rs : List (List ℤ)} → ArePooled words → MakeSuite signature classes cover marks words ids rs → 0 < length ids
some_test {words = words} {ids} pooled parts =
    let first = parts.prefixes 0 (slice_get_within words 0 [] pooled.empty) in
    let inside : first.0 < length (words_at words ids) = first.1.0 in
    omega (arith, length-map ids (word words))

pub longest_still : (f : ℕ → ℕ) (ids : List ℕ) (i id most : ℕ) → i < length ids → id ≡ get_or ids i id → f id ≡ most → (k : ℕ) × ((k < length ids) × (f (get_or ids k 0) ≡ most))
longest_still f ids i id most inside read e = (i, (inside, ap f (sym (get_or_read ids i id inside read 0)) ∙ e))

-- a test of which the length is that of the word of its id
pub longest_reached : (words : List (List ℕ)) (rs : List (List ℤ)) (ids : List ℕ) (tests : List Test) (most : ℕ) → pooled_tests words rs ids ≡ tests
    → (k : ℕ) × ((k < length ids) × (length (word words (get_or ids k 0)) ≡ most)) → (t : Test) × (Contains tests t × (length t.letters ≡ most))
longest_reached words rs ids tests most e (k, (inside, read)) = (
  get_or tests k (make 0),
  (
    Contains-get_or tests k (make 0) (omega (arith, length-map ids make, ap length e)),
    ap (λ (ts : List Test). length ((get_or ts k (make 0)).letters)) (sym e) ∙ ap (λ (t : Test). length t.letters) (get_or-map make ids k 0 (make 0) inside) ∙ read,
  ),
)
  where
    make : ℕ → Test
    make i = pooled_test words rs (word words i)
