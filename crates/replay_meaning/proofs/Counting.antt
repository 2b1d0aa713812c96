-- How many words of few letters there are, and how many products and so tests.
use Rattle.std.proofs.Common.{◌≡◌, ◌≢◌, ℕ, ◌+◌, ◌-◌, ◌*◌, ◌<◌, ◌≤◌, zero, suc, max, Bool, true, false, cond, List, [], ◌∷◌, ◌++◌, length, map, get_or, refl, sym, ap, ◌∙◌, subst, arith, inl, inr, length-append, Contains}
use Rattle.std.specs.List.{All, AllPairs}
use Rattle.std.specs.Str.{bytes_eq}
use Rattle.std.proofs.lemmas.Bool.{cases_eq, false≢true}
use Rattle.std.proofs.lemmas.Bool.Decides.{Decides-eqb}
use Rattle.std.proofs.lemmas.List.{length-map, get_or-map}
use Rattle.std.proofs.lemmas.List.Elements.{All-contains, All-head, All-tail, All-map, All-weaker, Contains-append_left, Contains-append_right, Contains-get_or}
use Rattle.std.proofs.lemmas.Map.Made.{IsDistinct-from_AllPairs}
use Rattle.std.proofs.lemmas.Map.Steps.{length-le_from_distinct_below}
use Rattle.std.proofs.lemmas.Map.Views.{Contains-from_any}
use Rattle.std.proofs.lemmas.Nat.{mul-le}
use Rattle.std.proofs.lemmas.Slice.Eq.{bytes_eq-Decides}
use Rattle.input_classes.proofs.CallerLemmas.{contains_cases, contains_first, contains_later, contains_map, contains_none}
use Rattle.word_pool.specs.Order.{IsBelow}
use Rattle.word_pool.specs.Words.{word}
use Rattle.word_pool.proofs.Orders.{below_itself}
use Rattle.suite_words.specs.Cover.{AreLetters}
use Rattle.suite_words.specs.Tests.{IsProduct, IsLongest, AreTests}
use Rattle.suite_build.specs.Steps.{steps, words_upto}
use Rattle.suite_model.specs.Pooled.{number_of}

-- the lists of each element, one after another
each : {X : Type 0} → (X → List (List ℕ)) → List X → List (List ℕ)
each f [] = []
each f (x ∷ xs) = f x ++ each f xs

length-each : {X : Type 0} (f : X → List (List ℕ)) (n : ℕ) (xs : List X) → ((x : X) → length (f x) ≡ n) → length (each f xs) ≡ length xs * n
unfolding each
length-each f n [] e = omega arith
length-each f n (x ∷ xs) e = let rest = length-each f n xs e in omega (arith, length-append (f x) (each f xs), e x, rest)

contains-each : {X : Type 0} (f : X → List (List ℕ)) (xs : List X) (x : X) (w : List ℕ) → Contains xs x → Contains (f x) w → Contains (each f xs) w
unfolding each
contains-each f [] x w h k = absurd (contains_none x h)
contains-each f (y ∷ xs) x w h k =
    elim (contains_cases y x xs h) [
      | inl e ↦ Contains-append_left (f y) (each f xs) w (subst (λ z. Contains (f z) w) (sym e) k)
      | inr later ↦ Contains-append_right (f y) (each f xs) w (contains-each f xs x w later k)
    ]

-- the letters below a number
below : ℕ → List ℕ
below zero = []
below (suc n) = n ∷ below n

length-below : (n : ℕ) → length (below n) ≡ n
unfolding below
length-below zero = refl
length-below (suc n) = ap suc (length-below n)

contains-below : (n a : ℕ) → a < n → Contains (below n) a
unfolding below
contains-below zero a h = absurd (omega (arith, h))
contains-below (suc n) a h =
    elim (cases_eq n a) [
      | inl e ↦ subst (λ b. Contains (n ∷ below n) b) e (contains_first n (below n))
      | inr other ↦ contains_later n a (below n) (contains-below n a (omega (arith, h, other)))
    ]

-- the words of at most k letters, of c letters
words_of : ℕ → ℕ → List (List ℕ)
words_of c zero = [] ∷ []
words_of c (suc k) = [] ∷ each (λ a. map (λ w. a ∷ w) (words_of c k)) (below c)

length-words : (c k : ℕ) → length (words_of c k) ≡ words_upto c k
unfolding words_of
length-words c zero = refl
length-words c (suc k) =
    let f : ℕ → List (List ℕ) = λ a. map (λ w. a ∷ w) (words_of c k) in
    let later = length-each f (words_upto c k) (below c) (λ a. length-map (words_of c k) (λ w. a ∷ w) ∙ length-words c k) in
    let all : length (each f (below c)) ≡ c * words_upto c k = later ∙ ap (λ n. n * words_upto c k) (length-below c) in
    omega (arith, all)

contains-words : (c k : ℕ) (w : List ℕ) → AreLetters c w → length w ≤ k → Contains (words_of c k) w
unfolding words_of
contains-words c zero [] h few = contains_first [] []
contains-words c zero (a ∷ w) h few = absurd (omega (arith, few))
contains-words c (suc k) [] h few = contains_first [] _
contains-words c (suc k) (a ∷ w) h few =
    let f : ℕ → List (List ℕ) = λ b. map (λ v. b ∷ v) (words_of c k) in
    let rest = contains-words c k w (All-tail (λ b. b < c) a w h) (omega (arith, few)) in
    contains_later [] (a ∷ w) (each f (below c))
    (contains-each f (below c) a (a ∷ w) (contains-below c a (All-head (λ b. b < c) a w h)) (contains_map (λ v. a ∷ v) (words_of c k) w rest))

-- the products of cover words, words of at most d of the c letters, and marks
products : ℕ → List (List ℕ) → List (List ℕ) → ℕ → List (List ℕ)
products c cover marks d = each (λ u. each (λ m. map (λ z. u ++ (z ++ m)) (words_of c d)) marks) cover

length-products : (c : ℕ) (cover marks : List (List ℕ)) (d : ℕ) → length (products c cover marks d) ≡ length cover * (length marks * words_upto c d)
unfolding products
length-products c cover marks d =
    length-each (λ u. each (λ m. map (λ z. u ++ (z ++ m)) (words_of c d)) marks) (length marks * words_upto c d) cover (λ u.
    length-each (λ m. map (λ z. u ++ (z ++ m)) (words_of c d)) (words_upto c d) marks (λ m. length-map (words_of c d) (λ z. u ++ (z ++ m)) ∙ length-words c d))

contains-products : (c : ℕ) (cover marks : List (List ℕ)) (d : ℕ) (w : List ℕ) → IsProduct c cover marks d w → Contains (products c cover marks d) w
unfolding products
contains-products c cover marks d w p =
    let u = word cover p.i in
    let z = p.after.z in
    let m = word marks p.after.k in
    let inner : List ℕ → List (List ℕ) = λ m. map (λ z. u ++ (z ++ m)) (words_of c d) in
    subst (Contains (products c cover marks d)) (sym p.after.is)
    (contains-each (λ u. each (λ m. map (λ z. u ++ (z ++ m)) (words_of c d)) marks) cover u (u ++ (z ++ m)) (Contains-get_or cover p.i [] p.in_cover)
    (contains-each inner marks m (u ++ (z ++ m)) (Contains-get_or marks p.after.k [] p.after.mark)
    (contains_map (λ z. u ++ (z ++ m)) (words_of c d) z (contains-words c d z p.after.letters p.after.short))))

-- the place of a word in a list that has it
found_by : (w x : List ℕ) (ws : List (List ℕ)) (b : Bool) → bytes_eq w x ≡ b → (Contains ws x → (number_of ws x < length ws) × (word ws (number_of ws x) ≡ x)) → Contains (w ∷ ws) x → (cond b 0 (suc (number_of ws x)) < length (w ∷ ws)) × (word (w ∷ ws) (cond b 0 (suc (number_of ws x))) ≡ x)
found_by w x ws true e later h = (omega arith, (bytes_eq-Decides w x).0 e)
found_by w x ws false e later h =
    elim (contains_cases w x ws h) [
      | inl same ↦ absurd (false≢true (sym e ∙ (bytes_eq-Decides w x).1 same))
      | inr there ↦ (let f = later there in (omega (arith, f.0), f.1))
    ]

found : (ws : List (List ℕ)) (x : List ℕ) → Contains ws x → (number_of ws x < length ws) × (word ws (number_of ws x) ≡ x)
found [] x h = absurd (contains_none x h)
found (w ∷ ws) x h = found_by w x ws (bytes_eq w x) refl (found ws x) h

-- ascending words of a list are no more than the list has
few_in : (xs ys : List (List ℕ)) → AllPairs IsBelow xs → All (Contains ys) xs → length xs ≤ length ys
few_in xs ys ordered there =
    let place : List ℕ → ℕ = number_of ys in
    let size = length-map xs place in
    let apart : AllPairs (λ p q. p ≢ q) (map place xs) = λ i j d less inside same.
    let upper : j < length xs = omega (arith, inside, size) in
    let lower : i < length xs = omega (arith, less, upper) in
    let a = (found ys (get_or xs i []) (there i [] lower)).1 in
    let b = (found ys (get_or xs j []) (there j [] upper)).1 in
    let e : place (get_or xs i []) ≡ place (get_or xs j []) = sym (get_or-map place xs i [] d lower) ∙ same ∙ get_or-map place xs j [] d upper in
    let words : get_or xs i [] ≡ get_or xs j [] = sym a ∙ ap (word ys) e ∙ b in
    below_itself (get_or xs j []) (subst (λ w. IsBelow w (get_or xs j [])) words (ordered i j [] less upper)) in
    let distinct = IsDistinct-from_AllPairs Decides-eqb (map place xs) apart in
    let all : All (λ p. p < length ys) (map place xs) = All-map (λ p. p < length ys) place xs (All-weaker (Contains ys) (λ x. place x < length ys) (λ x h. (found ys x h).0) xs there) in
    let few = length-le_from_distinct_below (map place xs) (length ys) distinct (λ q k. All-contains (λ p. p < length ys) (map place xs) q all (Contains-from_any (λ x y. (Decides-eqb x y).0) q (map place xs) k)) in
    omega (arith, few, size)

-- the tests are no more than the products
few_tests : (c : ℕ) (cover marks : List (List ℕ)) (d : ℕ) (tests : List (List ℕ)) → AreTests c cover marks d tests → length tests ≤ length cover * (length marks * words_upto c d)
few_tests c cover marks d tests h =
    let few = few_in tests (products c cover marks d) h.ascending (All-weaker (IsLongest (IsProduct c cover marks d)) (Contains (products c cover marks d)) (λ w l. contains-products c cover marks d w l.product) tests h.only) in
    omega (arith, few, length-products c cover marks d)

few_products : (n c m k : ℕ) → 0 < n → k ≤ max 1 (n - 1) → n * (k * words_upto c (m - n + 1)) ≤ steps n c m
few_products n c m k some few =
    let w = words_upto c (m - n + 1) in
    let most = max 1 (n - 1) in
    let x = mul-le k w most w few (omega arith) in
    let y = mul-le n (k * w) n (most * w) (omega arith) x in
    let z = mul-le (n * w * most) 1 (n * w * most) (2 * n + (m - n)) (omega arith) (omega (arith, some)) in
    let same : n * (most * w) ≡ n * w * most * 1 = omega arith in
    omega (arith, y, z, same)

-- and so no more than the steps
pub tests_within_steps : (n c m : ℕ) (cover marks tests : List (List ℕ)) → 0 < n → length cover ≡ n → length marks ≤ max 1 (n - 1) → AreTests c cover marks (m - n + 1) tests → length tests ≤ steps n c m
tests_within_steps n c m cover marks tests some size few h =
    let a = few_tests c cover marks (m - n + 1) tests h in
    let b : length tests ≤ n * (length marks * words_upto c (m - n + 1)) = subst (λ k. length tests ≤ k * (length marks * words_upto c (m - n + 1))) size a in
    let e = few_products n c m (length marks) some few in
    omega (arith, b, e)

-- no word of a list is longer than all together
total : List (List ℕ) → ℕ
total [] = 0
total (w ∷ ws) = length w + total ws

no_longer : (ws : List (List ℕ)) (w : List ℕ) → Contains ws w → length w ≤ total ws
unfolding total
no_longer [] w h = absurd (contains_none w h)
no_longer (v ∷ ws) w h =
    elim (contains_cases v w ws h) [
      | inl e ↦ omega (arith, ap length e)
      | inr later ↦ omega (arith, no_longer ws w later)
    ]

longest_from : (P : List ℕ → Type 0) (most : ℕ) → ((w : List ℕ) → P w → length w ≤ most) → (n : ℕ) (u : List ℕ) → P u → most < length u + n → ((w : List ℕ) → IsLongest P w → ⊥) → ⊥
longest_from P most short zero u p less none = absurd (omega (arith, short u p, less))
longest_from P most short (suc n) u p less none =
    none u (record { product = p; longest = λ v q pre. longest_from P most short n v q (omega (arith, less, ap length pre.1.1, length-append u (pre.0 ∷ pre.1.0))) none })

-- where there is a product, there is one that is a proper prefix of none
pub some_longest : (c : ℕ) (cover marks : List (List ℕ)) (d : ℕ) (u : List ℕ) → IsProduct c cover marks d u → ((w : List ℕ) → IsLongest (IsProduct c cover marks d) w → ⊥) → ⊥
some_longest c cover marks d u p none =
    let all = products c cover marks d in
    longest_from (IsProduct c cover marks d) (total all) (λ w q. no_longer all w (contains-products c cover marks d w q)) (total all + 1) u p (omega arith) none
