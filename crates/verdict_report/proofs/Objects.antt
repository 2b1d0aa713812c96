-- The JSON text of a verdict's data.
use Rattle.std.proofs.Common.{◌≡◌, ℕ, ◌+◌, ℤ, pos, negsuc, Bool, true, false, List, [], ◌∷◌, ◌++◌, map, length, take, codes, Some, slice_get, refl, sym, ◌∙◌, ap, append_assoc}
use Rattle.std.specs.Prelude.{◌||◌}
use Rattle.std.proofs.lemmas.List.{take_more, map_push}
use Rattle.std.proofs.lemmas.Option.{slice_get_within, get_or_from_slice_get}
use Rattle.serde_json.specs.View.{view}
use Rattle.serde_json.specs.declared.value.Value.{Value}
use Rattle.std.specs.Fmt.{decimal, signed_decimal}
use Rattle.std.specs.List.{concat, flat_map}
use Rattle.serde_json.specs.Data.{Data, array, number}
use Rattle.serde_json.specs.Find.{of_integer}
use Rattle.serde_json.specs.View.{items_of}
use Rattle.serde_json.specs.Written.{compact_text, items_text, has_float, items_have_float}
use Rattle.serde_json.proofs.OnLiterals.{serde_json_on_literals}
use Rattle.subject.specs.Suite.{SuiteParts, tests_of}
use Rattle.subject.specs.Tests.{failed_word}
use Rattle.test_subject.specs.Verdict.{expected_at}
use Rattle.test_subject.specs.declared.verdict.Verdict.{Verdict}
use Rattle.test_subject.specs.declared.verdict.Verdict.TheVariants.{Pass, Fail}
use Rattle.verdict_report.specs.Json.{with_commas, numbers_json, vectors_json, json_object}
use Rattle.verdict_report.specs.inside.Members.{numbers_data, vectors_data, verdict_data}

number_is : (z : ℤ) → compact_text (number (of_integer z)) ≡ signed_decimal z
number_is (pos n) = refl
number_is (negsuc n) = refl

more_items : {A : Type 0} (data_of : A → Data) (text : A → List ℕ) → ((a : A) → compact_text (data_of a) ≡ text a) → (xs : List A) → items_text true (items_of (map data_of xs)) ≡ flat_map (λ more. codes "," ++ more) (map text xs) ++ codes "]"
more_items data_of text same [] = refl
more_items data_of text same (x ∷ xs) =
    ap (λ t. 44 ∷ (t ++ items_text true (items_of (map data_of xs)))) (same x)
    ∙ ap (λ t. 44 ∷ (text x ++ t)) (more_items data_of text same xs)
    ∙ sym (ap (λ t. 44 ∷ t) (append_assoc (text x) (flat_map (λ more. codes "," ++ more) (map text xs)) (codes "]")))

all_items : {A : Type 0} (data_of : A → Data) (text : A → List ℕ) → ((a : A) → compact_text (data_of a) ≡ text a) → (xs : List A) → items_text false (items_of (map data_of xs)) ≡ with_commas (map text xs) ++ codes "]"
all_items data_of text same [] = refl
all_items data_of text same (x ∷ xs) =
    ap (λ t. t ++ items_text true (items_of (map data_of xs))) (same x)
    ∙ ap (λ t. text x ++ t) (more_items data_of text same xs)
    ∙ sym (append_assoc (text x) (flat_map (λ more. codes "," ++ more) (map text xs)) (codes "]"))

numbers_are : (zs : List ℤ) → compact_text (numbers_data zs) ≡ numbers_json zs
numbers_are zs = ap (λ t. 91 ∷ t) (all_items (λ z. number (of_integer z)) signed_decimal number_is zs)

vectors_are : (vs : List (List ℤ)) → compact_text (vectors_data vs) ≡ vectors_json vs
vectors_are vs = ap (λ t. 91 ∷ t) (all_items numbers_data numbers_json numbers_are vs)

whole : (suite : SuiteParts) (test step : ℕ) → List ℕ → List ℕ → List ℕ → List ℕ
whole suite test step expected given word = concat (codes "{\"bound\":" ∷ decimal suite.bound
    ∷ codes ",\"expected\":" ∷ expected ∷ codes ",\"got\":" ∷ given ∷ codes ",\"states\":" ∷ decimal suite.states
    ∷ codes ",\"step\":" ∷ decimal step ∷ codes ",\"test\":" ∷ decimal test ∷ codes ",\"tests\":" ∷ decimal (length suite.tests)
    ∷ codes ",\"verdict\":\"fail\",\"word\":" ∷ word ∷ codes "}" ∷ [])

pub text_is : (suite : SuiteParts) (verdict : Verdict) → compact_text (verdict_data suite verdict) ≡ json_object suite verdict
unfolding serde_json_on_literals whole
text_is suite Pass = refl
text_is suite (Fail test step given) =
    let expected = numbers_are (expected_at (tests_of suite) test step) in
    let got = numbers_are given in
    let word = vectors_are (failed_word (tests_of suite) (record { test = test; step = step; given = given })) in
    λ i. whole suite test step (expected i) (got i) (word i)

no_item : {A : Type 0} (data_of : A → Data) → ((a : A) → has_float (data_of a) ≡ false) → (xs : List A) → items_have_float (items_of (map data_of xs)) ≡ false
no_item data_of none [] = refl
no_item data_of none (x ∷ xs) = ap (λ b. b || items_have_float (items_of (map data_of xs))) (none x) ∙ no_item data_of none xs

whole_number : (z : ℤ) → has_float (number (of_integer z)) ≡ false
whole_number (pos n) = refl
whole_number (negsuc n) = refl

whole_numbers : (zs : List ℤ) → has_float (numbers_data zs) ≡ false
whole_numbers zs = no_item (λ z. number (of_integer z)) whole_number zs

whole_vectors : (vs : List (List ℤ)) → has_float (vectors_data vs) ≡ false
whole_vectors vs = no_item numbers_data whole_numbers vs

pub no_float : (suite : SuiteParts) (verdict : Verdict) → has_float (verdict_data suite verdict) ≡ false
no_float suite Pass = refl
no_float suite (Fail test step given) =
    let expected = whole_numbers (expected_at (tests_of suite) test step) in
    let got = whole_numbers given in
    let word = whole_vectors (failed_word (tests_of suite) (record { test = test; step = step; given = given })) in
    λ i. expected i || (got i || (word i || false))

-- an array of one more value
pub values_more : {A : Type 0} (data_of : A → Data) (xs : List A) (i : ℕ) (x : A) (values : List Value) (value : Value) (new : List Value) → slice_get xs i ≡ Some x → map view values ≡ map data_of (take i xs) → view value ≡ data_of x → new ≡ values ++ value ∷ [] → map view new ≡ map data_of (take (i + 1) xs)
values_more data_of xs i x values value new there so_far is e =
    let front = take_more xs i x (slice_get_within xs i x there) ∙ ap (λ y. take i xs ++ y ∷ []) (get_or_from_slice_get xs i x x there) in
    ap (map view) e ∙ map_push view values value ∙ ap (λ ds. ds ++ view value ∷ []) so_far ∙ ap (λ d. map data_of (take i xs) ++ d ∷ []) is
    ∙ sym (ap (map data_of) front ∙ map_push data_of (take i xs) x)
