-- What the tests' charts keep.
use Rattle.std.proofs.Common.{◌≡◌, ℕ, ◌+◌, ◌*◌, ◌/◌, ◌%◌, ◌<◌, ◌≤◌, Bool, true, List, [], ◌∷◌, ◌++◌, length, get_or, map, Some, refl, ap, sym}
use Rattle.std.proofs.Common.{subst, ◌∙◌, arith, ℤ}
use Rattle.std.specs.Prelude.{slice_get, count_by, Contains, nat_le, unsigned_abs}
use Rattle.std.specs.Option.{ForSome}
use Rattle.std.specs.List.{All, list_all, range_with_len}
use Rattle.std.proofs.lemmas.Bool.{false≢true, leb-true}
use Rattle.std.proofs.lemmas.List.{length-map, length_push}
use Rattle.std.proofs.lemmas.List.Elements.{All-nil, All-cons, All-push}
use Rattle.std.proofs.lemmas.List.Folds.{Any-from_list_any}
use Rattle.std.proofs.lemmas.List.FromFn.{get_or-map-range_with_len, length-map-range_with_len}
use Rattle.std.proofs.lemmas.List.Sums.{AllPass-from_list_all, count_by-le-length}
use Rattle.lin_form.specs.Name.{reserved_words}
use Rattle.lin_form.specs.declared.signature.Signature.{Signature}
use Rattle.lin_form.specs.Range.{IsCount}
use Rattle.chart_model.specs.declared.state.Memory.{Memory}
use Rattle.chart_model.specs.declared.state.State.{State}
use Rattle.chart_model.specs.declared.transition.Transition.{Transition}
use Rattle.lin_form.specs.declared.form.Comparison.{Comparison}
use Rattle.chart_model.specs.Chart.{AreNames, IsAssumption, IsChart, IsFormOver, IsMemory, IsState, IsTransition, range_product, range_size}
use Rattle.chart_model.specs.States.{IsTree, has_children, is_child_of, is_start_child_of, is_top_start, is_within_depth}
use Rattle.chart_meaning.proofs.Climbing.{child_parent}

abbrev pub AreParentsFirst : List State → Type 0
AreParentsFirst states = (s : ℕ) (state : State) → slice_get states s ≡ Some state → ForSome state.parent (λ parent. parent < s)

abbrev pub HaveStarts : List State → Type 0
HaveStarts states = All (λ (child : State). ForSome child.parent (λ parent. count_by (is_start_child_of parent) states ≡ 1)) states

-- a state with children has the one start child of its children's parent
starts : (states : List State) → HaveStarts states → (s : ℕ) → has_children states s ≡ true → count_by (is_start_child_of s) states ≡ 1
starts states have s e =
    let some = Any-from_list_any (is_child_of s) states e in
    let h = have some.0 some.1 some.2 in
    let child = some.3 in
    subst (λ (x : State). ForSome x.parent (λ parent. count_by (is_start_child_of parent) states ≡ 1)) child h s (child_parent s some.1.parent some.4)

pub IsTree-tested : (states : List State) → AreParentsFirst states
    → ((s : ℕ) → s < length states → is_within_depth 8 states s ≡ true) → HaveStarts states
    → count_by is_top_start states ≡ 1 → IsTree states
IsTree-tested states first shallow have one = record {
  parents = λ s state parent g e. first s state g parent e;
  depth = shallow;
  starts = starts states have;
  top = one;
}

-- one letter is no reserved word
long_words : list_all (λ word. nat_le 2 (length word)) reserved_words ≡ true
long_words = refl

free_letter : (byte : ℕ) → Contains reserved_words (byte ∷ []) → ⊥
free_letter byte h =
    let long = AllPass-from_list_all (λ word. nat_le 2 (length word)) reserved_words long_words h.0 (byte ∷ []) h.1 in
    let short : nat_le 2 (length (byte ∷ [])) ≡ true = ap (λ word. nat_le 2 (length word)) (sym h.2) ∙ long in
    absurd (false≢true short)

-- a name of two letters: the place of the number in a square of eight by eight
abbrev pub pair : ℕ → List ℕ
pair number = (number / 8 + 65) ∷ (number % 8 + 65) ∷ []

-- reserved words begin with small letters
small_words : list_all (λ word. nat_le 97 (get_or word 0 0)) reserved_words ≡ true
small_words = refl

free_pair : (number : ℕ) → number < 64 → Contains reserved_words (pair number) → ⊥
free_pair number low h =
    let small = AllPass-from_list_all (λ word. nat_le 97 (get_or word 0 0)) reserved_words small_words h.0 (pair number) h.1 in
    let large : nat_le 97 (number / 8 + 65) ≡ true = ap (λ word. nat_le 97 (get_or word 0 0)) (sym h.2) ∙ small in
    let above : 97 ≤ number / 8 + 65 = leb-true 97 (number / 8 + 65) large in
    absurd (omega (arith, above, low))

-- names that are made from numbers, all different and none reserved
pub AreNames-made : (name : ℕ → List ℕ) (limit : ℕ) → ((i j : ℕ) → i < limit → j < limit → name i ≡ name j → i ≡ j)
    → ((i : ℕ) → i < limit → Contains reserved_words (name i) → ⊥) →
    (n : ℕ) → n ≤ limit → (names : List (List ℕ)) → names ≡ map name (range_with_len 0 n) → AreNames names
AreNames-made name limit apart free n few names e =
    let size = length-map-range_with_len name 0 n in
    rw e (record {
      different = λ i j d less h same.
          let a = get_or-map-range_with_len name 0 n i i d (omega (arith, less, h, size)) (omega arith) in
          let b = get_or-map-range_with_len name 0 n j j d (omega (arith, h, size)) (omega arith) in
          absurd (omega (arith, less, apart i j (omega (arith, less, h, size, few)) (omega (arith, h, size, few)) (sym a ∙ same ∙ b)));
      free = λ k d h c.
          let a = get_or-map-range_with_len name 0 n k k d (omega (arith, h, size)) (omega arith) in
          free k (omega (arith, h, size, few)) (subst (Contains reserved_words) a c);
    })

first_letter : (a b : ℕ) → ◌≡◌ {A = List ℕ} (a ∷ []) (b ∷ []) → a ≡ b
first_letter a b e = cc

both_letters : (a b c d : ℕ) → ◌≡◌ {A = List ℕ} (a ∷ b ∷ []) (c ∷ d ∷ []) → (a ≡ c) × (b ≡ d)
both_letters a b c d e = (cc, cc)

same_pair : (i j : ℕ) → pair i ≡ pair j → i ≡ j
same_pair i j e = let p = both_letters (i / 8 + 65) (i % 8 + 65) (j / 8 + 65) (j % 8 + 65) e in omega (arith, p.0, p.1)

pub AreNames-states : (names : List (List ℕ)) (n : ℕ) → n ≤ 64 → names ≡ map pair (range_with_len 0 n) → AreNames names
AreNames-states names n few e = AreNames-made pair 64 (λ i j _ _ same. same_pair i j same) free_pair n few names e

abbrev letter_of : ℕ → List ℕ
letter_of number = (number + 118) ∷ []

pub AreNames-frame : (names : List (List ℕ)) → names ≡ (118 ∷ []) ∷ (119 ∷ []) ∷ (120 ∷ []) ∷ (121 ∷ []) ∷ (122 ∷ []) ∷ [] → AreNames names
AreNames-frame names e = AreNames-made letter_of 5
    (λ i j _ _ same. let f = first_letter (i + 118) (j + 118) same in omega (arith, f))
    (λ i _ c. free_letter (i + 118) c) 5 (omega arith) names e

counted_some : {X : Type 0} (p : X → Bool) (xs : List X) → count_by p xs ≡ 1 → 1 ≤ length xs
counted_some p xs e = let n = count_by-le-length p xs in omega arith

pub IsCount-small : (states : List State) → length states ≤ 64 → count_by is_top_start states ≡ 1 → IsCount 64 (length states)
IsCount-small states few one = record { least = counted_some is_top_start states one; limit = omega arith }

one_range : (memory : Memory) → range_size memory ≤ 256 → range_product (memory ∷ []) ≤ 256
one_range memory h = let n : range_size memory * 1 ≡ range_size memory = omega arith in omega arith

pub IsChart-small : (signature : Signature) (initial : ℤ) (memory : Memory) (states : List State)
    (transitions : List Transition) → map (λ input. input.name) signature.inputs ≡ (118 ∷ []) ∷ (119 ∷ []) ∷ []
    → signature.outputs ≡ (120 ∷ []) ∷ (121 ∷ []) ∷ [] → unsigned_abs initial ≤ 1000 → IsMemory memory
    → memory.name ≡ 122 ∷ [] → range_size memory ≤ 256 → IsCount 64 (length states)
    → AreNames (map (λ state. state.name) states) → IsTree states → All (IsState 2 1 2) states
    → length transitions ≤ 256 → All (IsTransition 2 1 2 states) transitions
    → IsChart signature (initial ∷ initial ∷ []) [] (memory ∷ []) states transitions
IsChart-small signature initial memory states transitions inputs outputs small m name size count names tree all few moves =
    let one : 2 ≡ length signature.inputs = sym (ap length inputs) ∙ length-map signature.inputs (λ input. input.name) in
    let out : 2 ≡ length signature.outputs = sym (ap length outputs) in
    record {
      counts = record { few_assumed = omega arith; few_memories = omega arith; product = one_range memory size; few_states = count; few_transitions = few };
      names = AreNames-frame _ (λ i. inputs i ++ outputs i ++ name i ∷ []);
      state_names = names;
      one_value_each = out;
      small = All-cons (λ value. unsigned_abs value ≤ 1000000) initial (initial ∷ []) (omega arith)
          (All-cons (λ value. unsigned_abs value ≤ 1000000) initial [] (omega arith) (All-nil (λ value. unsigned_abs value ≤ 1000000)));
      assumptions = All-nil (IsAssumption (length signature.inputs));
      ranges = All-push IsMemory [] memory (All-nil IsMemory) m;
      tree = tree;
      actions = subst (λ n. All (IsState n 1 (length signature.outputs)) states) one (subst (λ n. All (IsState 2 1 n) states) out all);
      moves = subst (λ n. All (IsTransition n 1 (length signature.outputs) states) transitions) one
          (subst (λ n. All (IsTransition 2 1 n states) transitions) out moves);
    }

-- one more test of a guard
pub more_tests : (before after : List Comparison) (test : Comparison) (k : ℕ) → after ≡ before ++ test ∷ []
    → All (λ (c : Comparison). IsFormOver 2 1 c.form) before → IsFormOver 2 1 test.form → length before ≤ k →
    All (λ (c : Comparison). IsFormOver 2 1 c.form) after × (length after ≤ k + 1)
more_tests before after test k e all one few = rw e (
  All-push (λ (c : Comparison). IsFormOver 2 1 c.form) before test all one,
  let n = length_push before test in omega (arith, n, few),
)
