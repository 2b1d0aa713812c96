-- The steps of a test that a scratch holds, and those that the next test begins with.
use Rattle.std.proofs.Common.{◌≡◌, ℕ, ℤ, zero, suc, ◌+◌, ◌-◌, ◌<◌, ◌≤◌, ◌*◌, ◌⊎◌, inl, inr, List, [], ◌∷◌, ◌++◌, length, take, drop, get_or, set, Some, slice_get, Contains, refl, ap, sym, subst, ◌∙◌, arith, length-append, length-drop, codes, Ok, Err}
use Rattle.std.specs.List.{flat_map}
use Rattle.std.proofs.lemmas.Bool.{cases_lt}
use Rattle.std.proofs.lemmas.List.{get_or-set_same, get_or-set_other, take_at, drop_at, take_all, take-append-le, take-take, take-append-drop}
use Rattle.std.proofs.lemmas.List.Concat.{flat_map-append}
use Rattle.std.proofs.lemmas.Option.{slice_get_within, get_or_from_slice_get}
use Rattle.strict_lines.specs.Lines.{line_text}
use Rattle.test_world.specs.Sink.{SinkState, Puts}
use Rattle.subject.specs.Suite.{SuiteParts, Test}
use Rattle.suite_model.specs.Scratch.{Place}
use Rattle.suite_model.specs.Suite.{IsSuite}
use Rattle.suite_model.specs.Text.{letters_line, step_line, step_lines}
use Rattle.suite_text.specs.inside.Parts.{text_of}
use Rattle.suite_text.specs.inside.Steps.{HaveSteps, IsStepsText, HoldsSteps, HoldsTest, steps_text}
use Rattle.suite_text.proofs.Growing.{few_rows, front_more, step_row}

steps_more : (classes : List (List ℤ)) (t : Test) (n a : ℕ) (r : List ℤ) → slice_get t.letters n ≡ Some a → slice_get t.replies n ≡ Some r →
    steps_text classes t (n + 1) ≡ steps_text classes t n ++ line_text (step_line (get_or classes a []) r)
steps_more classes t n a r e f = front_more line_text (step_lines classes t.letters t.replies) n _ (step_row classes t.letters t.replies n a r e f)

-- one step more
pub have_more : (classes : List (List ℤ)) (t : Test) (n a : ℕ) (r : List ℤ) (old new : Place) → HaveSteps classes t n old → slice_get t.letters n ≡ Some a → slice_get t.replies n ≡ Some r →
    n + 1 < length old.ends → new.line ≡ old.line ++ line_text (step_line (get_or classes a []) r) → length new.line ≤ length old.line + 320 → new.ends ≡ set old.ends (n + 1) (length new.line) → HaveSteps classes t (n + 1) new
have_more classes t n a r old new h e f inside line short ends = record {
  line = whole;
  ends = λ k small. end_at k small (cases_lt k (n + 1));
  short = λ k small. short_at k small (cases_lt k (n + 1));
}
  where
    whole : new.line ≡ steps_text classes t (n + 1)
    whole = line ∙ ap (λ x. x ++ line_text (step_line (get_or classes a []) r)) h.line ∙ sym (steps_more classes t n a r e f)

    end_at : (k : ℕ) → k ≤ n + 1 → (k < n + 1) ⊎ (n + 1 ≤ k) → get_or new.ends k 0 ≡ length (steps_text classes t k)
    end_at k small (inl l) =
        ap (λ x. get_or x k 0) ends ∙ get_or-set_other old.ends (n + 1) k (length new.line) 0 (λ same. omega (arith, same, l)) ∙ h.ends k (omega (arith, l))
    end_at k small (inr g) =
        let same : k ≡ n + 1 = omega (arith, small, g) in
        ap (λ x. get_or x k 0) ends ∙ ap (λ i. get_or (set old.ends (n + 1) (length new.line)) i 0) same
        ∙ get_or-set_same old.ends (n + 1) (length new.line) 0 inside ∙ ap length whole ∙ ap (λ i. length (steps_text classes t i)) (sym same)

    short_at : (k : ℕ) → k ≤ n + 1 → (k < n + 1) ⊎ (n + 1 ≤ k) → length (steps_text classes t k) ≤ 320 * k
    short_at k small (inl l) = h.short k (omega (arith, l))
    short_at k small (inr g) =
        let same : k ≡ n + 1 = omega (arith, small, g) in
        let before = h.short n (omega arith) in
        omega (arith, same, before, short, ap length h.line, ap length whole, ap (λ i. length (steps_text classes t i)) same)

-- the text of more steps goes on behind that of fewer
steps_split : (classes : List (List ℤ)) (t : Test) (k n : ℕ) → k ≤ n → steps_text classes t n ≡ steps_text classes t k ++ text_of (drop k (take n (step_lines classes t.letters t.replies)))
steps_split classes t k n small =
    let all = step_lines classes t.letters t.replies in
    ap (flat_map line_text) (sym (take-append-drop k (take n all)) ∙ ap (λ x. x ++ drop k (take n all)) (take-take k n all small)) ∙ flat_map-append line_text (take k all) (drop k (take n all))

-- the text of fewer steps is the front of that of more
steps_front : (classes : List (List ℤ)) (t : Test) (k n : ℕ) → k ≤ n → take (length (steps_text classes t k)) (steps_text classes t n) ≡ steps_text classes t k
steps_front classes t k n small = ap (take (length (steps_text classes t k))) (steps_split classes t k n small) ∙ take_at (steps_text classes t k) _ (length (steps_text classes t k)) refl

-- the ends that are kept do not fall
pub ends_rise : (n j k : ℕ) (place : Place) → IsStepsText n place → j ≤ k → k ≤ n → get_or place.ends j 0 ≤ get_or place.ends k 0
ends_rise n j k place (classes, t, h) less small =
    let longer = ap length (steps_split classes t j k less) in
    let both = length-append (steps_text classes t j) (text_of (drop j (take k (step_lines classes t.letters t.replies)))) in
    let lower : get_or place.ends j 0 ≡ length (steps_text classes t j) = h.ends j (omega (arith, less, small)) in
    let upper : get_or place.ends k 0 ≡ length (steps_text classes t k) = h.ends k small in
    omega (arith, longer, both, lower, upper)

pub last_end : (n : ℕ) (place : Place) → IsStepsText n place → get_or place.ends n 0 ≡ length place.line
last_end n place (classes, t, h) = h.ends n (omega arith) ∙ ap length (sym h.line)

pub first_end : (n : ℕ) (place : Place) → IsStepsText n place → get_or place.ends 0 0 ≡ 0
first_end n place (classes, t, h) = h.ends 0 (omega arith)

have_less : (classes : List (List ℤ)) (t : Test) (k n : ℕ) (old new : Place) → k ≤ n → HaveSteps classes t n old → new.line ≡ take (get_or old.ends k 0) old.line → new.ends ≡ old.ends → HaveSteps classes t k new
have_less classes t k n old new small h line ends = record {
  line = line ∙ ap (λ x. take x old.line) (h.ends k small) ∙ ap (take (length (steps_text classes t k))) h.line ∙ steps_front classes t k n small;
  ends = λ j less. ap (λ x. get_or x j 0) ends ∙ h.ends j (omega (arith, less, small));
  short = λ j less. h.short j (omega (arith, less, small));
}

rows_front : (classes : List (List ℤ)) (k : ℕ) (w : List ℕ) (rs : List (List ℤ)) → take k (step_lines classes w rs) ≡ step_lines classes (take k w) (take k rs)
rows_front classes zero w rs = refl
rows_front classes (suc k) [] rs = refl
rows_front classes (suc k) (a ∷ w) [] = refl
rows_front classes (suc k) (a ∷ w) (r ∷ rs) = ap (λ x. step_line (get_or classes a []) r ∷ x) (rows_front classes k w rs)

-- tests that begin with the same letters begin with the same steps
same_steps : (s : SuiteParts) → IsSuite s → (t u : Test) (k j : ℕ) → Contains s.tests t → Contains s.tests u → take k t.letters ≡ take k u.letters → j ≤ k → steps_text s.classes t j ≡ steps_text s.classes u j
same_steps s rules t u k j has other same small =
    let shorter : (xs ys : List ℕ) → take k xs ≡ take k ys → take j xs ≡ take j ys = λ xs ys e. sym (take-take j k xs small) ∙ ap (take j) e ∙ take-take j k ys small in
    let front = shorter t.letters u.letters same in
    let replies = rules.agree t u j has other front in
    ap text_of (rows_front s.classes j t.letters t.replies ∙ ap (λ w. step_lines s.classes w (take j t.replies)) front ∙ ap (step_lines s.classes (take j u.letters)) replies ∙ sym (rows_front s.classes j u.letters u.replies))

carried : (s : SuiteParts) → IsSuite s → (t u : Test) (k : ℕ) (place : Place) → Contains s.tests t → Contains s.tests u → take k t.letters ≡ take k u.letters → HaveSteps s.classes t k place → HaveSteps s.classes u k place
carried s rules t u k place has other same h = record {
  line = h.line ∙ same_steps s rules t u k k has other same (omega arith);
  ends = λ j small. h.ends j small ∙ ap length (same_steps s rules t u k j has other same small);
  short = λ j small. subst (λ x. length x ≤ 320 * j) (same_steps s rules t u k j has other same small) (h.short j small);
}

none_held : (classes : List (List ℤ)) (u : Test) (place : Place) → place.line ≡ [] → get_or place.ends 0 0 ≡ 0 → HaveSteps classes u 0 place
none_held classes u place line first = record {
  line = line;
  ends = λ k small. let same : k ≡ 0 = omega (arith, small) in rw (same) first;
  short = λ k small. let same : k ≡ 0 = omega (arith, small) in rw (same) (omega arith);
}

pub test_there : (tests : List Test) (i : ℕ) (t : Test) → slice_get tests i ≡ Some t → Contains tests t
test_there tests i t e = (i, slice_get_within tests i t e, get_or_from_slice_get tests i t t e)

-- the steps that stay are those that the next test begins with
pub goes_on : (s : SuiteParts) → IsSuite s → (before from same : ℕ) (u : Test) (old put new : Place) → HoldsSteps s before old → Contains s.tests u → from ≤ same → from ≤ before →
    put.letters ≡ u.letters ++ drop (length u.letters) old.letters → same ≤ length u.letters → take same put.letters ≡ take same old.letters → put.line ≡ old.line → put.ends ≡ old.ends →
    new.line ≡ take (get_or put.ends from 0) put.line → new.ends ≡ put.ends → HaveSteps s.classes u from new
goes_on s rules before from same u old put new (inl none) has within less letters long front line ends back kept =
    let first : from ≡ 0 = omega (arith, less, none.0) in
    let zero_end : get_or put.ends 0 0 ≡ 0 = ap (λ x. get_or x 0 0) ends ∙ none.1 in
    rw (first) (none_held s.classes u new (back ∙ ap (λ x. take (get_or put.ends x 0) put.line) first ∙ ap (λ x. take x put.line) zero_end) (ap (λ x. get_or x 0 0) kept ∙ zero_end))
goes_on s rules before from same u old put new (inr (t, h)) has within less letters long front line ends back kept =
    let shorter : (n : ℕ) (xs ys : List ℕ) → from ≤ n → take n xs ≡ take n ys → take from xs ≡ take from ys = λ n xs ys small e. sym (take-take from n xs small) ∙ ap (take from) e ∙ take-take from n ys small in
    let first : take from t.letters ≡ take from u.letters =
    ap (take from) (sym h.letters) ∙ take-take from before old.letters less ∙ sym (shorter same put.letters old.letters within front) ∙ ap (take from) letters
    ∙ take-append-le from u.letters (drop (length u.letters) old.letters) (omega (arith, within, long)) in
    carried s rules t u from new h.here has first
    (have_less s.classes t from before old new less h.steps (back ∙ ap (λ x. take (get_or x from 0) put.line) ends ∙ ap (λ x. take (get_or old.ends from 0) x) line) (kept ∙ ends))

-- the text of all steps of a test
pub all_steps : (classes : List (List ℤ)) (t : Test) (n : ℕ) → n ≡ length t.letters → steps_text classes t n ≡ text_of (step_lines classes t.letters t.replies)
all_steps classes t n count =
    let few = few_rows classes t.letters t.replies in
    ap text_of (take_all n (step_lines classes t.letters t.replies) (omega (arith, few, count)))

-- after the line of the test was behind the steps, the scratch holds them again
pub holds_again : (s : SuiteParts) (t : Test) (n : ℕ) (old put new : Place) (head : List ℕ) → HoldsTest s t n old → put.line ≡ old.line ++ head → put.letters ≡ old.letters → put.ends ≡ old.ends →
    new.line ≡ take (get_or put.ends n 0) put.line → new.letters ≡ put.letters → new.ends ≡ put.ends → HoldsTest s t n new
holds_again s t n old put new head h line letters ends back same kept =
    let all : new.line ≡ old.line =
    back ∙ ap (λ x. take (get_or x n 0) put.line) ends ∙ ap (λ x. take x put.line) (h.steps.ends n (omega arith) ∙ ap length (sym h.steps.line)) ∙ ap (take (length old.line)) line ∙ take_at old.line head (length old.line) refl in
    record {
      here = h.here;
      count = h.count;
      letters = ap (take n) (same ∙ letters) ∙ h.letters;
      steps = record {
        line = all ∙ h.steps.line;
        ends = λ k small. ap (λ x. get_or x k 0) (kept ∙ ends) ∙ h.steps.ends k small;
        short = h.steps.short;
      };
    }

-- the line of the test, behind the steps
pub head_of : (s : SuiteParts) (t : Test) (n : ℕ) (place : Place) (steps line put : List ℕ) → HoldsTest s t n place → steps ≡ place.line → line ≡ put → put ≡ place.line ++ line_text (letters_line (codes "test") (take n place.letters)) →
    take (length line - length steps) (drop (length steps) line) ≡ line_text (letters_line (codes "test") t.letters)
head_of s t n place steps line put h same read grown =
    take_all (length line - length steps) (drop (length steps) line) (omega (arith, length-drop (length steps) line))
    ∙ ap (drop (length steps)) (read ∙ grown) ∙ drop_at place.line _ (length steps) (ap length (sym same)) ∙ ap (λ w. line_text (letters_line (codes "test") w)) h.letters

-- what a call put is the same whatever else it answers
pub put_whole : {T E U F : Type 0} (x : T) (y : U) (old new : SinkState) (bytes : List ℕ) → Puts {T = T} {E = E} old new bytes (Ok x) → Puts {T = U} {E = F} old new bytes (Ok y)
put_whole x y old new bytes h = record { put = h.put; later = h.later }

pub put_in_part : {T E U F : Type 0} (x : E) (y : F) (old new : SinkState) (bytes : List ℕ) → Puts {T = T} {E = E} old new bytes (Err x) → Puts {T = U} {E = F} old new bytes (Err y)
put_in_part x y old new bytes h = record { put = h.put; later = h.later }
