-- The states of a chart are those declared, with their lines.
use Rattle.std.proofs.Common.{◌≡◌, ℕ, zero, suc, ◌<◌, ◌≤◌, Bool, true, false, cond, ◌&&◌, ◌||◌, not, List, [], ◌∷◌, length, map, Option, Some}
use Rattle.std.proofs.Common.{None, refl, sym, ◌∙◌, ap, subst, arith}
use Rattle.std.specs.Prelude.{◌==◌, slice_get, count_by, is_none, is_some, option_and_then}
use Rattle.std.specs.List.{All, list_any}
use Rattle.std.specs.Option.{ForSome, option_map_or}
use Rattle.std.proofs.lemmas.Bool.Decides.{nat_tests}
use Rattle.std.proofs.lemmas.List.Elements.{All-nil, All-cons, All-head, All-tail}
use Rattle.std.proofs.lemmas.List.Sums.{sum_by-cons}
use Rattle.chart_model.specs.declared.action.Action.{Action}
use Rattle.chart_model.specs.declared.state.State.{State}
use Rattle.chart_model.specs.Chart.{IsState, IsAction}
use Rattle.chart_model.specs.States.{IsTree, is_top_start, is_start_child_of, is_child_of, parent_of, is_within_depth}
use Rattle.chart_syntax.specs.declared.reader.DeclaredState.{DeclaredState}
use Rattle.chart_syntax.specs.Checks.{is_start_under, same_parent, lacks_start}
use Rattle.chart_syntax.specs.Checks as declared
use Rattle.chart_syntax.specs.inside.Promises.{AreStates, AreActions}
use Rattle.chart_syntax.specs.Reading.{states_of, actions_of_line}
use Rattle.chart_syntax.proofs.Fresh.{or_false}
use Rattle.chart_syntax.proofs.Trees.{found_at}

pub length_joined : (xs : List DeclaredState) (es ds : List (Option (List Action))) → length es ≡ length xs → length ds ≡ length xs
    → length (states_of xs es ds) ≡ length xs
length_joined [] es ds e d = refl
length_joined (x ∷ xs) [] ds e d = absurd (omega arith)
length_joined (x ∷ xs) (a ∷ es) [] e d = absurd (omega arith)
length_joined (x ∷ xs) (a ∷ es) (b ∷ ds) e d = let h = length_joined xs es ds (omega arith) (omega arith) in omega (arith, h)

pub names_joined : (xs : List DeclaredState) (es ds : List (Option (List Action))) → length es ≡ length xs → length ds ≡ length xs
    → map (λ (state : State). state.name) (states_of xs es ds) ≡ map (λ (state : DeclaredState). state.name) xs
names_joined [] es ds e d = refl
names_joined (x ∷ xs) [] ds e d = absurd (omega arith)
names_joined (x ∷ xs) (a ∷ es) [] e d = absurd (omega arith)
names_joined (x ∷ xs) (a ∷ es) (b ∷ ds) e d = ap (λ names. x.name ∷ names) (names_joined xs es ds (omega arith) (omega arith))

-- a test of a state that looks at its parent and its mark alone
pub any_joined : (p : State → Bool) (q : DeclaredState → Bool)
    → ((x : DeclaredState) (a b : List Action) → p (record { name = x.name; parent = x.parent; start = x.start; entry = a; exit = b }) ≡ q x)
    → (xs : List DeclaredState) (es ds : List (Option (List Action))) → length es ≡ length xs → length ds ≡ length xs
    → list_any p (states_of xs es ds) ≡ list_any q xs
any_joined p q h [] es ds e d = refl
any_joined p q h (x ∷ xs) [] ds e d = absurd (omega arith)
any_joined p q h (x ∷ xs) (a ∷ es) [] e d = absurd (omega arith)
any_joined p q h (x ∷ xs) (a ∷ es) (b ∷ ds) e d = rw (h x (actions_of_line a) (actions_of_line b), any_joined p q h xs es ds (omega arith) (omega arith)) refl

pub count_joined : (p : State → Bool) (q : DeclaredState → Bool)
    → ((x : DeclaredState) (a b : List Action) → p (record { name = x.name; parent = x.parent; start = x.start; entry = a; exit = b }) ≡ q x)
    → (xs : List DeclaredState) (es ds : List (Option (List Action))) → length es ≡ length xs → length ds ≡ length xs
    → count_by p (states_of xs es ds) ≡ count_by q xs
count_joined p q h [] es ds e d = refl
count_joined p q h (x ∷ xs) [] ds e d = absurd (omega arith)
count_joined p q h (x ∷ xs) (a ∷ es) [] e d = absurd (omega arith)
count_joined p q h (x ∷ xs) (a ∷ es) (b ∷ ds) e d =
    let y : State = record { name = x.name; parent = x.parent; start = x.start; entry = actions_of_line a; exit = actions_of_line b } in
    let u = sum_by-cons (λ (state : State). cond (p state) 1 0) y (states_of xs es ds) in
    let v = sum_by-cons (λ (state : DeclaredState). cond (q state) 1 0) x xs in
    let t = ap (λ (b : Bool). cond {A = ℕ} b 1 0) (h x (actions_of_line a) (actions_of_line b)) in
    let r = count_joined p q h xs es ds (omega arith) (omega arith) in
    omega (arith, u, v, t, r)

pub get_joined : (xs : List DeclaredState) (es ds : List (Option (List Action))) → length es ≡ length xs → length ds ≡ length xs
    → (k : ℕ) (state : State) → slice_get (states_of xs es ds) k ≡ Some state → (x : DeclaredState) × (slice_get xs k ≡ Some x)
    × (state.parent ≡ x.parent)
get_joined [] es ds e d k state h = absurd (cc)
get_joined (x ∷ xs) [] ds e d k state h = absurd (omega arith)
get_joined (x ∷ xs) (a ∷ es) [] e d k state h = absurd (omega arith)
get_joined (x ∷ xs) (a ∷ es) (b ∷ ds) e d zero state h = (x, refl, ap (λ (o : Option State). option_and_then (λ s. s.parent) o) (sym h))
get_joined (x ∷ xs) (a ∷ es) (b ∷ ds) e d (suc k) state h = get_joined xs es ds (omega arith) (omega arith) k state h

pub parent_joined : (xs : List DeclaredState) (es ds : List (Option (List Action))) → length es ≡ length xs → length ds ≡ length xs → (k : ℕ)
    → parent_of (states_of xs es ds) k ≡ option_and_then (λ (x : DeclaredState). x.parent) (slice_get xs k)
parent_joined [] es ds e d k = refl
parent_joined (x ∷ xs) [] ds e d k = absurd (omega arith)
parent_joined (x ∷ xs) (a ∷ es) [] e d k = absurd (omega arith)
parent_joined (x ∷ xs) (a ∷ es) (b ∷ ds) e d zero = refl
parent_joined (x ∷ xs) (a ∷ es) (b ∷ ds) e d (suc k) = parent_joined xs es ds (omega arith) (omega arith) k

line_actions : (i m o : ℕ) (line : Option (List Action)) → ForSome line (AreActions i m o) → AreActions i m o (actions_of_line line)
line_actions i m o None h = All-nil (IsAction i m o)
line_actions i m o (Some actions) h = h actions refl

pub lines_joined : (i m o : ℕ) (xs : List DeclaredState) (es ds : List (Option (List Action))) → All (λ line. ForSome line (AreActions i m o)) es
    → All (λ line. ForSome line (AreActions i m o)) ds → All (IsState i m o) (states_of xs es ds)
lines_joined i m o [] es ds p q = All-nil (IsState i m o)
lines_joined i m o (x ∷ xs) [] ds p q = All-nil (IsState i m o)
lines_joined i m o (x ∷ xs) (a ∷ es) [] p q = All-nil (IsState i m o)
lines_joined i m o (x ∷ xs) (a ∷ es) (b ∷ ds) p q =
    let P : Option (List Action) → Type 0 = λ line. ForSome line (AreActions i m o) in
    All-cons (IsState i m o) (record { name = x.name; parent = x.parent; start = x.start; entry = actions_of_line a; exit = actions_of_line b })
    (states_of xs es ds)
    (record { entry = line_actions i m o a (All-head P a es p); exit = line_actions i m o b (All-head P b ds q) })
    (lines_joined i m o xs es ds (All-tail P a es p) (All-tail P b ds q))

-- the trees are alike
pub children_alike : (k : ℕ) (x : DeclaredState) (a b : List Action)
    → is_child_of k (record { name = x.name; parent = x.parent; start = x.start; entry = a; exit = b }) ≡ declared.is_child_of k x
children_alike k x a b = refl

start_if : (b : Bool) (o : Option ℕ) (k : ℕ) → (b && option_map_or (λ parent. parent == k) o false) ≡ (b && same_parent o (Some k))
start_if b None k = refl
start_if b (Some j) k = refl

top_if : (b : Bool) (o : Option ℕ) → (b && is_none o) ≡ (b && same_parent o None)
top_if b None = refl
top_if b (Some j) = refl

above_enough : (xs : List DeclaredState) (es ds : List (Option (List Action))) → length es ≡ length xs → length ds ≡ length xs → AreStates xs
    → (depth k : ℕ) (x : DeclaredState) (o : Option ℕ) → slice_get xs k ≡ Some x → x.parent ≡ o → x.depth ≤ suc depth
    → ((j : ℕ) (y : DeclaredState) → slice_get xs j ≡ Some y → y.depth ≤ depth → is_within_depth depth (states_of xs es ds) j ≡ true)
    → option_map_or (is_within_depth depth (states_of xs es ds)) o true ≡ true
above_enough xs es ds e d tree depth k x None h g less more = refl
above_enough xs es ds e d tree depth k x (Some j) h g less more = let a = (tree.depths k x h).2 j g in let n = a.2 in more j a.0 a.1 (omega (arith, n, less))

-- so many states are on the way from the top to a state as its depth tells
deep_enough : (xs : List DeclaredState) (es ds : List (Option (List Action))) → length es ≡ length xs → length ds ≡ length xs → AreStates xs
    → (depth k : ℕ) (x : DeclaredState) → slice_get xs k ≡ Some x → x.depth ≤ depth → is_within_depth depth (states_of xs es ds) k ≡ true
deep_enough xs es ds e d tree zero k x h less = let g = (tree.depths k x h).1 in absurd (omega (arith, g, less))
deep_enough xs es ds e d tree (suc depth) k x h less =
    let p = parent_joined xs es ds e d k ∙ ap (λ o. option_and_then (λ (y : DeclaredState). y.parent) o) h in
    rw p (above_enough xs es ds e d tree depth k x x.parent h refl less (deep_enough xs es ds e d tree depth))

parents_joined : (xs : List DeclaredState) (es ds : List (Option (List Action))) → length es ≡ length xs → length ds ≡ length xs → AreStates xs
    → (k : ℕ) (state : State) (parent : ℕ) → slice_get (states_of xs es ds) k ≡ Some state → state.parent ≡ Some parent → parent < k
parents_joined xs es ds e d tree k state parent h g = let a = get_joined xs es ds e d k state h in tree.parents k parent a.0 a.1 (sym a.2 ∙ g)

not_false : (b : Bool) → not b ≡ false → b ≡ true
not_false true e = refl
not_false false e = absurd (cc)

exactly_one : (n : ℕ) → 1 ≤ n → n ≤ 1 → n ≡ 1
exactly_one n least most = omega (arith, least, most)

as_one : (b : Bool) → b ≡ true → cond {A = ℕ} b 1 0 ≡ 1
as_one true e = refl
as_one false e = absurd (cc)

counted : {X : Type 0} (p : X → Bool) (x : X) (xs : List X) (b : Bool) → p x ≡ b → (b || list_any p xs) ≡ true
    → (list_any p xs ≡ true → 1 ≤ count_by p xs) → 1 ≤ count_by p (x ∷ xs)
counted p x xs true f h more = let e = sum_by-cons (λ y. cond (p y) 1 0) x xs in let g = as_one (p x) f in omega (arith, e, g)
counted p x xs false f h more = let e = sum_by-cons (λ y. cond (p y) 1 0) x xs in let g = more h in omega (arith, e, g)

some_counted : {X : Type 0} (p : X → Bool) (xs : List X) → list_any p xs ≡ true → 1 ≤ count_by p xs
some_counted p [] e = absurd (cc)
some_counted p (x ∷ xs) e = counted p x xs (p x) refl e (some_counted p xs)

same_number : (j k : ℕ) → (j == k) ≡ true → j ≡ k
same_number j k e = grind (arith, nat_tests)

not_lacking : (states : List DeclaredState) (o : Option ℕ) (k : ℕ) → option_map_or (λ parent. parent == k) o false ≡ true
    → (is_some o && not (list_any (is_start_under o) states)) ≡ false → list_any (is_start_under (Some k)) states ≡ true
not_lacking states None k child none = absurd (cc)
not_lacking states (Some j) k child none = subst (λ n. list_any (is_start_under (Some n)) states ≡ true) (same_number j k child)
    (not_false (list_any (is_start_under (Some j)) states) none)

lacking_if : (b : Bool) (all : List DeclaredState) (x : DeclaredState) (xs : List DeclaredState) (k : ℕ) → declared.is_child_of k x ≡ b
    → lacks_start all x ≡ false → (b || list_any (declared.is_child_of k) xs) ≡ true
    → (list_any (declared.is_child_of k) xs ≡ true → list_any (is_start_under (Some k)) all ≡ true)
    → list_any (is_start_under (Some k)) all ≡ true
lacking_if true all x xs k child none some more = not_lacking all x.parent k child none
lacking_if false all x xs k child none some more = more some

-- a state with children has a start child, where no state lacks one
lacking : (all xs : List DeclaredState) (k : ℕ) → list_any (lacks_start all) xs ≡ false → list_any (declared.is_child_of k) xs ≡ true
    → list_any (is_start_under (Some k)) all ≡ true
lacking all [] k none some = absurd (cc)
lacking all (x ∷ xs) k none some =
    let h = or_false (lacks_start all x) (list_any (lacks_start all) xs) none in
    lacking_if (declared.is_child_of k x) all x xs k refl h.0 some (lacking all xs k h.1)

pub tree_joined : (xs : List DeclaredState) (es ds : List (Option (List Action))) → length es ≡ length xs → length ds ≡ length xs → AreStates xs
    → list_any (is_start_under None) xs ≡ true → list_any (lacks_start xs) xs ≡ false → IsTree (states_of xs es ds)
tree_joined xs es ds e d tree started children = record {
  parents = parents_joined xs es ds e d tree;
  depth = λ k less.
      let n = length_joined xs es ds e d in
      let found = found_at xs k (omega (arith, n, less)) in
      deep_enough xs es ds e d tree 8 k found.0 found.1 (tree.depths k found.0 found.1).0;
  starts = λ k some.
      let has = sym (any_joined (is_child_of k) (declared.is_child_of k) (children_alike k) xs es ds e d) ∙ some in
      let least = some_counted (is_start_under (Some k)) xs (lacking xs xs k children has) in
      let most = tree.starts (Some k) in
      count_joined (is_start_child_of k) (is_start_under (Some k)) (λ x a b. start_if x.start x.parent k) xs es ds e d
      ∙ exactly_one (count_by (is_start_under (Some k)) xs) least most;
  top =
      let least = some_counted (is_start_under None) xs started in
      let most = tree.starts None in
      count_joined is_top_start (is_start_under None) (λ x a b. top_if x.start x.parent) xs es ds e d
      ∙ exactly_one (count_by (is_start_under None) xs) least most;
}
