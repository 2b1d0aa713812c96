-- What a transition leads to.
use Rattle.std.proofs.Common.{◌≡◌, ◌≢◌, ℕ, ◌<◌, Bool, true, false, cond, not, List, [], ◌∷◌, ◌++◌, length, reverse, Option, None, Some, is_some}
use Rattle.std.proofs.Common.{◌==◌, refl, ap, sym, subst, ◌∙◌, arith}
use Rattle.std.specs.Prelude.{slice_get, option_and_then, find, take_while, Contains}
use Rattle.std.specs.Option.{option_map_or}
use Rattle.std.specs.List.{All, list_any}
use Rattle.std.proofs.lemmas.Bool.{false≢true}
use Rattle.std.proofs.lemmas.Bool.Decides.{nat_tests, Decides-eqb}
use Rattle.std.proofs.lemmas.List.{reverse-append}
use Rattle.std.proofs.lemmas.List.Folds.{Any-from_list_any, list_any_at}
use Rattle.std.proofs.lemmas.List.Sums.{take_while-cons}
use Rattle.std.proofs.lemmas.Option.{same_Some, option_and_then_some}
use Rattle.chart_model.specs.declared.action.Action.{Action}
use Rattle.chart_model.specs.declared.chart.Chart.{Chart}
use Rattle.chart_model.specs.declared.state.State.{State}
use Rattle.chart_model.specs.declared.transition.Transition.{Transition}
use Rattle.chart_model.specs.Chart.{IsTransition}
use Rattle.chart_model.specs.States.{IsTree, has_children, parent_of}
use Rattle.chart_meaning.specs.Configuration.{Configuration}
use Rattle.chart_meaning.specs.Actions.{run}
use Rattle.chart_meaning.specs.Tree.{ancestors, ancestors_within, start_descendants, proper_ancestors, least_common_proper_ancestor, states_below}
use Rattle.chart_meaning.specs.Step.{is_recall_of, is_remembering, last_child, way_below, entered_by, enter_all}
use Rattle.chart_meaning.specs.IsConfiguration.{AreLastChildren, AreValues, IsConfiguration, IsLastOf}
use Rattle.chart_meaning.proofs.Climbing.{parent_below}
use Rattle.chart_meaning.proofs.Moving.{reached, reached-append, reached-inside, proper_ancestors-lt, enter_all-leaf, enter_all-last, enter_all-append}
use Rattle.chart_meaning.proofs.Moving.{run-leaf, run-last, AreStates-start_descendants, start_descendants-childless}
use Rattle.chart_meaning.proofs.Leaving.{AreLastChildren-same, is_remembering-last}

-- what stands in a chart's list keeps what each does
pub All_contained : {X : Type 0} (P : X → Type 0) (xs : List X) (x : X) → All P xs → Contains xs x → P x
All_contained P xs x all h = subst P h.2 (all h.0 x h.1)

-- the last child of a state
last_inside : (chart : Chart) (s child : ℕ) (o : Option ℕ) → IsLastOf chart s o → o ≡ Some child → parent_of chart.states child ≡ Some s
last_inside chart s child None h e = absurd cc
last_inside chart s child (Some c) h e = subst (λ x. parent_of chart.states x ≡ Some s) (same_Some c child e) h.1

pub last_child-parent : (chart : Chart) (c : Configuration) (s child : ℕ) → AreLastChildren chart c
    → last_child c s ≡ Some child → parent_of chart.states child ≡ Some s
last_child-parent chart c s child last e =
    option_and_then_some (λ (o : Option ℕ). o) (slice_get c.last s) child e
    (λ o g f. last_inside chart s child o (last.child s o g) f)

pub last_child-inside : (chart : Chart) (c : Configuration) (s child : ℕ) → AreLastChildren chart c → last_child c s ≡ Some child → child < length chart.states
last_child-inside chart c s child last e = (parent_below chart.states chart.kept.tree child s (last_child-parent chart c s child last e)).1

-- the innermost container lies outside the target
find_at : {X : Type 0} (p : X → Bool) (y : X) (xs : List X) (x : X) (b : Bool) → p y ≡ b
    → (find p xs ≡ Some x → p x ≡ true) → cond b (Some y) (find p xs) ≡ Some x → p x ≡ true
find_at p y xs x true at more e = subst (λ z. p z ≡ true) (same_Some y x e) at
find_at p y xs x false at more e = more e

find-passes : {X : Type 0} (p : X → Bool) (xs : List X) (x : X) → find p xs ≡ Some x → p x ≡ true
find-passes p [] x e = absurd cc
find-passes p (y ∷ xs) x e = find_at p y xs x (p y) refl (find-passes p xs x) e

pub least_common_proper_ancestor-lt : (states : List State) → IsTree states → (source target container : ℕ)
    → least_common_proper_ancestor states source target ≡ Some container → container < target
least_common_proper_ancestor-lt states tree source target container e =
    let passes = find-passes (λ s. list_any (λ t. t == s) (proper_ancestors states target)) (proper_ancestors states source) container e in
    let some = Any-from_list_any (λ (t : ℕ). t == container) (proper_ancestors states target) passes in
    let less = proper_ancestors-lt states tree target some.0 some.1 some.2 in
    let same : some.1 ≡ container = (Decides-eqb some.1 container).0 some.4 in
    let is = some.3 in
    omega arith

-- the way in ends in the target
below_target : (states : List State) (target : ℕ) (rest : List ℕ) (o : Option ℕ)
    → ((container : ℕ) → o ≡ Some container → container < target)
    → (below : List ℕ) × (states_below o (target ∷ rest) ≡ target ∷ below)
below_target states target rest None less = (rest, refl)
below_target states target rest (Some container) less =
    let other : not (target == container) ≡ true = let h = less container refl in grind (arith, nat_tests) in (
      take_while (λ s. not (s == container)) rest,
      take_while-cons (λ s. not (s == container)) target rest ∙ ap (λ b. cond b (target ∷ take_while (λ s. not (s == container)) rest) []) other,
    )

reached-reverse : (s target : ℕ) (below : List ℕ) → reached s (reverse (target ∷ below)) ≡ target
reached-reverse s target below = ap (reached s) (reverse-append (target ∷ []) below) ∙ reached-append s (reverse below) (target ∷ [])

pub reached-entered : (states : List State) → IsTree states → (s source target : ℕ) → reached s (entered_by states source target) ≡ target
unfolding ancestors
reached-entered states tree s source target =
    let h = below_target states target (option_map_or (ancestors_within 7 states) (parent_of states target) [])
    (least_common_proper_ancestor states source target)
    (λ container e. least_common_proper_ancestor-lt states tree source target container e) in
    ap (λ way. reached s (reverse way)) h.1 ∙ reached-reverse s target h.0

-- the states entered below a target lead to a leaf
recalled : (chart : Chart) (t : Transition) (target : ℕ) → Contains chart.transitions t → t.history ≡ true
    → t.target ≡ Some target → is_remembering chart.transitions target ≡ true
recalled chart t target h history e =
    let same : (target == target) ≡ true = grind (arith, nat_tests) in
    let recall : is_recall_of target t ≡ true = rw (history, e) same in
    list_any_at (is_recall_of target) chart.transitions h.0 t h.1 (ap (is_recall_of target) h.2 ∙ recall)

record IsLed (chart : Chart) (target : ℕ) (below : List ℕ) : Type 0 where
  inside : reached target below < length chart.states
  childless : has_children chart.states (reached target below) ≡ false

led_down : (chart : Chart) (s : ℕ) → s < length chart.states → IsLed chart s (start_descendants chart.states s)
led_down chart s h = record {
  inside = reached-inside chart.states s (start_descendants chart.states s) h (AreStates-start_descendants chart.states s);
  childless = start_descendants-childless chart.states chart.kept.tree s h;
}

led_child : (chart : Chart) (c : Configuration) (target : ℕ) (o : Option ℕ) → AreLastChildren chart c
    → last_child c target ≡ o → o ≢ None
    → IsLed chart target (option_map_or (λ child. child ∷ start_descendants chart.states child) o [])
led_child chart c target None last e some = absurd (some refl)
led_child chart c target (Some child) last e some =
    let down = led_down chart child (last_child-inside chart c target child last e) in
    record { inside = down.inside; childless = down.childless }

has_last : (chart : Chart) (c : Configuration) (target : ℕ) → AreLastChildren chart c → target < length chart.states
    → is_remembering chart.transitions target ≡ true → last_child c target ≢ None
has_last chart c target last h r e = false≢true (sym (is_remembering-last chart c target last h ∙ ap is_some e) ∙ r)

led_below : (chart : Chart) (c : Configuration) (target : ℕ) (history : Bool) → target < length chart.states
    → AreLastChildren chart c → (history ≡ true → is_remembering chart.transitions target ≡ true)
    → IsLed chart target (way_below chart.states history target c)
led_below chart c target false h last r = led_down chart target h
led_below chart c target true h last r = led_child chart c target (last_child c target) last refl (has_last chart c target last h (r refl))

-- a target that is entered
pub IsConfiguration-entered : (chart : Chart) (t : Transition) (target : ℕ) (c d : Configuration)
    → Contains chart.transitions t → t.target ≡ Some target → target < length chart.states → AreLastChildren chart c
    → AreValues chart d → d
    ≡ enter_all chart (entered_by chart.states t.source target ++ way_below chart.states t.history target c) c
    → IsConfiguration chart d
IsConfiguration-entered chart t target c d in' e h last values is =
    let led = led_below chart c target t.history h last (λ history. recalled chart t target in' history e) in
    let entered = entered_by chart.states t.source target in
    let below = way_below chart.states t.history target c in
    let leaf : d.leaf ≡ reached target below =
    ap (λ (x : Configuration). x.leaf) is ∙ enter_all-leaf chart (entered ++ below) c
    ∙ reached-append c.leaf entered below
    ∙ ap (λ s. reached s below) (reached-entered chart.states chart.kept.tree c.leaf t.source target) in
    record {
      state = rw leaf led.inside;
      childless = rw leaf led.childless;
      values = values;
      last = AreLastChildren-same chart c d (ap (λ (x : Configuration). x.last) is ∙ enter_all-last chart (entered ++ below) c) last;
    }

-- actions leave the leaf and the last children
pub IsConfiguration-run : (chart : Chart) (actions : List Action) (c d : Configuration) → IsConfiguration chart c
    → AreValues chart d → d ≡ run chart.memories actions c → IsConfiguration chart d
IsConfiguration-run chart actions c d h values is =
    let leaf : d.leaf ≡ c.leaf = ap (λ (x : Configuration). x.leaf) is ∙ run-leaf chart.memories actions c in
    record {
      state = rw leaf h.state;
      childless = rw leaf h.childless;
      values = values;
      last = AreLastChildren-same chart c d (ap (λ (x : Configuration). x.last) is ∙ run-last chart.memories actions c) h.last;
    }

pub way_below-same : (states : List State) (history : Bool) (target : ℕ) (c d : Configuration) → d.last ≡ c.last
    → way_below states history target d ≡ way_below states history target c
way_below-same states false target c d e = refl
way_below-same states true target c d e =
    ap (λ (last : List (Option ℕ)). option_map_or (λ child. child ∷ start_descendants states child)
    (option_and_then (λ (o : Option ℕ). o) (slice_get last target)) []) e

-- the entries down to a target and below it are one way
pub entered_below : (chart : Chart) (t : Transition) (target : ℕ) (c d f : Configuration)
    → d ≡ enter_all chart (entered_by chart.states t.source target) c
    → f ≡ enter_all chart (way_below chart.states t.history target d) d
    → f ≡ enter_all chart (entered_by chart.states t.source target ++ way_below chart.states t.history target c) c
entered_below chart t target c d f e g =
    let entered = entered_by chart.states t.source target in
    let last : d.last ≡ c.last = ap (λ (x : Configuration). x.last) e ∙ enter_all-last chart entered c in
    g ∙ (λ i. enter_all chart (way_below-same chart.states t.history target c d last i) (e i))
    ∙ sym (enter_all-append chart entered (way_below chart.states t.history target c) c)

pub target_inside : (chart : Chart) (t : Transition) (target : ℕ) → Contains chart.transitions t → t.target ≡ Some target → target < length chart.states
target_inside chart t target h e =
    let is = All_contained
    (IsTransition (length chart.signature.inputs) (length chart.memories) (length chart.signature.outputs)
    chart.states) chart.transitions t chart.kept.moves h in
    is.target target e
