-- What a step keeps: from a configuration it leads to a configuration.
use Rattle.std.proofs.Common.{◌≡◌, ℕ, zero, suc, ◌<◌, Bool, true, false, cond, List, [], ◌∷◌, ◌++◌, length, set, Option, None, Some, ℤ, pos}
use Rattle.std.proofs.Common.{if◌then◌else◌, refl, sym, subst, ◌∙◌, arith}
use Rattle.std.specs.Prelude.{slice_get, find, position, unsigned_abs, Contains}
use Rattle.std.specs.Option.{option_map_or, option_or}
use Rattle.std.specs.List.{All}
use Rattle.std.proofs.lemmas.Bool.{false≢true}
use Rattle.std.proofs.lemmas.List.Elements.{All-nil, All-cons, All-head, All-tail, All-append}
use Rattle.std.proofs.lemmas.List.Quantifiers.{position-Some}
use Rattle.std.proofs.lemmas.Option.{same_Some}
use Rattle.lin_form.specs.declared.form.Form.{Form}
use Rattle.lin_form.specs.Form.{IsModerate, sum_of_products}
use Rattle.lin_form.specs.Padded.{padded}
use Rattle.lin_form.specs.Range.{AreWithin}
use Rattle.lin_form.proofs.CallerLemmas.{sum_of_products-bound, unsigned_abs-add-le}
use Rattle.chart_model.specs.declared.action.Action.{Action}
use Rattle.chart_model.specs.declared.action.Place.{Place}
use Rattle.chart_model.specs.declared.action.Place.TheVariants as place
use Rattle.chart_model.specs.declared.chart.Chart.{Chart}
use Rattle.chart_model.specs.declared.transition.Transition.{Transition}
use Rattle.chart_model.specs.Chart.{IsAction, IsMemory, IsTransition}
use Rattle.chart_model.specs.States.{is_top_start}
use Rattle.chart_meaning.specs.Actions.{act, run, sum_of}
use Rattle.chart_meaning.specs.Configuration.{Configuration}
use Rattle.chart_meaning.specs.IsConfiguration.{AreLastChildren, AreValues, IsConfiguration}
use Rattle.chart_meaning.specs.Step.{active_states, enter, enter_all, entered_by, entry_of, exit_all, exit_of, exited_by, firing, is_enabled_in}
use Rattle.chart_meaning.specs.Step.{is_remembering, last_child, next_of, remember, start_of, declared, go_to, take_transition, way_below}
use Rattle.chart_meaning.specs.Tree.{least_common_proper_ancestor, start_descendants, ancestors}
use Rattle.chart_meaning.specs.Ways.{AreStates, IsActiveIn, IsUpFrom}
use Rattle.chart_meaning.proofs.Acting.{AreValues-memory, AreValues-output, AreWithin-padded, act-memory, act-output, declared_memory, All_found}
use Rattle.chart_meaning.proofs.Leaving.{AreLastChildren-same, AreLastChildren-set, active_in, actions_of, entry_found, exit_found, next_up, not_remembering}
use Rattle.chart_meaning.proofs.Moving.{AreStates-entered, AreStates-start_descendants, AreStates-ancestors, All-below, IsUpFrom-below, IsUpFrom-ancestors}
use Rattle.chart_meaning.proofs.Moving.{first_counted, run-last}
use Rattle.chart_meaning.proofs.Starting.{AreLastChildren-declared, AreValues-declared, IsConfiguration-started}
use Rattle.chart_meaning.proofs.Taking.{All_contained, IsConfiguration-entered, IsConfiguration-run, last_child-inside, target_inside}

-- what stands at a place
there : {X : Type 0} (xs : List X) (i : ℕ) → i < length xs → (x : X) × (slice_get xs i ≡ Some x)
there [] i h = let no : ⊥ = omega arith in absurd no
there (x ∷ xs) zero h = (x, refl)
there (x ∷ xs) (suc i) h = let r = there xs i (omega arith) in (r.0, r.1)

abbrev IsActionOf : Chart → Action → Type 0
IsActionOf chart action = IsAction (length chart.signature.inputs) (length chart.memories) (length chart.signature.outputs) action

abbrev AreActions : Chart → List Action → Type 0
AreActions chart actions = All (IsActionOf chart) actions

sum-bound : (form : Form) (memory : List ℤ) → IsModerate form → AreWithin 1000 memory → unsigned_abs (sum_of form memory) < 1000000000000
sum-bound form memory moderate small =
    let j = sum_of_products-bound form.memory memory 1000 small in
    let q = moderate.memory in
    let s = unsigned_abs-add-le (sum_of_products form.memory memory) form.constant in
    let c = moderate.constant in
    omega arith

-- an action
values_at : (chart : Chart) (action : Action) (c : Configuration) (p : Place) → action.place ≡ p
    → IsActionOf chart action → AreValues chart c → AreValues chart (act chart.memories action c)
values_at chart action c (place.Memory number) e is v =
    let found = there chart.memories number (declared_memory (length chart.memories) (length chart.signature.outputs) action.place number e is.place) in
    let memory = All_found IsMemory chart.memories number found.0 chart.kept.ranges found.1 in
    subst (AreValues chart) (sym (act-memory chart.memories action c number found.0 _ e found.1 refl))
    (AreValues-memory chart c number found.0 _ found.1 memory v)
values_at chart action c (place.Output number) e is v =
    let small = AreWithin-padded chart.memories c.memory chart.kept.ranges v.memory in
    subst (AreValues chart) (sym (act-output chart.memories action c number _ e refl))
    (AreValues-output chart c number _
    (sum-bound action.value (padded (pos 0) 4 c.memory) is.value.moderate small) v)

-- actions
values_run : (chart : Chart) (actions : List Action) (c : Configuration) → AreActions chart actions
    → AreValues chart c → AreValues chart (run chart.memories actions c)
values_run chart [] c all v = v
values_run chart (action ∷ actions) c all v =
    values_run chart actions (act chart.memories action c) (All-tail (IsActionOf chart) action actions all)
    (values_at chart action c action.place refl (All-head (IsActionOf chart) action actions all) v)

entry_actions : (chart : Chart) (s : ℕ) → s < length chart.states → AreActions chart (entry_of chart.states s)
entry_actions chart s h =
    let found = there chart.states s h in
    subst (AreActions chart) (sym (entry_found chart.states s found.0 found.1)) (actions_of chart s found.0 found.1).entry

exit_actions : (chart : Chart) (s : ℕ) → s < length chart.states → AreActions chart (exit_of chart.states s)
exit_actions chart s h =
    let found = there chart.states s h in
    subst (AreActions chart) (sym (exit_found chart.states s found.0 found.1)) (actions_of chart s found.0 found.1).exit

-- entries
values_enter : (chart : Chart) (s : ℕ) (c : Configuration) → s < length chart.states → AreValues chart c → AreValues chart (enter chart s c)
values_enter chart s c h v =
    let ran = values_run chart (entry_of chart.states s) c (entry_actions chart s h) v in
    record { memory = ran.memory; outputs = ran.outputs; limited = ran.limited }

values_enter_all : (chart : Chart) (way : List ℕ) (c : Configuration) → AreStates chart.states way → AreValues chart c → AreValues chart (enter_all chart way c)
values_enter_all chart [] c all v = v
values_enter_all chart (s ∷ way) c all v =
    values_enter_all chart way (enter chart s c) (All-tail (λ s. s < length chart.states) s way all)
    (values_enter chart s c (All-head (λ s. s < length chart.states) s way all) v)

-- exits
record IsExited (chart : Chart) (c : Configuration) : Type 0 where
  values : AreValues chart c
  last : AreLastChildren chart c

remembered : (chart : Chart) (s : ℕ) (child : Option ℕ) (c : Configuration) (b : Bool)
    → is_remembering chart.transitions s ≡ b → IsActiveIn chart s child → IsExited chart c
    → IsExited chart (if b then record c { last = set c.last s child } else c)
remembered chart s None c true r active x = absurd (false≢true (sym active ∙ r))
remembered chart s (Some child) c true r active x = record {
  values = record { memory = x.values.memory; outputs = x.values.outputs; limited = x.values.limited };
  last = AreLastChildren-set chart c s child r active x.last;
}
remembered chart s child c false r active x = x

exited : (chart : Chart) (s : ℕ) (child : Option ℕ) (c : Configuration) → s < length chart.states
    → IsActiveIn chart s child → IsExited chart c
    → IsExited chart (remember chart.transitions s child (run chart.memories (exit_of chart.states s) c))
exited chart s child c h active x =
    let d = run chart.memories (exit_of chart.states s) c in
    remembered chart s child d (is_remembering chart.transitions s) refl active (record {
      values = values_run chart (exit_of chart.states s) c (exit_actions chart s h) x.values;
      last = AreLastChildren-same chart c d (run-last chart.memories (exit_of chart.states s) c) x.last;
    })

exited_all : (chart : Chart) (leaf : ℕ) (way : List ℕ) (child : Option ℕ) (c : Configuration)
    → is_remembering chart.transitions leaf ≡ false → IsUpFrom chart.states (next_up chart.states leaf child) way
    → AreStates chart.states way → IsExited chart c → IsExited chart (exit_all chart child way c)
exited_all chart leaf [] child c none up all x = x
exited_all chart leaf (s ∷ way) child c none up all x =
    let active = active_in chart leaf s child none up.0 in
    exited_all chart leaf way (Some s)
    (remember chart.transitions s child (run chart.memories (exit_of chart.states s) c)) none up.1
    (All-tail (λ s. s < length chart.states) s way all)
    (exited chart s child c (All-head (λ s. s < length chart.states) s way all) active x)

-- the states below a target
states_recalled : (chart : Chart) (c : Configuration) (target : ℕ) (o : Option ℕ) → last_child c target ≡ o
    → AreLastChildren chart c
    → AreStates chart.states (option_map_or (λ child. child ∷ start_descendants chart.states child) o [])
states_recalled chart c target None e last = All-nil (λ s. s < length chart.states)
states_recalled chart c target (Some child) e last =
    All-cons (λ s. s < length chart.states) child (start_descendants chart.states child)
    (last_child-inside chart c target child last e) (AreStates-start_descendants chart.states child)

states_below_target : (chart : Chart) (c : Configuration) (target : ℕ) (history : Bool) → AreLastChildren chart c
    → AreStates chart.states (way_below chart.states history target c)
states_below_target chart c target false last = AreStates-start_descendants chart.states target
states_below_target chart c target true last = states_recalled chart c target (last_child c target) refl last

-- a transition with a target
gone_to : (chart : Chart) (t : Transition) (target : ℕ) (c : Configuration) → Contains chart.transitions t
    → t.target ≡ Some target → IsConfiguration chart c → IsConfiguration chart (go_to chart t target c)
gone_to chart t target c h e is =
    let states = chart.states in
    let way = exited_by states t.source target c.leaf in
    let container = least_common_proper_ancestor states t.source target in
    let up = IsUpFrom-below states container (Some c.leaf) (ancestors states c.leaf) (IsUpFrom-ancestors states c.leaf) in
    let all = All-below (λ s. s < length states) container (ancestors states c.leaf) (AreStates-ancestors states chart.kept.tree c.leaf is.state) in
    let out = exited_all chart c.leaf way None c (not_remembering chart c.leaf is.childless) up all (record { values = is.values; last = is.last }) in
    let left = exit_all chart None way c in
    let d = run chart.memories t.effect left in
    let moves = All_contained
    (IsTransition (length chart.signature.inputs) (length chart.memories) (length chart.signature.outputs)
    chart.states) chart.transitions t chart.kept.moves h in
    let ran = values_run chart t.effect left moves.effect out.values in
    let last = AreLastChildren-same chart left d (run-last chart.memories t.effect left) out.last in
    let inside = target_inside chart t target h e in
    let entered = All-append (λ s. s < length states) (entered_by states t.source target)
    (way_below states t.history target d) (AreStates-entered states chart.kept.tree t.source target inside)
    (states_below_target chart d target t.history last) in
    IsConfiguration-entered chart t target d (go_to chart t target c) h e inside last
    (values_enter_all chart (entered_by states t.source target ++ way_below states t.history target d) d entered
    ran) refl

-- a transition
taken : (chart : Chart) (t : Transition) (c : Configuration) (o : Option ℕ) → t.target ≡ o
    → Contains chart.transitions t → IsConfiguration chart c
    → IsConfiguration chart (option_map_or (λ target. go_to chart t target c) o (run chart.memories t.effect c))
taken chart t c None e h is =
    let moves = All_contained
    (IsTransition (length chart.signature.inputs) (length chart.memories) (length chart.signature.outputs)
    chart.states) chart.transitions t chart.kept.moves h in
    IsConfiguration-run chart t.effect c (run chart.memories t.effect c) is (values_run chart t.effect c moves.effect is.values) refl
taken chart t c (Some target) e h is = gone_to chart t target c h e is

-- the transition that fires is one of the chart
found_at : {X : Type 0} (p : X → Bool) (y : X) (xs : List X) (x : X) (b : Bool) → (find p xs ≡ Some x → Contains xs x)
    → cond b (Some y) (find p xs) ≡ Some x → Contains (y ∷ xs) x
found_at p y xs x true more e = (zero, omega arith, same_Some y x e)
found_at p y xs x false more e = let h = more e in (suc h.0, (let b = h.1 in omega arith), h.2)

found_in : {X : Type 0} (p : X → Bool) (xs : List X) (x : X) → find p xs ≡ Some x → Contains xs x
found_in p [] x e = absurd cc
found_in p (y ∷ xs) x e = found_at p y xs x (p y) (found_in p xs x) e

fired_first : (transitions : List Transition) (t : Transition) (o rest : Option Transition)
    → (o ≡ Some t → Contains transitions t) → (rest ≡ Some t → Contains transitions t) → option_or o rest ≡ Some t
    → Contains transitions t
fired_first transitions t None rest now later e = later e
fired_first transitions t (Some u) rest now later e = now e

fired : (transitions : List Transition) (vector memory : List ℤ) (states : List ℕ) (t : Transition)
    → firing transitions vector memory states ≡ Some t → Contains transitions t
fired transitions vector memory [] t e = absurd cc
fired transitions vector memory (s ∷ outer) t e =
    fired_first transitions t (find (is_enabled_in vector memory s) transitions)
    (firing transitions vector memory outer) (found_in (is_enabled_in vector memory s) transitions t)
    (fired transitions vector memory outer t) e

-- a step
stepped : (chart : Chart) (c : Configuration) (o : Option Transition)
    → ((t : Transition) → o ≡ Some t → Contains chart.transitions t) → IsConfiguration chart c
    → IsConfiguration chart (option_map_or (λ t. take_transition chart t c) o c)
stepped chart c None h is = is
stepped chart c (Some t) h is = taken chart t c t.target refl (h t refl) is

pub IsConfiguration-next : (chart : Chart) (c : Configuration) (vector : List ℤ) → IsConfiguration chart c → IsConfiguration chart (next_of chart c vector)
IsConfiguration-next chart c vector is =
    stepped chart c (firing chart.transitions vector c.memory (active_states chart.states c))
    (fired chart.transitions vector c.memory (active_states chart.states c)) is

-- the start
placed : {X : Type 0} (p : X → Bool) (xs : List X) (i : ℕ) → position p xs ≡ Some i → i < length xs
placed p [] i e = absurd cc
placed p (x ∷ xs) i e = (position-Some p (x ∷ xs) i x e).0

started : (chart : Chart) (o : Option ℕ) → position is_top_start chart.states ≡ o
    → IsConfiguration chart
    (option_map_or (λ top. enter_all chart (top ∷ start_descendants chart.states top) (declared chart top)) o (declared chart 0))
started chart None e = absurd (first_counted is_top_start chart.states chart.kept.tree.top e)
started chart (Some top) e =
    let inside = placed is_top_start chart.states top e in
    let first = enter chart top (declared chart top) in
    let values = values_enter_all chart (start_descendants chart.states top) first (AreStates-start_descendants chart.states top)
    (values_enter chart top (declared chart top) inside (AreValues-declared chart top)) in
    IsConfiguration-started chart top (declared chart top) first (enter_all chart (start_descendants chart.states top) first)
    inside (AreLastChildren-declared chart top) values refl refl

pub IsConfiguration-start : (chart : Chart) → IsConfiguration chart (start_of chart)
IsConfiguration-start chart = started chart (position is_top_start chart.states) refl
