-- States on the ways of a step, and what entries and exits keep.
use Rattle.std.proofs.Common.{◌≡◌, ℕ, zero, suc, ◌+◌, ◌-◌, ◌<◌, ◌≤◌, Bool, true, false, cond, not, List, [], ◌∷◌, ◌++◌, length, get_or, take, drop}
use Rattle.std.proofs.Common.{reverse, Option, None, Some, ℤ, refl, ap, sym, subst, ◌∙◌, arith}
use Rattle.std.specs.Prelude.{position, count_by, nat_lt}
use Rattle.std.specs.Option.{option_map_or}
use Rattle.std.specs.List.{All, position_or_len}
use Rattle.std.proofs.lemmas.Bool.{false≢true}
use Rattle.std.proofs.lemmas.Bool.Decides.{nat_tests}
use Rattle.std.proofs.lemmas.List.{length-reverse, get_or-reverse, drop_more, drop_all}
use Rattle.std.proofs.lemmas.List.Elements.{All-nil, All-cons, All-weaker, All-tail, All-head, All-take}
use Rattle.std.proofs.lemmas.List.Sums.{sum_by-cons, prefix_len-le-length}
use Rattle.chart_model.specs.declared.action.Action.{Action}
use Rattle.chart_model.specs.declared.action.Place.{Place}
use Rattle.chart_model.specs.declared.action.Place.TheVariants as place
use Rattle.chart_model.specs.declared.chart.Chart.{Chart}
use Rattle.chart_model.specs.declared.state.Memory.{Memory}
use Rattle.chart_model.specs.declared.state.State.{State}
use Rattle.chart_model.specs.States.{IsTree, parent_of, has_children, is_within_depth, is_start_child_of}
use Rattle.chart_meaning.specs.Configuration.{Configuration}
use Rattle.chart_meaning.specs.Actions.{act, assign, run}
use Rattle.chart_meaning.specs.Step.{enter, enter_all, entered_by, entry_of}
use Rattle.chart_meaning.specs.Tree.{ancestors, ancestors_within, start_descendants, start_descendants_within, start_child, states_below, proper_ancestors, least_common_proper_ancestor}
use Rattle.chart_meaning.specs.IsConfiguration.{AreValues}
use Rattle.chart_meaning.specs.Ways.{AreStates, IsUpFrom}
use Rattle.chart_meaning.proofs.Climbing.{parent_below, start_child-parent}

-- actions change memories and outputs alone
assign-last : (memories : List Memory) (p : Place) (z : ℤ) (c : Configuration) → (assign memories p z c).last ≡ c.last
assign-last memories (place.Memory number) z c = refl
assign-last memories (place.Output number) z c = refl

assign-leaf : (memories : List Memory) (p : Place) (z : ℤ) (c : Configuration) → (assign memories p z c).leaf ≡ c.leaf
assign-leaf memories (place.Memory number) z c = refl
assign-leaf memories (place.Output number) z c = refl

pub run-last : (memories : List Memory) (actions : List Action) (c : Configuration) → (run memories actions c).last ≡ c.last
run-last memories [] c = refl
run-last memories (action ∷ actions) c = run-last memories actions (act memories action c) ∙ assign-last memories action.place _ c

pub run-leaf : (memories : List Memory) (actions : List Action) (c : Configuration) → (run memories actions c).leaf ≡ c.leaf
run-leaf memories [] c = refl
run-leaf memories (action ∷ actions) c = run-leaf memories actions (act memories action c) ∙ assign-leaf memories action.place _ c

pub enter_all-last : (chart : Chart) (way : List ℕ) (c : Configuration) → (enter_all chart way c).last ≡ c.last
enter_all-last chart [] c = refl
enter_all-last chart (s ∷ inner) c = enter_all-last chart inner (enter chart s c) ∙ run-last chart.memories (entry_of chart.states s) c

pub enter_all-append : (chart : Chart) (xs ys : List ℕ) (c : Configuration) → enter_all chart (xs ++ ys) c ≡ enter_all chart ys (enter_all chart xs c)
enter_all-append chart [] ys c = refl
enter_all-append chart (x ∷ xs) ys c = enter_all-append chart xs ys (enter chart x c)

-- the state that is reached over a way in
abbrev pub reached : ℕ → List ℕ → ℕ
reached s [] = s
reached s (x ∷ xs) = reached x xs

pub enter_all-leaf : (chart : Chart) (way : List ℕ) (c : Configuration) → (enter_all chart way c).leaf ≡ reached c.leaf way
enter_all-leaf chart [] c = refl
enter_all-leaf chart (s ∷ inner) c = enter_all-leaf chart inner (enter chart s c)

pub reached-append : (s : ℕ) (xs ys : List ℕ) → reached s (xs ++ ys) ≡ reached (reached s xs) ys
reached-append s [] ys = refl
reached-append s (x ∷ xs) ys = reached-append x xs ys

-- the states on a way out are at most the first
outer_le : (states : List State) (depth s : ℕ) (o : Option ℕ)
    → ((p : ℕ) → p < s → All (λ x. x ≤ p) (ancestors_within depth states p)) → ((p : ℕ) → o ≡ Some p → p < s)
    → All (λ x. x < s) (option_map_or (ancestors_within depth states) o [])
outer_le states depth s None each below = All-nil (λ x. x < s)
outer_le states depth s (Some p) each below = let h =
    below p refl in All-weaker (λ x. x ≤ p) (λ x. x < s) (λ x le. omega arith) (ancestors_within depth states p)
    (each p h)

pub ancestors_within-le : (states : List State) → IsTree states → (depth s : ℕ) → All (λ x. x ≤ s) (ancestors_within depth states s)
ancestors_within-le states tree zero s = All-nil (λ x. x ≤ s)
ancestors_within-le states tree (suc depth) s =
    let rest = outer_le states depth s (parent_of states s) (λ p h. ancestors_within-le states tree depth p) (λ p e. (parent_below states tree s p e).0) in
    All-cons (λ x. x ≤ s) s (option_map_or (ancestors_within depth states) (parent_of states s) []) (omega arith)
    (All-weaker (λ x. x < s) (λ x. x ≤ s) (λ x lt. omega arith) _ rest)

pub proper_ancestors-lt : (states : List State) → IsTree states → (s : ℕ) → All (λ x. x < s) (proper_ancestors states s)
unfolding ancestors
proper_ancestors-lt states tree s = outer_le states 7 s (parent_of states s) (λ p h. ancestors_within-le states tree 7 p) (λ p e. (parent_below states tree s p e).0)

pub AreStates-ancestors : (states : List State) → IsTree states → (s : ℕ) → s < length states → AreStates states (ancestors states s)
unfolding ancestors
AreStates-ancestors states tree s h =
    All-weaker (λ x. x ≤ s) (λ x. x < length states) (λ x le. omega arith) (ancestors_within 8 states s)
    (ancestors_within-le states tree 8 s)

up_at : (states : List State) (depth : ℕ) (o : Option ℕ)
    → ((p : ℕ) → IsUpFrom states (Some p) (ancestors_within depth states p))
    → IsUpFrom states o (option_map_or (ancestors_within depth states) o [])
up_at states depth None each = tt
up_at states depth (Some p) each = each p

ancestors_within-up : (states : List State) (depth s : ℕ) → IsUpFrom states (Some s) (ancestors_within depth states s)
ancestors_within-up states zero s = tt
ancestors_within-up states (suc depth) s = (refl, up_at states depth (parent_of states s) (λ p. ancestors_within-up states depth p))

pub IsUpFrom-ancestors : (states : List State) (s : ℕ) → IsUpFrom states (Some s) (ancestors states s)
unfolding ancestors
IsUpFrom-ancestors states s = ancestors_within-up states 8 s

IsUpFrom-take : (states : List State) (n : ℕ) (at : Option ℕ) (way : List ℕ) → IsUpFrom states at way → IsUpFrom states at (take n way)
IsUpFrom-take states zero at way h = tt
IsUpFrom-take states (suc n) at [] h = tt
IsUpFrom-take states (suc n) at (s ∷ outer) h = (h.0, IsUpFrom-take states n (parent_of states s) outer h.1)

pub IsUpFrom-below : (states : List State) (container at : Option ℕ) (way : List ℕ) → IsUpFrom states at way → IsUpFrom states at (states_below container way)
IsUpFrom-below states None at way h = h
IsUpFrom-below states (Some container) at way h = IsUpFrom-take states _ at way h

pub All-below : (P : ℕ → Type 0) (container : Option ℕ) (way : List ℕ) → All P way → All P (states_below container way)
All-below P None way h = h
All-below P (Some container) way h = All-take P _ way h

pub All-reverse : (P : ℕ → Type 0) (xs : List ℕ) → All P xs → All P (reverse xs)
All-reverse P xs h k d lt =
    let n = length-reverse xs in
    let inside : k < length xs = omega arith in
    let other : length xs - 1 - k < length xs = omega arith in
    subst P (sym (get_or-reverse xs k d inside)) (h (length xs - 1 - k) d other)

pub AreStates-entered : (states : List State) → IsTree states → (source target : ℕ) → target < length states
    → AreStates states (entered_by states source target)
AreStates-entered states tree source target h =
    let P : ℕ → Type 0 = λ s. s < length states in
    All-reverse P (states_below (least_common_proper_ancestor states source target) (ancestors states target))
    (All-below P (least_common_proper_ancestor states source target) (ancestors states target)
    (AreStates-ancestors states tree target h))

-- the states on a way down
down_each : (states : List State) (room s : ℕ) (o : Option ℕ) → ((child : ℕ) → o ≡ Some child → child < length states)
    → ((child : ℕ) → AreStates states (start_descendants_within room states child))
    → AreStates states (option_map_or (λ child. child ∷ start_descendants_within room states child) o [])
down_each states room s None inside rest = All-nil (λ x. x < length states)
down_each states room s (Some child) inside rest = All-cons (λ x. x < length states) child (start_descendants_within room states child) (inside child refl) (rest child)

AreStates-start_descendants_within : (states : List State) (room s : ℕ) → AreStates states (start_descendants_within room states s)
AreStates-start_descendants_within states zero s = All-nil (λ x. x < length states)
AreStates-start_descendants_within states (suc room) s =
    down_each states room s (start_child states s) (λ child e. (start_child-parent states s child e).0)
    (λ child. AreStates-start_descendants_within states room child)

pub AreStates-start_descendants : (states : List State) (s : ℕ) → AreStates states (start_descendants states s)
unfolding start_descendants
AreStates-start_descendants states s = AreStates-start_descendants_within states 8 s

-- an element that is counted has a first place
counted_at : {X : Type 0} (p : X → Bool) (x : X) (xs : List X) (b : Bool) → p x ≡ b
    → (position_or_len p xs ≡ length xs → count_by p xs ≡ 0) → cond (not b) (1 + position_or_len p xs) 0
    ≡ suc (length xs) → cond b 1 0 + count_by p xs ≡ 0
counted_at p x xs true at more e = absurd (omega arith)
counted_at p x xs false at more e = let m = more (omega arith) in omega arith

none_counted : {X : Type 0} (p : X → Bool) (xs : List X) → position_or_len p xs ≡ length xs → count_by p xs ≡ 0
none_counted p [] e = refl
none_counted {X} p (x ∷ xs) e = sum_by-cons (λ (y : X). cond (p y) 1 0) x xs ∙ counted_at p x xs (p x) refl (none_counted p xs) e

no_place : (a b : ℕ) → a ≤ b → cond (nat_lt a b) (Some a) None ≡ None → a ≡ b
no_place a b h e = grind (arith, nat_tests)

pub first_counted : {X : Type 0} (p : X → Bool) (xs : List X) → count_by p xs ≡ 1 → position p xs ≡ None → ⊥
first_counted p xs one none =
    let all = none_counted p xs (no_place (position_or_len p xs) (length xs) (prefix_len-le-length (λ x. not (p x)) xs) none) in
    omega arith

childless_from : (states : List State) → IsTree states → (s : ℕ) (b : Bool) → has_children states s ≡ b → start_child states s ≡ None → b ≡ false
childless_from states tree s true has none = absurd (first_counted (is_start_child_of s) states (tree.starts s has) none)
childless_from states tree s false has none = refl

pub childless : (states : List State) → IsTree states → (s : ℕ) → start_child states s ≡ None → has_children states s ≡ false
childless states tree s none = childless_from states tree s (has_children states s) refl none

-- a way down ends in a state without children
ends_at : (states : List State) → IsTree states → (room s : ℕ) (o : Option ℕ) → start_child states s ≡ o
    → ((child : ℕ) → o ≡ Some child → has_children states (reached child (start_descendants_within room states child)) ≡ false)
    → has_children states (reached s (option_map_or (λ child. child ∷ start_descendants_within room states child) o [])) ≡ false
ends_at states tree room s None e each = childless states tree s e
ends_at states tree room s (Some child) e each = each child refl

start_descendants_within-childless : (states : List State) → IsTree states → (room n s : ℕ) → room + n ≡ 8 → s < length states
    → is_within_depth n states s ≡ false → has_children states (reached s (start_descendants_within room states s)) ≡ false
start_descendants_within-childless states tree zero n s size h deep =
    absurd (false≢true (let e : n ≡ 8 = omega arith in sym deep ∙ ap (λ (m : ℕ). is_within_depth m states s) e
    ∙ tree.depth s h))
start_descendants_within-childless states tree (suc room) n s size h deep =
    ends_at states tree room s (start_child states s) refl (λ child e.
    let p = start_child-parent states s child e in
    start_descendants_within-childless states tree room (suc n) child (omega arith) p.0 (ap (λ o. option_map_or (is_within_depth n states) o true) p.1 ∙ deep))

pub start_descendants-childless : (states : List State) → IsTree states → (s : ℕ) → s < length states → has_children states (reached s (start_descendants states s)) ≡ false
unfolding start_descendants
start_descendants-childless states tree s h = start_descendants_within-childless states tree 8 0 s refl h refl

pub reached-inside : (states : List State) (s : ℕ) (way : List ℕ) → s < length states → AreStates states way → reached s way < length states
reached-inside states s [] h all = h
reached-inside states s (x ∷ xs) h all = reached-inside states x xs (All-head (λ y. y < length states) x xs all) (All-tail (λ y. y < length states) x xs all)

-- the first i states of a way are entered
pub record IsEntering (chart : Chart) (way : List ℕ) (start : Configuration) (i : ℕ) (c : Configuration) : Type 0 where
  pub goes : enter_all chart (drop i way) c ≡ enter_all chart way start
  pub values : AreValues chart c

pub IsEntering-more : (chart : Chart) (way : List ℕ) (start : Configuration) (i : ℕ) (c d : Configuration)
    → i < length way → d ≡ enter chart (get_or way i 0) c → AreValues chart d → IsEntering chart way start i c
    → IsEntering chart way start (i + 1) d
IsEntering-more chart way start i c d h e v x = record {
  goes = rw e (rw (drop_more way i 0 h) at x.goes);
  values = v;
}

pub IsEntering-end : (chart : Chart) (way : List ℕ) (start : Configuration) (i : ℕ) (c : Configuration)
    → length way ≤ i → IsEntering chart way start i c → c ≡ enter_all chart way start
IsEntering-end chart way start i c h x = rw (drop_all i way h) at x.goes
