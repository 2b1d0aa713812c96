-- Last children, and exits.
use Rattle.std.proofs.Common.{◌≡◌, ℕ, zero, suc, ◌+◌, ◌<◌, ◌≤◌, Bool, true, false, List, [], ◌∷◌, length, get_or, drop, set, Option, None, Some}
use Rattle.std.proofs.Common.{is_some, ◌==◌, ◌&&◌, ◌⊎◌, inl, inr, ⊎_elim, if◌then◌else◌, refl, ap, sym, subst, ◌∙◌, arith}
use Rattle.std.specs.Prelude.{slice_get, option_and_then}
use Rattle.std.specs.Option.{option_map_or}
use Rattle.std.specs.List.{All}
use Rattle.std.proofs.lemmas.Bool.{false≢true}
use Rattle.std.proofs.lemmas.Bool.Decides.{Decides-eqb}
use Rattle.std.proofs.lemmas.List.{length-set, drop_more, drop_all}
use Rattle.std.proofs.lemmas.List.Folds.{list_any_none}
use Rattle.std.proofs.lemmas.Option.{same_Some, slice_get-get_or}
use Rattle.chart_model.specs.declared.action.Action.{Action}
use Rattle.chart_model.specs.declared.chart.Chart.{Chart}
use Rattle.chart_model.specs.declared.state.State.{State}
use Rattle.chart_model.specs.Chart.{IsAction, IsState}
use Rattle.chart_model.specs.States.{has_children, parent_of}
use Rattle.chart_meaning.specs.Configuration.{Configuration}
use Rattle.chart_meaning.specs.Actions.{run}
use Rattle.chart_meaning.specs.Step.{enter, is_recall_of, is_remembering, remember, last_child, exit_all, exit_of, entry_of}
use Rattle.chart_meaning.specs.IsConfiguration.{AreLastChildren, AreValues, IsLastOf}
use Rattle.chart_meaning.specs.Ways.{IsActiveIn, IsUpFrom}
use Rattle.chart_meaning.proofs.Acting.{All_found}

pub item_found : {X : Type 0} (xs seen : List X) (i : ℕ) (x : X) → i < length xs → seen ≡ xs → x ≡ get_or seen i x → slice_get xs i ≡ Some x
item_found {X} xs seen i x h e is = slice_get-get_or xs i x h ∙ ap Some (sym (is ∙ ap (λ (ys : List X). get_or ys i x) e))

pub actions_of : (chart : Chart) (s : ℕ) (state : State) → slice_get chart.states s ≡ Some state
    → IsState (length chart.signature.inputs) (length chart.memories) (length chart.signature.outputs) state
actions_of chart s state found =
    All_found (IsState (length chart.signature.inputs) (length chart.memories) (length chart.signature.outputs))
    chart.states s state chart.kept.actions found

pub entry_found : (states : List State) (s : ℕ) (state : State) → slice_get states s ≡ Some state → entry_of states s ≡ state.entry
entry_found states s state found = ap (λ (o : Option State). option_map_or (λ (x : State). x.entry) o []) found

pub exit_found : (states : List State) (s : ℕ) (state : State) → slice_get states s ≡ Some state → exit_of states s ≡ state.exit
exit_found states s state found = ap (λ (o : Option State). option_map_or (λ (x : State). x.exit) o []) found

-- a state without children remembers none
recall_children : (states : List State) (s : ℕ) (history : Bool) (target : Option ℕ) (b : Bool)
    → has_children states s ≡ false → (history ≡ true → option_map_or (has_children states) target false ≡ true)
    → (history && option_map_or (λ target. target == s) target false) ≡ b → b ≡ false
recall_children states s false target b none h e = sym e
recall_children states s true None b none h e = sym e
recall_children states s true (Some target) false none h e = refl
recall_children states s true (Some target) true none h e =
    let same : target ≡ s = (Decides-eqb target s).0 e in
    absurd (false≢true (sym none ∙ ap (has_children states) (sym same) ∙ h refl))

pub not_remembering : (chart : Chart) (s : ℕ) → has_children chart.states s ≡ false → is_remembering chart.transitions s ≡ false
not_remembering chart s none = list_any_none (is_recall_of s) chart.transitions (λ k d h.
    let t = chart.kept.moves k d h in
    recall_children chart.states s (get_or chart.transitions k d).history (get_or chart.transitions k d).target
    (is_recall_of s (get_or chart.transitions k d)) none t.history refl)

remembering-from : (chart : Chart) (s : ℕ) (b : Bool) → has_children chart.states s ≡ b → is_remembering chart.transitions s ≡ true → b ≡ true
remembering-from chart s true e r = refl
remembering-from chart s false e r = absurd (false≢true (sym (not_remembering chart s e) ∙ r))

pub remembering-children : (chart : Chart) (s : ℕ) → is_remembering chart.transitions s ≡ true → has_children chart.states s ≡ true
remembering-children chart s r = remembering-from chart s (has_children chart.states s) refl r

-- a state has a last child exactly where it remembers
last_of : (chart : Chart) (s : ℕ) (o : Option ℕ) → IsLastOf chart s o → is_remembering chart.transitions s ≡ is_some o
last_of chart s None h = h
last_of chart s (Some child) h = h.0

pub is_remembering-last : (chart : Chart) (c : Configuration) (s : ℕ) → AreLastChildren chart c
    → s < length chart.states → is_remembering chart.transitions s ≡ is_some (last_child c s)
is_remembering-last chart c s last h =
    let found = slice_get-get_or c.last s None (let n = last.one_each in omega arith) in
    last_of chart s (get_or c.last s None) (last.child s (get_or c.last s None) found)
    ∙ ap (λ (o : Option (Option ℕ)). is_some (option_and_then (λ (child : Option ℕ). child) o)) (sym found)

pub AreLastChildren-same : (chart : Chart) (c d : Configuration) → d.last ≡ c.last → AreLastChildren chart c → AreLastChildren chart d
AreLastChildren-same chart c d e last = record {
  one_each = rw e last.one_each;
  child = λ s o g. last.child s o (rw e at g);
}

slice_get_set : {X : Type 0} (xs : List X) (i : ℕ) (y : X) (r : ℕ) (x : X) → slice_get (set xs i y) r ≡ Some x → ((r ≡ i) × (y ≡ x)) ⊎ (slice_get xs r ≡ Some x)
slice_get_set [] i y r x e = inr e
slice_get_set (z ∷ xs) zero y zero x e = inl (refl, same_Some y x e)
slice_get_set (z ∷ xs) zero y (suc r) x e = inr e
slice_get_set (z ∷ xs) (suc i) y zero x e = inr e
slice_get_set (z ∷ xs) (suc i) y (suc r) x e = ⊎_elim (λ p. inl (ap suc p.0, p.1)) (λ q. inr q) (slice_get_set xs i y r x e)

last_set : (chart : Chart) (c : Configuration) (s child : ℕ) → is_remembering chart.transitions s ≡ true
    → parent_of chart.states child ≡ Some s → AreLastChildren chart c → (t : ℕ) (o : Option ℕ)
    → ((t ≡ s) × (Some child ≡ o)) ⊎ (slice_get c.last t ≡ Some o) → IsLastOf chart t o
last_set chart c s child r up last t o g =
    ⊎_elim (λ p. subst (λ x. IsLastOf chart x o) (sym p.0) (subst (λ q. IsLastOf chart s q) p.1 (r, up))) (λ q. last.child t o q) g

pub AreLastChildren-set : (chart : Chart) (c : Configuration) (s child : ℕ) → is_remembering chart.transitions s
    ≡ true → parent_of chart.states child ≡ Some s → AreLastChildren chart c
    → AreLastChildren chart (record c { last = set c.last s (Some child) })
AreLastChildren-set chart c s child r up last = record {
  one_each = length-set c.last s (Some child) ∙ last.one_each;
  child = λ t o g. last_set chart c s child r up last t o (slice_get_set c.last s (Some child) t o g);
}

pub remember-Some : (chart : Chart) (c d : Configuration) (s child : ℕ) → AreLastChildren chart c
    → s < length chart.states → is_some (last_child c s) ≡ true → d ≡ record c { last = set c.last s (Some child) }
    → d ≡ remember chart.transitions s (Some child) c
remember-Some chart c d s child last h some e =
    let r = is_remembering-last chart c s last h ∙ some in
    e ∙ sym (ap (λ (b : Bool). if b then record c { last = set c.last s (Some child) } else c) r)

pub remember-none : (chart : Chart) (c : Configuration) (s : ℕ) (child : Option ℕ) → AreLastChildren chart c
    → s < length chart.states → is_some (last_child c s) ≡ false → c ≡ remember chart.transitions s child c
remember-none chart c s child last h none =
    let r = is_remembering-last chart c s last h ∙ none in
    sym (ap (λ (b : Bool). if b then record c { last = set c.last s child } else c) r)

-- the first i states of a way are exited
abbrev pub next_up : List State → ℕ → Option ℕ → Option ℕ
next_up states leaf None = Some leaf
next_up states leaf (Some child) = parent_of states child

pub record IsExiting (chart : Chart) (way : List ℕ) (start : Configuration) (i : ℕ) (child : Option ℕ) (c : Configuration) : Type 0 where
  pub goes : exit_all chart child (drop i way) c ≡ exit_all chart None way start
  pub values : AreValues chart c
  pub last : AreLastChildren chart c
  pub up : IsUpFrom chart.states (next_up chart.states start.leaf child) (drop i way)

pub active_in : (chart : Chart) (leaf s : ℕ) (child : Option ℕ) → is_remembering chart.transitions leaf ≡ false
    → next_up chart.states leaf child ≡ Some s → IsActiveIn chart s child
active_in chart leaf s None none e = subst (λ x. is_remembering chart.transitions x ≡ false) (same_Some leaf s e) none
active_in chart leaf s (Some child) none e = e

next_state : (chart : Chart) (way : List ℕ) (start : Configuration) (i : ℕ) (child : Option ℕ) (c : Configuration)
    → i < length way → IsExiting chart way start i child c
    → IsUpFrom chart.states (next_up chart.states start.leaf child) (get_or way i 0 ∷ drop (i + 1) way)
next_state chart way start i child c h x = rw (drop_more way i 0 h) at x.up

pub IsExiting-active : (chart : Chart) (way : List ℕ) (start : Configuration) (i : ℕ) (child : Option ℕ)
    (c : Configuration) → has_children chart.states start.leaf ≡ false → i < length way
    → IsExiting chart way start i child c → IsActiveIn chart (get_or way i 0) child
IsExiting-active chart way start i child c none h x =
    active_in chart start.leaf (get_or way i 0) child (not_remembering chart start.leaf none)
    (next_state chart way start i child c h x).0

pub IsExiting-more : (chart : Chart) (way : List ℕ) (start : Configuration) (i : ℕ) (child : Option ℕ)
    (c d : Configuration) → i < length way
    → d ≡ remember chart.transitions (get_or way i 0) child
    (run chart.memories (exit_of chart.states (get_or way i 0)) c) → AreValues chart d → AreLastChildren chart d
    → IsExiting chart way start i child c → IsExiting chart way start (i + 1) (Some (get_or way i 0)) d
IsExiting-more chart way start i child c d h e v l x = record {
  goes = rw e (rw (drop_more way i 0 h) at x.goes);
  values = v;
  last = l;
  up = (next_state chart way start i child c h x).1;
}

pub IsExiting-end : (chart : Chart) (way : List ℕ) (start : Configuration) (i : ℕ) (child : Option ℕ)
    (c : Configuration) → length way ≤ i → IsExiting chart way start i child c → c ≡ exit_all chart None way start
IsExiting-end chart way start i child c h x = rw (drop_all i way h) at x.goes

-- the actions of a state that is read
pub record IsRead (chart : Chart) (s : ℕ) (seen : List State) (state : State) : Type 0 where
  pub inside : s < length chart.states
  pub same : seen ≡ chart.states
  pub is : state ≡ get_or seen s state

pub entry_read : (chart : Chart) (s : ℕ) (seen : List State) (state : State) (actions : List Action)
    → IsRead chart s seen state → actions ≡ (get_or seen s state).entry → actions ≡ entry_of chart.states s
entry_read chart s seen state actions r e =
    e ∙ ap (λ (x : State). x.entry) (sym r.is)
    ∙ sym (entry_found chart.states s state (item_found chart.states seen s state r.inside r.same r.is))

pub exit_read : (chart : Chart) (s : ℕ) (seen : List State) (state : State) (actions : List Action)
    → IsRead chart s seen state → actions ≡ (get_or seen s state).exit → actions ≡ exit_of chart.states s
exit_read chart s seen state actions r e =
    e ∙ ap (λ (x : State). x.exit) (sym r.is)
    ∙ sym (exit_found chart.states s state (item_found chart.states seen s state r.inside r.same r.is))

pub entry_are : (chart : Chart) (s : ℕ) (seen : List State) (state : State) (actions : List Action)
    → IsRead chart s seen state → actions ≡ (get_or seen s state).entry
    → All (IsAction (length chart.signature.inputs) (length chart.memories) (length chart.signature.outputs)) actions
entry_are chart s seen state actions r e =
    let all = (actions_of chart s state (item_found chart.states seen s state r.inside r.same r.is)).entry in
    rw (e ∙ ap (λ (x : State). x.entry) (sym r.is)) all

pub exit_are : (chart : Chart) (s : ℕ) (seen : List State) (state : State) (actions : List Action)
    → IsRead chart s seen state → actions ≡ (get_or seen s state).exit
    → All (IsAction (length chart.signature.inputs) (length chart.memories) (length chart.signature.outputs)) actions
exit_are chart s seen state actions r e =
    let all = (actions_of chart s state (item_found chart.states seen s state r.inside r.same r.is)).exit in
    rw (e ∙ ap (λ (x : State). x.exit) (sym r.is)) all

pub entered : (chart : Chart) (s : ℕ) (actions : List Action) (c d : Configuration)
    → actions ≡ entry_of chart.states s → d ≡ run chart.memories actions c → record d { leaf = s } ≡ enter chart s c
entered chart s actions c d e r = ap (λ (x : Configuration). record x { leaf = s }) (r ∙ ap (λ (x : List Action). run chart.memories x c) e)
