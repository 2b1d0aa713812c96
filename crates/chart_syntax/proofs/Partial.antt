-- What was declared keeps its promises with each line that passes its checks.
use Rattle.std.proofs.Common.{◌≡◌, ◌≢◌, ℕ, ◌+◌, ◌*◌, ◌<◌, ◌≤◌, Bool, true, false, ◌||◌, ◌&&◌, not, List, [], ◌∷◌, ◌++◌, length, Option, Some}
use Rattle.std.proofs.Common.{None, refl, sym, ◌∙◌, ap, subst, arith, length-append}
use Rattle.std.specs.Prelude.{nat_lt, nat_le, int_lt, unsigned_abs, AllPairs, slice_get, option_map, option_and_then, slice_set, unwrap_or}
use Rattle.std.specs.List.{All, list_any}
use Rattle.std.specs.Option.{ForSome, option_map_or, option_or}
use Rattle.std.proofs.lemmas.List.{map-append, length-map, length-set}
use Rattle.std.proofs.lemmas.List.Elements.{All-nil, All-push}
use Rattle.lin_form.specs.declared.form.Relation.TheVariants as relation
use Rattle.line_forms.specs.declared.statement.TestForm.{TestForm}
use Rattle.line_forms.specs.declared.statement.InputForm.{InputForm}
use Rattle.line_forms.specs.declared.statement.OutputForm.{OutputForm}
use Rattle.line_forms.specs.declared.statement.MemoryForm.{MemoryForm}
use Rattle.line_forms.specs.declared.statement.StateForm.{StateForm}
use Rattle.line_forms.specs.declared.statement.ActionsForm.{ActionsForm}
use Rattle.line_forms.specs.declared.statement.OnForm.{OnForm}
use Rattle.line_forms.specs.declared.statement.Statement.{Statement}
use Rattle.line_forms.specs.declared.statement.Statement.TheVariants as says
use Rattle.line_forms.specs.Trees as written
use Rattle.line_forms.specs.Forms.{value_of}
use Rattle.line_forms.specs.Limits.{IsFree, IsSmallGuard, IsSmallStatement}
use Rattle.chart_model.specs.Chart.{IsAssumption, IsGuard}
use Rattle.chart_model.specs.declared.action.Action.{Action}
use Rattle.chart_model.specs.declared.transition.Transition.{Transition}
use Rattle.chart_syntax.specs.declared.reader.DeclaredState.{DeclaredState}
use Rattle.chart_syntax.specs.declared.reader.Reader.{Reader}
use Rattle.chart_syntax.specs.declared.error.Kind.TheVariants as kind
use Rattle.chart_syntax.specs.declared.error.Which.TheVariants as which
use Rattle.chart_syntax.specs.declared.error.Refusal.TheVariants.{Fault, Limit}
use Rattle.line_checks.specs.Names.{has_name, place_of, use_check}
use Rattle.line_checks.specs.Guards.{guard_of}
use Rattle.chart_syntax.specs.Scopes.{input_names, output_names, guard_scope, assumption_of}
use Rattle.chart_syntax.specs.Checks.{start, state_names, state_check, some_state_check, comparisons_check, names_check, range_check}
use Rattle.chart_syntax.specs.Checks.{start_check, count_check, limit_check, double_check, when_check, actions_check, actions_of}
use Rattle.chart_syntax.specs.Checks.{target_check, found_target_check, is_parent, is_child_of, is_outside, is_constant, is_bounded, memory_size}
use Rattle.chart_syntax.specs.Checks.{parent_number, depth_under, number_of, declared_state, transition_of, next_statement}
use Rattle.chart_syntax.specs.inside.Promises.{HasRange, HasSmallValue, HasMemory, HasFew, AreLines, AreMoves, IsMove, IsPartial}
use Rattle.chart_syntax.specs.inside.Promises.{variable_names}
use Rattle.chart_syntax.proofs.CallerLemmas.{or_none}
use Rattle.chart_syntax.proofs.Fresh.{told_none, if_none, or_false, below, ordered_range, different_push, number_within}
use Rattle.chart_syntax.proofs.Moderate.{place_below, good_guard, good_actions, assumption_form, not_constant}
use Rattle.chart_syntax.proofs.Trees.{states_push, found_at}
use Rattle.chart_syntax.proofs.Pushing.{one_more, limit_none, small_value, new_name, no_lines, no_moves, push_names, push_inputs, push_outputs}
use Rattle.chart_syntax.proofs.Pushing.{product_push, not_true, both_true, at_most, at_most_not, all_none, some_same, new_lines}

partial_input : (s : Reader) (f : InputForm) → IsPartial s → s.group ≤ 1 → IsSmallStatement (says.Input f) → names_check s (says.Input f) ≡ None
    → range_check s (says.Input f) ≡ None → count_check s (says.Input f) ≡ None → IsPartial (next_statement s (says.Input f))
partial_input s f p early small names range count =
    let t = next_statement s (says.Input f) in
    let outs = p.outputs_later (omega (arith, early)) in
    let mems = p.memories_later (omega (arith, early)) in
    let none = p.inputs_first early in
    let quiet = p.actions_last (omega (arith, early)) in
    let few = p.few in
    let same = push_inputs s f outs mems in
    record {
      few = record {
        version = few.version;
        inputs = one_more s.inputs f 6
            (below (length s.inputs) 6 (limit_none (nat_le 6 (length s.inputs)) which.Inputs count));
        assumed = few.assumed;
        outputs = few.outputs;
        memories = few.memories;
        product = few.product;
        states = few.states;
        transitions = few.transitions;
        entries = few.entries;
        exits = few.exits;
      };
      ranges = All-push HasRange s.inputs f p.ranges
          (record {
            ordered = ordered_range (value_of f.lo) (value_of f.hi)
                (if_none (int_lt (value_of f.hi) (value_of f.lo)) (Fault kind.Range) range);
            low = small_value f.lo small.1;
            high = small_value f.hi small.2;
          });
      assumptions = subst (All (IsAssumption (length (s.inputs ++ f ∷ [])))) (sym none) (All-nil (IsAssumption (length (s.inputs ++ f ∷ []))));
      values = p.values;
      memories = p.memories;
      product = p.product;
      free = subst (All IsFree) (sym same) (All-push IsFree (variable_names s) f.name p.free small.0);
      different = subst (AllPairs (λ a b. a ≢ b)) (sym same) (different_push (variable_names s) f.name p.different (new_name s f.name names));
      free_states = p.free_states;
      different_states = p.different_states;
      tree = p.tree;
      entries = no_lines t s.entries quiet.entries;
      exits = no_lines t s.exits quiet.exits;
      moves = no_moves s t quiet.transitions;
      inputs_first = λ h. none;
      outputs_later = λ h. outs;
      memories_later = λ h. mems;
      actions_last = λ h. record { entries = quiet.entries; exits = quiet.exits; transitions = quiet.transitions };
    }

partial_assumption : (s : Reader) (t : TestForm) → IsPartial s → s.group ≤ 2 → IsSmallStatement (says.Assume t) → t.relation ≢ relation.NotEqual
    → range_check s (says.Assume t) ≡ None → count_check s (says.Assume t) ≡ None → IsPartial (next_statement s (says.Assume t))
partial_assumption s t p early small differs range count =
    let c = assumption_of s t in
    let outs = p.outputs_later early in
    let mems = p.memories_later (omega (arith, early)) in
    let quiet = p.actions_last (omega (arith, early)) in
    let few = p.few in
    record {
      few = record {
        version = few.version;
        inputs = few.inputs;
        assumed = one_more s.assumed c 16
            (below (length s.assumed) 16 (limit_none (nat_le 16 (length s.assumed)) which.Assumptions count));
        outputs = few.outputs;
        memories = few.memories;
        product = few.product;
        states = few.states;
        transitions = few.transitions;
        entries = few.entries;
        exits = few.exits;
      };
      ranges = p.ranges;
      assumptions = All-push (IsAssumption (length s.inputs)) s.assumed c p.assumptions
          (record {
            form = assumption_form s t few small;
            varies = not_constant c.form.inputs (if_none (is_constant c) (Fault kind.Range) range);
            relation = differs;
          });
      values = p.values;
      memories = p.memories;
      product = p.product;
      free = p.free;
      different = p.different;
      free_states = p.free_states;
      different_states = p.different_states;
      tree = p.tree;
      entries = p.entries;
      exits = p.exits;
      moves = p.moves;
      inputs_first = λ h. absurd (omega (arith, h));
      outputs_later = λ h. outs;
      memories_later = λ h. mems;
      actions_last = λ h. record { entries = quiet.entries; exits = quiet.exits; transitions = quiet.transitions };
    }

partial_output : (s : Reader) (f : OutputForm) → IsPartial s → s.group ≤ 3 → IsSmallStatement (says.Output f)
    → names_check s (says.Output f) ≡ None → count_check s (says.Output f) ≡ None → IsPartial (next_statement s (says.Output f))
partial_output s f p early small names count =
    let t = next_statement s (says.Output f) in
    let mems = p.memories_later early in
    let quiet = p.actions_last (omega (arith, early)) in
    let few = p.few in
    let same = push_outputs s f mems in
    record {
      few = record {
        version = few.version;
        inputs = few.inputs;
        assumed = few.assumed;
        outputs = one_more s.outputs f 8 (below (length s.outputs) 8 (limit_none (nat_le 8 (length s.outputs)) which.Outputs count));
        memories = few.memories;
        product = few.product;
        states = few.states;
        transitions = few.transitions;
        entries = few.entries;
        exits = few.exits;
      };
      ranges = p.ranges;
      assumptions = p.assumptions;
      values = All-push HasSmallValue s.outputs f p.values (small_value f.value small.1);
      memories = p.memories;
      product = p.product;
      free = subst (All IsFree) (sym same) (All-push IsFree (variable_names s) f.name p.free small.0);
      different = subst (AllPairs (λ a b. a ≢ b)) (sym same) (different_push (variable_names s) f.name p.different (new_name s f.name names));
      free_states = p.free_states;
      different_states = p.different_states;
      tree = p.tree;
      entries = no_lines t s.entries quiet.entries;
      exits = no_lines t s.exits quiet.exits;
      moves = no_moves s t quiet.transitions;
      inputs_first = λ h. absurd (omega (arith, h));
      outputs_later = λ h. absurd (omega (arith, h));
      memories_later = λ h. mems;
      actions_last = λ h. record { entries = quiet.entries; exits = quiet.exits; transitions = quiet.transitions };
    }

partial_memory : (s : Reader) (f : MemoryForm) → IsPartial s → s.group ≤ 4 → IsSmallStatement (says.Memory f)
    → names_check s (says.Memory f) ≡ None → range_check s (says.Memory f) ≡ None → count_check s (says.Memory f) ≡ None
    → IsPartial (next_statement s (says.Memory f))
partial_memory s f p early small names range count =
    let t = next_statement s (says.Memory f) in
    let quiet = p.actions_last (omega (arith, early)) in
    let few = p.few in
    let same = push_names (λ (form : MemoryForm). form.name) (input_names s ++ output_names s) s.memories f in
    let outside = if_none (is_outside f) (Fault kind.Range) range in
    let a = or_false (int_lt (value_of f.hi) (value_of f.lo) || int_lt (value_of f.value) (value_of f.lo))
    (int_lt (value_of f.hi) (value_of f.value)) outside in
    let b = or_false (int_lt (value_of f.hi) (value_of f.lo)) (int_lt (value_of f.value) (value_of f.lo)) a.0 in
    let x = or_none (limit_check (nat_le 4 (length s.memories)) which.Memories)
    (option_or (limit_check (not (is_bounded f)) which.Bound) (limit_check (nat_lt 256 (s.product * memory_size f)) which.Product)) count in
    let y = or_none (limit_check (not (is_bounded f)) which.Bound) (limit_check (nat_lt 256 (s.product * memory_size f)) which.Product) x.1 in
    let z = both_true (nat_le (unsigned_abs (value_of f.lo)) 1000) (nat_le (unsigned_abs (value_of f.hi)) 1000)
    (not_true (is_bounded f) (limit_none (not (is_bounded f)) which.Bound y.0)) in
    record {
      few = record {
        version = few.version;
        inputs = few.inputs;
        assumed = few.assumed;
        outputs = few.outputs;
        memories = one_more s.memories f 4 (below (length s.memories) 4 (limit_none (nat_le 4 (length s.memories)) which.Memories x.0));
        product = at_most_not (s.product * memory_size f) 256 (limit_none (nat_lt 256 (s.product * memory_size f)) which.Product y.1);
        states = few.states;
        transitions = few.transitions;
        entries = few.entries;
        exits = few.exits;
      };
      ranges = p.ranges;
      assumptions = p.assumptions;
      values = p.values;
      memories = All-push HasMemory s.memories f p.memories
          (record {
            low = at_most (unsigned_abs (value_of f.lo)) 1000 z.0;
            high = at_most (unsigned_abs (value_of f.hi)) 1000 z.1;
            above = ordered_range (value_of f.lo) (value_of f.value) b.1;
            below = ordered_range (value_of f.value) (value_of f.hi) a.1;
          });
      product = ap (λ n. n * memory_size f) p.product ∙ sym (product_push s.memories f);
      free = subst (All IsFree) (sym same) (All-push IsFree (variable_names s) f.name p.free small.free);
      different = subst (AllPairs (λ a b. a ≢ b)) (sym same) (different_push (variable_names s) f.name p.different (new_name s f.name names));
      free_states = p.free_states;
      different_states = p.different_states;
      tree = p.tree;
      entries = no_lines t s.entries quiet.entries;
      exits = no_lines t s.exits quiet.exits;
      moves = no_moves s t quiet.transitions;
      inputs_first = λ h. absurd (omega (arith, h));
      outputs_later = λ h. absurd (omega (arith, h));
      memories_later = λ h. absurd (omega (arith, h));
      actions_last = λ h. record { entries = quiet.entries; exits = quiet.exits; transitions = quiet.transitions };
    }

parent_below : (s : Reader) (name : Option (List ℕ)) (parent : ℕ) → parent_number s name ≡ Some parent → parent < length s.states
parent_below s None parent e = absurd (cc)
parent_below s (Some name) parent e = let h = place_below name (state_names s) parent e in subst (λ n. parent < n) (length-map s.states (λ state. state.name)) h

-- the depth of a new state follows from its parent's
new_depth : (s : Reader) (parent : Option ℕ) → ((k : ℕ) → parent ≡ Some k → k < length s.states)
    → ForSome parent (λ k. (above : DeclaredState) × (slice_get s.states k ≡ Some above) × (depth_under s parent ≡ above.depth + 1))
new_depth s parent h = λ k e.
    let found = found_at s.states k (h k e) in (
      found.0,
      found.1,
      ap (λ o. option_map_or (λ (above : DeclaredState). above.depth) (option_and_then (slice_get s.states) o) 0 + 1) e
          ∙ ap (λ o. option_map_or (λ (above : DeclaredState). above.depth) o 0 + 1) found.1,
    )

partial_state : (s : Reader) (f : StateForm) → IsPartial s → s.group ≤ 5 → IsSmallStatement (says.State f) → names_check s (says.State f) ≡ None
    → start_check s (says.State f) ≡ None → count_check s (says.State f) ≡ None → IsPartial (next_statement s (says.State f))
partial_state s f p early small names begins count =
    let t = next_statement s (says.State f) in
    let x = declared_state s f in
    let quiet = p.actions_last early in
    let few = p.few in
    let same = map-append (λ (state : DeclaredState). state.name) s.states (x ∷ []) in
    let a = or_none (double_check (has_name f.name (state_names s))) (some_state_check s f.parent) names in
    let new = if_none (has_name f.name (state_names s)) (Fault kind.Double) a.0 in
    let b = or_none (limit_check (nat_le 64 (length s.states)) which.States)
    (limit_check (nat_lt 8 (depth_under s (parent_number s f.parent))) which.Depth) count in
    let below_all = parent_below s f.parent in
    let entries = all_none s.entries quiet.entries in
    let exits = all_none s.exits quiet.exits in
    let n = length-append s.entries (None ∷ []) in
    let m = length-append s.exits (None ∷ []) in
    let k = length-append s.states (x ∷ []) in
    let e = few.entries in
    let d = few.exits in
    record {
      few = record {
        version = few.version;
        inputs = few.inputs;
        assumed = few.assumed;
        outputs = few.outputs;
        memories = few.memories;
        product = few.product;
        states = one_more s.states x 64
            (below (length s.states) 64 (limit_none (nat_le 64 (length s.states)) which.States b.0));
        transitions = few.transitions;
        entries = omega (arith, n, k, e);
        exits = omega (arith, m, k, d);
      };
      ranges = p.ranges;
      assumptions = p.assumptions;
      values = p.values;
      memories = p.memories;
      product = p.product;
      free = p.free;
      different = p.different;
      free_states = subst (All IsFree) (sym same) (All-push IsFree (state_names s) f.name p.free_states small);
      different_states = subst (AllPairs (λ a b. a ≢ b)) (sym same) (different_push (state_names s) f.name p.different_states new);
      tree = states_push s.states x p.tree below_all (
        at_most_not (depth_under s (parent_number s f.parent)) 8
            (limit_none (nat_lt 8 (depth_under s (parent_number s f.parent))) which.Depth b.1),
        omega arith,
        new_depth s
            (parent_number s f.parent) below_all,
      ) begins;
      entries = no_lines t (s.entries ++ None ∷ []) entries;
      exits = no_lines t (s.exits ++ None ∷ []) exits;
      moves = no_moves s t quiet.transitions;
      inputs_first = λ h. absurd (omega (arith, h));
      outputs_later = λ h. absurd (omega (arith, h));
      memories_later = λ h. absurd (omega (arith, h));
      actions_last = λ h. record { entries = entries; exits = exits; transitions = quiet.transitions };
    }

-- with other actions on entry and exit and other transitions, as many as there may be and each of them right
partial_last : (s : Reader) (entries exits : List (Option (List Action))) (transitions : List Transition) → IsPartial s
    → length entries ≡ length s.states → length exits ≡ length s.states → length transitions ≤ 256 → AreLines s entries → AreLines s exits
    → AreMoves s transitions → IsPartial (record s { group = 6; entries = entries; exits = exits; transitions = transitions })
partial_last s entries exits transitions p all_entries all_exits few_transitions right right_exits moves = let few = p.few in record {
  few = record {
    version = few.version;
    inputs = few.inputs;
    assumed = few.assumed;
    outputs = few.outputs;
    memories = few.memories;
    product = few.product;
    states = few.states;
    transitions = few_transitions;
    entries = all_entries;
    exits = all_exits;
  };
  ranges = p.ranges;
  assumptions = p.assumptions;
  values = p.values;
  memories = p.memories;
  product = p.product;
  free = p.free;
  different = p.different;
  free_states = p.free_states;
  different_states = p.different_states;
  tree = p.tree;
  entries = right;
  exits = right_exits;
  moves = moves;
  inputs_first = λ h. absurd (omega (arith, h));
  outputs_later = λ h. absurd (omega (arith, h));
  memories_later = λ h. absurd (omega (arith, h));
  actions_last = λ h. absurd (omega (arith, h));
}

partial_entry : (s : Reader) (f : ActionsForm) → IsPartial s → IsSmallStatement (says.Entry f) → names_check s (says.Entry f) ≡ None
    → IsPartial (next_statement s (says.Entry f))
partial_entry s f p small names =
    let k = number_of f.state (state_names s) in
    let a = or_none (state_check s f.state) (actions_check s f.actions) names in
    partial_last s (slice_set s.entries k (Some (actions_of s f.actions))) s.exits s.transitions p
    (length-set s.entries k (Some (actions_of s f.actions)) ∙ p.few.entries) p.few.exits p.few.transitions
    (new_lines s s.entries k f p.few p.entries small a.1) p.exits p.moves

partial_exit : (s : Reader) (f : ActionsForm) → IsPartial s → IsSmallStatement (says.Exit f) → names_check s (says.Exit f) ≡ None
    → IsPartial (next_statement s (says.Exit f))
partial_exit s f p small names =
    let k = number_of f.state (state_names s) in
    let a = or_none (state_check s f.state) (actions_check s f.actions) names in
    partial_last s s.entries (slice_set s.exits k (Some (actions_of s f.actions))) s.transitions p p.few.entries
    (length-set s.exits k (Some (actions_of s f.actions)) ∙ p.few.exits) p.few.transitions p.entries
    (new_lines s s.exits k f p.few p.exits small a.1) p.moves

number_below : (s : Reader) (name : List ℕ) (misused : Bool) → use_check (place_of name (state_names s)) misused ≡ None
    → number_of name (state_names s) < length s.states
number_below s name misused h = let less = number_within name (state_names s) misused h in
    subst (λ n. number_of name (state_names s) < n) (length-map s.states (λ state. state.name)) less

good_when : (s : Reader) (g : Option written.Tree) → HasFew s → ForSome g IsSmallGuard → nat_lt 64 (option_map_or written.tests_of g 0) ≡ false
    → ForSome (option_map (guard_of (guard_scope s) (length s.inputs)) g) (λ guard. IsGuard (length s.inputs) (length s.memories) guard)
good_when s None few small tests = λ x e. absurd (cc)
good_when s (Some g) few small tests = λ x e. subst (IsGuard (length s.inputs) (length s.memories)) (some_same (guard_of (guard_scope s) (length s.inputs) g) x e)
    (good_guard s g few (small g refl) (at_most_not (written.tests_of g) 64 tests))

parent_if : (history parent : Bool) → history ≡ true → (history && not parent) ≡ false → parent ≡ true
parent_if true true t e = refl
parent_if true false t e = absurd (cc)
parent_if false parent t e = absurd (cc)

-- a target that passes its check is a state, and one with children where history is asked
target_if : (s : Reader) (o : Option ℕ) (history : Bool) → found_target_check s o history ≡ None
    → (k : ℕ) × (o ≡ Some k) × (history ≡ true → is_parent s k ≡ true)
target_if s None history h = absurd (cc)
target_if s (Some k) history h = (k, refl, λ t. parent_if history (is_parent s k) t (if_none (history && not (is_parent s k)) (Fault kind.Misuse) h))

found_number : (o : Option ℕ) (k : ℕ) → o ≡ Some k → unwrap_or o 0 ≡ k
found_number o k e = ap (λ p. unwrap_or p 0) e

good_target : (s : Reader) (name : Option (List ℕ)) (history : Bool) → target_check s name history ≡ None
    → ForSome (option_map (λ target. number_of target (state_names s)) name) (λ target. target < length s.states)
good_target s None history h = λ x e. absurd (cc)
good_target s (Some name) history h =
    let t = target_if s (place_of name (state_names s)) history h in
    let n = found_number (place_of name (state_names s)) t.0 t.1 in
    let less = place_below name (state_names s) t.0 t.1 in
    let below_all : t.0 < length s.states = subst (λ m. t.0 < m) (length-map s.states (λ state. state.name)) less in
    λ x e. subst (λ m. m < length s.states) (some_same (number_of name (state_names s)) x e) (subst (λ m. m < length s.states) (sym n) below_all)

good_history : (s : Reader) (name : Option (List ℕ)) (history : Bool) → target_check s name history ≡ None → (name ≡ None → history ≡ false)
    → history ≡ true → option_map_or (λ target. list_any (is_child_of target) s.states)
    (option_map (λ target. number_of target (state_names s)) name) false ≡ true
good_history s None history h alone t = let f = alone refl in absurd (cc)
good_history s (Some name) history h alone t =
    let found = target_if s (place_of name (state_names s)) history h in
    let n = found_number (place_of name (state_names s)) found.0 found.1 in
    subst (λ k. list_any (is_child_of k) s.states ≡ true) (sym n) (found.2 t)

partial_on : (s : Reader) (f : OnForm) → IsPartial s → IsSmallStatement (says.On f) → (f.target ≡ None → f.history ≡ false)
    → comparisons_check s (says.On f) ≡ None → names_check s (says.On f) ≡ None → count_check s (says.On f) ≡ None
    → IsPartial (next_statement s (says.On f))
partial_on s f p small alone comparisons names count =
    let few = p.few in
    let rest = option_or (actions_check s f.effect) (target_check s f.target f.history) in
    let a = or_none (state_check s f.source) (option_or (when_check s f.guard) rest) names in
    let b = or_none (when_check s f.guard) rest a.1 in
    let d = or_none (actions_check s f.effect) (target_check s f.target f.history) b.1 in
    let tests = if_none (nat_lt 64 (option_map_or written.tests_of f.guard 0)) (Limit which.Comparisons) comparisons in
    let move : IsMove (length s.inputs) (length s.memories) (length s.outputs) s.states (transition_of s f) = record {
      source = number_below s f.source false (told_none (use_check (place_of f.source (state_names s)) false) a.0);
      guard = good_when s f.guard few small.guard tests;
      effect = good_actions s f.effect few small.effect d.0;
      target = good_target s f.target f.history d.1;
      history = good_history s f.target f.history d.1 alone;
    } in
    partial_last s s.entries s.exits (s.transitions ++ transition_of s f ∷ []) p few.entries few.exits
    (one_more s.transitions (transition_of s f) 256 (below (length s.transitions) 256 (limit_none (nat_le 256 (length s.transitions)) which.Transitions count)))
    p.entries p.exits
    (All-push (IsMove (length s.inputs) (length s.memories) (length s.outputs) s.states) s.transitions (transition_of s f) p.moves move)

partial_chart : (s : Reader) (n : ℕ) → IsPartial s → n ≤ 3 → IsPartial (next_statement s (says.Chart n))
partial_chart s n p small =
    let few = p.few in
    record {
      few = record {
        version = small;
        inputs = few.inputs;
        assumed = few.assumed;
        outputs = few.outputs;
        memories = few.memories;
        product = few.product;
        states = few.states;
        transitions = few.transitions;
        entries = few.entries;
        exits = few.exits;
      };
      ranges = p.ranges;
      assumptions = p.assumptions;
      values = p.values;
      memories = p.memories;
      product = p.product;
      free = p.free;
      different = p.different;
      free_states = p.free_states;
      different_states = p.different_states;
      tree = p.tree;
      entries = p.entries;
      exits = p.exits;
      moves = p.moves;
      inputs_first = p.inputs_first;
      outputs_later = p.outputs_later;
      memories_later = p.memories_later;
      actions_last = λ h. let quiet = p.actions_last h in record { entries = quiet.entries; exits = quiet.exits; transitions = quiet.transitions };
    }

-- what a line's form and place in the order add to the limits
abbrev pub IsPlaced : Reader → Statement → Type 0
IsPlaced s (says.Chart n) = n ≤ 3
IsPlaced s (says.Input f) = s.group ≤ 1
IsPlaced s (says.Assume t) = (s.group ≤ 2) × (t.relation ≢ relation.NotEqual)
IsPlaced s (says.Output f) = s.group ≤ 3
IsPlaced s (says.Memory f) = s.group ≤ 4
IsPlaced s (says.State f) = s.group ≤ 5
IsPlaced s (says.Entry f) = Unit {0}
IsPlaced s (says.Exit f) = Unit {0}
IsPlaced s (says.On f) = f.target ≡ None → f.history ≡ false

pub partial_statement : (s : Reader) (said : Statement) → IsPartial s → IsPlaced s said → IsSmallStatement said → comparisons_check s said ≡ None
    → names_check s said ≡ None → range_check s said ≡ None → start_check s said ≡ None → count_check s said ≡ None
    → IsPartial (next_statement s said)
partial_statement s (says.Chart n) p placed small comparisons names range begins count = partial_chart s n p placed
partial_statement s (says.Input f) p placed small comparisons names range begins count = partial_input s f p placed small names range count
partial_statement s (says.Assume t) p placed small comparisons names range begins count = partial_assumption s t p placed.0 small placed.1 range count
partial_statement s (says.Output f) p placed small comparisons names range begins count = partial_output s f p placed small names count
partial_statement s (says.Memory f) p placed small comparisons names range begins count = partial_memory s f p placed small names range count
partial_statement s (says.State f) p placed small comparisons names range begins count = partial_state s f p placed small names begins count
partial_statement s (says.Entry f) p placed small comparisons names range begins count = partial_entry s f p small names
partial_statement s (says.Exit f) p placed small comparisons names range begins count = partial_exit s f p small names
partial_statement s (says.On f) p placed small comparisons names range begins count = partial_on s f p small placed comparisons names count

pub partial_start : IsPartial start
partial_start = record {
  few = record {
    version = omega arith;
    inputs = omega arith;
    assumed = omega arith;
    outputs = omega arith;
    memories = omega arith;
    product = omega arith;
    states = omega arith;
    transitions = omega arith;
    entries = refl;
    exits = refl;
  };
  ranges = All-nil HasRange;
  assumptions = All-nil (IsAssumption 0);
  values = All-nil HasSmallValue;
  memories = All-nil HasMemory;
  product = refl;
  free = All-nil IsFree;
  different = λ i j d h k. absurd (omega (arith, k));
  free_states = All-nil IsFree;
  different_states = λ i j d h k. absurd (omega (arith, k));
  tree = record { parents = λ k parent state e h. absurd (cc); depths = λ k state e. absurd (cc); starts = λ parent. omega arith };
  entries = no_lines start [] (All-nil (λ line. line ≡ None));
  exits = no_lines start [] (All-nil (λ line. line ≡ None));
  moves = no_moves start start refl;
  inputs_first = λ h. refl;
  outputs_later = λ h. refl;
  memories_later = λ h. refl;
  actions_last = λ h. record { entries = All-nil (λ line. line ≡ None); exits = All-nil (λ line. line ≡ None); transitions = refl };
}
