-- What was declared is a chart, where the end is checked.
use Rattle.std.proofs.Common.{◌≡◌, ◌≢◌, ℕ, ◌*◌, ◌<◌, ◌≤◌, Bool, true, false, ◌||◌, not, List, [], ◌∷◌, ◌++◌, length, map, get_or, ℤ, Option, Some}
use Rattle.std.proofs.Common.{None, refl, sym, ◌∙◌, ap, subst, arith}
use Rattle.std.specs.Prelude.{if◌then◌else◌, ◌==◌, unsigned_abs, AllPairs}
use Rattle.std.specs.List.{All, list_any}
use Rattle.std.specs.Option.{ForSome, option_map_or}
use Rattle.std.proofs.lemmas.Bool.Decides.{nat_tests}
use Rattle.std.proofs.lemmas.List.{length-map}
use Rattle.std.proofs.lemmas.List.Elements.{All-map, All-weaker}
use Rattle.lin_form.specs.declared.input.Input.{Input}
use Rattle.lin_form.specs.declared.signature.Signature.{Signature}
use Rattle.lin_form.specs.Range.{IsCount}
use Rattle.line_forms.specs.declared.statement.InputForm.{InputForm}
use Rattle.line_forms.specs.declared.statement.MemoryForm.{MemoryForm}
use Rattle.line_forms.specs.Forms.{value_of}
use Rattle.line_forms.specs.Limits.{IsFree}
use Rattle.chart_model.specs.declared.action.Action.{Action}
use Rattle.chart_model.specs.declared.state.Memory.{Memory}
use Rattle.chart_model.specs.declared.state.State.{State}
use Rattle.chart_model.specs.declared.transition.Transition.{Transition}
use Rattle.chart_model.specs.Chart.{IsChart, IsState, IsTransition, IsAssumption, IsMemory, AreNames, range_product}
use Rattle.chart_model.specs.States.{IsTree, has_children, is_child_of}
use Rattle.chart_syntax.specs.declared.reader.DeclaredState.{DeclaredState}
use Rattle.chart_syntax.specs.declared.reader.Reader.{Reader}
use Rattle.chart_syntax.specs.declared.error.Kind.TheVariants as kind
use Rattle.chart_syntax.specs.declared.error.Refusal.{Refusal}
use Rattle.chart_syntax.specs.declared.error.Refusal.TheVariants.{Fault}
use Rattle.chart_syntax.specs.Checks.{state_names, end_check, is_missing, lacks_top_start, lacks_start_child, lacks_start, is_start_under}
use Rattle.chart_syntax.specs.Checks.{same_parent, memory_size}
use Rattle.chart_syntax.specs.Checks as declared
use Rattle.chart_syntax.specs.inside.Promises.{IsPartial, HasMemory, IsMove, product_of, variable_names}
use Rattle.chart_syntax.specs.Reading.{states_of, memory_of, bounds_of_input, bounds_of_form}
use Rattle.chart_syntax.proofs.Fresh.{if_none, or_false, free_name}
use Rattle.chart_syntax.proofs.Joined.{length_joined, names_joined, any_joined, lines_joined, tree_joined, children_alike}

-- the states before the rest are joined with their lines
pub record IsJoinedTo (declared rest : List DeclaredState) (entries exits more_entries more_exits : List (Option (List Action)))
    (states : List State) : Type 0 where
  pub joined : states_of declared entries exits ≡ states ++ states_of rest more_entries more_exits
  pub entries_left : length more_entries ≡ length rest
  pub exits_left : length more_exits ≡ length rest

end_if : (b c : Bool) (x y : Refusal) → (if b then Some x else if c then Some y else None) ≡ None → c ≡ false
end_if true c x y e = absurd (cc)
end_if false c x y e = if_none c y e

some_if : (n : ℕ) → (n == 0) ≡ false → 1 ≤ n
some_if n e = grind (arith, nat_tests)

not_false : (b : Bool) → not b ≡ false → b ≡ true
not_false true e = refl
not_false false e = absurd (cc)

-- what the end's check leaves
pub record IsComplete (s : Reader) : Type 0 where
  pub inputs : 1 ≤ length s.inputs
  pub outputs : 1 ≤ length s.outputs
  pub states : 1 ≤ length s.states
  pub started : list_any (is_start_under None) s.states ≡ true
  pub children : list_any (lacks_start s.states) s.states ≡ false

pub complete : (s : Reader) → end_check s ≡ None → IsComplete s
complete s e =
    let i = length s.inputs == 0 in let o = length s.outputs == 0 in let t = length s.states == 0 in
    let n = lacks_top_start s in let c = lacks_start_child s in
    let a = end_if (s.version == 0) (i || o || t || n || c) (Fault kind.Version) (Fault kind.Missing) e in
    let x = or_false (i || o || t || n) c a in
    let b = or_false (i || o || t) n x.0 in
    let d = or_false (i || o) t b.0 in
    let f = or_false i o d.0 in
    record {
      inputs = some_if (length s.inputs) f.0;
      outputs = some_if (length s.outputs) f.1;
      states = some_if (length s.states) d.1;
      started = not_false (list_any (is_start_under None) s.states) b.1;
      children = x.1;
    }

names_of_inputs : (xs : List Input) → map (λ b. b.0) (map bounds_of_input xs) ≡ map (λ input. input.name) xs
names_of_inputs [] = refl
names_of_inputs (x ∷ xs) = ap (λ names. x.name ∷ names) (names_of_inputs xs)

names_of_forms : (xs : List InputForm) → map (λ b. b.0) (map bounds_of_form xs) ≡ map (λ form. form.name) xs
names_of_forms [] = refl
names_of_forms (x ∷ xs) = ap (λ names. x.name ∷ names) (names_of_forms xs)

pub same_names : (inputs : List Input) (forms : List InputForm) → map bounds_of_input inputs ≡ map bounds_of_form forms
    → map (λ input. input.name) inputs ≡ map (λ form. form.name) forms
same_names inputs forms e = sym (names_of_inputs inputs) ∙ ap (λ bs. map (λ b. b.0) bs) e ∙ names_of_forms forms

pub same_length : (inputs : List Input) (forms : List InputForm) → map bounds_of_input inputs ≡ map bounds_of_form forms → length inputs ≡ length forms
same_length inputs forms e = sym (length-map inputs bounds_of_input) ∙ ap length e ∙ length-map forms bounds_of_form

names_of_memories : (xs : List MemoryForm) → map (λ (memory : Memory). memory.name) (map memory_of xs) ≡ map (λ form. form.name) xs
names_of_memories [] = refl
names_of_memories (x ∷ xs) = ap (λ names. x.name ∷ names) (names_of_memories xs)

product_of_memories : (xs : List MemoryForm) → range_product (map memory_of xs) ≡ product_of xs
product_of_memories [] = refl
product_of_memories (x ∷ xs) = ap (λ n. memory_size x * n) (product_of_memories xs)

with_children : (xs : List DeclaredState) (es ds : List (Option (List Action))) → length es ≡ length xs → length ds ≡ length xs → (o : Option ℕ)
    → option_map_or (λ target. list_any (declared.is_child_of target) xs) o false ≡ true
    → option_map_or (has_children (states_of xs es ds)) o false ≡ true
with_children xs es ds e d None f = absurd (cc)
with_children xs es ds e d (Some k) f = any_joined (is_child_of k) (declared.is_child_of k) (children_alike k) xs es ds e d ∙ f

moved : (i m o : ℕ) (xs : List DeclaredState) (es ds : List (Option (List Action))) (t : Transition) → length es ≡ length xs
    → length ds ≡ length xs → IsMove i m o xs t → IsTransition i m o (states_of xs es ds) t
moved i m o xs es ds t e d move = record {
  source = subst (λ n. t.source < n) (sym (length_joined xs es ds e d)) move.source;
  guard = move.guard;
  effect = move.effect;
  target = subst (λ n. ForSome t.target (λ target. target < n)) (sym (length_joined xs es ds e d)) move.target;
  history = λ h. with_children xs es ds e d t.target (move.history h);
}

all_names : (names : List (List ℕ)) → All IsFree names → AllPairs (λ a b. a ≢ b) names → AreNames names
all_names names free different = record { different = different; free = λ k d less. free_name (get_or names k d) (free k d less) }

-- what was declared keeps what every chart keeps
pub is_chart : (s : Reader) (signature : Signature) (initial : List ℤ) (memories : List Memory) (states : List State) → IsPartial s → end_check s ≡ None
    → map bounds_of_input signature.inputs ≡ map bounds_of_form s.inputs → signature.outputs ≡ map (λ form. form.name) s.outputs
    → initial ≡ map (λ form. value_of form.value) s.outputs
    → memories ≡ map memory_of s.memories → states ≡ states_of s.states s.entries s.exits → IsChart signature initial s.assumed memories states s.transitions
is_chart s signature initial memories states p e inputs outputs values mems are =
    let full = complete s e in
    let few = p.few in
    let i : length signature.inputs ≡ length s.inputs = same_length signature.inputs s.inputs inputs in
    let o : length signature.outputs ≡ length s.outputs = ap length outputs ∙ length-map s.outputs (λ form. form.name) in
    let m : length memories ≡ length s.memories = ap length mems ∙ length-map s.memories memory_of in
    let n : length states ≡ length s.states = ap length are ∙ length_joined s.states s.entries s.exits few.entries few.exits in
    let all : variable_names s ≡ map (λ input. input.name) signature.inputs ++ signature.outputs ++ map (λ memory. memory.name) memories =
    sym (λ j. same_names signature.inputs s.inputs inputs j ++ outputs j ++ (ap (map (λ (memory : Memory). memory.name)) mems
    ∙ names_of_memories s.memories) j) in
    let named : state_names s ≡ map (λ state. state.name) states =
    sym (ap (map (λ (state : State). state.name)) are ∙ names_joined s.states s.entries s.exits few.entries few.exits) in
    record {
      counts = record {
        few_assumed = few.assumed;
        few_memories = let h = few.memories in omega (arith, m, h);
        product = let h = ap range_product mems ∙ product_of_memories s.memories ∙ sym p.product in let g = few.product in omega (arith, h, g);
        few_states = record { least = let h = full.states in omega (arith, n, h); limit = let h = few.states in omega (arith, n, h) };
        few_transitions = few.transitions;
      };
      names = subst AreNames all (all_names (variable_names s) p.free p.different);
      state_names = subst AreNames named (all_names (state_names s) p.free_states p.different_states);
      one_value_each = ap length values ∙ length-map s.outputs (λ form. value_of form.value) ∙ sym o;
      small = subst (All (λ value. unsigned_abs value ≤ 1000000)) (sym values)
          (All-map (λ value. unsigned_abs value ≤ 1000000) (λ form. value_of form.value) s.outputs p.values);
      assumptions = subst (λ k. All (IsAssumption k) s.assumed) (sym i) p.assumptions;
      ranges = subst (All IsMemory) (sym mems) (All-map IsMemory memory_of s.memories
          (All-weaker HasMemory (λ form. IsMemory (memory_of form))
          (λ form h. record { low = h.low; high = h.high; above = h.above; below = h.below }) s.memories p.memories));
      tree = subst IsTree (sym are) (tree_joined s.states s.entries s.exits few.entries few.exits p.tree full.started full.children);
      actions = subst (All (IsState (length signature.inputs) (length memories) (length signature.outputs))) (sym are)
          (subst (λ k. All (IsState k (length memories) (length signature.outputs)) (states_of s.states s.entries s.exits)) (sym i)
          (subst (λ k. All (IsState (length s.inputs) k (length signature.outputs)) (states_of s.states s.entries s.exits)) (sym m)
          (subst (λ k. All (IsState (length s.inputs) (length s.memories) k) (states_of s.states s.entries s.exits)) (sym o)
          (lines_joined (length s.inputs) (length s.memories) (length s.outputs) s.states s.entries s.exits p.entries p.exits))));
      moves = subst (λ xs. All (IsTransition (length signature.inputs) (length memories) (length signature.outputs) xs) s.transitions) (sym are)
          (subst (λ k. All (IsTransition k (length memories) (length signature.outputs) (states_of s.states s.entries s.exits)) s.transitions) (sym i)
          (subst (λ k. All (IsTransition (length s.inputs) k (length signature.outputs) (states_of s.states s.entries s.exits)) s.transitions) (sym m)
          (subst (λ k. All (IsTransition (length s.inputs) (length s.memories) k (states_of s.states s.entries s.exits)) s.transitions) (sym o)
          (All-weaker (IsMove (length s.inputs) (length s.memories) (length s.outputs) s.states)
          (IsTransition (length s.inputs) (length s.memories) (length s.outputs) (states_of s.states s.entries s.exits))
          (λ t h. moved (length s.inputs) (length s.memories) (length s.outputs) s.states s.entries s.exits t few.entries few.exits h)
          s.transitions p.moves))));
    }

-- as many inputs and outputs as a signature has
pub inputs_fit : (s : Reader) (inputs : List Input) → IsPartial s → end_check s ≡ None → map bounds_of_input inputs ≡ map bounds_of_form s.inputs
    → IsCount 6 (length inputs)
inputs_fit s inputs p e same = let n = same_length inputs s.inputs same in let full = (complete s e).inputs in let few = p.few.inputs in
    record { least = omega (arith, n, full); limit = omega (arith, n, few) }

pub outputs_fit : (s : Reader) (outputs : List (List ℕ)) → IsPartial s → end_check s ≡ None → outputs ≡ map (λ form. form.name) s.outputs
    → IsCount 8 (length outputs)
outputs_fit s outputs p e same = let n : length outputs ≡ length s.outputs = ap length same ∙ length-map s.outputs (λ form. form.name) in
    let full = (complete s e).outputs in let few = p.few.outputs in record { least = omega (arith, n, full); limit = omega (arith, n, few) }
