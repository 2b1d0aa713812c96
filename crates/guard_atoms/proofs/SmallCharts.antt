-- What the tests' charts of one state keep.
use Rattle.std.proofs.Common.{◌≡◌, ℕ, zero, suc, ◌+◌, ◌*◌, ◌<◌, ◌≤◌, true, List, [], ◌∷◌, ◌++◌, length, map, ℤ, pos, Option, None, Some, All, refl, ap, sym, subst, ◌∙◌, arith}
use Rattle.std.specs.Prelude.{slice_get, unsigned_abs, is_none}
use Rattle.std.proofs.lemmas.Bool.{false≢true}
use Rattle.std.proofs.lemmas.List.{length-map, length_push}
use Rattle.std.proofs.lemmas.List.Elements.{All-nil, All-push, All-from_recursion}
use Rattle.std.proofs.lemmas.Option.{get_or_from_slice_get}
use Rattle.lin_form.specs.declared.signature.Signature.{Signature}
use Rattle.lin_form.specs.declared.form.Comparison.{Comparison}
use Rattle.chart_model.specs.Cuts.{IsCut}
use Rattle.chart_model.specs.Chart.{AreZero, IsAssumption, IsChart, IsFormOver, IsMemory, IsState, IsTransition, range_product, range_size}
use Rattle.chart_model.specs.States.{IsTree, is_within_depth}
use Rattle.chart_model.specs.declared.state.Memory.{Memory}
use Rattle.chart_model.specs.declared.state.State.{State}
use Rattle.chart_model.specs.declared.transition.Transition.{Transition}
use Rattle.chart_meaning.proofs.SmallCharts.{AreNames-frame, AreNames-states}

-- a state at the top in which the chart starts
abbrev pub only : List ℕ → State
only name = record { name = name; parent = None; start = true; entry = []; exit = [] }

no_parent : (name : List ℕ) (state : State) (parent : ℕ) → only name ≡ state → state.parent ≡ Some parent → ⊥
no_parent name state parent e h = let none : ◌≡◌ {A = Option ℕ} None (Some parent) = ap (λ (s : State). s.parent) e ∙ h in false≢true (sym (ap is_none none))

only_tree : (name : List ℕ) → IsTree (only name ∷ [])
only_tree name = record {
  parents = λ s state parent e h. above s state parent e h;
  depth = shallow;
  starts = λ s e. absurd (false≢true e);
  top = refl;
}
  where
    above : (s : ℕ) (state : State) (parent : ℕ) → slice_get (only name ∷ []) s ≡ Some state → state.parent ≡ Some parent → parent < s
    above zero state parent e h = absurd (no_parent name state parent (get_or_from_slice_get (only name ∷ []) zero state state e) h)
    above (suc s) state parent e h = absurd (no_parent name state parent (get_or_from_slice_get (only name ∷ []) (suc s) state (only name) e) h)

    shallow : (s : ℕ) → s < length (only name ∷ []) → is_within_depth 8 (only name ∷ []) s ≡ true
    shallow zero l = refl
    shallow (suc s) l = absurd (omega arith)

only_actions : (i m o : ℕ) (name : List ℕ) → All (IsState i m o) (only name ∷ [])
only_actions i m o name = All-push (IsState i m o) [] (only name) (All-nil (IsState i m o)) (record { entry = All-nil _; exit = All-nil _ })

one_range : (memory : Memory) → range_size memory ≤ 256 → range_product (memory ∷ []) ≤ 256
one_range memory h = let n : range_size memory * 1 ≡ range_size memory = omega arith in omega arith

pub IsChart-plain : (signature : Signature) (assumed : List Comparison) (memory : Memory) (name : List ℕ) (transitions : List Transition) → map (λ input. input.name) signature.inputs ≡ (118 ∷ []) ∷ (119 ∷ []) ∷ (120 ∷ []) ∷ [] → signature.outputs ≡ (121 ∷ []) ∷ [] → IsMemory memory → memory.name ≡ 122 ∷ [] → range_size memory ≤ 256 → All (IsAssumption 3) assumed → length assumed ≤ 16 → name ≡ 65 ∷ 65 ∷ [] → length transitions ≤ 256 → All (IsTransition 3 1 1 (only name ∷ [])) transitions → IsChart signature (pos 0 ∷ []) assumed (memory ∷ []) (only name ∷ []) transitions
IsChart-plain signature assumed memory name transitions inputs outputs m named size claims sixteen is few moves =
    let three : 3 ≡ length signature.inputs = sym (ap length inputs) ∙ length-map signature.inputs (λ input. input.name) in
    let one : 1 ≡ length signature.outputs = sym (ap length outputs) in
    record {
      counts = record { few_assumed = sixteen; few_memories = omega arith; product = one_range memory size; few_states = record { least = omega arith; limit = omega arith }; few_transitions = few };
      names = AreNames-frame _ (λ i. inputs i ++ outputs i ++ named i ∷ []);
      state_names = AreNames-states (name ∷ []) 1 (omega arith) (λ i. is i ∷ []);
      one_value_each = one;
      small = All-push (λ value. unsigned_abs value ≤ 1000000) [] (pos 0) (All-nil (λ value. unsigned_abs value ≤ 1000000)) (omega arith);
      assumptions = subst (λ n. All (IsAssumption n) assumed) three claims;
      ranges = All-push IsMemory [] memory (All-nil IsMemory) m;
      tree = only_tree name;
      actions = only_actions (length signature.inputs) 1 (length signature.outputs) name;
      moves = subst (λ n. All (IsTransition n 1 (length signature.outputs) (only name ∷ [])) transitions) three (subst (λ n. All (IsTransition 3 1 n (only name ∷ [])) transitions) one moves);
    }

-- coefficients of memories that are all 0
pub zeros : (memory : List ℤ) → memory ≡ pos 0 ∷ pos 0 ∷ pos 0 ∷ pos 0 ∷ [] → AreZero memory
zeros memory e = subst AreZero (sym e) (All-from_recursion (λ a. a ≡ pos 0) (pos 0 ∷ pos 0 ∷ pos 0 ∷ pos 0 ∷ []) (refl, (refl, (refl, (refl, tt)))))

-- one cut more
pub one_cut : (list new : List Comparison) (cut : Comparison) → new ≡ list ++ cut ∷ [] → IsFormOver 3 1 cut.form → cut.form.memory ≡ pos 0 ∷ pos 0 ∷ pos 0 ∷ pos 0 ∷ [] → All IsCut list × All (λ cut. length cut.form.inputs ≡ 3) list → All IsCut new × All (λ cut. length cut.form.inputs ≡ 3) new
one_cut list new cut e over none h = rw e (
  All-push IsCut list cut h.0 (record { moderate = over.moderate; no_memory = zeros cut.form.memory none }),
  All-push (λ cut. length cut.form.inputs ≡ 3) list cut h.1 over.each_input,
)

-- one transition more
pub one_move : (states : List State) (list new : List Transition) (move : Transition) (count : ℕ) → new ≡ list ++ move ∷ [] → IsTransition 3 1 1 states move → All (IsTransition 3 1 1 states) list × (length list ≡ count) → All (IsTransition 3 1 1 states) new × (length new ≡ count + 1)
one_move states list new move count e is h = rw e (All-push (IsTransition 3 1 1 states) list move h.0 is, length_push list move ∙ ap (λ n. n + 1) h.1)
