-- The walks out of a state and down from one.
use Rattle.std.proofs.Common.{◌≡◌, ◌≢◌, ℕ, zero, suc, ◌+◌, ◌<◌, ◌≤◌, Bool, true, false, List, [], ◌∷◌, ◌++◌, length, get_or, drop, take_while, cond}
use Rattle.std.proofs.Common.{not, Option, None, Some, ◌&&◌, ◌==◌, refl, ap, sym, subst, ◌∙◌, arith}
use Rattle.std.specs.Prelude.{slice_get, option_and_then}
use Rattle.std.specs.Option.{option_map_or}
use Rattle.std.proofs.lemmas.Bool.{false≢true}
use Rattle.std.proofs.lemmas.Bool.Decides.{Decides-eqb, nat_tests}
use Rattle.std.proofs.lemmas.List.{append-nil, append_assoc, length_push, at_drop_more, at_drop_all}
use Rattle.std.proofs.lemmas.List.Sums.{take_while-cons}
use Rattle.std.proofs.lemmas.List.Quantifiers.{position-Some}
use Rattle.std.proofs.lemmas.Option.{option_and_then_some, slice_get_within, slice_get-get_or, same_Some}
use Rattle.chart_model.specs.declared.state.State.{State}
use Rattle.chart_model.specs.States.{IsTree, parent_of, is_within_depth, is_start_child_of}
use Rattle.chart_meaning.specs.Tree.{ancestors, ancestors_within, start_descendants, start_descendants_within, start_child}

pub parent_below : (states : List State) → IsTree states → (s p : ℕ) → parent_of states s ≡ Some p → (p < s) × (s < length states)
parent_below states tree s p e =
    option_and_then_some (λ (state : State). state.parent) (slice_get states s) p e
    (λ state g f. (tree.parents s state p g f, slice_get_within states s state g))

pub parent_read : (states : List State) (s : ℕ) (state : State) → slice_get states s ≡ Some state → parent_of states s ≡ state.parent
parent_read states s state g = ap (option_and_then (λ (x : State). x.parent)) g

-- what is left of a walk out of a state
pub record IsWalkingOut (states : List State) (start : ℕ) (way : List ℕ) (at : Option ℕ) : Type 0 where
  pub room : ℕ
  pub size : room + length way ≡ 8
  pub goes : way ++ option_map_or (ancestors_within room states) at [] ≡ ancestors states start
  pub depth : option_map_or (is_within_depth room states) at true ≡ true
  pub inside : (s : ℕ) → at ≡ Some s → s < length states

pub walking_out-start : (states : List State) (start : ℕ) → IsTree states → start < length states → IsWalkingOut states start [] (Some start)
unfolding ancestors
walking_out-start states start tree h = record {
  room = 8;
  size = refl;
  goes = refl;
  depth = tree.depth start h;
  inside = λ s e. subst (λ x. x < length states) (same_Some start s e) h;
}

within-room : (room : ℕ) (states : List State) (s : ℕ) → is_within_depth room states s ≡ true → 0 < room
within-room zero states s e = absurd (false≢true e)
within-room (suc room) states s e = omega arith

pub walking_out-room : (states : List State) (start : ℕ) (way : List ℕ) (s : ℕ) → IsWalkingOut states start way (Some s) → length way < 8
walking_out-room states start way s w = let h = within-room w.room states s w.depth in let size = w.size in omega arith

walked : (states : List State) (start : ℕ) (way : List ℕ) (s room : ℕ) → IsTree states → room + length way ≡ 8
    → way ++ ancestors_within room states s ≡ ancestors states start → is_within_depth room states s ≡ true
    → IsWalkingOut states start (way ++ s ∷ []) (parent_of states s)
walked states start way s zero tree size goes depth = absurd (false≢true depth)
walked states start way s (suc room) tree size goes depth = record {
  room = room;
  size = let n = length_push way s in omega arith;
  goes = append_assoc way (s ∷ []) (option_map_or (ancestors_within room states) (parent_of states s) []) ∙ goes;
  depth = depth;
  inside = λ p e. let b = parent_below states tree s p e in omega arith;
}

pub walking_out-more : (states : List State) (start : ℕ) (way : List ℕ) (s : ℕ) → IsTree states
    → IsWalkingOut states start way (Some s) → IsWalkingOut states start (way ++ s ∷ []) (parent_of states s)
walking_out-more states start way s tree w = walked states start way s w.room tree w.size w.goes w.depth

pub walking_out-end : (states : List State) (start : ℕ) (way : List ℕ) → IsWalkingOut states start way None → way ≡ ancestors states start
walking_out-end states start way w = sym (append-nil way) ∙ w.goes

pub child_parent : (s : ℕ) (o : Option ℕ) → option_map_or (λ (parent : ℕ). parent == s) o false ≡ true → o ≡ Some s
child_parent s None e = absurd (false≢true e)
child_parent s (Some parent) e = ap Some ((Decides-eqb parent s).0 e)

second_true : (a b : Bool) → (a && b) ≡ true → b ≡ true
second_true true b e = e
second_true false b e = absurd (false≢true e)

-- a start child stands in the state
pub start_child-parent : (states : List State) (s child : ℕ) → start_child states s ≡ Some child → (child < length states) × (parent_of states child ≡ Some s)
start_child-parent [] s child e = absurd cc
start_child-parent (x ∷ xs) s child e =
    let p = position-Some (is_start_child_of s) (x ∷ xs) child x e in
    let found = slice_get-get_or (x ∷ xs) child x p.0 in (
      p.0,
      parent_read (x ∷ xs) child (get_or (x ∷ xs) child x) found ∙ child_parent s (get_or (x ∷ xs) child x).parent
          (second_true (get_or (x ∷ xs) child x).start _ p.1),
    )

-- what is left of a walk down from a state
pub record IsWalkingDown (states : List State) (start : ℕ) (way : List ℕ) (at : Option ℕ) : Type 0 where
  pub state : ℕ
  pub room : ℕ
  pub inside : state < length states
  pub size : room + length way ≡ 8
  pub next : at ≡ start_child states state
  pub goes : way ++ start_descendants_within room states state ≡ start_descendants states start
  pub deep : is_within_depth (length way) states state ≡ false

pub walking_down-start : (states : List State) (start : ℕ) → start < length states → IsWalkingDown states start [] (start_child states start)
unfolding start_descendants
walking_down-start states start h = record { state = start; room = 8; inside = h; size = refl; next = refl; goes = refl; deep = refl }

shallow : (states : List State) (s n : ℕ) → IsTree states → s < length states → is_within_depth n states s ≡ false → n ≢ 8
shallow states s n tree h deep e = false≢true (sym deep ∙ ap (λ m. is_within_depth m states s) e ∙ tree.depth s h)

pub walking_down-room : (states : List State) (start : ℕ) (way : List ℕ) (at : Option ℕ) → IsTree states → IsWalkingDown states start way at → length way < 8
walking_down-room states start way at tree w = let h = shallow states w.state (length way) tree w.inside w.deep in let size = w.size in omega arith

went_down : (states : List State) (start : ℕ) (way : List ℕ) (state room child : ℕ) → IsTree states
    → room + length way ≡ 8 → length way < 8 → start_child states state ≡ Some child
    → way ++ start_descendants_within room states state ≡ start_descendants states start → is_within_depth (length way) states state
    ≡ false → IsWalkingDown states start (way ++ child ∷ []) (start_child states child)
went_down states start way state zero child tree size few e goes deep = absurd (omega arith)
went_down states start way state (suc room) child tree size few e goes deep =
    let p = start_child-parent states state child e in
    record {
      state = child;
      room = room;
      inside = p.0;
      size = let n = length_push way child in omega arith;
      next = refl;
      goes = append_assoc way (child ∷ []) (start_descendants_within room states child)
          ∙ ap (λ o. way ++ option_map_or (λ (c : ℕ). c ∷ start_descendants_within room states c) o []) (sym e) ∙ goes;
      deep = let n : length (way ++ child ∷ []) ≡ suc (length way) =
          omega (arith, length_push way child) in
          rw n (ap (λ o. option_map_or (is_within_depth (length way) states) o true) p.1 ∙ deep);
    }

pub walking_down-more : (states : List State) (start : ℕ) (way : List ℕ) (child : ℕ) → IsTree states
    → IsWalkingDown states start way (Some child)
    → IsWalkingDown states start (way ++ child ∷ []) (start_child states child)
walking_down-more states start way child tree w =
    went_down states start way w.state w.room child tree w.size
    (walking_down-room states start way (Some child) tree w) (sym w.next) w.goes w.deep

start_descendants_none : (states : List State) (s room : ℕ) → start_child states s ≡ None → start_descendants_within room states s ≡ []
start_descendants_none states s zero e = refl
start_descendants_none states s (suc room) e = ap (λ o. option_map_or (λ (c : ℕ). c ∷ start_descendants_within room states c) o []) e

pub walking_down-end : (states : List State) (start : ℕ) (way : List ℕ) → IsWalkingDown states start way None → way ≡ start_descendants states start
walking_down-end states start way w = sym (append-nil way) ∙ ap (λ rest. way ++ rest) (sym (start_descendants_none states w.state w.room (sym w.next))) ∙ w.goes

pub ancestors-some : (states : List State) (s : ℕ) → 0 < length (ancestors states s)
unfolding ancestors
ancestors-some states s = omega arith

-- the states before one, as far as the first i are read
pub record IsTakenBefore (container : ℕ) (way items : List ℕ) (i : ℕ) (below : List ℕ) : Type 0 where
  pub goes : below ++ take_while (λ s. not (s == container)) (drop i items) ≡ take_while (λ s. not (s == container)) way
  pub few : length below ≤ i

pub IsTakenBefore-start : (container : ℕ) (way items below : List ℕ) → items ≡ way → below ≡ [] → IsTakenBefore container way items 0 below
IsTakenBefore-start container way items below e none = record {
  goes = rw (e, none) refl;
  few = rw none (omega arith);
}

test_other : (x container : ℕ) → x ≢ container → not (x == container) ≡ true
test_other x container h = grind (arith, nat_tests)

test_same : (x container : ℕ) → x ≡ container → not (x == container) ≡ false
test_same x container h = grind (arith, nat_tests)

pub IsTakenBefore-more : (container : ℕ) (way items : List ℕ) (i : ℕ) (below : List ℕ) → i < length items
    → get_or items i 0 ≢ container → IsTakenBefore container way items i below
    → IsTakenBefore container way items (i + 1) (below ++ get_or items i 0 ∷ [])
IsTakenBefore-more container way items i below h other t = record {
  goes =
      let p = λ (s : ℕ). not (s == container) in
      let step : take_while p (drop i items) ≡ get_or items i 0 ∷ take_while p (drop (i + 1) items) =
      at_drop_more (take_while p) items i 0 h ∙ take_while-cons p (get_or items i 0) (drop (i + 1) items)
      ∙ ap (λ b. cond b (get_or items i 0 ∷ take_while p (drop (i + 1) items)) [])
      (test_other (get_or items i 0) container other) in
      append_assoc below (get_or items i 0 ∷ []) (take_while p (drop (i + 1) items)) ∙ ap (λ rest. below ++ rest) (sym step) ∙ t.goes;
  few = let n = length_push below (get_or items i 0) in let few = t.few in omega arith;
}

pub IsTakenBefore-stop : (container : ℕ) (way items : List ℕ) (i : ℕ) (below : List ℕ) → i < length items
    → get_or items i 0 ≡ container → IsTakenBefore container way items i below
    → below ≡ take_while (λ s. not (s == container)) way
IsTakenBefore-stop container way items i below h same t =
    let p = λ (s : ℕ). not (s == container) in
    let step : take_while p (drop i items) ≡ [] =
    at_drop_more (take_while p) items i 0 h ∙ take_while-cons p (get_or items i 0) (drop (i + 1) items)
    ∙ ap (λ b. cond b (get_or items i 0 ∷ take_while p (drop (i + 1) items)) [])
    (test_same (get_or items i 0) container same) in
    sym (append-nil below) ∙ ap (λ rest. below ++ rest) (sym step) ∙ t.goes

pub IsTakenBefore-end : (container : ℕ) (way items : List ℕ) (i : ℕ) (below : List ℕ) → length items ≤ i
    → IsTakenBefore container way items i below → below ≡ take_while (λ s. not (s == container)) way
IsTakenBefore-end container way items i below h t =
    let p = λ (s : ℕ). not (s == container) in
    sym (append-nil below) ∙ ap (λ rest. below ++ rest) (sym (at_drop_all (take_while p) items i h)) ∙ t.goes

-- a depth that holds all of a way is enough
out_enough : (states : List State) (depth : ℕ) (o : Option ℕ)
    → ((p : ℕ) → is_within_depth depth states p ≡ true → ancestors_within depth states p ≡ ancestors_within (suc depth)
    states p) → option_map_or (is_within_depth depth states) o true ≡ true
    → option_map_or (ancestors_within depth states) o [] ≡ option_map_or (ancestors_within (suc depth) states) o []
out_enough states depth None each h = refl
out_enough states depth (Some p) each h = each p h

ancestors_enough : (states : List State) (depth s : ℕ) → is_within_depth depth states s ≡ true
    → ancestors_within depth states s ≡ ancestors_within (suc depth) states s
ancestors_enough states zero s h = absurd (false≢true h)
ancestors_enough states (suc depth) s h = ap (λ rest. s ∷ rest) (out_enough states depth (parent_of states s) (λ p k. ancestors_enough states depth p k) h)

pub ancestors-whole : (states : List State) → IsTree states → (s : ℕ) → s < length states
    → ancestors states s ≡ s ∷ option_map_or (ancestors states) (parent_of states s) []
unfolding ancestors
ancestors-whole states tree s h = ancestors_enough states 8 s (tree.depth s h)

down_enough : (states : List State) (s room : ℕ) (o : Option ℕ)
    → ((child : ℕ) → o ≡ Some child → start_descendants_within room states child ≡ start_descendants_within (suc room) states child)
    → option_map_or (λ child. child ∷ start_descendants_within room states child) o []
    ≡ option_map_or (λ child. child ∷ start_descendants_within (suc room) states child) o []
down_enough states s room None each = refl
down_enough states s room (Some child) each = ap (λ rest. child ∷ rest) (each child refl)

start_descendants_enough : (states : List State) → IsTree states → (room n s : ℕ) → room + n ≡ 8 → s < length states
    → is_within_depth n states s ≡ false → start_descendants_within room states s ≡ start_descendants_within (suc room) states s
start_descendants_enough states tree zero n s size h deep = absurd (shallow states s n tree h deep (omega arith))
start_descendants_enough states tree (suc room) n s size h deep = down_enough states s room (start_child states s) (λ child e.
    let p = start_child-parent states s child e in
    let deeper : is_within_depth (suc n) states child ≡ false = ap (λ (o : Option ℕ). option_map_or (is_within_depth n states) o true) p.1 ∙ deep in
    start_descendants_enough states tree room (suc n) child (omega arith) p.0 deeper)

pub start_descendants-whole : (states : List State) → IsTree states → (s : ℕ) → s < length states
    → start_descendants states s ≡ option_map_or (λ child. child ∷ start_descendants states child) (start_child states s) []
unfolding start_descendants
start_descendants-whole states tree s h = start_descendants_enough states tree 8 0 s refl h refl
