-- The machine of an exploration that is over.
use Rattle.std.proofs.Common.{◌≡◌, ℕ, ◌+◌, ◌*◌, ◌/◌, ◌%◌, ◌<◌, ◌≤◌, ℤ, Bool, true, List, [], ◌∷◌, ◌++◌}
use Rattle.std.proofs.Common.{length, map, get_or, slice_get, Some, refl, ap, sym, subst, ◌∙◌, inl, inr}
use Rattle.std.proofs.Common.{append_assoc, arith}
use Rattle.std.specs.Cmp.{IsEquivalence}
use Rattle.std.specs.List.{IsDistinct}
use Rattle.std.proofs.Math.Nat.{mod-lt}
use Rattle.std.proofs.lemmas.Nat.{div-add-mod', div-mul-add, mul-add-lt}
use Rattle.std.proofs.lemmas.List.Elements.{All-from_get_or, All-head, All-tail}
use Rattle.std.proofs.lemmas.Option.{get_or_from_slice_get, same_Some, slice_get_within}
use Rattle.std.proofs.lemmas.Bool.{both_ways, cases_order}
use Rattle.std.proofs.lemmas.List.{append-nil, length-map}
use Rattle.std.proofs.lemmas.Map.Keys.{apart_from_distinct}
use Rattle.fsm_core.specs.Machine.{AreDifferent, IsMachine, IsWord, Machine, machine_of, next, number, reply_at, row, state_after}
use Rattle.fsm_core.specs.Answers.{answer_from}
use Rattle.input_classes.specs.declared.class.Class.{Class}
use Rattle.input_classes.specs.Partition.{Partition, witnesses}
use Rattle.input_classes.specs.VectorSet.{Members}
use Rattle.subject.specs.Meaning.{LeadsTo, Meaning, answer_from as plan_from, state_after as plan_after}
use Rattle.subject.specs.Suite.{in_vectors}
use Rattle.word_pool.specs.Words.{word}
use Rattle.word_pool.specs.Order.{IsUpTo}
use Rattle.word_pool.proofs.CallerLemmas.{up_to_both, up_to_push, up_to_trans}
use Rattle.abstract_machine.specs.Explored.{IsExplored}
use Rattle.abstract_machine.specs.Reached.{AreReached, ReachesMore}
use Rattle.abstract_machine.specs.inside.Exploring.{IsExploring, IsRow, state_of}
use Rattle.abstract_machine.proofs.Keys.{all_by_place}
use Rattle.abstract_machine.proofs.Reaching.{are_reached, contains_at, letters_of, no_more, same_place}
use Rattle.abstract_machine.proofs.Searching.{found_reached}

module _ {S : Type 0} (classes : List (List ℤ)) (m : Meaning S) (states : List S) (replies : List (List ℤ)) (rows : List (ℕ × ℕ)) (at : ℕ)
    (e : IsExploring classes m states replies rows at 0) (end : at ≡ length states) (some : 0 < length classes) (few : length classes ≤ 4096) where
  abbrev f : Machine
  f = machine_of (length classes) rows replies

  pub states_are : f.states ≡ length states
  states_are = ap (λ n. n / length classes) e.rows_size ∙ (div-mul-add at (length classes) 0 some ∙ end)

  rows_are : length rows ≡ length states * length classes
  rows_are = omega (arith, e.rows_size, ap (λ n. n * length classes) end)

  row_at : (s b : ℕ) → s < length states → b < length classes → IsRow classes m e.words states replies s b (row f s b)
  row_at s b hs hb = e.done s b hb (omega (arith, rows_are, mul-add-lt s (length classes) b (length states) hs hb))

  module _ (different : AreDifferent replies) where
    pub is_machine : IsMachine f
    is_machine = record {
      some_states = rw (states_are) e.some;
      few_states = rw (states_are) e.few;
      some_letters = some;
      few_letters = few;
      size = rw (states_are) rows_are;
      in_range = All-from_get_or (λ (r : ℕ × ℕ). (r.0 < f.states) × (r.1 < length replies)) rows (0, 0) (λ p h.
          let s = p / length classes in
          let b = p % length classes in
          let place : s * length classes + b ≡ p = div-add-mod' p (length classes) in
          let hb : b < length classes = mod-lt p some in
          let r = e.done s b hb (rw (place) h) in
          let there = slice_get_within states (row f s b).0 (m.next (state_of classes m (word e.words s)) (get_or classes b [])) r.next in
          let told = slice_get_within replies (row f s b).1 (m.reply (state_of classes m (word e.words s)) (get_or classes b [])) r.reply in
          subst (λ q. ((get_or rows q (0, 0)).0 < f.states) × ((get_or rows q (0, 0)).1 < length replies)) place (rw (states_are) there, told));
      different = different;
    }

  -- the plan's state with a number
  state_is : (s : ℕ) (t : S) → slice_get states s ≡ Some t → t ≡ state_of classes m (word e.words s)
  state_is s t h = same_Some t (state_of classes m (word e.words s)) (sym h ∙ e.leads s (omega (arith, e.size, slice_get_within states s t h)))

  step : (s b : ℕ) (t : S) → slice_get states s ≡ Some t → b < length classes → slice_get states (next f s b) ≡ Some (m.next t (get_or classes b []))
  step s b t h hb = rw (state_is s t h) (row_at s b (slice_get_within states s t h) hb).next

  replied : (s b : ℕ) (t : S) → slice_get states s ≡ Some t → b < length classes → reply_at replies (number f s b) ≡ m.reply t (get_or classes b [])
  replied s b t h hb = rw (state_is s t h) (get_or_from_slice_get replies (number f s b)
      (m.reply (state_of classes m (word e.words s)) (get_or classes b [])) []
      (row_at s b (slice_get_within states s t h) hb).reply)

  follows : (w : List ℕ) (s : ℕ) (t : S) → slice_get states s ≡ Some t → IsWord f w →
      slice_get states (state_after f s w) ≡ Some (plan_after m t (in_vectors classes w))
  follows [] s t h k = h
  follows (b ∷ w) s t h k =
      follows w (next f s b) (m.next t (get_or classes b [])) (step s b t h (All-head (λ x. x < length classes) b w
      k)) (All-tail (λ x. x < length classes) b w k)

  answers : (w : List ℕ) (s : ℕ) (t : S) → slice_get states s ≡ Some t → IsWord f w → answer_from f s w ≡ plan_from m t (in_vectors classes w)
  answers [] s t h k = refl
  answers (b ∷ w) s t h k =
      let hb : b < length classes = All-head (λ x. x < length classes) b w k in
      let first = replied s b t h hb in
      let rest = answers w (next f s b) (m.next t (get_or classes b [])) (step s b t h hb) (All-tail (λ x. x < length classes) b w k) in
      λ i. first i ∷ rest i

  -- the state is not found by a later word than one that leads there
  least : (v : List ℕ) (s : ℕ) (u : List ℕ) → s < length states → IsUpTo (word e.words s) u → IsWord f v → IsUpTo (word e.words (state_after f s v)) (u ++ v)
  least [] s u hs h k = subst (IsUpTo (word e.words s)) (sym (append-nil u)) h
  least (b ∷ v) s u hs h k =
      let hb : b < length classes = All-head (λ x. x < length classes) b v k in
      let r = row_at s b hs hb in
      let there = slice_get_within states (next f s b) (m.next (state_of classes m (word e.words s)) (get_or classes b [])) r.next in
      let upto = up_to_trans (word e.words (next f s b)) (word e.words s ++ b ∷ []) (u ++ b ∷ []) r.upto (up_to_push (word e.words s) u b h) in
      subst (IsUpTo (word e.words (state_after f (next f s b) v))) (append_assoc u (b ∷ []) v)
      (least v (next f s b) (u ++ b ∷ []) there upto (All-tail (λ x. x < length classes) b v k))

  starts : slice_get states 0 ≡ Some m.start
  starts = e.leads 0 (omega (arith, e.some, e.size)) ∙ ap (λ w. Some (state_of classes m w)) e.root

  numbered : (w : List ℕ) → IsWord f w → slice_get states (state_after f 0 w) ≡ Some (state_of classes m w)
  numbered w k = follows w 0 m.start starts k

  upto_word : (v : List ℕ) → IsWord f v → IsUpTo (word e.words (state_after f 0 v)) v
  upto_word v k = least v 0 [] e.some (inl e.root) k

  module _ (eq : S → S → Bool) (laws : IsEquivalence eq) (same : (x y : S) → eq x y ≡ true → x ≡ y) (once : IsDistinct eq states) where
    all_reached : AreReached (Members classes) m states
    all_reached = are_reached classes m eq laws same states (all_by_place (LeadsTo (Members classes) m) states
        (found_reached classes m states replies rows at 0 e)) once

    -- the word of a state leads to it
    leads : (s : ℕ) → s < length states → state_after f 0 (word e.words s) ≡ s
    leads s hs = let hw : s < length e.words = omega (arith, hs, e.size) in
        same_place states all_reached.different (state_after f 0 (word e.words s)) s
        (state_of classes m (word e.words s)) (numbered (word e.words s) (e.letters s hw)) (e.leads s hw)

    pub explored : AreDifferent replies → IsExplored classes m f
    explored different = record {
      machine = is_machine different;
      letters = refl;
      answers = λ w k. answers w 0 m.start starts k;
      reached = λ s h. let hs : s < length states = omega (arith, h, states_are) in
          record { word = word e.words s; is_word = e.letters s (omega (arith, hs, e.size)); leads = leads s hs };
      in_order = λ s t u w before h first second.
          let ht : t < length states = omega (arith, h, states_are) in
          let hs : s < length states = omega (arith, ht, before) in
          let one = first_is s u hs first.is_word first.leads first.first in
          let two = first_is t w ht second.is_word second.leads second.first in
          rw (one, two) (e.ascending s t before (omega (arith, ht, e.size)));
      states = states;
      size = sym states_are;
      are_all = record {
        are_reached = all_reached;
        each = λ t l.
            let ls = letters_of classes l.word l.is_word in
            contains_at states (state_after f 0 ls.0) t (numbered ls.0 ls.1.0 ∙ ap Some (ap (plan_after m m.start) ls.1.1 ∙ l.leads));
      };
      numbered = numbered;
    }
      where
        first_is : (s : ℕ) (u : List ℕ) → s < length states → IsWord f u → state_after f 0 u ≡ s →
            ((v : List ℕ) → IsWord f v → state_after f 0 v ≡ s → IsUpTo u v) → u ≡ word e.words s
        first_is s u hs k there first = up_to_both u (word e.words s) (first (word e.words s) (e.letters s (omega (arith, hs, e.size))) (leads s hs))
            (subst (λ n. IsUpTo (word e.words n) u) there (upto_word u k))

-- replies of which no two are equal have each one number
pub different_from : (eq : List ℤ → List ℤ → Bool) → IsEquivalence eq → (replies : List (List ℤ)) → IsDistinct eq replies → AreDifferent replies
different_from eq laws replies once i j hi hj e = elim (cases_order i j) as (λ _. i ≡ j) [
  | inl is ↦ is
  | inr d ↦ elim d as (λ _. i ≡ j) [
    | inl b ↦ absurd (apart i j b hj e)
    | inr b ↦ absurd (apart j i b hi (sym e))
  ]
]
  where
    apart : (i j : ℕ) → i < j → j < length replies → reply_at replies i ≡ reply_at replies j → ⊥
    apart i j h k e = both_ways (eq (reply_at replies i) (reply_at replies j)) (apart_from_distinct eq replies i j [] once h k)
        (subst (λ x. eq (reply_at replies i) x ≡ true) e (laws.refl (reply_at replies i)))

-- the machine that is made of the classes of a partition
module _ {S : Type 0} (cs : List Class) (r : Partition) (value : cs ≡ r.classes) (m : Meaning S) (states : List S)
    (replies : List (List ℤ)) (rows : List (ℕ × ℕ)) (at : ℕ)
    (e : IsExploring (map (λ (c : Class). c.witness) cs) m states replies rows at 0) (end : at ≡ length states) (some : 0 < length cs) (few : length cs ≤ 4096)
    (told : List (List ℤ)) (told_is : told ≡ replies) (different : AreDifferent replies) where
  some_witness : 0 < length (map (λ (c : Class). c.witness) cs)
  some_witness = rw length-map some

  few_witnesses : length (map (λ (c : Class). c.witness) cs) ≤ 4096
  few_witnesses = rw length-map few

  same_machine : machine_of (length (map (λ (c : Class). c.witness) cs)) rows replies ≡ machine_of (length cs) rows told
  same_machine = λ i. machine_of (length-map cs (λ (c : Class). c.witness) i) rows (sym told_is i)

  pub made_machine : IsMachine (machine_of (length cs) rows told)
  made_machine = subst IsMachine same_machine (is_machine (map (λ (c : Class). c.witness) cs) m states replies rows at
      e end some_witness few_witnesses different)

  pub made_states : (fsm : Machine) → fsm ≡ machine_of (length cs) rows told → fsm.states ≡ length states
  made_states fsm made = ap (λ f. f.states) (made ∙ sym same_machine) ∙ states_are (map (λ (c : Class). c.witness) cs)
      m states replies rows at e end some_witness few_witnesses

  module _ (eq : S → S → Bool) (laws : IsEquivalence eq) (same : (x y : S) → eq x y ≡ true → x ≡ y) (once : IsDistinct eq states) where
    whole : IsExplored (map (λ (c : Class). c.witness) cs) m (machine_of (length (map (λ (c : Class). c.witness) cs)) rows replies)
    whole = explored (map (λ (c : Class). c.witness) cs) m states replies rows at e end some_witness few_witnesses eq laws same once different

    pub made_explored : (fsm : Machine) → fsm ≡ machine_of (length cs) rows told → IsExplored (witnesses r) m fsm
    made_explored fsm made = subst (λ l. IsExplored (map (λ (c : Class). c.witness) l) m fsm) value
        (subst (IsExplored (map (λ (c : Class). c.witness) cs) m) (same_machine ∙ sym made) whole)

    pub made_all : ReachesMore 1024 (Members (witnesses r)) m → ⊥
    made_all = subst (λ l. ReachesMore 1024 (Members (map (λ (c : Class). c.witness) l)) m → ⊥) value
        (no_more (map (λ (c : Class). c.witness) cs) m eq laws same whole.states whole.are_all 1024
        (let size = whole.size in let machine = whole.machine in let least = machine.few_states in omega (arith, size, least)))
