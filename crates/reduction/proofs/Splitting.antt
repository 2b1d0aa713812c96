-- One letter splits the blocks.
use Rattle.std.proofs.Common.{◌≡◌, ℕ, ◌+◌, ◌<◌, ◌&&◌, Bool, true, false, eqb, if◌then◌else◌, List, [], ◌∷◌, ◌++◌}
use Rattle.std.proofs.Common.{length, get_or, slice_get, Some, refl, ap, sym, ◌∙◌, inl, inr, arith}
use Rattle.std.specs.List.{list_any, position_or_len}
use Rattle.std.proofs.lemmas.Bool.{and_parts, and_from, both_ways, cases_Bool, cases_eq, cond-true, cond-false, eq-eqb, eqb-true, false_from_ne_true}
use Rattle.std.proofs.lemmas.List.{length_push}
use Rattle.std.proofs.lemmas.List.Folds.{list_any_at}
use Rattle.std.proofs.lemmas.List.Sums.{position_or_len_is}
use Rattle.std.proofs.lemmas.List.Elements.{All-cons, All-nil}
use Rattle.std.proofs.lemmas.Option.{get_or_from_slice_get}
use Rattle.reduction.specs.declared.blocks.Key.{Key}
use Rattle.fsm_core.specs.Machine.{Machine, next, number, IsMachine}
use Rattle.fsm_core.proofs.Machines.{row_inside}
use Rattle.reduction.specs.Blocks.{AreBlocks, AreInOrder, AgreeOn, IsSeparated}
use Rattle.reduction.proofs.Numbering.{IsNumbering, again, another, keyed_alike, nothing_numbered, numbered_alike}

-- by what the letter a tells the state s apart
abbrev pub key_of : Machine → List ℕ → ℕ → ℕ → Key
key_of m old a s = record { block = get_or old s 0; reply = number m s a; target = get_or old (next m s a) 0 }

-- the states below `at` were split
pub record IsSplit (m : Machine) (old : List ℕ) (a : ℕ) (keys : List Key) (new : List ℕ) (at : ℕ) : Type 0 where
  pub size : length new ≡ at
  pub numbering : IsNumbering (key_of m old a) old keys new

abbrev pub same_key : Key → Key → Bool
same_key x y = eqb x.block y.block && (eqb x.reply y.reply && eqb x.target y.target)

from_same_key : (x y : Key) → same_key x y ≡ true → x ≡ y
from_same_key x y e =
    let p = and_parts (eqb x.block y.block) (eqb x.reply y.reply && eqb x.target y.target) e in
    let q = and_parts (eqb x.reply y.reply) (eqb x.target y.target) p.1 in
    let b = eqb-true x.block y.block p.0 in
    let r = eqb-true x.reply y.reply q.0 in
    let t = eqb-true x.target y.target q.1 in
    λ i. record { block = b i; reply = r i; target = t i }

same_key_itself : (x : Key) → same_key x x ≡ true
same_key_itself x = and_from (eqb x.block x.block) (eqb x.reply x.reply && eqb x.target x.target) (eq-eqb x.block x.block refl)
    (and_from (eqb x.reply x.reply) (eqb x.target x.target) (eq-eqb x.reply x.reply refl) (eq-eqb x.target x.target refl))

absent_at : (keys : List Key) (key : Key) → list_any (same_key key) keys ≡ false → (k : ℕ) → k < length keys → same_key key (get_or keys k key) ≡ false
absent_at keys key none k h =
    false_from_ne_true (same_key key (get_or keys k key)) (λ e. both_ways (list_any (same_key key) keys) none (list_any_at (same_key key) keys k key h e))

pub split_none : (m : Machine) (old : List ℕ) (a : ℕ) → IsSplit m old a [] [] 0
split_none m old a = record { size = refl; numbering = nothing_numbered (key_of m old a) old }

-- one more state is split: `n` is the number of its key
module _ (m : Machine) (old : List ℕ) (a : ℕ) (ordered : AreInOrder old) (keys : List Key) (new : List ℕ) (at : ℕ) (s : IsSplit m old a keys new at)
    (inside : at < length old) (n : ℕ) where
  split_again : slice_get keys n ≡ Some (key_of m old a at) → IsSplit m old a keys (new ++ n ∷ []) (at + 1)
  split_again stored = record {
    size = length_push new n ∙ ap (λ x. x + 1) s.size;
    numbering = again (key_of m old a) old ordered keys new s.numbering (omega (arith, inside, s.size)) n
        (λ u h e. rw (s.size) (ap (λ k. k.block) (rw (s.size) at e))) (rw (s.size) stored);
  }

  split_new : n ≡ length keys → ((k : ℕ) → k < length keys → slice_get keys k ≡ Some (key_of m old a at) → ⊥) →
      IsSplit m old a (keys ++ key_of m old a at ∷ []) (new ++ n ∷ []) (at + 1)
  split_new e fresh = record {
    size = length_push new n ∙ ap (λ x. x + 1) s.size;
    numbering =
        let g : IsNumbering (key_of m old a) old (keys ++ key_of m old a (length new) ∷ []) (new ++ n ∷ []) =
        another (key_of m old a) old ordered keys new s.numbering (omega (arith, inside, s.size)) n e (rw (s.size) fresh) in
        rw (s.size) at g;
  }

  pub split_more : (key : Key) → key ≡ key_of m old a at → (keys' : List Key) → keys' ≡ (if list_any (same_key key) keys then keys else keys ++ key ∷ []) →
      n ≡ position_or_len (same_key key) keys → (k : Key) × ((slice_get keys' n ≡ Some k) × (same_key key k ≡ true)) →
      IsSplit m old a keys' (new ++ n ∷ []) (at + 1)
  split_more key is keys' grown place found = elim (cases_Bool (list_any (same_key key) keys)) as (λ _. IsSplit m old a keys' (new ++ n ∷ []) (at + 1)) [
    | inl there ↦
        let e : keys' ≡ keys = grown ∙ cond-true (list_any (same_key key) keys) keys (keys ++ key ∷ []) there in
        rw (e) (split_again (rw (e) at (found.1.0 ∙ ap Some (sym (from_same_key key found.0 found.1.1) ∙ is))))
    | inr none ↦
        let e : keys' ≡ keys ++ key ∷ [] = grown ∙ cond-false (list_any (same_key key) keys) keys (keys ++ key ∷ []) none in
        let last : n ≡ length keys = place ∙ position_or_len_is (same_key key) keys (length keys) key (omega arith)
        (absent_at keys key none) (λ h. absurd (omega (arith, h))) in
        rw (e, is) (split_new last (λ k h g. both_ways (same_key key (get_or keys k key)) (absent_at keys key none k h)
        (ap (same_key key) (get_or_from_slice_get keys k (key_of m old a at) key g ∙ sym is) ∙ same_key_itself key)))
  ]

module _ (m : Machine) (old : List ℕ) (a : ℕ) (sound : IsMachine m) (blocks : AreBlocks m old) (ha : a < m.letters) where
  -- a state in another block, or that answers or goes elsewhere, is separated
  separated : (s t : ℕ) → s < m.states → t < m.states → (key_of m old a s ≡ key_of m old a t → ⊥) → IsSeparated m s t
  separated s t hs ht differ = elim (cases_eq (get_or old s 0) (get_or old t 0)) as (λ _. IsSeparated m s t) [
    | inr d ↦ blocks.apart s t (omega (arith, hs, blocks.size)) (omega (arith, ht, blocks.size)) d
    | inl b ↦ elim (cases_eq (number m s a) (number m t a)) as (λ _. IsSeparated m s t) [
      | inr d ↦ record { word = a ∷ []; is_word = All-cons (λ x. x < m.letters) a [] ha (All-nil (λ x. x < m.letters)); differ = λ e. d (cc) }
      | inl r ↦ elim (cases_eq (get_or old (next m s a) 0) (get_or old (next m t a) 0)) as (λ _. IsSeparated m s t) [
        | inl g ↦ absurd (differ (λ i. record { block = b i; reply = r i; target = g i }))
        | inr d ↦
            let p = row_inside m sound s a hs ha in
            let q = row_inside m sound t a ht ha in
            let w = blocks.apart (next m s a) (next m t a) (omega (arith, p.0, blocks.size)) (omega (arith, q.0, blocks.size)) d in
            record { word = a ∷ w.word; is_word = All-cons (λ x. x < m.letters) a w.word ha w.is_word; differ = λ e. w.differ (cc) }
      ]
    ]
  ]

  pub split_blocks : (keys : List Key) (new : List ℕ) (at : ℕ) → IsSplit m old a keys new at → at ≡ m.states → AreBlocks m new
  split_blocks keys new at s end =
      let size : length new ≡ m.states = s.size ∙ end in record {
        size = size;
        in_order = s.numbering.in_order;
        apart = λ u v hu hv d. separated u v (omega (arith, hu, size)) (omega (arith, hv, size))
            (λ e. d (numbered_alike (key_of m old a) old keys new s.numbering u v hu hv e));
      }

pub split_agrees : (m : Machine) (old : List ℕ) (a : ℕ) (keys : List Key) (new : List ℕ) (at : ℕ) → IsSplit m old a keys new at → AgreeOn m old a new
split_agrees m old a keys new at s u v hu hv e =
    let k = keyed_alike (key_of m old a) old keys new s.numbering u v hu hv e in
    (ap (λ x. x.reply) k, ap (λ x. x.target) k)
