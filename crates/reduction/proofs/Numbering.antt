-- A scan of the states that numbers their keys in the order of first occurrence.
use Rattle.std.proofs.Common.{◌≡◌, ℕ, ◌<◌, ◌≤◌, List, [], ◌∷◌, ◌++◌, length, get_or, slice_get, Some, refl, ap, sym, ◌∙◌, inl, inr, arith}
use Rattle.std.proofs.lemmas.Bool.{cases_lt}
use Rattle.std.proofs.lemmas.List.{get_or_append_left, get_or_push, length_push}
use Rattle.std.proofs.lemmas.Option.{same_Some, slice_get-get_or, slice_get_within}
use Rattle.reduction.specs.Blocks.{AreInOrder}

-- `new` gives each state scanned so far the place of its key in `keys`, which has each key once, in the order
-- of first occurrence; `old` are the blocks before
pub record IsNumbering {K : Type 0} (key : ℕ → K) (old : List ℕ) (keys : List K) (new : List ℕ) : Type 0 where
  pub placed : (t : ℕ) → t < length new → slice_get keys (get_or new t 0) ≡ Some (key t)
  pub once : (i j : ℕ) → i < length keys → j < length keys → slice_get keys i ≡ slice_get keys j → i ≡ j
  pub taken : (n : ℕ) → n < length keys → (t : ℕ) × ((t < length new) × (get_or new t 0 ≡ n))
  pub in_order : AreInOrder new
  pub upto : (t : ℕ) → t < length new → get_or old t 0 ≤ get_or new t 0

slice_get-push_left : {K : Type 0} (keys : List K) (k : K) (n : ℕ) → n < length keys → slice_get (keys ++ k ∷ []) n ≡ slice_get keys n
slice_get-push_left keys k n h =
    slice_get-get_or (keys ++ k ∷ []) n k (omega (arith, h, length_push keys k)) ∙
    (ap Some (get_or_append_left keys (k ∷ []) k n h) ∙ sym (slice_get-get_or keys n k h))

-- no state was scanned
pub nothing_numbered : {K : Type 0} (key : ℕ → K) (old : List ℕ) → IsNumbering key old [] []
nothing_numbered key old = record {
  placed = λ t h. absurd (omega (arith, h));
  once = λ i j h. absurd (omega (arith, h));
  taken = λ n h. absurd (omega (arith, h));
  in_order = λ t n h. absurd (omega (arith, h));
  upto = λ t h. absurd (omega (arith, h));
}

-- states with one key have one number
pub numbered_alike : {K : Type 0} (key : ℕ → K) (old : List ℕ) (keys : List K) (new : List ℕ) → IsNumbering key old keys new →
    (s t : ℕ) → s < length new → t < length new → key s ≡ key t → get_or new s 0 ≡ get_or new t 0
numbered_alike key old keys new i s t hs ht e = i.once (get_or new s 0) (get_or new t 0)
    (slice_get_within keys (get_or new s 0) (key s) (i.placed s hs)) (slice_get_within keys (get_or new t 0) (key t) (i.placed t ht))
    (i.placed s hs ∙ (ap Some e ∙ sym (i.placed t ht)))

-- states with one number have one key
pub keyed_alike : {K : Type 0} (key : ℕ → K) (old : List ℕ) (keys : List K) (new : List ℕ) → IsNumbering key old keys new →
    (s t : ℕ) → s < length new → t < length new → get_or new s 0 ≡ get_or new t 0 → key s ≡ key t
keyed_alike key old keys new i s t hs ht e = same_Some (key s) (key t) (sym (i.placed s hs) ∙ (ap (λ n. slice_get keys n) e ∙ i.placed t ht))

module _ {K : Type 0} (key : ℕ → K) (old : List ℕ) (ordered : AreInOrder old) (keys : List K) (new : List ℕ) (i : IsNumbering key old keys new)
    (inside : length new < length old) (n : ℕ) where
  earlier : (t : ℕ) → t < length new → get_or (new ++ n ∷ []) t 0 ≡ get_or new t 0
  earlier t h = get_or_append_left new (n ∷ []) 0 t h

  latest : get_or (new ++ n ∷ []) (length new) 0 ≡ n
  latest = get_or_push new n 0 (length new) refl

  below_keys : (t : ℕ) → t < length new → get_or new t 0 < length keys
  below_keys t h = slice_get_within keys (get_or new t 0) (key t) (i.placed t h)

  -- the cases of a state that is scanned: an earlier one, or the last
  each : (P : ℕ → ℕ → Type 0) → ((t : ℕ) → t < length new → P t (get_or new t 0)) → P (length new) n →
      (t : ℕ) → t < length (new ++ n ∷ []) → P t (get_or (new ++ n ∷ []) t 0)
  each P before here t h = elim (cases_lt t (length new)) as (λ _. P t (get_or (new ++ n ∷ []) t 0)) [
    | inl low ↦ rw (earlier t low) (before t low)
    | inr high ↦
        let e : t ≡ length new = omega (arith, high, h, length_push new n) in
        rw (e, latest) here
  ]

  ordered_more : ((k : ℕ) → ((u : ℕ) → u < length new → get_or new u 0 < k) → n ≤ k) → AreInOrder (new ++ n ∷ [])
  ordered_more here t k h low = each (λ t' x. ((u : ℕ) → u < t' → get_or (new ++ n ∷ []) u 0 < k) → x ≤ k)
      (λ t' h' low'. i.in_order t' k h' (λ u hu. rw (earlier u (omega arith)) at (low' u hu)))
      (λ low'. here k (λ u hu. rw (earlier u hu) at (low' u hu)))
      t h low

  module _ (blocks : (u : ℕ) → u < length new → key u ≡ key (length new) → get_or old u 0 ≡ get_or old (length new) 0) where
    -- the key of the state is there
    pub again : slice_get keys n ≡ Some (key (length new)) → IsNumbering key old keys (new ++ n ∷ [])
    again stored =
        let first = i.taken n (slice_get_within keys n (key (length new)) stored) in
        let same : key first.0 ≡ key (length new) = same_Some (key first.0) (key (length new)) (cc (i.placed first.0 first.1.0, stored, first.1.1)) in
        record {
          placed = each (λ t x. slice_get keys x ≡ Some (key t)) i.placed stored;
          once = i.once;
          taken = λ k h. let p = i.taken k h in (p.0, (omega (arith, p.1.0, length_push new n), earlier p.0 p.1.0 ∙ p.1.1));
          in_order = ordered_more (λ k low. omega (arith, low first.0 first.1.0, first.1.1));
          upto = each (λ t x. get_or old t 0 ≤ x) i.upto (omega (arith, i.upto first.0 first.1.0, first.1.1, blocks first.0 first.1.0 same));
        }

  once_more : ((k : ℕ) → k < length keys → slice_get keys k ≡ Some (key (length new)) → ⊥) → (j k : ℕ) → j < length (keys ++ key (length new) ∷ []) →
      k < length (keys ++ key (length new) ∷ []) → slice_get (keys ++ key (length new) ∷ []) j ≡ slice_get (keys ++ key (length new) ∷ []) k → j ≡ k
  once_more fresh j k hj hk e =
      let grown = length_push keys (key (length new)) in
      elim (cases_lt j (length keys)) as (λ _. j ≡ k) [
        | inl low ↦ elim (cases_lt k (length keys)) as (λ _. j ≡ k) [
          | inl low' ↦ i.once j k low low' (sym (slice_get-push_left keys (key (length new)) j low) ∙ (e ∙ slice_get-push_left keys (key (length new)) k low'))
          | inr high ↦ absurd (fresh j low (sym (slice_get-push_left keys (key (length new)) j low) ∙ (e ∙ last k high hk)))
        ]
        | inr high ↦ elim (cases_lt k (length keys)) as (λ _. j ≡ k) [
          | inl low ↦ absurd (fresh k low (sym (slice_get-push_left keys (key (length new)) k low) ∙ (sym e ∙ last j high hj)))
          | inr high' ↦ omega (arith, hj, hk, grown, high, high')
        ]
      ]
    where
      last : (n' : ℕ) → length keys ≤ n' → n' < length (keys ++ key (length new) ∷ []) → slice_get (keys ++ key (length new) ∷ []) n' ≡ Some (key (length new))
      last n' high h = slice_get-get_or (keys ++ key (length new) ∷ []) n' (key (length new)) h ∙
          ap Some (get_or_push keys (key (length new)) (key (length new)) n' (omega (arith, high, h, length_push keys (key (length new)))))

  -- the key of the state is new
  pub another : n ≡ length keys → ((k : ℕ) → k < length keys → slice_get keys k ≡ Some (key (length new)) → ⊥) →
      IsNumbering key old (keys ++ key (length new) ∷ []) (new ++ n ∷ [])
  another e fresh = record {
    placed = each (λ t x. slice_get (keys ++ key (length new) ∷ []) x ≡ Some (key t))
        (λ t h. slice_get-push_left keys (key (length new)) (get_or new t 0) (below_keys t h) ∙ i.placed t h)
        (rw (e) (slice_get-get_or (keys ++ key (length new) ∷ []) (length keys) (key (length new)) (omega (arith, length_push keys (key (length new)))) ∙
        ap Some (get_or_push keys (key (length new)) (key (length new)) (length keys) refl)));
    once = once_more fresh;
    taken = λ k h. elim (cases_lt k (length keys)) as (λ _. (t : ℕ) × ((t < length (new ++ n ∷ [])) × (get_or (new ++ n ∷ []) t 0 ≡ k))) [
      | inl low ↦ let p = i.taken k low in (p.0, (omega (arith, p.1.0, length_push new n), earlier p.0 p.1.0 ∙ p.1.1))
      | inr high ↦ (length new, (omega (arith, length_push new n), latest ∙ omega (arith, e, high, h, length_push keys (key (length new)))))
    ];
    in_order = ordered_more (λ k low. elim (cases_lt k n) as (λ _. n ≤ k) [
      | inl less ↦ let p = i.taken k (omega (arith, less, e)) in absurd (omega (arith, low p.0 p.1.0, p.1.1))
      | inr more ↦ more
    ]);
    upto = each (λ t x. get_or old t 0 ≤ x) i.upto
        (ordered (length new) n inside (λ u hu. omega (arith, i.upto u hu, below_keys u hu, e)));
  }
