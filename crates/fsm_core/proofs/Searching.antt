-- The search for the states that are reached from the start.
use Rattle.std.proofs.Common.{◌≡◌, ℕ, ◌+◌, ◌<◌, ◌≤◌, ◌⊎◌, Bool, true, false, List, [], ◌∷◌, ◌++◌, length, get_or, set}
use Rattle.std.proofs.Common.{refl, ap, sym, ◌∙◌, inl, inr, ◌↔◌, All, arith}
use Rattle.std.proofs.lemmas.Bool.{both_ways, cases_eq, cases_lt}
use Rattle.std.proofs.lemmas.List.{get_or_append_left, get_or_push, get_or-set_other, get_or-set_same, length_push, length-set}
use Rattle.std.proofs.lemmas.List.Elements.{All-from_get_or, All-get_or, All-head, All-push, All-tail}
use Rattle.std.proofs.lemmas.List.Sums.{get_or-le-sum_by, sum_by-le, sum_by-set}
use Rattle.fsm_core.specs.declared.breadth_first.Found.{Found}
use Rattle.fsm_core.specs.Machine.{Machine, IsMachine, IsWord, next, state_after}
use Rattle.fsm_core.specs.Answers.{AllReached, IsReached}
use Rattle.fsm_core.specs.Search.{found_at, state_at, IsFoundFrom, IsSearched, IsTriedBefore}
use Rattle.fsm_core.specs.inside.Flags.{IsFound, IsSearch, missing, unfound}
use Rattle.fsm_core.proofs.Machines.{row_inside}

abbrev pub no_state : Found
no_state = record { state = 0; from = 0; letter = 0 }

-- a word with one letter more
pub state_after-push : (m : Machine) (s : ℕ) (word : List ℕ) (a : ℕ) → state_after m s (word ++ a ∷ []) ≡ next m (state_after m s word) a
state_after-push m s [] a = refl
state_after-push m s (b ∷ word) a = state_after-push m (next m s b) word a

pub reached_next : (m : Machine) (s a : ℕ) → IsReached m s → a < m.letters → IsReached m (next m s a)
reached_next m s a r h = record {
  word = r.word ++ a ∷ [];
  is_word = All-push (λ x. x < m.letters) r.word a r.is_word h;
  leads = state_after-push m 0 r.word a ∙ ap (λ t. next m t a) r.leads;
}

pub reached_start : (m : Machine) → IsReached m 0
reached_start m = record { word = []; is_word = λ k d h. absurd (omega (arith, h)); leads = refl }

-- what holds of each place of a list and of one more
each_pushed : (P : Found → Type 0) (xs : List Found) (x : Found) → ((k : ℕ) → k < length xs → P (found_at xs k)) → P x →
    (k : ℕ) → k < length (xs ++ x ∷ []) → P (found_at (xs ++ x ∷ []) k)
each_pushed P xs x before here k h = elim (cases_lt k (length xs)) as (λ _. P (found_at (xs ++ x ∷ []) k)) [
  | inl low ↦ rw (get_or_append_left xs (x ∷ []) no_state k low) (before k low)
  | inr high ↦
      let e : k ≡ length xs = omega (arith, high, h, length_push xs x) in
      rw (e, get_or_push xs x no_state (length xs) refl) here
]

found_kept : (flags : List Bool) (t s : ℕ) → t < length flags → IsFound flags s → IsFound (set flags t true) s
found_kept flags t s h f = elim (cases_eq s t) as (λ _. IsFound (set flags t true) s) [
  | inl e ↦ let e' : s ≡ t = e in rw (e') (get_or-set_same flags t true false h)
  | inr d ↦ get_or-set_other flags t s true false d ∙ f
]

-- one state more is found
pub missing-set : (flags : List Bool) (t : ℕ) → t < length flags → get_or flags t false ≡ false → missing (set flags t true) + 1 ≡ missing flags
missing-set flags t h f = omega (arith, sum_by-set unfound flags t true false h, ap unfound f)

next_letter : (i b at a : ℕ) → IsTriedBefore i b at a → IsTriedBefore i b at (a + 1)
next_letter i b at a (inl h) = inl h
next_letter i b at a (inr h) = inr (h.0, omega (arith, h.1))

-- no pair is tried before those that were tried before it
not_later : (i b at a : ℕ) → i ≡ at → b ≡ a → (j c : ℕ) → IsTriedBefore j c at a → ¬ IsTriedBefore i b j c
not_later i b at a e d j c (inl h) (inl k) = omega (arith, e, h, k)
not_later i b at a e d j c (inl h) (inr k) = omega (arith, e, h, k.0)
not_later i b at a e d j c (inr h) (inl k) = omega (arith, e, h.0, k)
not_later i b at a e d j c (inr h) (inr k) = omega (arith, d, h.1, k.1)

not_itself : (i b : ℕ) → ¬ IsTriedBefore i b i b
not_itself i b (inl h) = omega (arith, h)
not_itself i b (inr h) = omega (arith, h.1)

module _ (m : Machine) (sound : IsMachine m) (flags : List Bool) (found : List Found) (at a : ℕ) (s : IsSearch m flags found at a)
    (hat : at < length found) (ha : a < m.letters) (t : ℕ) (is : t ≡ next m (state_at found at) a) where
  inside_next : t < m.states
  inside_next = rw (is) ((row_inside m sound (state_at found at) a (s.inside at hat) ha).0)

  -- the state to which the letter a leads is found already
  pub search_found : IsFound flags t → IsSearch m flags found at (a + 1)
  search_found f = record {
    size = s.size;
    some = s.some;
    start = s.start;
    inside = s.inside;
    reached = s.reached;
    queued = s.queued;
    known = s.known;
    counted = s.counted;
    once = s.once;
    earlier = s.earlier;
    letter = s.letter;
    leads = s.leads;
    ordered = s.ordered;
    latest = λ k z h. next_letter (found_at found k).from (found_at found k).letter at a (s.latest k z h);
    each = λ i b hi hb h. elim h as (λ _. (k : ℕ) × IsFoundFrom m found i b k) [
      | inl before ↦ s.each i b hi hb (inl before)
      | inr here ↦ elim (cases_eq b a) as (λ _. (k : ℕ) × IsFoundFrom m found i b k) [
        | inl e ↦
            let e' : b ≡ a = e in
            let p = s.queued t inside_next f in (
              p.0,
              record {
                inside = p.1.0;
                leads = rw (e', here.0, ← is) p.1.1;
                first = λ z. not_later i b at a here.0 e' (found_at found p.0).from (found_at found p.0).letter (s.latest p.0 z p.1.0);
              },
            )
        | inr d ↦ s.each i b hi hb (inr (here.0, omega (arith, here.1, d)))
      ]
    ];
  }

  -- it is found now
  module _ (fresh : get_or flags t false ≡ false) (x : Found) (x_state : x.state ≡ t) (x_from : x.from ≡ at) (x_letter : x.letter ≡ a) where
    low : t < length flags
    low = omega (arith, inside_next, s.size)

    old : (k : ℕ) → k < length found → found_at (found ++ x ∷ []) k ≡ found_at found k
    old k h = get_or_append_left found (x ∷ []) no_state k h

    new : found_at (found ++ x ∷ []) (length found) ≡ x
    new = get_or_push found x no_state (length found) refl

    new_at : (k : ℕ) → k ≡ length found → found_at (found ++ x ∷ []) k ≡ x
    new_at k e = get_or_push found x no_state k (sym e)

    last : (k : ℕ) → length found ≤ k → k < length (found ++ x ∷ []) → k ≡ length found
    last k h l = omega (arith, h, l, length_push found x)

    -- what holds of each place but the start, and of one more
    later : (P : Found → Type 0) → ((k : ℕ) → 0 < k → k < length found → P (found_at found k)) → P x →
        (k : ℕ) → 0 < k → k < length (found ++ x ∷ []) → P (found_at (found ++ x ∷ []) k)
    later P before here k z h = elim (cases_lt k (length found)) as (λ _. P (found_at (found ++ x ∷ []) k)) [
      | inl less ↦ rw (old k less) (before k z less)
      | inr more ↦ rw (new_at k (last k more h)) here
    ]

    led : (i b : ℕ) → i ≡ at → b ≡ a → x.state ≡ next m (state_at (found ++ x ∷ []) i) b
    led i b e d = x_state ∙ (is ∙ (ap (λ y. next m y.state a) (sym (old at hat)) ∙
        (ap (λ q. next m (state_at (found ++ x ∷ []) q) a) (sym e) ∙ ap (λ q. next m (state_at (found ++ x ∷ []) i) q) (sym d))))

    kept : (i b k : ℕ) → i < length found → IsFoundFrom m found i b k → IsFoundFrom m (found ++ x ∷ []) i b k
    kept i b k hi f = record {
      inside = omega (arith, f.inside, length_push found x);
      leads = ap (λ y. y.state) (old k f.inside) ∙ (f.leads ∙ ap (λ y. next m y.state b) (sym (old i hi)));
      first = rw (old k f.inside) f.first;
    }

    pub search_new : IsSearch m (set flags t true) (found ++ x ∷ []) at (a + 1)
    search_new = record {
      size = length-set flags t true ∙ s.size;
      some = omega (arith, length_push found x);
      start = ap (λ y. y.state) (old 0 s.some) ∙ s.start;
      inside = each_pushed (λ y. y.state < m.states) found x s.inside (omega (arith, x_state, inside_next));
      reached = each_pushed (λ y. IsReached m y.state) found x s.reached (rw (x_state, is) (reached_next m (state_at found at) a (s.reached at hat) ha));
      queued = λ u hu f. elim (cases_eq u t) as (λ _. (k : ℕ) × ((k < length (found ++ x ∷ [])) × (state_at (found ++ x ∷ []) k ≡ u))) [
        | inl e ↦ (length found, (omega (arith, length_push found x), ap (λ y. y.state) new ∙ (x_state ∙ sym e)))
        | inr d ↦
            let p = s.queued u hu (sym (get_or-set_other flags t u true false d) ∙ f) in
            (p.0, (omega (arith, p.1.0, length_push found x), ap (λ y. y.state) (old p.0 p.1.0) ∙ p.1.1))
      ];
      known = each_pushed (λ y. IsFound (set flags t true) y.state) found x (λ k h. found_kept flags t (state_at found k) low (s.known k h))
          (rw (x_state) (get_or-set_same flags t true false low));
      counted = omega (arith, s.counted, length_push found x, missing-set flags t low fresh);
      once = λ j k less hk e. elim (cases_lt k (length found)) as (λ _. ⊥) [
        | inl h ↦ s.once j k less h (sym (ap (λ y. y.state) (old j (omega (arith, less, h)))) ∙ (e ∙ ap (λ y. y.state) (old k h)))
        | inr h ↦
            let hj : j < length found = omega (arith, less, last k h hk) in
            let same : state_at found j ≡ t = sym (ap (λ y. y.state) (old j hj)) ∙ (e ∙ (ap (λ y. y.state) (new_at k (last k h hk)) ∙ x_state)) in
            both_ways (get_or flags t false) fresh (ap (λ q. get_or flags q false) (sym same) ∙ s.known j hj)
      ];
      earlier = λ k z hk. elim (cases_lt k (length found)) as (λ _. (found_at (found ++ x ∷ []) k).from < k) [
        | inl h ↦ rw (old k h) (s.earlier k z h)
        | inr h ↦ rw (new_at k (last k h hk)) (omega (arith, x_from, hat, h))
      ];
      letter = later (λ y. y.letter < m.letters) s.letter (omega (arith, x_letter, ha));
      leads = λ k z hk. elim (cases_lt k (length found)) as
          (λ _. state_at (found ++ x ∷ []) k ≡ next m (state_at (found ++ x ∷ []) (found_at (found ++ x ∷ []) k).from) (found_at (found ++ x ∷ []) k).letter) [
            | inl h ↦ ap (λ y. y.state) (old k h) ∙ (s.leads k z h ∙
                (ap (λ y. next m y.state (found_at found k).letter) (sym (old (found_at found k).from (omega (arith, s.earlier k z h, h)))) ∙
                ap (λ y. next m (state_at (found ++ x ∷ []) y.from) y.letter) (sym (old k h))))
            | inr h ↦ ap (λ y. y.state) (new_at k (last k h hk)) ∙ (led x.from x.letter x_from x_letter ∙
                ap (λ y. next m (state_at (found ++ x ∷ []) y.from) y.letter) (sym (new_at k (last k h hk))))
          ];
      each = λ i b hi hb h.
          let hi' : i < length found = elim h as (λ _. i < length found) [ inl before ↦ omega (arith, before, hat) | inr here ↦ omega (arith, here.0, hat) ] in
          elim h as (λ _. (k : ℕ) × IsFoundFrom m (found ++ x ∷ []) i b k) [
            | inl before ↦ let p = s.each i b hi' hb (inl before) in (p.0, kept i b p.0 hi' p.1)
            | inr here ↦ elim (cases_eq b a) as (λ _. (k : ℕ) × IsFoundFrom m (found ++ x ∷ []) i b k) [
              | inl e ↦
                  let e' : b ≡ a = e in (
                    length found,
                    record {
                      inside = omega (arith, length_push found x);
                      leads = ap (λ y. y.state) new ∙ led i b here.0 e';
                      first = rw (new, x_from, x_letter, here.0, e') (λ z. not_itself at a);
                    },
                  )
              | inr d ↦ let p = s.each i b hi' hb (inr (here.0, omega (arith, here.1, d))) in (p.0, kept i b p.0 hi' p.1)
            ]
          ];
      latest = later (λ y. IsTriedBefore y.from y.letter at (a + 1)) (λ k z h. next_letter (found_at found k).from
          (found_at found k).letter at a (s.latest k z h))
          (inr (x_from, omega (arith, x_letter)));
      ordered = λ j k z less hk. elim (cases_lt k (length found)) as (λ _. IsTriedBefore
          (found_at (found ++ x ∷ []) j).from (found_at (found ++ x ∷ []) j).letter
          (found_at (found ++ x ∷ []) k).from (found_at (found ++ x ∷ []) k).letter) [
            | inl h ↦ rw (old j (omega (arith, less, h)), old k h) (s.ordered j k z less h)
            | inr h ↦ rw (old j (omega (arith, less, last k h hk)), new_at k (last k h hk), x_from, x_letter) (s.latest j z (omega (arith, less, last k h hk)))
          ];
    }

row_over : (i b at a : ℕ) → IsTriedBefore i b at a → IsTriedBefore i b (at + 1) 0
row_over i b at a (inl h) = inl (omega (arith, h))
row_over i b at a (inr h) = inl (omega (arith, h.0))

-- all letters were tried
pub search_more : (m : Machine) (flags : List Bool) (found : List Found) (at a : ℕ) → IsSearch m flags found at a →
    m.letters ≤ a → IsSearch m flags found (at + 1) 0
search_more m flags found at a s h = record {
  size = s.size;
  some = s.some;
  start = s.start;
  inside = s.inside;
  reached = s.reached;
  queued = s.queued;
  known = s.known;
  counted = s.counted;
  once = s.once;
  earlier = s.earlier;
  letter = s.letter;
  leads = s.leads;
  ordered = s.ordered;
  latest = λ k z l. row_over (found_at found k).from (found_at found k).letter at a (s.latest k z l);
  each = λ i b hi hb k. elim k as (λ _. (j : ℕ) × IsFoundFrom m found i b j) [
    | inl before ↦ elim (cases_eq i at) as (λ _. (j : ℕ) × IsFoundFrom m found i b j) [
      | inl e ↦ s.each i b hi hb (inr (e, omega (arith, hb, h)))
      | inr d ↦ s.each i b hi hb (inl (omega (arith, before, d)))
    ]
    | inr here ↦ absurd (omega (arith, here.1))
  ];
}

-- the start alone is found
pub search_none : (m : Machine) → IsMachine m → (flags : List Bool) → length flags ≡ m.states → ((s : ℕ) → s < m.states → get_or flags s false ≡ false) →
    missing flags ≡ m.states → (x : Found) → x.state ≡ 0 → IsSearch m (set flags 0 true) (x ∷ []) 0 0
search_none m sound flags size none all x is =
    let low : 0 < length flags = omega (arith, size, sound.some_states) in
    record {
      size = length-set flags 0 true ∙ size;
      some = omega arith;
      start = is;
      inside = each_pushed (λ y. y.state < m.states) [] x (λ i h. absurd (omega (arith, h))) (omega (arith, is, sound.some_states));
      reached = each_pushed (λ y. IsReached m y.state) [] x (λ i h. absurd (omega (arith, h))) (rw (is) (reached_start m));
      queued = λ u hu f. elim (cases_eq u 0) as (λ _. (k : ℕ) × ((k < 1) × (state_at (x ∷ []) k ≡ u))) [
        | inl e ↦ (0, (omega arith, is ∙ sym e))
        | inr d ↦ cc (none u hu, get_or-set_other flags 0 u true false d, f)
      ];
      known = each_pushed (λ y. IsFound (set flags 0 true) y.state) [] x (λ i h. absurd (omega (arith, h))) (rw (is) (get_or-set_same flags 0 true false low));
      counted = omega (arith, missing-set flags 0 low (none 0 sound.some_states), all);
      once = λ j k less hk e. omega (arith, less, hk);
      earlier = λ k z h. absurd (omega (arith, z, h));
      letter = λ k z h. absurd (omega (arith, z, h));
      leads = λ k z h. absurd (omega (arith, z, h));
      each = λ i b hi hb h. elim h as (λ _. (k : ℕ) × IsFoundFrom m (x ∷ []) i b k) [
        | inl before ↦ absurd (omega (arith, before))
        | inr here ↦ absurd (omega (arith, here.1))
      ];
      latest = λ k z h. absurd (omega (arith, z, h));
      ordered = λ j k z less h. absurd (omega (arith, z, less, h));
    }

module _ (m : Machine) (sound : IsMachine m) (flags : List Bool) (found : List Found) (at : ℕ) (s : IsSearch m flags found at 0) (end : length found ≤ at) where
  pub search_over : IsSearched m found
  search_over = record {
    some = s.some;
    start = s.start;
    inside = s.inside;
    once = s.once;
    earlier = s.earlier;
    letter = s.letter;
    leads = s.leads;
    ordered = s.ordered;
    each = λ i a hi ha. s.each i a hi ha (inl (omega (arith, hi, end)));
  }

  found_after : (t : ℕ) (word : List ℕ) → t < m.states → IsFound flags t → IsWord m word → IsFound flags (state_after m t word)
  found_after t [] ht f w = f
  found_after t (b ∷ word) ht f w =
      let hb : b < m.letters = All-head (λ x. x < m.letters) b word w in
      let p = s.queued t ht f in
      let q = s.each p.0 b p.1.0 hb (inl (omega (arith, p.1.0, end))) in
      let e : state_at found q.0 ≡ next m t b = rw (p.1.1) at q.1.leads in
      found_after (next m t b) word (row_inside m sound t b ht hb).0 (rw (e) at (s.known q.0 q.1.inside)) (All-tail (λ x. x < m.letters) b word w)

  found_reached : (t : ℕ) → IsReached m t → IsFound flags t
  found_reached t r = rw (r.leads) at (found_after 0 r.word sound.some_states (rw (s.start) at (s.known 0 s.some)) r.is_word)

  none_missing : AllReached m → missing flags ≡ 0
  none_missing r =
      let each : (q : ℕ) → q < length flags → unfound (get_or flags q false) ≤ 0 = λ q h.
      let f : get_or flags q false ≡ true = found_reached q (r q (omega (arith, h, s.size))) in
      omega (arith, ap unfound f) in
      omega (arith, sum_by-le unfound 0 flags (All-from_get_or (λ b. unfound b ≤ 0) flags false each))

  -- where none is missing, each is found
  flag_of : (b : Bool) → unfound b ≡ 0 → b ≡ true
  flag_of true e = refl
  flag_of false e = absurd (omega (arith, e))

  pub all_reached : length found ≡ m.states ↔ AllReached m
  all_reached = (
    λ e t ht.
        let z : missing flags ≡ 0 = omega (arith, e, s.counted) in
        let f = flag_of (get_or flags t false) (omega (arith, z, get_or-le-sum_by unfound flags t false (omega (arith, ht, s.size)))) in
        let p = s.queued t ht f in rw (p.1.1) at (s.reached p.0 p.1.0),
    λ r. omega (arith, s.counted, none_missing r),
  )

-- the letters below a were tried from `state`, at the place `at`
pub record IsVisiting (m : Machine) (flags : List Bool) (found : List Found) (at a state : ℕ) : Type 0 where
  pub search : IsSearch m flags found at a
  pub inside : at < length found
  pub here : state_at found at ≡ state

module _ (m : Machine) (sound : IsMachine m) (at : ℕ) (flags : List Bool) (found : List Found) (a state : ℕ)
    (v : IsVisiting m flags found at a state) (ha : a < m.letters) (t : ℕ) (is : t ≡ next m state a) (new : List Bool) (more : List Found) where
  here_is : t ≡ next m (state_at found at) a
  here_is = is ∙ ap (λ s. next m s a) (sym v.here)

  pub visit_found : IsFound flags t → new ≡ flags → more ≡ found → IsVisiting m new more at (a + 1) state
  visit_found f e e' = rw (e, e') record {
    search = search_found m sound flags found at a v.search v.inside ha t here_is f;
    inside = v.inside;
    here = v.here;
  }

  pub visit_new : get_or flags t false ≡ false → (x : Found) → x.state ≡ t → x.from ≡ at → x.letter ≡ a → new ≡ set flags t true → more ≡ found ++ x ∷ [] →
      IsVisiting m new more at (a + 1) state
  visit_new f x xs xf xl e e' = rw (e, e') record {
    search = search_new m sound flags found at a v.search v.inside ha t here_is f x xs xf xl;
    inside = omega (arith, v.inside, length_push found x);
    here = ap (λ y. y.state) (get_or_append_left found (x ∷ []) no_state at v.inside) ∙ v.here;
  }
