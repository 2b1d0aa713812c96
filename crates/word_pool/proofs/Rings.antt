-- One more node in a ring of children.
use Rattle.std.proofs.Common.{◌≡◌, ℕ, ◌+◌, ◌<◌, ◌≤◌, ◌⊎◌, List, [], ◌∷◌, ◌++◌, length, refl, ap, sym, ◌∙◌, inl, inr, arith}
use Rattle.std.proofs.lemmas.Bool.{cases_eq, cases_lt}
use Rattle.std.proofs.lemmas.List.{get_or_append_left, get_or_push, get_or_past, length_push}
use Rattle.word_pool.specs.declared.trie.Node.{Node}
use Rattle.word_pool.specs.Trie.{no_node, node_at, IsChild, IsLinked, Steps, IsBetween, IsPlace, Links}

abbrev pub letter_at : List Node → ℕ → ℕ
letter_at ns k = (node_at ns k).letter

-- the letter of the next in the ring
abbrev pub after : List Node → ℕ → ℕ
after ns k = (node_at ns (node_at ns k).sibling).letter

-- the nodes `new` are the nodes `old` and one more, a child of `p` with the letter `a`, in the ring after `place`
pub record IsGrown (old new : List Node) (p a place : ℕ) : Type 0 where
  pub size : length new ≡ length old + 1
  pub parents : (j : ℕ) → ¬ (j ≡ length old) → (node_at new j).parent ≡ (node_at old j).parent
  pub letters : (j : ℕ) → ¬ (j ≡ length old) → (node_at new j).letter ≡ (node_at old j).letter
  pub depths : (j : ℕ) → ¬ (j ≡ length old) → (node_at new j).depth ≡ (node_at old j).depth
  pub parent : (node_at new (length old)).parent ≡ p
  pub letter : (node_at new (length old)).letter ≡ a
  pub depth : (node_at new (length old)).depth ≡ (node_at old p).depth + 1
  pub child : (node_at new p).child ≡ length old
  pub childless : (node_at new (length old)).child ≡ 0
  pub children : (j : ℕ) → ¬ (j ≡ length old) → ¬ (j ≡ p) → (node_at new j).child ≡ (node_at old j).child
  pub sibling : 0 < place → (node_at new (length old)).sibling ≡ (node_at old place).sibling
  pub alone : place ≡ 0 → (node_at new (length old)).sibling ≡ length old
  pub before : 0 < place → (node_at new place).sibling ≡ length old
  pub siblings : (j : ℕ) → ¬ (j ≡ length old) → ¬ (j ≡ place) → (node_at new j).sibling ≡ (node_at old j).sibling

node_kept : (ns : List Node) (n : Node) (j : ℕ) → ¬ (j ≡ length ns) → node_at (ns ++ n ∷ []) j ≡ node_at ns j
node_kept ns n j h = elim (cases_lt j (length ns)) as (λ _. node_at (ns ++ n ∷ []) j ≡ node_at ns j) [
  | inl l ↦ get_or_append_left ns (n ∷ []) no_node j l
  | inr l ↦ get_or_past (ns ++ n ∷ []) j no_node (omega (arith, length_push ns n, l, h)) ∙ sym (get_or_past ns j no_node l)
]

pub grown : (ns : List Node) (n : Node) (new : List Node) (place : ℕ) → Links (ns ++ n ∷ []) new place (length ns) →
    n.parent < length ns → place < length ns → n.child ≡ 0 → n.sibling ≡ length ns → n.depth ≡ (node_at ns n.parent).depth + 1 →
    IsGrown ns new n.parent n.letter place
grown ns n new place l hp hq c s d =
    let last : node_at (ns ++ n ∷ []) (length ns) ≡ n = get_or_push ns n no_node (length ns) refl in
    let other : (j : ℕ) → ¬ (j ≡ length ns) → node_at (ns ++ n ∷ []) j ≡ node_at ns j = node_kept ns n in
    let par : (node_at (ns ++ n ∷ []) (length ns)).parent ≡ n.parent = ap (λ x. x.parent) last in
    let not_new : ¬ (place ≡ length ns) = λ e. omega (arith, e, hq) in
    record {
      size = l.size ∙ length_push ns n;
      parents = λ j h. l.parent j ∙ ap (λ x. x.parent) (other j h);
      letters = λ j h. l.letter j ∙ ap (λ x. x.letter) (other j h);
      depths = λ j h. l.depth j ∙ ap (λ x. x.depth) (other j h);
      parent = l.parent (length ns) ∙ par;
      letter = l.letter (length ns) ∙ ap (λ x. x.letter) last;
      depth = l.depth (length ns) ∙ (ap (λ x. x.depth) last ∙ d);
      child = ap (λ k. (node_at new k).child) (sym par) ∙ l.child;
      childless = l.child_other (length ns) (λ e. omega (arith, e, par, hp)) ∙ (ap (λ x. x.child) last ∙ c);
      children = λ j h k. l.child_other j (λ e. k (e ∙ par)) ∙ ap (λ x. x.child) (other j h);
      sibling = λ z. l.sibling z ∙ ap (λ x. x.sibling) (other place not_new);
      alone = λ z. l.sibling_alone z ∙ (ap (λ x. x.sibling) last ∙ s);
      before = l.sibling_before;
      siblings = λ j h k. l.sibling_other j h k ∙ ap (λ x. x.sibling) (other j h);
    }

-- no child of `p` has the letter where the child at its place does not
pub absent : (ns : List Node) (p a place : ℕ) → IsLinked ns → IsPlace ns p a place → (0 < place → ¬ (letter_at ns place ≡ a)) →
    (j : ℕ) → IsChild ns p j → ¬ (letter_at ns j ≡ a)
absent ns p a place l h new j c e =
    let some : 0 < (node_at ns p).child = l.some p j c in
    let z : 0 < place = elim (cases_eq place 0) as (λ _. 0 < place) [ inl d ↦ absurd (omega (arith, h.none d, some)) | inr d ↦ omega (arith, d) ] in
    let s = l.ring p place j (h.child z) c in
    elim (h.between z) as (λ _. ⊥) [ inl d ↦ new z d | inr b ↦ omega (arith, b, s, e) ]

steps_by : (x x' n n' y y' : ℕ) → x ≡ x' → n ≡ n' → y ≡ y' → Steps x' n' y' → Steps x n y
steps_by x x' n n' y y' e d f s = rw (e, d, f) s

steps_cases : (x n y : ℕ) → (x < y → (x < n) × (n ≤ y)) → (n ≤ x → n ≤ y) → Steps x n y
steps_cases x n y gap turn = elim (cases_lt x n) as (λ _. Steps x n y) [
  | inl l ↦ elim (cases_lt x y) as (λ _. Steps x n y) [ inl h ↦ inl (l, inr (gap h).1) | inr h ↦ inl (l, inl h) ]
  | inr l ↦ elim (cases_lt x y) as (λ _. Steps x n y) [ inl h ↦ absurd (omega (arith, (gap h).0, l)) | inr h ↦ inr (l, h, turn l) ]
]

steps_same : (x y : ℕ) → Steps x y y
steps_same x y = steps_cases x y y (λ h. (h, omega arith)) (λ h. omega arith)

steps_back : (x y : ℕ) → Steps x y x
steps_back x y = steps_cases x y x (λ h. absurd (omega (arith, h))) (λ h. h)

-- from the place to the new letter
steps_place : (x n a y : ℕ) → IsBetween x a n → Steps x n y → Steps x a y
steps_place x n a y b s = steps_cases x a y (λ h. (omega (arith, h, b, s), omega (arith, h, b, s))) (λ h. omega (arith, h, b, s))

-- from the new letter
steps_from : (x n a y : ℕ) → IsBetween x a n → Steps x n y → Steps a n y
steps_from x n a y b s = steps_cases a n y (λ h. (omega (arith, h, b, s), omega (arith, h, b, s))) (λ h. omega (arith, h, b, s))

-- from another letter `y`, whose next is `m`, to the new letter
steps_to : (x n a y m : ℕ) → IsBetween x a n → Steps x n y → Steps y m x → ¬ (y ≡ x) → Steps y m a
steps_to x n a y m b s r d = steps_cases y m a (λ h. (omega (arith, h, b, s, r, d), omega (arith, h, b, s, r, d))) (λ h. omega (arith, h, b, s, r, d))

module _ (old new : List Node) (p a place : ℕ) (l : IsLinked old) (g : IsGrown old new p a place) (h : IsPlace old p a place)
    (fresh : 0 < place → ¬ (letter_at old place ≡ a))
    (apart : (i j : ℕ) → IsChild old p i → IsChild old p j → letter_at old i ≡ letter_at old j → i ≡ j) where
  is_new : (q : ℕ) → q ≡ p → 0 < length old → IsChild new q (length old)
  is_new q e some = record { not_root = some; inside = omega (arith, g.size); parent = g.parent ∙ sym e }

  kept : (q j : ℕ) → IsChild old q j → IsChild new q j
  kept q j c = record { not_root = c.not_root; inside = omega (arith, g.size, c.inside); parent = g.parents j (λ e. omega (arith, e, c.inside)) ∙ c.parent }

  child_cases : (q j : ℕ) → IsChild new q j → IsChild old q j ⊎ ((j ≡ length old) × (q ≡ p))
  child_cases q j c = elim (cases_eq j (length old)) as (λ _. IsChild old q j ⊎ ((j ≡ length old) × (q ≡ p))) [
    | inl e ↦ inr (e, sym c.parent ∙ (ap (λ k. (node_at new k).parent) e ∙ g.parent))
    | inr n ↦ inl (record { not_root = c.not_root; inside = omega (arith, g.size, c.inside, n); parent = sym (g.parents j n) ∙ c.parent })
  ]

  letter_old : (q j : ℕ) → IsChild old q j → letter_at new j ≡ letter_at old j
  letter_old q j c = g.letters j (λ e. omega (arith, e, c.inside))

  -- the next of a child that is not at the place stays
  after_other : (q k : ℕ) → IsChild old q k → ¬ (k ≡ place) → after new k ≡ after old k
  after_other q k c n =
      ap (λ s. letter_at new s) (g.siblings k (λ e. omega (arith, e, c.inside)) n) ∙ letter_old q (node_at old k).sibling (l.next q k c)

  after_place : 0 < place → after new place ≡ a
  after_place z = ap (λ s. letter_at new s) (g.before z) ∙ g.letter

  after_new : 0 < place → after new (length old) ≡ after old place
  after_new z = ap (λ s. letter_at new s) (g.sibling z) ∙ letter_old p (node_at old place).sibling (l.next p place (h.child z))

  placed : (j : ℕ) → IsChild old p j → 0 < place
  placed j c = elim (cases_eq place 0) as (λ _. 0 < place) [
    | inl d ↦ absurd (omega (arith, h.none d, l.some p j c))
    | inr d ↦ omega (arith, d)
  ]

  between : 0 < place → IsBetween (letter_at old place) a (after old place)
  between z = elim (h.between z) as (λ _. IsBetween (letter_at old place) a (after old place)) [ inl e ↦ absurd (fresh z e) | inr b ↦ b ]

  under : (q j : ℕ) → q ≡ p → IsChild old q j → IsChild old p j
  under q j e c = record { not_root = c.not_root; inside = c.inside; parent = c.parent ∙ e }

  steps_old_old : (q k j : ℕ) → IsChild old q k → IsChild old q j → Steps (letter_at new k) (after new k) (letter_at new j)
  steps_old_old q k j c d = elim (cases_eq k place) as (λ _. Steps (letter_at new k) (after new k) (letter_at new j)) [
    | inl e ↦
        let e' : k ≡ place = e in
        let z : 0 < place = omega (arith, e', c.not_root) in
        steps_by _ (letter_at old place) _ a _ (letter_at old j) (letter_old q k c ∙ ap (λ x. letter_at old x) e') (ap (λ x. after new x) e' ∙ after_place z) (letter_old q j d)
        (steps_place (letter_at old place) (after old place) a (letter_at old j) (between z)
        (steps_by _ (letter_at old k) _ (after old k) _ (letter_at old j) (ap (λ x. letter_at old x) (sym e')) (ap (λ x. after old x) (sym e')) refl (l.ring q k j c d)))
    | inr n ↦ steps_by _ (letter_at old k) _ (after old k) _ (letter_at old j) (letter_old q k c) (after_other q k c n) (letter_old q j d) (l.ring q k j c d)
  ]

  steps_old_new : (k : ℕ) → IsChild old p k → Steps (letter_at new k) (after new k) a
  steps_old_new k c = elim (cases_eq k place) as (λ _. Steps (letter_at new k) (after new k) a) [
    | inl e ↦
        let e' : k ≡ place = e in
        let z : 0 < place = omega (arith, e', c.not_root) in
        steps_by _ (letter_at new k) _ a _ a refl (ap (λ x. after new x) e' ∙ after_place z) refl (steps_same (letter_at new k) a)
    | inr n ↦
        let z = placed k c in
        steps_by _ (letter_at old k) _ (after old k) _ a (letter_old p k c) (after_other p k c n) refl
        (steps_to (letter_at old place) (after old place) a (letter_at old k) (after old k) (between z)
        (l.ring p place k (h.child z) c) (l.ring p k place c (h.child z)) (λ e. n (apart k place c (h.child z) e)))
  ]

  steps_new_old : (j : ℕ) → IsChild old p j → Steps a (after new (length old)) (letter_at new j)
  steps_new_old j d =
      let z = placed j d in
      steps_by _ a _ (after old place) _ (letter_at old j) refl (after_new z) (letter_old p j d)
      (steps_from (letter_at old place) (after old place) a (letter_at old j) (between z) (l.ring p place j (h.child z) d))

  steps_new : (q k j : ℕ) → IsChild new q k → IsChild new q j → Steps (letter_at new k) (after new k) (letter_at new j)
  steps_new q k j c d = elim (child_cases q k c) as (λ _. Steps (letter_at new k) (after new k) (letter_at new j)) [
    | inl ck ↦ elim (child_cases q j d) as (λ _. Steps (letter_at new k) (after new k) (letter_at new j)) [
      | inl cj ↦ steps_old_old q k j ck cj
      | inr ej ↦ steps_by _ (letter_at new k) _ (after new k) _ a refl refl (ap (λ x. letter_at new x) ej.0 ∙ g.letter) (steps_old_new k (under q k ej.1 ck))
    ]
    | inr ek ↦
        let ak : letter_at new k ≡ a = ap (λ x. letter_at new x) ek.0 ∙ g.letter in
        let nk : after new k ≡ after new (length old) = ap (λ x. after new x) ek.0 in
        elim (child_cases q j d) as (λ _. Steps (letter_at new k) (after new k) (letter_at new j)) [
          | inl cj ↦ steps_by _ a _ (after new (length old)) _ (letter_at new j) ak nk refl (steps_new_old j (under q j ek.1 cj))
          | inr ej ↦ steps_by _ a _ (after new k) _ a ak refl (ap (λ x. letter_at new x) ej.0 ∙ g.letter) (steps_back a (after new k))
        ]
  ]

  next_new : 0 < length old → (q k : ℕ) → IsChild new q k → IsChild new q (node_at new k).sibling
  next_new some q k c = elim (child_cases q k c) as (λ _. IsChild new q (node_at new k).sibling) [
    | inl ck ↦ elim (cases_eq k place) as (λ _. IsChild new q (node_at new k).sibling) [
      | inl e ↦
          let e' : k ≡ place = e in
          let z : 0 < place = omega (arith, e', ck.not_root) in
          rw (e', g.before z) (is_new q (sym ck.parent ∙ (ap (λ x. (node_at old x).parent) e' ∙ (h.child z).parent)) some)
      | inr n ↦ rw (g.siblings k (λ e. omega (arith, e, ck.inside)) n) (kept q (node_at old k).sibling (l.next q k ck))
    ]
    | inr ek ↦ rw (ek.0) (elim (cases_eq place 0) as (λ _. IsChild new q (node_at new (length old)).sibling) [
      | inl e ↦ rw (g.alone e) (is_new q ek.1 some)
      | inr n ↦
          let z : 0 < place = omega (arith, n) in
          rw (g.sibling z) (kept q (node_at old place).sibling (l.next q place (record { not_root = (h.child z).not_root; inside = (h.child z).inside; parent = (h.child z).parent ∙ sym ek.1 })))
    ])
  ]

  named_new : 0 < length old → (q : ℕ) → 0 < (node_at new q).child → IsChild new q (node_at new q).child
  named_new some q z = elim (cases_eq q p) as (λ _. IsChild new q (node_at new q).child) [
    | inl e ↦ let e' : q ≡ p = e in rw (ap (λ x. (node_at new x).child) e' ∙ g.child) (is_new q e' some)
    | inr n ↦ elim (cases_eq q (length old)) as (λ _. IsChild new q (node_at new q).child) [
      | inl e ↦ let e' : q ≡ length old = e in absurd (omega (arith, z, ap (λ x. (node_at new x).child) e', g.childless))
      | inr m ↦
          let same = g.children q m n in
          rw (same) (kept q (node_at old q).child (l.named q (omega (arith, z, same))))
    ]
  ]

  some_new : 0 < length old → (q j : ℕ) → IsChild new q j → 0 < (node_at new q).child
  some_new some q j c = elim (cases_eq q p) as (λ _. 0 < (node_at new q).child) [
    | inl e ↦ let e' : q ≡ p = e in omega (arith, ap (λ x. (node_at new x).child) e', g.child, some)
    | inr n ↦ elim (child_cases q j c) as (λ _. 0 < (node_at new q).child) [
      | inl d ↦
          let has : 0 < (node_at old q).child = l.some q j d in
          let within : ¬ (q ≡ length old) = λ e. omega (arith, has, ap (λ x. x.child) (get_or_past old q no_node (omega (arith, e)))) in
          omega (arith, has, g.children q within n)
      | inr e ↦ absurd (n e.1)
    ]
  ]

  pub linked : 0 < length old → IsLinked new
  linked some = record { named = named_new some; some = some_new some; next = next_new some; ring = steps_new }

-- what the ring keeps as it goes up from `from`
pub record IsClimbing (ns : List Node) (from letter here : ℕ) : Type 0 where
  pub child : IsChild ns (node_at ns from).parent here
  pub below : (node_at ns from).letter ≤ letter → (node_at ns here).letter ≤ letter

-- the last child whose letter is at most `a`
pub place_up : (ns : List Node) (p a place : ℕ) → IsChild ns p place → letter_at ns place ≤ a → (after ns place ≤ letter_at ns place) ⊎ ((a < after ns place) × (after ns place ≤ 65535)) →
    IsPlace ns p a place
place_up ns p a place c le stop = record {
  none = λ e. absurd (omega (arith, e, c.not_root));
  child = λ _. c;
  between = λ _. elim (cases_lt (letter_at ns place) a) as (λ _. (letter_at ns place ≡ a) ⊎ IsBetween (letter_at ns place) a (after ns place)) [
    | inl l ↦ inr (inl (l, elim stop as (λ _. (a < after ns place) ⊎ (after ns place ≤ letter_at ns place)) [ inl s ↦ inr s | inr s ↦ inl s.0 ]))
    | inr l ↦ inl (omega (arith, l, le))
  ];
}

pub grown_by : (ns : List Node) (n : Node) (old new : List Node) (place number : ℕ) → old ≡ ns ++ n ∷ [] → number ≡ length ns → Links old new place number →
    n.parent < length ns → place < length ns → n.child ≡ 0 → n.sibling ≡ number → n.depth ≡ (node_at ns n.parent).depth + 1 →
    IsGrown ns new n.parent n.letter place
grown_by ns n old new place number e f l hp hq c s d =
    let l' : Links (ns ++ n ∷ []) new place (length ns) = rw (e, f) at l in
    grown ns n new place l' hp hq c (s ∙ f) d

pub child_of : (ns : List Node) (p q j : ℕ) → IsChild ns p j → p ≡ q → IsChild ns q j
child_of ns p q j c e = record { not_root = c.not_root; inside = c.inside; parent = c.parent ∙ e }
