-- The word after a word: a child's, or that of the next of the nearest prefix that is not the last of its ring.
use Rattle.std.proofs.Common.{◌≡◌, ℕ, ◌<◌, ◌≤◌, ◌⊎◌, List, [], ◌∷◌, ◌++◌, length, refl, sym, ◌∙◌, inl, inr, arith}
use Rattle.std.proofs.lemmas.Bool.{cases_lt}
use Rattle.std.proofs.lemmas.List.{append_assoc, append-nil}
use Rattle.word_pool.specs.declared.trie.Node.{Node}
use Rattle.word_pool.specs.Words.{word}
use Rattle.word_pool.specs.Order.{IsBelow}
use Rattle.word_pool.specs.Trie.{node_at, IsChild, IsTrie, IsNext}
use Rattle.word_pool.proofs.Orders.{below_longer, below_apart, below_rest, below_itself, below_prefix, Compared, within, beyond, apart, compared}
use Rattle.word_pool.proofs.Nodes.{is_child, child_word, goes_through}
use Rattle.word_pool.proofs.Rings.{letter_at, after}

-- the nodes `up` and its prefixes were left behind: no word that goes on from `up` stands after the word `from`
pub record IsLeft (ws : List (List ℕ)) (from up : ℕ) : Type 0 where
  pub inside : up < length ws
  pub suffix : List ℕ
  pub path : word ws from ≡ word ws up ++ suffix
  pub none : (k : ℕ) → k < length ws → IsBelow (word ws from) (word ws k) → (r : List ℕ) → word ws k ≡ word ws up ++ r → ⊥

not_down : (f : List ℕ) (x : ℕ) (u : List ℕ) (y : ℕ) (v : List ℕ) → IsBelow (f ++ x ∷ u) (f ++ y ∷ v) → y < x → ⊥
not_down f x u y v b l = elim (below_rest f (x ∷ u) (y ∷ v) b) as (λ _. ⊥) [ inl g ↦ omega (arith, g, l) | inr g ↦ omega (arith, g.0, l) ]

module _ (ns : List Node) (ws : List (List ℕ)) (t : IsTrie ns ws) where
  -- a word that goes on from the word `next` is that or stands after it
  at_or_after : (next k : ℕ) → next < length ws → k < length ws → (r : List ℕ) → word ws k ≡ word ws next ++ r → (k ≡ next) ⊎ IsBelow (word ws next) (word ws k)
  at_or_after next k h hk [] e = inl (t.different k next (omega (arith, hk, t.size)) (omega (arith, h, t.size)) (e ∙ append-nil (word ws next)))
  at_or_after next k h hk (a ∷ r) e = inr (rw (e) (below_longer (word ws next) a r))

  joined : (p j a : ℕ) (r : List ℕ) → IsChild ns p j → letter_at ns j ≡ a → word ws p ++ a ∷ r ≡ word ws j ++ r
  joined p j a r c e = rw (child_word ns ws t p j c, e, append_assoc (word ws p) (a ∷ []) r) refl

  -- the first child stands before all that goes on from its parent
  after_child : (p first : ℕ) → p < length ws → IsChild ns p first → ((j : ℕ) → IsChild ns p j → letter_at ns first ≤ letter_at ns j) →
      (k : ℕ) → k < length ws → IsBelow (word ws p) (word ws k) → Compared (word ws p) (word ws k) → (k ≡ first) ⊎ IsBelow (word ws first) (word ws k)
  after_child p first hp c low k hk b (within [] e) = absurd (below_itself (word ws p) (rw (e, append-nil (word ws p)) at b))
  after_child p first hp c low k hk b (within (a ∷ r) e) =
      let g = goes_through ns ws t k (omega (arith, hk, t.size)) p (omega (arith, hp, t.size)) a r e in
      elim (cases_lt (letter_at ns first) a) as (λ _. (k ≡ first) ⊎ IsBelow (word ws first) (word ws k)) [
        | inl l ↦ inr (rw (child_word ns ws t p first c, e) (below_apart (word ws p) (letter_at ns first) [] a r l))
        | inr l ↦
            let same : letter_at ns first ≡ a = omega (arith, l, low g.child g.is_child, g.letter) in
            at_or_after first k (omega (arith, c.inside, t.size)) hk r (e ∙ joined p first a r c same)
      ]
  after_child p first hp c low k hk b (beyond a v e) = absurd (below_prefix (word ws k) (a ∷ v) (rw (e) at b))
  after_child p first hp c low k hk b (apart f x u y v e d h) =
      elim h as (λ _. (k ≡ first) ⊎ IsBelow (word ws first) (word ws k)) [
        | inl l ↦ inr (rw (child_word ns ws t p first c, d, e, append_assoc f (x ∷ u) (letter_at ns first ∷ [])) (below_apart f x (u ++ letter_at ns first ∷ []) y v l))
        | inr l ↦ absurd (not_down f x u y v (rw (e, d) at b) l)
      ]

  pub next_child : (p last : ℕ) → p < length ns → IsChild ns p last → after ns last ≤ letter_at ns last → IsNext ws p (node_at ns last).sibling
  next_child p last hp c stop =
      let f = t.links.next p last c in
      record {
        inside = omega (arith, f.inside, t.size);
        above = λ _. rw (child_word ns ws t p (node_at ns last).sibling f) (below_longer (word ws p) (after ns last) []);
        least = λ k hk b. (
          f.not_root,
          after_child p (node_at ns last).sibling (omega (arith, hp, t.size)) f
              (λ j d. omega (arith, t.links.ring p last j c d, stop)) k hk b (compared (word ws p) (word ws k)),
        );
      }

  pub left_start : (from : ℕ) → from < length ns → (node_at ns from).child ≡ 0 → IsLeft ws from from
  left_start from h e = record {
    inside = omega (arith, h, t.size);
    suffix = [];
    path = sym (append-nil (word ws from));
    none = ends;
  }
    where
      ends : (k : ℕ) → k < length ws → IsBelow (word ws from) (word ws k) → (r : List ℕ) → word ws k ≡ word ws from ++ r → ⊥
      ends k hk b [] d = below_itself (word ws from) (rw (d, append-nil (word ws from)) at b)
      ends k hk b (a ∷ r) d =
          let g = goes_through ns ws t k (omega (arith, hk, t.size)) from h a r d in
          omega (arith, t.links.some from g.child g.is_child, e)

  within_nodes : (from up : ℕ) → IsLeft ws from up → up < length ns
  within_nodes from up l = omega (arith, l.inside, t.size)

  -- what `from` has after the word of the parent of `up`
  beside : (from up : ℕ) (l : IsLeft ws from up) → 0 < up → word ws from ≡ word ws (node_at ns up).parent ++ letter_at ns up ∷ l.suffix
  beside from up l z = l.path ∙ sym (joined (node_at ns up).parent up (letter_at ns up) l.suffix (is_child ns ws t up z (within_nodes from up l)) refl)

  -- a word that goes on from the parent of `up` and stands after `from` has a greater letter there
  greater : (from up : ℕ) (l : IsLeft ws from up) → 0 < up → (k : ℕ) → k < length ws → IsBelow (word ws from) (word ws k) →
      (c : ℕ) (r : List ℕ) → word ws k ≡ word ws (node_at ns up).parent ++ c ∷ r → letter_at ns up < c
  greater from up l z k hk b c r e =
      elim (below_rest (word ws (node_at ns up).parent) (letter_at ns up ∷ l.suffix) (c ∷ r) (rw (beside from up l z, e) at b)) as (λ _. letter_at ns up < c) [
        | inl h ↦ h
        | inr h ↦ absurd (l.none k hk b r (e ∙ joined (node_at ns up).parent up c r (is_child ns ws t up z (within_nodes from up l)) h.0))
      ]

  pub left_more : (from up : ℕ) → IsLeft ws from up → 0 < up → after ns up ≤ letter_at ns up → IsLeft ws from (node_at ns up).parent
  left_more from up l z stop =
      let inside : up < length ns = within_nodes from up l in
      let low : (node_at ns up).parent < up = t.lower up z inside in
      record {
        inside = omega (arith, low, l.inside);
        suffix = letter_at ns up ∷ l.suffix;
        path = beside from up l z;
        none = ends inside low;
      }
    where
      ends : up < length ns → (node_at ns up).parent < up → (k : ℕ) → k < length ws → IsBelow (word ws from) (word ws k) → (r : List ℕ) →
          word ws k ≡ word ws (node_at ns up).parent ++ r → ⊥
      ends inside low k hk b [] e =
          below_prefix (word ws (node_at ns up).parent) (letter_at ns up ∷ l.suffix) (rw (beside from up l z, e, append-nil (word ws (node_at ns up).parent)) at b)
      ends inside low k hk b (c ∷ r) e =
          let g = goes_through ns ws t k (omega (arith, hk, t.size)) (node_at ns up).parent (omega (arith, low, inside)) c r e in
          omega (arith, greater from up l z k hk b c r e, stop, g.letter, t.links.ring (node_at ns up).parent up g.child (is_child ns ws t up z inside) g.is_child)

  pub left_next : (from up : ℕ) → IsLeft ws from up → 0 < up → letter_at ns up < after ns up → IsNext ws from (node_at ns up).sibling
  left_next from up l z rise =
      let inside : up < length ns = within_nodes from up l in
      let here = is_child ns ws t up z inside in
      let n = t.links.next (node_at ns up).parent up here in
      record {
        inside = omega (arith, n.inside, t.size);
        above = λ _. rw (beside from up l z, child_word ns ws t (node_at ns up).parent (node_at ns up).sibling n)
            (below_apart (word ws (node_at ns up).parent) (letter_at ns up) l.suffix (after ns up) [] rise);
        least = λ k hk b. (n.not_root, least inside (t.lower up z inside) n k hk b (compared (word ws (node_at ns up).parent) (word ws k)));
      }
    where
      least : up < length ns → (node_at ns up).parent < up → IsChild ns (node_at ns up).parent (node_at ns up).sibling → (k : ℕ) → k < length ws →
          IsBelow (word ws from) (word ws k) → Compared (word ws (node_at ns up).parent) (word ws k) → (k ≡ (node_at ns up).sibling) ⊎ IsBelow (word ws (node_at ns up).sibling) (word ws k)
      least inside low n k hk b (within [] e) =
          absurd (below_prefix (word ws (node_at ns up).parent) (letter_at ns up ∷ l.suffix) (rw (beside from up l z, e, append-nil (word ws (node_at ns up).parent)) at b))
      least inside low n k hk b (within (c ∷ r) e) =
          let above : letter_at ns up < c = greater from up l z k hk b c r e in
          let g = goes_through ns ws t k (omega (arith, hk, t.size)) (node_at ns up).parent (omega (arith, low, inside)) c r e in
          let step = t.links.ring (node_at ns up).parent up g.child (is_child ns ws t up z inside) g.is_child in
          elim (cases_lt (after ns up) c) as (λ _. (k ≡ (node_at ns up).sibling) ⊎ IsBelow (word ws (node_at ns up).sibling) (word ws k)) [
            | inl h ↦ inr (rw (child_word ns ws t (node_at ns up).parent (node_at ns up).sibling n, e) (below_apart (word ws (node_at ns up).parent) (after ns up) [] c r h))
            | inr h ↦
                let same : after ns up ≡ c = omega (arith, h, step, above, g.letter) in
                at_or_after (node_at ns up).sibling k (omega (arith, n.inside, t.size)) hk r (e ∙ joined (node_at ns up).parent (node_at ns up).sibling c r n same)
          ]
      least inside low n k hk b (beyond a v e) = absurd (below_prefix (word ws k) (a ∷ v ++ letter_at ns up ∷ l.suffix)
          (rw (beside from up l z, e, append_assoc (word ws k) (a ∷ v) (letter_at ns up ∷ l.suffix)) at b))
      least inside low n k hk b (apart f x u y v e d h) =
          elim h as (λ _. (k ≡ (node_at ns up).sibling) ⊎ IsBelow (word ws (node_at ns up).sibling) (word ws k)) [
            | inl g ↦ inr (rw (child_word ns ws t (node_at ns up).parent (node_at ns up).sibling n, e, d, append_assoc f (x ∷ u) (after ns up ∷ []))
                (below_apart f x (u ++ after ns up ∷ []) y v g))
            | inr g ↦ absurd (not_down f x (u ++ letter_at ns up ∷ l.suffix) y v
                (rw (beside from up l z, d, e, append_assoc f (x ∷ u) (letter_at ns up ∷ l.suffix)) at b) g)
          ]

  pub left_all : (from : ℕ) → IsLeft ws from 0 → IsNext ws from 0
  left_all from l = record {
    inside = omega (arith, t.some, t.size);
    above = λ z. absurd (omega (arith, z));
    least = λ k hk b. absurd (l.none k hk b (word ws k) (rw t.root refl));
  }
