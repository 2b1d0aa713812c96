-- The words of a vector of nodes.
use Rattle.std.proofs.Common.{◌≡◌, ℕ, zero, suc, ◌<◌, ◌≤◌, ◌⊎◌, List, [], ◌∷◌, ◌++◌, length, fold, slice_get, Some, Contains, lit<, lit≤, refl, ap, sym, ◌∙◌, inl, inr, arith}
use Rattle.std.proofs.lemmas.Bool.{cases_eq, ne_eqb}
use Rattle.std.proofs.lemmas.List.{get_or_default, length_push, length-append, same_from_push, append_assoc}
use Rattle.std.proofs.lemmas.List.Sums.{fold_push}
use Rattle.std.proofs.lemmas.Option.{slice_get-get_or, get_or_from_slice_get, slice_get_within}
use Rattle.word_pool.specs.declared.trie.Node.{Node}
use Rattle.word_pool.specs.Words.{word, IsProperPrefix, ArePooled}
use Rattle.word_pool.specs.Trie.{no_node, node_at, add_word, words_of, IsChild, IsTrie}

from_end_at : (x : ℕ) (v : List ℕ) → (v ≡ []) ⊎ ((u : List ℕ) × ((b : ℕ) × (v ≡ u ++ b ∷ []))) →
    (x ∷ v ≡ []) ⊎ ((u : List ℕ) × ((b : ℕ) × (x ∷ v ≡ u ++ b ∷ [])))
from_end_at x v (inl e) = inr ([], (x, ap (λ t. x ∷ t) e))
from_end_at x v (inr h) = inr (x ∷ h.0, (h.1.0, ap (λ t. x ∷ t) h.1.1))

-- a list is empty or has a last letter
pub from_end : (v : List ℕ) → (v ≡ []) ⊎ ((u : List ℕ) × ((b : ℕ) × (v ≡ u ++ b ∷ [])))
from_end [] = inl refl
from_end (x ∷ v) = from_end_at x v (from_end v)

pub contained : (ws : List (List ℕ)) (w : List ℕ) → Contains ws w → (i : ℕ) × ((i < length ws) × (word ws i ≡ w))
contained ws w c = (c.0, (c.1, get_or_default ws c.0 [] w c.1 ∙ c.2))

module _ (ns : List Node) (ws : List (List ℕ)) (t : IsTrie ns ws) where
  -- a word is not empty exactly where it is not the first
  pub not_first : (i : ℕ) → i < length ns → (u : List ℕ) (a : ℕ) (v : List ℕ) → word ws i ≡ u ++ a ∷ v → 0 < i
  not_first i h u a v e = elim (cases_eq i 0) as (λ _. 0 < i) [
    | inl z ↦ let d : word ws i ≡ [] = ap (λ k. word ws k) z ∙ t.root in
        absurd (omega (arith, ap (λ s. length s) (sym d ∙ e), length-append u (a ∷ v)))
    | inr n ↦ omega (arith, n)
  ]

  pub is_child : (i : ℕ) → 0 < i → i < length ns → IsChild ns (node_at ns i).parent i
  is_child i z h = record { not_root = z; inside = h; parent = refl }

  -- the children of a node are told apart by their letters
  pub child_word : (p j : ℕ) → IsChild ns p j → word ws j ≡ word ws p ++ (node_at ns j).letter ∷ []
  child_word p j c = t.extends j c.not_root c.inside ∙ ap (λ k. word ws k ++ (node_at ns j).letter ∷ []) c.parent

  pub apart : (p i j : ℕ) → IsChild ns p i → IsChild ns p j → (node_at ns i).letter ≡ (node_at ns j).letter → i ≡ j
  apart p i j c d e = t.different i j c.inside d.inside
      (child_word p i c ∙ (ap (λ a. word ws p ++ a ∷ []) e ∙ sym (child_word p j d)))

-- the child of `q` through which the word `i` goes on from that of `q` with the letter `a`
pub record IsThrough (ns : List Node) (q a i : ℕ) : Type 0 where
  pub child : ℕ
  pub is_child : IsChild ns q child
  pub letter : (node_at ns child).letter ≡ a
  pub upto : child ≤ i

through : (ns : List Node) (ws : List (List ℕ)) (t : IsTrie ns ws) (n i : ℕ) → i < n → i < length ns → (q : ℕ) → q < length ns →
    (a : ℕ) (v : List ℕ) → word ws i ≡ word ws q ++ a ∷ v → IsThrough ns q a i
through ns ws t zero i h inside q hq a v e = absurd (omega (arith, h))
through ns ws t (suc n) i h inside q hq a v e =
    let z : 0 < i = not_first ns ws t i inside (word ws q) a v e in
    let low : (node_at ns i).parent < i = t.lower i z inside in
    let l = t.extends i z inside in
    elim (from_end v) as (λ _. IsThrough ns q a i) [
      | inl d ↦
          let s = same_from_push (word ws (node_at ns i).parent) (word ws q) (node_at ns i).letter a (sym l ∙ (e ∙ ap (λ x. word ws q ++ a ∷ x) d)) in
          record { child = i; is_child = record { not_root = z; inside = inside; parent = t.different _ q (omega (arith, low, inside)) hq s.0 }; letter = s.1; upto = omega arith }
      | inr d ↦
          let s = same_from_push (word ws (node_at ns i).parent) (word ws q ++ a ∷ d.0) (node_at ns i).letter d.1.0
          (sym l ∙ (e ∙ (ap (λ x. word ws q ++ a ∷ x) d.1.1 ∙ sym (append_assoc (word ws q) (a ∷ d.0) (d.1.0 ∷ []))))) in
          let r = through ns ws t n (node_at ns i).parent (omega (arith, low, h)) (omega (arith, low, inside)) q hq a d.0 s.0 in
          record { child = r.child; is_child = r.is_child; letter = r.letter; upto = omega (arith, r.upto, low) }
    ]

module _ (ns : List Node) (ws : List (List ℕ)) (t : IsTrie ns ws) where
  -- a word that goes on from that of `q` goes through a child of `q`
  pub goes_through : (i : ℕ) → i < length ns → (q : ℕ) → q < length ns → (a : ℕ) (v : List ℕ) → word ws i ≡ word ws q ++ a ∷ v → IsThrough ns q a i
  goes_through i inside = through ns ws t (suc i) i (omega arith) inside

  pub prefix_lower : (i : ℕ) → i < length ns → (k : ℕ) → k < length ns → IsProperPrefix (word ws k) (word ws i) → k < i
  prefix_lower i inside k hk h =
      let r = goes_through i inside k hk h.0 h.1.0 h.1.1 in
      omega (arith, t.lower r.child r.is_child.not_root r.is_child.inside, r.is_child.parent, r.upto)

  pub pooled : ArePooled ws
  pooled = record {
    empty = slice_get-get_or ws 0 [] (omega (arith, t.some, t.size)) ∙ ap Some t.root;
    different = λ i j h k. t.different i j (omega (arith, h, t.size)) (omega (arith, k, t.size));
    prefixed = λ i z h. let inside : i < length ns = omega (arith, h, t.size) in
        record { shorter = (node_at ns i).parent; last = (node_at ns i).letter; lower = t.lower i z inside; extends = t.extends i z inside };
  }

-- nodes whose parents, letters and depths are the same have the same words
same_words_from : (ws : List (List ℕ)) (ns ms : List Node) → length ns ≡ length ms →
    ((i : ℕ) → (node_at ns i).parent ≡ (node_at ms i).parent) → ((i : ℕ) → (node_at ns i).letter ≡ (node_at ms i).letter) →
    ((i : ℕ) → (node_at ns i).depth ≡ (node_at ms i).depth) → fold add_word ws ns ≡ fold add_word ws ms
same_words_from ws [] [] e p l d = refl
same_words_from ws [] (m ∷ ms) e p l d = cc
same_words_from ws (n ∷ ns) [] e p l d = cc
same_words_from ws (n ∷ ns) (m ∷ ms) e p l d =
    let hp : n.parent ≡ m.parent = p 0 in
    let hl : n.letter ≡ m.letter = l 0 in
    let hd : n.depth ≡ m.depth = d 0 in
    let first : add_word ws n ≡ add_word ws m = cc in
    ap (λ x. fold add_word x ns) first ∙ same_words_from (add_word ws m) ns ms (cc) (λ i. p (suc i)) (λ i. l (suc i)) (λ i. d (suc i))

pub same_words : (ns ms : List Node) → length ns ≡ length ms →
    ((i : ℕ) → (node_at ns i).parent ≡ (node_at ms i).parent) → ((i : ℕ) → (node_at ns i).letter ≡ (node_at ms i).letter) →
    ((i : ℕ) → (node_at ns i).depth ≡ (node_at ms i).depth) → words_of ns ≡ words_of ms
unfolding words_of
same_words = same_words_from []

-- one more node below the root adds its word
pub words_push : (ns : List Node) (n : Node) → 0 < n.depth → words_of (ns ++ n ∷ []) ≡ words_of ns ++ (word (words_of ns) n.parent ++ n.letter ∷ []) ∷ []
unfolding words_of
words_push ns n h = rw (fold_push add_word [] ns n, ne_eqb n.depth 0 (λ e. omega (arith, e, h))) refl

-- the root alone
alone : IsTrie (no_node ∷ []) ([] ∷ [])
alone = record {
  some = lit< tt;
  few = lit≤ tt;
  size = refl;
  root = refl;
  lower = λ j z h. absurd (omega (arith, z, h));
  extends = λ j z h. absurd (omega (arith, z, h));
  depths = λ j h. elim (cases_eq j 0) as (λ _. (node_at (no_node ∷ []) j).depth ≡ length (word ([] ∷ []) j)) [
    | inl e ↦ let e' : j ≡ 0 = e in rw e' refl
    | inr n ↦ absurd (omega (arith, n, h))
  ];
  different = λ i j h k e. omega (arith, h, k);
  links = record {
    named = λ p z. absurd (childless p z);
    some = λ p j c. absurd (omega (arith, c.not_root, c.inside));
    next = λ p j c. absurd (omega (arith, c.not_root, c.inside));
    ring = λ p k j c d. absurd (omega (arith, c.not_root, c.inside));
  };
}
  where
    childless : (p : ℕ) → 0 < (node_at (no_node ∷ []) p).child → ⊥
    childless zero z = omega (arith, z)
    childless (suc p) z = omega (arith, z)

words_alone : words_of (no_node ∷ []) ≡ [] ∷ []
unfolding words_of
words_alone = refl

pub words_new : (ns : List Node) → ns ≡ no_node ∷ [] → words_of ns ≡ [] ∷ []
words_new ns e = ap words_of e ∙ words_alone

pub trie_new : (ns : List Node) → ns ≡ no_node ∷ [] → IsTrie ns (words_of ns)
trie_new ns e = rw (e, words_alone) alone

depth_upto : (ns : List Node) (ws : List (List ℕ)) (t : IsTrie ns ws) (n j : ℕ) → j < n → j < length ns → (node_at ns j).depth ≤ j
depth_upto ns ws t zero j h inside = absurd (omega (arith, h))
depth_upto ns ws t (suc n) j h inside = elim (cases_eq j 0) as (λ _. (node_at ns j).depth ≤ j) [
  | inl e ↦ let e' : j ≡ 0 = e in omega (arith, t.depths j inside, ap (λ w. length w) (ap (λ k. word ws k) e' ∙ t.root))
  | inr d ↦
      let z : 0 < j = omega (arith, d) in
      let low : (node_at ns j).parent < j = t.lower j z inside in
      let within : (node_at ns j).parent < length ns = omega (arith, low, inside) in
      omega (
        arith,
        t.depths j inside,
        ap (λ w. length w) (t.extends j z inside),
        length_push (word ws (node_at ns j).parent) (node_at ns j).letter,
        t.depths (node_at ns j).parent within,
        depth_upto ns ws t n (node_at ns j).parent (omega (arith, low, h)) within,
        low,
      )
]

-- no word is longer than its number
pub depth_at_most : (ns : List Node) (ws : List (List ℕ)) → IsTrie ns ws → (j : ℕ) → j < length ns → (node_at ns j).depth ≤ j
depth_at_most ns ws t j inside = depth_upto ns ws t (suc j) j (omega arith) inside

-- the child of `p` with the letter `a` is the word of `p` that is followed by `a`
pub found : (ns : List Node) (ws : List (List ℕ)) → IsTrie ns ws → (p a j : ℕ) → IsChild ns p j → (node_at ns j).letter ≡ a → slice_get ws j ≡ Some (word ws p ++ a ∷ [])
found ns ws t p a j c e = slice_get-get_or ws j [] (omega (arith, c.inside, t.size)) ∙ ap Some (child_word ns ws t p j c ∙ ap (λ x. word ws p ++ x ∷ []) e)

pub contains_found : (ws : List (List ℕ)) (w : List ℕ) (j : ℕ) → slice_get ws j ≡ Some w → Contains ws w
contains_found ws w j e = (j, slice_get_within ws j w e, get_or_from_slice_get ws j w w e)

pub prefix_lower_by : (ns : List Node) (ws : List (List ℕ)) → IsTrie ns ws → (all : List (List ℕ)) (number id : ℕ) → ws ≡ all → number ≡ id → id < length all →
    (k : ℕ) → k < length all → IsProperPrefix (word all k) (word all id) → k < number
prefix_lower_by ns ws t all number id v i inside k h p =
    let t' : IsTrie ns all = rw (v) at t in
    let low = prefix_lower ns all t' id (omega (arith, inside, t'.size)) k (omega (arith, h, t'.size)) p in
    omega (arith, low, i)

pub id_inside : (ns : List Node) (ws : List (List ℕ)) → IsTrie ns ws → (all : List (List ℕ)) (number id : ℕ) → ws ≡ all → number ≡ id → id < length all → number < length ns
id_inside ns ws t all number id v i inside = omega (arith, ap (λ w. length w) v, t.size, i, inside)
