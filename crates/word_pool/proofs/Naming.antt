-- A node names another of its children.
use Rattle.std.proofs.Common.{◌≡◌, ℕ, ◌<◌, List, length, set, ap, sym, ◌∙◌, inl, inr}
use Rattle.std.proofs.lemmas.Bool.{cases_eq}
use Rattle.std.proofs.lemmas.List.{get_or-set_same, get_or-set_other, length-set}
use Rattle.word_pool.specs.declared.trie.Node.{Node}
use Rattle.word_pool.specs.Trie.{no_node, node_at, words_of, IsChild, IsLinked, IsTrie}
use Rattle.word_pool.proofs.Nodes.{same_words}

-- the node with another child named
abbrev pub naming : Node → ℕ → Node
naming n c = record { parent = n.parent; letter = n.letter; depth = n.depth; child = c; sibling = n.sibling }

module _ (ns : List Node) (n : Node) (p c : ℕ) (e : n ≡ node_at ns p) (hp : p < length ns) where
  at_same : node_at (set ns p (naming n c)) p ≡ naming n c
  at_same = get_or-set_same ns p (naming n c) no_node hp

  at_other : (j : ℕ) → ¬ (j ≡ p) → node_at (set ns p (naming n c)) j ≡ node_at ns j
  at_other j h = get_or-set_other ns p j (naming n c) no_node h

  parents : (j : ℕ) → (node_at (set ns p (naming n c)) j).parent ≡ (node_at ns j).parent
  parents j = elim (cases_eq j p) as (λ _. (node_at (set ns p (naming n c)) j).parent ≡ (node_at ns j).parent) [
    | inl d ↦ let d' : j ≡ p = d in rw (d', at_same) (ap (λ x. x.parent) e)
    | inr d ↦ ap (λ x. x.parent) (at_other j d)
  ]

  letters : (j : ℕ) → (node_at (set ns p (naming n c)) j).letter ≡ (node_at ns j).letter
  letters j = elim (cases_eq j p) as (λ _. (node_at (set ns p (naming n c)) j).letter ≡ (node_at ns j).letter) [
    | inl d ↦ let d' : j ≡ p = d in rw (d', at_same) (ap (λ x. x.letter) e)
    | inr d ↦ ap (λ x. x.letter) (at_other j d)
  ]

  depths : (j : ℕ) → (node_at (set ns p (naming n c)) j).depth ≡ (node_at ns j).depth
  depths j = elim (cases_eq j p) as (λ _. (node_at (set ns p (naming n c)) j).depth ≡ (node_at ns j).depth) [
    | inl d ↦ let d' : j ≡ p = d in rw (d', at_same) (ap (λ x. x.depth) e)
    | inr d ↦ ap (λ x. x.depth) (at_other j d)
  ]

  siblings : (j : ℕ) → (node_at (set ns p (naming n c)) j).sibling ≡ (node_at ns j).sibling
  siblings j = elim (cases_eq j p) as (λ _. (node_at (set ns p (naming n c)) j).sibling ≡ (node_at ns j).sibling) [
    | inl d ↦ let d' : j ≡ p = d in rw (d', at_same) (ap (λ x. x.sibling) e)
    | inr d ↦ ap (λ x. x.sibling) (at_other j d)
  ]

  pub words_named : words_of (set ns p (naming n c)) ≡ words_of ns
  words_named = same_words (set ns p (naming n c)) ns (length-set ns p (naming n c)) parents letters depths

  forth : (q j : ℕ) → IsChild ns q j → IsChild (set ns p (naming n c)) q j
  forth q j k = record { not_root = k.not_root; inside = rw (length-set ns p (naming n c)) k.inside; parent = parents j ∙ k.parent }

  back : (q j : ℕ) → IsChild (set ns p (naming n c)) q j → IsChild ns q j
  back q j k = record { not_root = k.not_root; inside = rw (length-set ns p (naming n c)) at k.inside; parent = sym (parents j) ∙ k.parent }

  linked_named : IsLinked ns → IsChild ns p c → IsLinked (set ns p (naming n c))
  linked_named l k = record {
    named = λ q z. elim (cases_eq q p) as (λ _. IsChild (set ns p (naming n c)) q (node_at (set ns p (naming n c)) q).child) [
      | inl d ↦ let d' : q ≡ p = d in rw (d', at_same) (forth p c k)
      | inr d ↦ rw (at_other q d) (forth q (node_at ns q).child (l.named q (rw (at_other q d) at z)))
    ];
    some = λ q j h. elim (cases_eq q p) as (λ _. 0 < (node_at (set ns p (naming n c)) q).child) [
      | inl d ↦ let d' : q ≡ p = d in rw (d', at_same) k.not_root
      | inr d ↦ rw (at_other q d) (l.some q j (back q j h))
    ];
    next = λ q j h. rw (siblings j) (forth q (node_at ns j).sibling (l.next q j (back q j h)));
    ring = λ q j i h g. rw (siblings j, letters j, letters i, letters (node_at ns j).sibling) (l.ring q j i (back q j h) (back q i g));
  }

  pub trie_named : (ws : List (List ℕ)) → IsTrie ns ws → IsChild ns p c → IsTrie (set ns p (naming n c)) ws
  trie_named ws t k =
      let size = length-set ns p (naming n c) in
      record {
        some = rw (size) t.some;
        few = rw (size) t.few;
        size = t.size ∙ sym size;
        root = t.root;
        lower = λ j z h. rw (parents j) (t.lower j z (rw (size) at h));
        extends = λ j z h. rw (parents j, letters j) (t.extends j z (rw (size) at h));
        depths = λ j h. depths j ∙ t.depths j (rw (size) at h);
        different = λ i j h g. t.different i j (rw (size) at h) (rw (size) at g);
        links = linked_named t.links k;
      }
