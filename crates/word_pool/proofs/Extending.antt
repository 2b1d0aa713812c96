-- What `extend` does to the nodes, and what that is in words.
use Rattle.std.proofs.Common.{◌≡◌, ℕ, ◌+◌, ◌<◌, List, [], ◌∷◌, ◌++◌, length, take, drop, set, slice_get, Some, Contains, refl, ap, sym, ◌∙◌, inl, inr, arith}
use Rattle.std.proofs.lemmas.Bool.{cases_eq}
use Rattle.std.proofs.lemmas.List.{take_at, length_push, get_or_append_left}
use Rattle.std.proofs.lemmas.Option.{slice_get-get_or, slice_get_within, get_or_from_slice_get}
use Rattle.word_pool.specs.declared.trie.Node.{Node}
use Rattle.word_pool.specs.Words.{word, ArePooled, Enters, Keeps}
use Rattle.word_pool.specs.Trie.{node_at, words_of, IsChild, IsTrie, IsPlace, Links}
use Rattle.word_pool.proofs.Nodes.{contained, contains_found, found, pooled, same_words, words_push}
use Rattle.word_pool.proofs.Rings.{letter_at, IsGrown, grown_by}
use Rattle.word_pool.proofs.Growing.{more, not_there, word_new, trie_more}
use Rattle.word_pool.proofs.Naming.{naming, words_named}

-- the word of `id` that is followed by `a` entered `old` and is the word `i` of `new`
pub record IsEntered (old new : List (List ℕ)) (id a i : ℕ) : Type 0 where
  pub word_there : slice_get new i ≡ Some (word old id ++ a ∷ [])
  pub enters : Enters old (word old id ++ a ∷ []) new
  pub are_pooled : ArePooled new

pub entered_here : (ns : List Node) (n : Node) (p a place : ℕ) → IsTrie ns (words_of ns) → IsChild ns p place → letter_at ns place ≡ a →
    n ≡ node_at ns p → p < length ns → (old : List (List ℕ)) (id : ℕ) → words_of ns ≡ old → p ≡ id →
    IsEntered old (words_of (set ns p (naming n place))) id a place
entered_here ns n p a place t c e f hp old id v i =
    let there = found ns (words_of ns) t p a place c e in
    rw (← v, ← i, words_named ns n p place f hp) (record {
      word_there = there;
      enters = inl (contains_found (words_of ns) (word (words_of ns) p ++ a ∷ []) place there, refl);
      are_pooled = pooled ns (words_of ns) t;
    })

pub words_linked : (ns : List Node) (n : Node) (old new : List Node) (place number : ℕ) → old ≡ ns ++ n ∷ [] → Links old new place number → 0 < n.depth →
    words_of new ≡ more (words_of ns) n.parent n.letter
words_linked ns n old new place number e l d = same_words new old l.size l.parent l.letter l.depth ∙ (ap words_of e ∙ words_push ns n d)

pub missing : (ns : List Node) (p a place : ℕ) → IsTrie ns (words_of ns) → IsPlace ns p a place → (0 < place → ¬ (letter_at ns place ≡ a)) → p < length ns →
    ¬ Contains (words_of ns) (word (words_of ns) p ++ a ∷ [])
missing ns p a place t h fresh hp c =
    let k = contained (words_of ns) (word (words_of ns) p ++ a ∷ []) c in
    not_there ns (words_of ns) t p a place h fresh hp k.0 (omega (arith, k.1.0, t.size)) k.1.1

pub entered_new : (ns new : List Node) (p a place : ℕ) → IsTrie ns (words_of ns) → IsGrown ns new p a place → IsPlace ns p a place →
    (0 < place → ¬ (letter_at ns place ≡ a)) → p < length ns → length ns < 4294967295 → words_of new ≡ more (words_of ns) p a →
    (old : List (List ℕ)) (id number : ℕ) → words_of ns ≡ old → p ≡ id → number ≡ length ns → IsEntered old (words_of new) id a number
entered_new ns new p a place t g h fresh hp few e old id number v i f =
    rw (← v, ← i, e, f) (record {
      word_there = slice_get-get_or (more (words_of ns) p a) (length ns) [] (omega (arith, length_push (words_of ns) (word (words_of ns) p ++ a ∷ []), t.size)) ∙
          ap Some (word_new ns new (words_of ns) t p a place g h fresh hp);
      enters = inr (missing ns p a place t h fresh hp, refl);
      are_pooled = pooled new (more (words_of ns) p a) (trie_more ns new (words_of ns) t p a place g h fresh hp few);
    })

-- the elements of a vector after a write of all of them
pub written : (new old : List Node) (len : ℕ) → length new ≡ length old → len ≡ length old → take len (new ++ drop (length new) old) ≡ new
written new old len e f = take_at new (drop (length new) old) len (sym (f ∙ sym e))

pub missing_by : (ns : List Node) (p a place : ℕ) → IsTrie ns (words_of ns) → IsPlace ns p a place → (0 < place → ¬ (letter_at ns place ≡ a)) → p < length ns →
    (old : List (List ℕ)) (id : ℕ) → words_of ns ≡ old → p ≡ id → ¬ Contains old (word old id ++ a ∷ [])
missing_by ns p a place t h fresh hp old id v i = rw (← v, ← i) (missing ns p a place t h fresh hp)

-- the nodes after a push and a link
pub record IsLinkedIn (ns new : List Node) (p a place : ℕ) : Type 0 where
  pub grows : IsGrown ns new p a place
  pub words : words_of new ≡ more (words_of ns) p a

pub linked_in : (ns : List Node) (p a depth number : ℕ) (pushed new : List Node) (place : ℕ) →
    pushed ≡ ns ++ record { parent = p; letter = a; depth = depth; child = 0; sibling = number } ∷ [] → number ≡ length ns → Links pushed new place number →
    p < length ns → place < length ns → depth ≡ (node_at ns p).depth + 1 → IsLinkedIn ns new p a place
linked_in ns p a depth number pushed new place e f l hp hq d =
    let n : Node = record { parent = p; letter = a; depth = depth; child = 0; sibling = number } in
    record {
      grows = grown_by ns n pushed new place number e f l hp hq refl refl d;
      words = words_linked ns n pushed new place number e l (omega (arith, d));
    }

pub place_inside : (ns : List Node) (p a place : ℕ) → p < length ns → IsPlace ns p a place → place < length ns
place_inside ns p a place hp h = elim (cases_eq place 0) as (λ _. place < length ns) [
  | inl e ↦ omega (arith, e, hp)
  | inr n ↦ (h.child (omega (arith, n))).inside
]

pub keeps_same : (old new : List (List ℕ)) → new ≡ old → Keeps old new
keeps_same old new e i w h = rw (e) h

keeps_more : (old : List (List ℕ)) (v : List ℕ) → Keeps old (old ++ v ∷ [])
keeps_more old v i w h =
    let inside : i < length old = slice_get_within old i w h in
    slice_get-get_or (old ++ v ∷ []) i [] (omega (arith, length_push old v, inside)) ∙
    ap Some (get_or_append_left old (v ∷ []) [] i inside ∙ get_or_from_slice_get old i w [] h)

pub keeps_entered : (old : List (List ℕ)) (v : List ℕ) (new : List (List ℕ)) → Enters old v new → Keeps old new
keeps_entered old v new (inl h) = keeps_same old new h.1
keeps_entered old v new (inr h) = rw (h.1) (keeps_more old v)
