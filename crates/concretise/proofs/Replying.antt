-- The replies have the outputs' numbers, and the parts of a suite.
use Rattle.std.proofs.Common.{◌≡◌, ℕ, ◌+◌, ◌-◌, ◌<◌, List, [], ◌∷◌, ◌++◌, length, take, get_or, sym, ap, ◌∙◌, subst, arith, ℤ, slice_get, Vec}
use Rattle.std.specs.List.{All}
use Rattle.std.proofs.lemmas.List.{map-append, map_more}
use Rattle.std.proofs.lemmas.List.Elements.{All-weaker, All-map, All-nil}
use Rattle.std.proofs.lemmas.Option.{get_or_from_slice_get}
use Rattle.lin_form.specs.Atom.{IsAsSaid}
use Rattle.lin_form.specs.Signature.{IsInInputRanges}
use Rattle.input_classes.specs.VectorSet.{IsIn, box_of}
use Rattle.subject.specs.Meaning.{Meaning, RepliesFit, IsReached}
use Rattle.subject.specs.Suite.{in_vectors}
use Rattle.subject.proofs.CallerLemmas.{reached_word}
use Rattle.suite_words.specs.Cover.{AreLetters}
use Rattle.suite_model.specs.Pooled.{MakeSuite, lists}
use Rattle.word_pool.specs.Words.{word, words_at, AreIds, ArePooled}
use Rattle.plan_replies.specs.Replies.{AreReplies, reply_of, state_of}
use Rattle.plan_replies.proofs.CallerLemmas.{below_front}
use Rattle.concretise.specs.Concrete.{AreSuiteWords}

module _ {S : Type 0} (m : Meaning S) (vs : List (List ℤ)) where
  abbrev pub vector_of : ℕ → List ℤ
  vector_of a = get_or vs a []

  -- the state of a word of letters is reached
  pub reached : All (IsInInputRanges m.signature.inputs) vs → (u : List ℕ) → AreLetters (length vs) u → IsReached m (state_of m vs u)
  reached inside u below = reached_word (box_of m.signature []) m (in_vectors vs u) (All-map (IsIn (box_of m.signature [])) (λ a. get_or vs a []) u
      (All-weaker (λ a. a < length vs) (λ a. IsIn (box_of m.signature []) (get_or vs a []))
      (λ a h. record { inside = inside a [] h; said = All-nil (λ literal. IsAsSaid literal (get_or vs a [])) }) u below))

  -- each reply has as many numbers as there are outputs
  pub counts_are : (ws : List (List ℕ)) (rs : List (List ℤ)) → ArePooled ws → AreReplies m vs ws rs → RepliesFit m → All (IsInInputRanges m.signature.inputs) vs → All (AreLetters (length vs)) ws → All (λ r. length r ≡ length m.signature.outputs) rs
  counts_are ws rs pooled h fit inside below i d small =
      let within : i + 1 < length ws = omega (arith, small, h.one_each) in
      let x = pooled.prefixed (i + 1) (omega arith) within in
      let both = below_front (word ws x.shorter) x.last (length vs) (subst (AreLetters (length vs)) x.extends (below (i + 1) [] within)) in
      let got = h.each (i + 1) (word ws x.shorter) x.last (omega arith) within x.extends in
      let back : i + 1 - 1 ≡ i = omega arith in
      let is : get_or rs i d ≡ reply_of m vs (word ws x.shorter) x.last = get_or_from_slice_get rs i _ d (ap (slice_get rs) (sym back) ∙ got) in
      ap length is ∙ fit (state_of m vs (word ws x.shorter)) (vector_of x.last) (reached inside (word ws x.shorter) both.0) (inside x.last [] both.1)

  pub words_below : (ws : List (List ℕ)) (n : ℕ) (ids : List ℕ) → All (AreLetters n) ws → AreIds ws ids → All (AreLetters n) (words_at ws ids)
  words_below ws n ids below all = All-map (AreLetters n) (word ws) ids (All-weaker (λ i. i < length ws) (λ i. AreLetters n (word ws i)) (λ i h. below i [] h) ids all)

  pub parts_are : (cover marks : List (List ℕ)) (ws : List (List ℕ)) (cs ms ids : List ℕ) (rs : List (List ℤ)) → ArePooled ws → AreSuiteWords (length vs) ws cs ms ids → AreReplies m vs ws rs →
      RepliesFit m → All (IsInInputRanges m.signature.inputs) vs → cover ≡ words_at ws cs → marks ≡ words_at ws ms → MakeSuite m.signature vs cover marks ws ids rs
  parts_are cover marks ws cs ms ids rs pooled l h fit inside c k = record {
    vectors = inside;
    letters = l.letters;
    cover_letters = subst (All (AreLetters (length vs))) (sym c) (words_below ws (length vs) cs l.letters l.cover_ids);
    mark_letters = subst (All (AreLetters (length vs))) (sym k) (words_below ws (length vs) ms l.letters l.mark_ids);
    are_ids = l.test_ids;
    some_letter = l.some_letter;
    prefixes = l.prefixes;
    one_each = h.one_each;
    counts = counts_are ws rs pooled h fit inside l.letters;
  }

-- one more word as a list of its own
pub words_more : {A : Type 0} (ws : List (List ℕ)) (ids : List ℕ) (i id : ℕ) (vs old : List (Vec ℕ A)) (v : Vec ℕ A) → i < length ids → id ≡ get_or ids i id →
    lists old ≡ words_at ws (take i ids) → v.items ≡ word ws id → vs ≡ old ++ v ∷ [] → lists vs ≡ words_at ws (take (i + 1) ids)
words_more {A} ws ids i id vs old v inside read before is grown =
    ap lists grown ∙ map-append (λ (w : Vec ℕ A). w.items) old (v ∷ []) ∙ ap (λ l. l ++ v.items ∷ []) before
    ∙ ap (λ w. words_at ws (take i ids) ++ w ∷ []) (is ∙ ap (word ws) read) ∙ sym (map_more (word ws) ids i id inside)
