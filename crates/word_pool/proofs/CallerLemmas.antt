-- Lemmas on words, their orders and the words of a pool, for the crates above.
use Rattle.std.proofs.Common.{◌≡◌, ℕ, ◌<◌, ◌≤◌, List, [], ◌∷◌, ◌++◌, length, get_or, take, drop, zero, suc, subst, refl, ap, sym, ◌∙◌, ◌⊎◌, inl, inr, arith}
use Rattle.std.proofs.lemmas.Bool.{cases_lt, cases_order}
use Rattle.std.proofs.lemmas.List.{get_or_append_left, get_or_push, length_push, take-append-drop}
use Rattle.std.proofs.lemmas.List.Elements.{All-head, All-tail}
use Rattle.std.proofs.lemmas.Option.{get_or_from_slice_get, slice_get-get_or, slice_get_within}
use Rattle.word_pool.specs.Words.{word, words_at, AddsPrefixesOf, AreIds, EntersAfter, IsPrefix, IsPrefixOfOne, Keeps}
use Rattle.word_pool.specs.Order.{IsBelow, IsBefore, IsUpTo}
use Rattle.word_pool.proofs.Orders.{below_itself, below_trans, cases_below}

pub word_kept : (old new : List (List ℕ)) → Keeps old new → (i : ℕ) → i < length old → word new i ≡ word old i
word_kept old new keeps i h = get_or_from_slice_get new i (word old i) [] (keeps i (word old i) (slice_get-get_or old i [] h))

pub length_kept : (old new : List (List ℕ)) → Keeps old new → (i : ℕ) → i < length old → i < length new
length_kept old new keeps i h = slice_get_within new i (word old i) (keeps i (word old i) (slice_get-get_or old i [] h))

-- the words of ids stay as a pool grows
pub words_kept : (old new : List (List ℕ)) → Keeps old new → (ids : List ℕ) → AreIds old ids → words_at new ids ≡ words_at old ids
words_kept old new keeps [] h = refl
words_kept old new keeps (i ∷ ids) h =
    let e = word_kept old new keeps i (All-head (λ k. k < length old) i ids h) in
    let d = words_kept old new keeps ids (All-tail (λ k. k < length old) i ids h) in
    λ k. e k ∷ d k

pub ids_kept : (old new : List (List ℕ)) → Keeps old new → (ids : List ℕ) → AreIds old ids → AreIds new ids
ids_kept old new keeps ids h k d inside = length_kept old new keeps (get_or ids k d) (h k d inside)

pub keeps_itself : (ws : List (List ℕ)) → Keeps ws ws
keeps_itself ws i w h = h

pub keeps_on : (old mid new : List (List ℕ)) → Keeps old mid → Keeps mid new → Keeps old new
keeps_on old mid new h k i w e = k i w (h i w e)

-- the word at a place of a list of ids
pub word_at : (ws : List (List ℕ)) (ids : List ℕ) (k : ℕ) → k < length ids → word (words_at ws ids) k ≡ word ws (get_or ids k 0)
word_at ws [] k h = absurd (omega (arith, h))
word_at ws (i ∷ ids) zero h = refl
word_at ws (i ∷ ids) (suc k) h = word_at ws ids k (omega (arith, h))

-- the first letters of a word are a prefix of it
pub prefix_taken : (n : ℕ) (w : List ℕ) → IsPrefix (take n w) w
prefix_taken n w = (drop n w, sym (take-append-drop n w))

-- one more word was entered
pub prefixes_more : (old mid : List (List ℕ)) (words : List (List ℕ)) → length old ≤ length mid → AddsPrefixesOf old words mid → (w : List ℕ) (new : List (List ℕ)) →
    Keeps mid new → EntersAfter mid [] w new → AddsPrefixesOf old (words ++ w ∷ []) new
prefixes_more old mid words more only w new keeps e i low high = elim (cases_lt i (length mid)) as (λ _. IsPrefixOfOne (words ++ w ∷ []) (word new i)) [
  | inl before ↦
      let p = only i low before in (
        p.0,
        (
          omega (arith, p.1.0, length_push words w),
          rw (word_kept mid new keeps i before, get_or_append_left words (w ∷ []) [] p.0 p.1.0) p.1.1,
        ),
      )
  | inr after ↦
      let p = e.only i after high in
      (length words, (omega (arith, length_push words w), rw (p.1.1, get_or_push words w [] (length words) refl) (prefix_taken p.0 w)))
]

pub before_itself : (u : List ℕ) → IsBefore u u → ⊥
before_itself u (inl h) = omega (arith, h)
before_itself u (inr h) = below_itself u h.1

pub before_trans : (u v w : List ℕ) → IsBefore u v → IsBefore v w → IsBefore u w
before_trans u v w (inl h) (inl k) = inl (omega (arith, h, k))
before_trans u v w (inl h) (inr k) = inl (omega (arith, h, k.0))
before_trans u v w (inr h) (inl k) = inl (omega (arith, h.0, k))
before_trans u v w (inr h) (inr k) = inr (h.0 ∙ k.0, below_trans u v w h.1 k.1)

pub up_to_trans : (u v w : List ℕ) → IsUpTo u v → IsUpTo v w → IsUpTo u w
up_to_trans u v w (inl e) k = let P : List ℕ → Type 0 = λ x. IsUpTo x w in subst P (sym e) k
up_to_trans u v w (inr h) (inl e) = let P : List ℕ → Type 0 = λ x. IsUpTo u x in subst P e (inr h)
up_to_trans u v w (inr h) (inr k) = inr (before_trans u v w h k)

-- a word that stands before another is not as far as that
pub not_up_to : (u v : List ℕ) → IsBefore u v → IsUpTo v u → ⊥
not_up_to u v h (inl e) = before_itself u (let P : List ℕ → Type 0 = λ x. IsBefore u x in subst P e h)
not_up_to u v h (inr k) = before_itself u (before_trans u v u h k)

pub up_to_both : (u v : List ℕ) → IsUpTo u v → IsUpTo v u → u ≡ v
up_to_both u v (inl e) k = e
up_to_both u v (inr h) k = absurd (not_up_to u v h k)

pub cases_before : (u w : List ℕ) → (u ≡ w) ⊎ (IsBefore u w ⊎ IsBefore w u)
cases_before u w = elim (cases_order (length u) (length w)) as (λ _. (u ≡ w) ⊎ (IsBefore u w ⊎ IsBefore w u)) [
  | inl e ↦ elim (cases_below u w) as (λ _. (u ≡ w) ⊎ (IsBefore u w ⊎ IsBefore w u)) [
    | inl d ↦ inl d
    | inr d ↦ elim d as (λ _. (u ≡ w) ⊎ (IsBefore u w ⊎ IsBefore w u)) [ inl b ↦ inr (inl (inr (e, b))) | inr b ↦ inr (inr (inr (sym e, b))) ]
  ]
  | inr d ↦ elim d as (λ _. (u ≡ w) ⊎ (IsBefore u w ⊎ IsBefore w u)) [ inl b ↦ inr (inl (inl b)) | inr b ↦ inr (inr (inl b)) ]
]

-- of words of one length, letters put behind keep the order
below_push : (u v : List ℕ) (b c : ℕ) → length u ≡ length v → IsBelow u v → IsBelow (u ++ b ∷ []) (v ++ c ∷ [])
below_push u [] b c e h = absurd h
below_push [] (y ∷ v) b c e h = absurd (omega (arith, e))
below_push (x ∷ u) (y ∷ v) b c e (inl h) = inl h
below_push (x ∷ u) (y ∷ v) b c e (inr h) = inr (h.0, below_push u v b c (omega (arith, e)) h.1)

pub before_push : (u v : List ℕ) (b c : ℕ) → IsBefore u v → IsBefore (u ++ b ∷ []) (v ++ c ∷ [])
before_push u v b c (inl h) = inl (omega (arith, h, length_push u b, length_push v c))
before_push u v b c (inr h) = inr (omega (arith, h.0, length_push u b, length_push v c), below_push u v b c h.0 h.1)

below_letter : (u : List ℕ) (b c : ℕ) → b < c → IsBelow (u ++ b ∷ []) (u ++ c ∷ [])
below_letter [] b c h = inl h
below_letter (x ∷ u) b c h = inr (refl, below_letter u b c h)

pub before_letter : (u : List ℕ) (b c : ℕ) → b < c → IsBefore (u ++ b ∷ []) (u ++ c ∷ [])
before_letter u b c h = inr (omega (arith, length_push u b, length_push u c), below_letter u b c h)

pub up_to_push : (u v : List ℕ) (b : ℕ) → IsUpTo u v → IsUpTo (u ++ b ∷ []) (v ++ b ∷ [])
up_to_push u v b (inl e) = inl (ap (λ x. x ++ b ∷ []) e)
up_to_push u v b (inr h) = inr (before_push u v b b h)

-- a word that is not empty stands after the empty word
pub empty_first : (w : List ℕ) → IsUpTo [] w
empty_first [] = inl refl
empty_first (a ∷ w) = inr (inl (omega arith))

-- the letter first or the rest first, of words that differ by one letter at their front
pub up_to_cons : (a : ℕ) (u v : List ℕ) → IsUpTo u v → IsUpTo (a ∷ u) (a ∷ v)
up_to_cons a u v (inl e) = inl (ap (λ x. a ∷ x) e)
up_to_cons a u v (inr (inl h)) = inr (inl (omega (arith, h)))
up_to_cons a u v (inr (inr h)) = inr (inr (omega (arith, h.0), inr (refl, h.1)))
