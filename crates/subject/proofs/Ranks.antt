-- Numbers of states: the rank is least, and words of witnesses count the same states.
use Rattle.std.proofs.Common.{◌≡◌, ◌≢◌, ℕ, zero, suc, ◌<◌, ◌≤◌, inl, inr, List, [], ◌∷◌, ◌++◌, length, map, drop, get_or, refl, sym, ap, subst, ◌∙◌, arith}
use Rattle.std.specs.List.{All, AllZip, AllPairs}
use Rattle.std.proofs.Math.Logic.{∥∥₁_elim, ∥∥₁_map}
use Rattle.std.proofs.lemmas.Bool.{cases_lt}
use Rattle.std.proofs.lemmas.Bool.Decides.{Decides-eqb}
use Rattle.std.proofs.lemmas.List.{length-map, get_or-map, get_or_default}
use Rattle.std.proofs.lemmas.List.Elements.{All-nil, All-cons, All-head, All-tail, All-map, All-weaker, All-contains}
use Rattle.std.proofs.lemmas.Map.Made.{IsDistinct-from_AllPairs}
use Rattle.std.proofs.lemmas.Map.Steps.{length-le_from_distinct_below}
use Rattle.std.proofs.lemmas.Map.Views.{Contains-from_any}
use Rattle.subject.specs.Alike.{LeadAlike, LeadDifferently, IsListed, HasAtMost, HasRank}
use Rattle.subject.specs.Meaning.{Meaning, answer, after}
use Rattle.input_classes.specs.Partition.{Partition, witnesses, in_witnesses, Covers}
use Rattle.subject.specs.Alike.{MembersActAlike}
use Rattle.input_classes.specs.VectorSet.{VectorSet, Members, IsIn, Word, IsWordOf}
use Rattle.subject.proofs.Lifting.{by_classes, lead_alike_from}
use Rattle.input_classes.proofs.CallerLemmas.{contains_map, word-within, word-member, words-within}
use Rattle.subject.proofs.Witnesses.{word-acts}

-- lists of two types, place by place
length-zipped : {X Y : Type 0} (R : X → Y → Type 0) (xs : List X) (ys : List Y) → AllZip R xs ys → length xs ≡ length ys
length-zipped R [] [] h = refl
length-zipped R [] (y ∷ ys) h = absurd h
length-zipped R (x ∷ xs) [] h = absurd h
length-zipped R (x ∷ xs) (y ∷ ys) h = ap suc (length-zipped R xs ys h.1)

zipped_at : {X Y : Type 0} (R : X → Y → Type 0) (xs : List X) (ys : List Y) (i : ℕ) (d : X) (e : Y) → AllZip R xs ys → i < length xs → R (get_or xs i d) (get_or ys i e)
zipped_at R [] ys i d e h below = let no : ⊥ = omega arith in absurd no
zipped_at R (x ∷ xs) [] i d e h below = absurd h
zipped_at R (x ∷ xs) (y ∷ ys) zero d e h below = h.0
zipped_at R (x ∷ xs) (y ∷ ys) (suc i) d e h below = zipped_at R xs ys i d e h.1 (omega arith)

module _ {S : Type 0} (m : Meaning S) where
  -- the word leads alike with the one at a place
  record IsAt (s : VectorSet) (words : List Word) (w : Word) (p : ℕ) : Type 0 where
    below : p < length words
    alike : LeadAlike s m w (get_or words p [])

  -- places of words
  record HasPlaces (s : VectorSet) (words ws : List Word) : Type 0 where
    places : List ℕ
    each : AllZip (IsAt s words) ws places

  at_place : (s : VectorSet) (words : List Word) (w : Word) (h : IsListed s m words w) → IsAt s words w h.there.0
  at_place s words w h =
      let is = get_or_default words h.there.0 [] h.like h.there.1 ∙ h.there.2 in
      record { below = h.there.1; alike = λ v k. h.alike v k ∙ ap (λ u. after m u v) (sym is) }

  places_of : (s : VectorSet) (words ws : List Word) → All (λ w. (IsListed s m words w → ⊥) → ⊥) ws → (HasPlaces s words ws → ⊥) → ⊥
  places_of s words [] h none = none (record { places = []; each = tt })
  places_of s words (w ∷ ws) h none =
      All-head (λ w. (IsListed s m words w → ⊥) → ⊥) w ws h (λ one. places_of s words ws (All-tail (λ w. (IsListed s m words w → ⊥) → ⊥) w ws h) (λ more.
      none (record { places = one.there.0 ∷ more.places; each = (at_place s words w one, more.each) })))

  places_below : (s : VectorSet) (words ws : List Word) (ps : List ℕ) → AllZip (IsAt s words) ws ps → All (λ p. p < length words) ps
  places_below s words [] [] h = All-nil (λ p. p < length words)
  places_below s words [] (p ∷ ps) h = absurd h
  places_below s words (w ∷ ws) [] h = absurd h
  places_below s words (w ∷ ws) (p ∷ ps) h = All-cons (λ p. p < length words) p ps h.0.below (places_below s words ws ps h.1)

  module _ (s t : VectorSet) (within : (w : Word) → IsWordOf t w → IsWordOf s w) where
    -- words that lead differently have different places
    places_apart : (words ws : List Word) (ps : List ℕ) → AllZip (IsAt s words) ws ps → AllPairs (LeadDifferently t m) ws → AllPairs (λ p q. p ≢ q) ps
    places_apart words ws ps h apart i j d first second same =
        let size = length-zipped (IsAt s words) ws ps h in
        let a = zipped_at (IsAt s words) ws ps i [] d h (omega arith) in
        let b = zipped_at (IsAt s words) ws ps j [] d h (omega arith) in
        apart i j [] first (omega arith) (λ v k.
        a.alike v (within v k) ∙ ap (λ p. after m (get_or words p []) v) same ∙ sym (b.alike v (within v k)))

    few_places : (words ws : List Word) → HasPlaces s words ws → AllPairs (LeadDifferently t m) ws → length ws ≤ length words
    few_places words ws h apart =
        let size = length-zipped (IsAt s words) ws h.places h.each in
        let below = places_below s words ws h.places h.each in
        let distinct = IsDistinct-from_AllPairs Decides-eqb h.places (places_apart words ws h.places h.each apart) in
        let few = length-le_from_distinct_below h.places (length words) distinct (λ q k.
        All-contains (λ p. p < length words) h.places q below (Contains-from_any (λ x y. (Decides-eqb x y).0) q h.places k)) in
        omega arith

    -- words that lead pairwise differently, and of which none leads differently from all of a list, are no more than those
    pub few_listed : (words ws : List Word) → All (λ w. (IsListed s m words w → ⊥) → ⊥) ws → AllPairs (LeadDifferently t m) ws → length ws ≤ length words
    few_listed words ws all apart =
        elim (cases_lt (length words) (length ws)) [
          | inl more ↦ absurd (places_of s words ws all (λ h. let few = few_places words ws h apart in let no : ⊥ = omega arith in no))
          | inr less ↦ less
        ]

    -- words that lead pairwise differently over fewer words are at most as many as the states over more
    pub few_apart : (ws : List Word) (n : ℕ) → All (IsWordOf t) ws → AllPairs (LeadDifferently t m) ws → HasAtMost s m n → length ws ≤ n
    few_apart ws n all apart most =
        let listed = All-weaker (IsWordOf t) (λ w. (IsListed s m most.words w → ⊥) → ⊥) (λ w h none. ∥∥₁_elim (most.each w (within w h)) (λ p q. absurd p) none) ws all in
        let few = few_listed most.words ws listed apart in
        let size = most.few in
        omega arith

    -- a rank over fewer words is at most the number of states over more
    pub rank_within : (k n : ℕ) → HasRank t m k → HasAtMost s m n → k ≤ n
    rank_within k n rank most =
        let few = few_apart rank.words n rank.are_words rank.apart most in
        let many = rank.many in
        omega arith

  pub more_states : (s : VectorSet) (n k : ℕ) → HasAtMost s m n → n ≤ k → HasAtMost s m k
  more_states s n k h le = record { words = h.words; are_words = h.are_words; few = (let few = h.few in omega arith); each = h.each }

  module _ (s : VectorSet) (r : Partition) (covers : Covers s r) (alike : MembersActAlike s r m) where
    -- a word leads alike with its word of witnesses
    pub alike-in_witnesses : (w : Word) → IsWordOf s w → LeadAlike s m w (in_witnesses r w)
    alike-in_witnesses w h v k =
        ap (drop (length w)) (word-acts s r covers m alike [] w v (All-nil (IsIn s)) h k)
        ∙ ap (λ n. drop n (answer m (in_witnesses r w ++ v))) (sym (length-map w _))

    -- words of witnesses need no more states
    pub most_over_witnesses : (n : ℕ) → HasAtMost s m n → HasAtMost (Members (witnesses r)) m n
    most_over_witnesses n h = record {
      words = map (in_witnesses r) h.words;
      are_words = All-map (IsWordOf (Members (witnesses r))) (in_witnesses r) h.words (All-weaker (IsWordOf s) _ (word-member s r covers) h.words h.are_words);
      few = rw length-map h.few;
      each = λ w k. ∥∥₁_map (h.each w (words-within s r covers w k)) (λ a.
          let is_word = All-contains (IsWordOf s) h.words a.like h.are_words a.there in
          record {
            like = in_witnesses r a.like;
            there = contains_map (in_witnesses r) h.words a.like a.there;
            alike = λ v q. a.alike v (words-within s r covers v q) ∙ alike-in_witnesses a.like is_word v (words-within s r covers v q);
          });
    }

    -- nor fewer
    pub most_from_witnesses : (n : ℕ) → HasAtMost (Members (witnesses r)) m n → HasAtMost s m n
    most_from_witnesses n h = record {
      words = h.words;
      are_words = All-weaker (IsWordOf (Members (witnesses r))) (IsWordOf s) (words-within s r covers) h.words h.are_words;
      few = h.few;
      each = λ w k. ∥∥₁_map (h.each (in_witnesses r w) (word-member s r covers w k)) (λ a.
          let like = words-within s r covers a.like (All-contains (IsWordOf (Members (witnesses r))) h.words a.like h.are_words a.there) in
          let lifted = lead_alike_from s r m m covers (by_classes s r m covers alike) (in_witnesses r w) a.like (word-within s r covers w k) like a.alike in
          record { like = a.like; there = a.there; alike = λ v q. alike-in_witnesses w k v q ∙ lifted v q });
    }

    -- the rank is the same
    pub rank_from_witnesses : (n : ℕ) → HasRank (Members (witnesses r)) m n → HasRank s m n
    rank_from_witnesses n h = record {
      most = most_from_witnesses n h.most;
      words = h.words;
      are_words = All-weaker (IsWordOf (Members (witnesses r))) (IsWordOf s) (words-within s r covers) h.words h.are_words;
      many = h.many;
      apart = λ i j d first second a. h.apart i j d first second (λ v k. a v (words-within s r covers v k));
    }

    -- the rank over words of witnesses
    pub rank_over_witnesses : (n : ℕ) → HasRank s m n → HasRank (Members (witnesses r)) m n
    rank_over_witnesses n h = record {
      most = most_over_witnesses n h.most;
      words = map (in_witnesses r) h.words;
      are_words = All-map (IsWordOf (Members (witnesses r))) (in_witnesses r) h.words (All-weaker (IsWordOf s) _ (word-member s r covers) h.words h.are_words);
      many = length-map h.words (in_witnesses r) ∙ h.many;
      apart = λ i j d first second a.
          let second_too : j < length h.words = subst (λ n. j < n) (length-map h.words (in_witnesses r)) second in
          let first_too : i < length h.words = omega arith in
          let x = get_or h.words i [] in
          let y = get_or h.words j [] in
          let over : LeadAlike (Members (witnesses r)) m (in_witnesses r x) (in_witnesses r y) = λ v k.
          ap (λ u. after m u v) (sym (get_or-map (in_witnesses r) h.words i [] d first_too)) ∙ a v k ∙ ap (λ u. after m u v) (get_or-map (in_witnesses r) h.words j [] d second_too) in
          let xs = h.are_words i [] first_too in
          let ys = h.are_words j [] second_too in
          let lifted = lead_alike_from s r m m covers (by_classes s r m covers alike) (in_witnesses r x) (in_witnesses r y) (word-within s r covers x xs) (word-within s r covers y ys) over in
          h.apart i j [] first second_too (λ v k. alike-in_witnesses x xs v k ∙ lifted v k ∙ sym (alike-in_witnesses y ys v k));
    }
