-- Words that lead pairwise differently, collected until each step from one of them leads alike with one of them.
use Rattle.std.proofs.Common.{◌≡◌, ℕ, zero, suc, ◌+◌, ◌<◌, ◌≤◌, inl, inr, ℤ, List, [], ◌∷◌, ◌++◌, length, get_or, Contains, sym, ap, subst, ◌∙◌, arith}
use Rattle.std.specs.List.{All, AllPairs}
use Rattle.std.proofs.lemmas.List.{append-nil, append_assoc, length-append}
use Rattle.std.proofs.lemmas.List.Elements.{All-nil, All-append, All-push, All-contains, All-contains_itself}
use Rattle.std.proofs.lemmas.List.Kept.{AllPairs-cons}
use Rattle.subject.specs.Alike.{LeadDifferently, HasAtMost}
use Rattle.subject.specs.Meaning.{Meaning}
use Rattle.input_classes.specs.VectorSet.{VectorSet, IsIn, Word, IsWordOf}
use Rattle.input_classes.proofs.CallerLemmas.{contains_cases, contains_later}
use Rattle.subject.proofs.Ranks.{few_apart}

-- a word of the cover and a tail, so short that with the cover it has at most `depth` vectors
pub record IsProduct (s : VectorSet) (cover : List Word) (depth : ℕ) (e : Word) : Type 0 where
  pub first : Word
  pub tail : Word
  pub is : e ≡ first ++ tail
  pub cover_word : Contains cover first
  pub tail_word : IsWordOf s tail
  pub short : length tail + length cover ≤ depth

module _ {T : Type 0} (s : VectorSet) (i : Meaning T) (cover : List Word) (cover_words : All (IsWordOf s) cover) where
  pub record IsSeen (seen : List Word) : Type 0 where
    pub apart : AllPairs (LeadDifferently s i) seen
    pub each : (e : Word) → Contains seen e → IsProduct s cover (length seen) e
    pub keeps : (p : Word) → Contains cover p → Contains seen p

  -- no step from a word that is seen leads differently from all of them
  abbrev pub IsClosed : List Word → Type 0
  IsClosed seen = (e : Word) (x : List ℤ) → Contains seen e → IsIn s x → ((f : Word) → Contains seen f → LeadDifferently s i (e ++ x ∷ []) f) → ⊥

  pub product_word : (depth : ℕ) (e : Word) → IsProduct s cover depth e → IsWordOf s e
  product_word depth e h = subst (IsWordOf s) (sym h.is) (All-append (IsIn s) h.first h.tail (All-contains (IsWordOf s) cover h.first cover_words h.cover_word) h.tail_word)

  pub seen_start : AllPairs (LeadDifferently s i) cover → IsSeen cover
  seen_start apart = record {
    apart = apart;
    each = λ e h. record { first = e; tail = []; is = sym (append-nil e); cover_word = h; tail_word = All-nil (IsIn s); short = omega arith };
    keeps = λ p h. h;
  }

  longer : (depth : ℕ) (e : Word) (x : List ℤ) → IsIn s x → IsProduct s cover depth e → IsProduct s cover (suc depth) (e ++ x ∷ [])
  longer depth e x h p = record {
    first = p.first;
    tail = p.tail ++ x ∷ [];
    is = ap (λ w. w ++ x ∷ []) p.is ∙ append_assoc p.first p.tail (x ∷ []);
    cover_word = p.cover_word;
    tail_word = All-push (IsIn s) p.tail x p.tail_word h;
    short = (let short = p.short in let size = length-append p.tail (x ∷ []) in omega arith);
  }

  deeper : (depth : ℕ) (e : Word) → IsProduct s cover depth e → IsProduct s cover (suc depth) e
  deeper depth e p = record { first = p.first; tail = p.tail; is = p.is; cover_word = p.cover_word; tail_word = p.tail_word; short = (let short = p.short in omega arith) }

  seen_more : (seen : List Word) (e : Word) (x : List ℤ) → IsSeen seen → Contains seen e → IsIn s x → ((f : Word) → Contains seen f → LeadDifferently s i (e ++ x ∷ []) f) → IsSeen ((e ++ x ∷ []) ∷ seen)
  seen_more seen e x h at in' differ = record {
    apart = AllPairs-cons (LeadDifferently s i) (e ++ x ∷ []) seen (λ k d below. differ (get_or seen k d) (All-contains_itself seen k d below)) h.apart;
    each = λ g k. elim (contains_cases (e ++ x ∷ []) g seen k) [
      | inl same ↦ subst (IsProduct s cover (suc (length seen))) same (longer (length seen) e x in' (h.each e at))
      | inr later ↦ deeper (length seen) g (h.each g later)
    ];
    keeps = λ p k. contains_later (e ++ x ∷ []) p seen (h.keeps p k);
  }

  -- at most as many words lead pairwise differently as there are states, counted over these or more words, so it ends
  pub few_seen : (large : VectorSet) (within : (w : Word) → IsWordOf s w → IsWordOf large w) (n : ℕ) → HasAtMost large i n → (seen : List Word) → IsSeen seen → length seen ≤ n
  few_seen large within n most seen h =
      few_apart i large s within seen n (λ k d below. product_word (length seen) (get_or seen k d) (h.each (get_or seen k d) (All-contains_itself seen k d below))) h.apart most

  pub grow : (large : VectorSet) (within : (w : Word) → IsWordOf s w → IsWordOf large w) (n : ℕ) → HasAtMost large i n → (fuel : ℕ) (seen : List Word) → n < length seen + fuel → IsSeen seen → ((final : List Word) → IsSeen final → IsClosed final → ⊥) → ⊥
  grow large within n most zero seen more h done = let few = few_seen large within n most seen h in let no : ⊥ = omega arith in no
  grow large within n most (suc fuel) seen more h done =
      done seen h (λ e x at in' differ. grow large within n most fuel ((e ++ x ∷ []) ∷ seen) (omega arith) (seen_more seen e x h at in' differ) done)
