-- A word and its word of witnesses, where the members of each class act alike.
use Rattle.std.proofs.Common.{◌≡◌, ℤ, List, [], ◌∷◌, ◌++◌, refl, sym, ap, ◌∙◌}
use Rattle.std.proofs.lemmas.List.{append-nil, append_assoc}
use Rattle.std.proofs.lemmas.List.Elements.{All-nil, All-head, All-tail, All-append, All-push}
use Rattle.input_classes.specs.Partition.{Partition, witness_of, in_witnesses, Covers}
use Rattle.input_classes.specs.VectorSet.{VectorSet, IsIn, Word, IsWordOf}
use Rattle.input_classes.proofs.CallerLemmas.{witnessed, witness-within}
use Rattle.subject.specs.Alike.{ActsLike, MembersActAlike}
use Rattle.subject.specs.Meaning.{Meaning, answer}

module _ (s : VectorSet) (r : Partition) (covers : Covers s r) where
  module _ {S : Type 0} (m : Meaning S) (alike : MembersActAlike s r m) where
    pub witness-acts : (x : List ℤ) → IsIn s x → ActsLike s m x (witness_of r x)
    witness-acts x h u v p q =
        let w = witnessed s r covers x h in
        alike w.one w.there x w.one.witness w.member w.witness u v p q ∙ ap (λ y. answer m (u ++ y ∷ v)) (sym w.is)

    -- a word in the middle of a word, and its word of witnesses
    pub word-acts : (u w v : Word) → IsWordOf s u → IsWordOf s w → IsWordOf s v → answer m (u ++ (w ++ v)) ≡ answer m (u ++ (in_witnesses r w ++ v))
    word-acts u [] v p h q = refl
    word-acts u (x ∷ w) v p h q =
        let y = witness_of r x in
        let first = All-head (IsIn s) x w h in
        let rest = All-tail (IsIn s) x w h in
        let step = witness-acts x first u (w ++ v) p (All-append (IsIn s) w v rest q) in
        let later = word-acts (u ++ y ∷ []) w v (All-push (IsIn s) u y p (witness-within s r covers x first)) rest q in
        step ∙ sym (ap (answer m) (append_assoc u (y ∷ []) (w ++ v))) ∙ later ∙ ap (answer m) (append_assoc u (y ∷ []) (in_witnesses r w ++ v))

    -- a word and its word of witnesses
    pub answers-witnesses : (w : Word) → IsWordOf s w → answer m w ≡ answer m (in_witnesses r w)
    answers-witnesses w h =
        ap (answer m) (sym (append-nil w)) ∙ word-acts [] w [] (All-nil (IsIn s)) h (All-nil (IsIn s)) ∙ ap (answer m) (append-nil (in_witnesses r w))
