-- A vector and the witness of its class, and words of witnesses.
use Rattle.std.proofs.Common.{subst, ◌≡◌, ℤ, List, Contains, sym, ap}
use Rattle.std.specs.Cmp.Lexicographic.{pointwise}
use Rattle.std.specs.Option.{option_map_or}
use Rattle.std.proofs.Math.Bool.{beq}
use Rattle.std.proofs.lemmas.List.Elements.{All-map, All-contains, All-weaker}
use Rattle.input_classes.specs.declared.class.Class.{Class}
use Rattle.input_classes.specs.Partition.{Partition, IsWitnessed, IsPartition, pattern_of, box_of_partition, IsInClass, witnesses, witness_of, in_witnesses, Covers}
use Rattle.input_classes.specs.VectorSet.{VectorSet, Members, IsIn, Word, IsWordOf}
use Rattle.input_classes.proofs.Finding.{find-found, find-some, contains_map, same_pattern, pattern_same}

-- a vector has a class, whose witness stands for it
pub record HasWitness (s : VectorSet) (r : Partition) (x : List ℤ) : Type 0 where
  pub one : Class
  pub there : Contains r.classes one
  pub is : witness_of r x ≡ one.witness
  pub member : IsInClass s r one x
  pub witness : IsInClass s r one one.witness

-- a partition covers its box
pub partition-covers : (r : Partition) → IsPartition r → Covers (box_of_partition r) r
partition-covers r h = record {
  classes = λ x k. find-some (λ (c : Class). pointwise beq c.pattern (pattern_of r.atoms x)) (λ (c : Class). c.pattern) (pattern_of r.atoms x) r.classes (λ c e. pattern_same c.pattern (pattern_of r.atoms x) e) (h.complete x k);
  witnessed = All-weaker (IsWitnessed r) (λ (c : Class). IsInClass (box_of_partition r) r c c.witness) (λ c k. k.member) r.classes h.witnessed;
}

module _ (s : VectorSet) (r : Partition) (covers : Covers s r) where
  pub witnessed : (x : List ℤ) → IsIn s x → HasWitness s r x
  witnessed x h =
      let f = find-found (λ (c : Class). pointwise beq c.pattern (pattern_of r.atoms x)) r.classes (covers.classes x h) in
      record {
        one = f.found;
        there = f.there;
        is = ap (λ o. option_map_or (λ (c : Class). c.witness) o x) f.is;
        member = (h, sym (same_pattern f.found.pattern (pattern_of r.atoms x) f.passes));
        witness = All-contains (λ c. IsInClass s r c c.witness) r.classes f.found covers.witnessed f.there;
      }

  -- the witnesses are vectors of the set
  pub witness-within : (x : List ℤ) → IsIn s x → IsIn s (witness_of r x)
  witness-within x h = let w = witnessed x h in subst (IsIn s) (sym w.is) w.witness.0

  pub witness-member : (x : List ℤ) → IsIn s x → Contains (witnesses r) (witness_of r x)
  witness-member x h = let w = witnessed x h in subst (Contains (witnesses r)) (sym w.is) (contains_map (λ (c : Class). c.witness) r.classes w.one w.there)

  pub members-within : (x : List ℤ) → Contains (witnesses r) x → IsIn s x
  members-within x h = All-contains (IsIn s) (witnesses r) x (All-map (IsIn s) (λ (c : Class). c.witness) r.classes (All-weaker (λ c. IsInClass s r c c.witness) (λ c. IsIn s c.witness) (λ c k. k.0) r.classes covers.witnessed)) h

  pub word-within : (w : Word) → IsWordOf s w → IsWordOf s (in_witnesses r w)
  word-within w h = All-map (IsIn s) (witness_of r) w (All-weaker (IsIn s) _ witness-within w h)

  pub word-member : (w : Word) → IsWordOf s w → IsWordOf (Members (witnesses r)) (in_witnesses r w)
  word-member w h = All-map (Contains (witnesses r)) (witness_of r) w (All-weaker (IsIn s) _ witness-member w h)

  pub words-within : (w : Word) → IsWordOf (Members (witnesses r)) w → IsWordOf s w
  words-within w h = All-weaker (Contains (witnesses r)) (IsIn s) members-within w h
