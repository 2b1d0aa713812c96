-- A box with a partition has a vector, and at most 4,096 patterns.
use Rattle.std.proofs.Common.{ℕ, ◌≤◌, ◌<◌, ℤ, List, [], ◌∷◌, length, arith}
use Rattle.std.specs.List.{All}
use Rattle.std.proofs.lemmas.List.Elements.{recursion_from_All}
use Rattle.lin_form.specs.declared.atom.Atom.{Atom}
use Rattle.lin_form.specs.declared.literal.Literal.{Literal}
use Rattle.linear_refuter.specs.Answer.{HasNone}
use Rattle.input_classes.specs.declared.class.Class.{Class}
use Rattle.input_classes.specs.Partition.{HasMorePatterns, IsWitnessed, Partition}
use Rattle.input_classes.proofs.CallerLemmas.{few_patterns}
use Rattle.class_split.specs.ExactPartition.{IsExactPartition}

more_than_fewer : (m n : ℕ) (atoms : List Atom) (ranges : List (ℤ × ℤ)) (assumed : List Literal) → m ≤ n → HasMorePatterns n atoms ranges assumed → HasMorePatterns m atoms ranges assumed
more_than_fewer m n atoms ranges assumed h g = record {
  vectors = g.vectors;
  more = let k = g.more in omega arith;
  inside = g.inside;
  different = g.different;
}

pub not_many : (r : Partition) → IsExactPartition r → HasMorePatterns 4096 r.atoms r.ranges r.assumed → ⊥
not_many r h m = few_patterns r h.exact (more_than_fewer (length r.classes) 4096 r.atoms r.ranges r.assumed h.few m)

one_of : (r : Partition) (classes : List Class) → 0 < length classes → All (IsWitnessed r) classes → HasNone r.assumed r.ranges → ⊥
one_of r [] h w n = absurd (omega (arith, h))
one_of r (c ∷ classes) h w n =
    let k = recursion_from_All (IsWitnessed r) (c ∷ classes) w in
    let i = k.0.member.0 in
    n c.witness i.inside i.said

pub has_vector : (r : Partition) → IsExactPartition r → HasNone r.assumed r.ranges → ⊥
has_vector r h n = one_of r r.classes h.some h.exact.witnessed n
