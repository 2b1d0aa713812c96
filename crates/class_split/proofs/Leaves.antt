-- The leaves of a node, from those of its sides.
use Rattle.std.proofs.Common.{◌≡◌, ℕ, ◌<◌, ◌≤◌, ℤ, Bool, true, false, List, [], ◌∷◌, ◌++◌, length, refl, ap, ◌∙◌, arith, inl, inr, subst, append_assoc}
use Rattle.std.specs.Prelude.{MatchBool, IfOk, Result, Ok, Err}
use Rattle.std.specs.List.{All, AllByRecursion}
use Rattle.std.proofs.lemmas.List.{map-append}
use Rattle.std.proofs.lemmas.List.Elements.{recursion_from_All, All-from_recursion, All-append, All-map, All-weaker, Contains-append_left, Contains-append_right}
use Rattle.input_classes.specs.Partition.{pattern_of}
use Rattle.input_classes.specs.Order.{IsPatternBefore}
use Rattle.lin_form.specs.declared.atom.Atom.{Atom}
use Rattle.class_split.specs.inside.Region.{IsInRegion}
use Rattle.class_split.specs.inside.Node.{SameUpTo, IsNode, AreSameRegions, IsSide, IsLeaf, IsLeafOf, leaf_patterns, Adds}
use Rattle.class_split.specs.declared.region.Region.{Region}
use Rattle.class_split.specs.declared.node.Node.{Node}
use Rattle.class_split.proofs.Patterns.{SameUpTo-sym, SameUpTo-trans, truth_at, before_at, ascending_append}

IsLeaf-itself : (atoms : List Atom) (node : Node) → IsNode atoms (length atoms) node → IsLeaf atoms node.region node
IsLeaf-itself atoms node r = record { node = r; from = λ x h. h; into = λ x h s. h }

leaf_all : (atoms : List Atom) (node : Node) (n : ℕ) (new : List Node) (done : Bool) → n ≡ length atoms → IsNode atoms n node → MatchBool done (length new ≤ 4096) (4096 < length new) → MatchBool done (((x : List ℤ) → IsInRegion node.region x → IsLeafOf atoms (node ∷ []) x) × (length new ≤ 4096)) (4096 < length new)
leaf_all atoms node n new false e r m = m
leaf_all atoms node n new true e r m =
    (λ x h. record { leaf = node; among = (0, omega arith, refl); same = λ k d l. r.agree x h k d (omega (arith, e, l)) }, m)

-- a node that agrees on all atoms is added as a leaf
pub Adds-leaf : (atoms : List Atom) (node : Node) (n : ℕ) (done : Bool) (old new : List Node) → n ≡ length atoms → IsNode atoms n node → new ≡ old ++ node ∷ [] → MatchBool done (length new ≤ 4096) (4096 < length new) → Adds atoms node.region done old new
Adds-leaf atoms node n done old new e r a m = record {
  more = node ∷ [];
  added = a;
  leaves = All-from_recursion (IsLeaf atoms node.region) (node ∷ []) (IsLeaf-itself atoms node (let P : ℕ → Type 0 = λ k. IsNode atoms k node in subst P e r), tt);
  ascending = (All-from_recursion (IsPatternBefore (pattern_of atoms node.vector)) [] tt, tt);
  all = leaf_all atoms node n new done e r m;
}

IsLeaf-same : (atoms : List Atom) (region next : Region) (leaf : Node) → AreSameRegions region next → IsLeaf atoms next leaf → IsLeaf atoms region leaf
IsLeaf-same atoms region next leaf s l = record { node = l.node; from = λ x h. s.from x (l.from x h); into = λ x h k. l.into x (s.into x h) k }

all_same : (atoms : List Atom) (region next : Region) (done : Bool) (more new : List Node) → AreSameRegions region next → MatchBool done (((x : List ℤ) → IsInRegion next x → IsLeafOf atoms more x) × (length new ≤ 4096)) (4096 < length new) → MatchBool done (((x : List ℤ) → IsInRegion region x → IsLeafOf atoms more x) × (length new ≤ 4096)) (4096 < length new)
all_same atoms region next false more new s m = m
all_same atoms region next true more new s m = (λ x h. m.0 x (s.into x h), m.1)

-- the leaves of a region with the same vectors
pub Adds-same : (atoms : List Atom) (region next : Region) (done : Bool) (old new : List Node) → AreSameRegions region next → Adds atoms next done old new → Adds atoms region done old new
Adds-same atoms region next done old new s a = record {
  more = a.more;
  added = a.added;
  leaves = All-weaker (IsLeaf atoms next) (IsLeaf atoms region) (λ leaf l. IsLeaf-same atoms region next leaf s l) a.more a.leaves;
  ascending = a.ascending;
  all = all_same atoms region next done a.more new s a.all;
}

-- a leaf of a side is one of the whole
IsLeaf-side : (atoms : List Atom) (n : ℕ) (region : Region) (t : Bool) (next leaf : Node) → n < length atoms → IsSide atoms n region t next → IsLeaf atoms next.region leaf → IsLeaf atoms region leaf
IsLeaf-side atoms n region t next leaf h s l = record {
  node = l.node;
  from = λ x i. (s.from x (l.from x i)).0;
  into = λ x i k. l.into x (s.into x i (λ d. k n d h ∙ (s.from leaf.vector (l.from leaf.vector l.node.here)).1 d)) k;
}

-- too many leaves on the side where atom n does not hold
pub Adds-stop : (atoms : List Atom) (n : ℕ) (region : Region) (low : Node) (old new : List Node) → n < length atoms → IsSide atoms n region false low → Adds atoms low.region false old new → Adds atoms region false old new
Adds-stop atoms n region low old new h s a = record {
  more = a.more;
  added = a.added;
  leaves = All-weaker (IsLeaf atoms low.region) (IsLeaf atoms region) (λ leaf l. IsLeaf-side atoms n region false low leaf h s l) a.more a.leaves;
  ascending = a.ascending;
  all = a.all;
}

-- each leaf of the one side comes before each of the other
one_before : (atoms : List Atom) (n : ℕ) (region : Region) (low high one other : Node) → n < length atoms → ((x y : List ℤ) → IsInRegion region x → IsInRegion region y → SameUpTo n atoms x y) → IsSide atoms n region false low → IsSide atoms n region true high → IsLeaf atoms low.region one → IsLeaf atoms high.region other → IsPatternBefore (pattern_of atoms one.vector) (pattern_of atoms other.vector)
one_before atoms n region low high one other h agree f t l m =
    let a = f.from one.vector (l.from one.vector l.node.here) in
    let b = t.from other.vector (m.from other.vector m.node.here) in
    before_at atoms n one.vector other.vector h (agree one.vector other.vector a.0 b.0) a.1 b.1

all_before : (atoms : List Atom) (n : ℕ) (region : Region) (low high : Node) (fs ts : List Node) → n < length atoms → ((x y : List ℤ) → IsInRegion region x → IsInRegion region y → SameUpTo n atoms x y) → IsSide atoms n region false low → IsSide atoms n region true high → AllByRecursion (IsLeaf atoms low.region) fs → All (IsLeaf atoms high.region) ts → AllByRecursion (λ p. All (IsPatternBefore p) (leaf_patterns atoms ts)) (leaf_patterns atoms fs)
all_before atoms n region low high [] ts h agree f t l m = tt
all_before atoms n region low high (one ∷ fs) ts h agree f t l m = (
  All-map (IsPatternBefore (pattern_of atoms one.vector)) (λ (leaf : Node). pattern_of atoms leaf.vector) ts (All-weaker (IsLeaf atoms high.region) (λ leaf. IsPatternBefore (pattern_of atoms one.vector) (pattern_of atoms leaf.vector)) (λ leaf k. one_before atoms n region low high one leaf h agree f t l.0 k) ts m),
  all_before atoms n region low high fs ts h agree f t l.1 m,
)

two_all : (atoms : List Atom) (n : ℕ) (region : Region) (low high : Node) (done : Bool) (fs ts new : List Node) → n < length atoms → IsSide atoms n region false low → IsSide atoms n region true high → ((x : List ℤ) → IsInRegion low.region x → IsLeafOf atoms fs x) → MatchBool done (((x : List ℤ) → IsInRegion high.region x → IsLeafOf atoms ts x) × (length new ≤ 4096)) (4096 < length new) → MatchBool done (((x : List ℤ) → IsInRegion region x → IsLeafOf atoms (fs ++ ts) x) × (length new ≤ 4096)) (4096 < length new)
two_all atoms n region low high false fs ts new h f t a m = m
two_all atoms n region low high true fs ts new h f t a m = (
  λ x i. elim (truth_at atoms n x h) [
    | inl e ↦ (let l = a x (f.into x i e) in record { leaf = l.leaf; among = Contains-append_left fs ts l.leaf l.among; same = l.same })
    | inr e ↦ (let l = m.0 x (t.into x i e) in record { leaf = l.leaf; among = Contains-append_right fs ts l.leaf l.among; same = l.same })
  ],
  m.1,
)

-- the leaves of both sides
pub Adds-two : (atoms : List Atom) (n : ℕ) (node low high : Node) (done : Bool) (old mid new : List Node) → n < length atoms → IsNode atoms n node → IsSide atoms n node.region false low → IsSide atoms n node.region true high → Adds atoms low.region true old mid → Adds atoms high.region done mid new → Adds atoms node.region done old new
Adds-two atoms n node low high done old mid new h r f t a b =
    let region = node.region in
    let agree : (x y : List ℤ) → IsInRegion region x → IsInRegion region y → SameUpTo n atoms x y = λ x y i j. SameUpTo-trans n atoms x node.vector y (r.agree x i) (SameUpTo-sym n atoms y node.vector (r.agree y j)) in
    record {
      more = a.more ++ b.more;
      added = b.added ∙ ap (λ t. t ++ b.more) a.added ∙ append_assoc old a.more b.more;
      leaves = All-append (IsLeaf atoms region) a.more b.more
          (All-weaker (IsLeaf atoms low.region) (IsLeaf atoms region) (λ leaf l. IsLeaf-side atoms n region false low leaf h f l) a.more a.leaves)
          (All-weaker (IsLeaf atoms high.region) (IsLeaf atoms region) (λ leaf l. IsLeaf-side atoms n region true high leaf h t l) b.more b.leaves);
      ascending = rw map-append (ascending_append (leaf_patterns atoms a.more) (leaf_patterns atoms b.more) a.ascending b.ascending
          (all_before atoms n region low high a.more b.more h agree f t (recursion_from_All (IsLeaf atoms low.region) a.more a.leaves) b.leaves));
      all = two_all atoms n region low high done a.more b.more new h f t a.all.0 b.all;
    }

pub all_results : {E : Type 0} (P Q : Bool → Type 0) (r : Result Bool E) → ((done : Bool) → P done → Q done) → IfOk r P → IfOk r Q
all_results P Q (Ok done) f h = f done h
all_results P Q (Err e) f h = h
