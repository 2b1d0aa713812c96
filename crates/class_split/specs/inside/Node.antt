-- Nodes: regions whose vectors agree on the first atoms, and the leaves below them.
use Rattle.std.specs.Prelude.{◌≡◌, ℕ, ◌+◌, ◌≤◌, ◌<◌, ℤ, Bool, true, false, IsTrue, List, ◌++◌, length, map, get_or, Contains, MatchBool}
use Rattle.std.specs.List.{All}
use Rattle.lin_form.specs.Atom.{atom_truth}
use Rattle.input_classes.specs.Order.{AreAscending, IsAtMost}
use Rattle.input_classes.specs.VectorSet.{IsInBox}
use Rattle.input_classes.specs.Partition.{pattern_of}
use Rattle.lin_form.specs.declared.atom.Atom.{Atom}
use Rattle.input_classes.specs.declared.class.Class.{Class}
use Rattle.lin_form.specs.declared.literal.Literal.{Literal}
use Rattle.class_split.specs.Split.{IsEmptyBox}
use Rattle.linear_refuter.specs.Sum.{IsShaped}
use Rattle.linear_refuter.specs.SumEnds.{AreSumEnds}
use Rattle.class_split.specs.inside.Region.{IsInRegion}
use Rattle.class_split.specs.declared.region.Region.{Region}
use Rattle.class_split.specs.declared.node.Node.{Node}
use Rattle.class_split.specs.declared.sides.Sides.{Sides}
use Rattle.class_split.specs.declared.sides.Sides.TheVariants.{One, Two}
use Rattle.class_split.specs.declared.root.Root.{Root}
use Rattle.class_split.specs.declared.root.Root.TheVariants.{Start, Refuted}

-- the first n atoms have the same truths on two vectors
abbrev pub SameUpTo : ℕ → List Atom → List ℤ → List ℤ → Type 0
SameUpTo n atoms x y = (k : ℕ) (d : Atom) → k < n → atom_truth (get_or atoms k d) x ≡ atom_truth (get_or atoms k d) y

-- the truths of the first n atoms on a vector
pub record AreTruths (n : ℕ) (atoms : List Atom) (vector : List ℤ) (pattern : List Bool) : Type 0 where
  pub places : length pattern ≡ 128
  pub truths : (k : ℕ) (d : Atom) → k < n → get_or pattern k false ≡ atom_truth (get_or atoms k d) vector

-- what a node keeps, whose vectors agree on the first n atoms
pub record IsNode (atoms : List Atom) (n : ℕ) (node : Node) : Type 0 where
  pub width : All (λ atom. length atom.coefficients ≡ length node.region.part) atoms
  pub shaped : IsShaped node.region.kept.items node.region.part
  pub few : length node.region.kept.items ≤ 32 + n
  pub agree : (x : List ℤ) → IsInRegion node.region x → SameUpTo n atoms x node.vector
  pub here : IsInRegion node.region node.vector
  pub least : IsTrue node.is_least → (x : List ℤ) → IsInRegion node.region x → IsAtMost node.vector x
  pub pattern : AreTruths n atoms node.vector node.pattern

-- atoms that are seen to have one truth on a node
pub record IsSkipped (atoms : List Atom) (first : ℕ) (node : Node) (n : ℕ) (pattern : List Bool) : Type 0 where
  pub from : first ≤ n
  pub limit : n ≤ length atoms
  pub agree : (x : List ℤ) → IsInRegion node.region x → SameUpTo n atoms x node.vector
  pub truths : AreTruths n atoms node.vector pattern

-- the sum of the n-th atom lies between these numbers on the region
abbrev pub AreEndsAt : List Atom → ℕ → Region → ℤ × ℤ → Type 0
AreEndsAt atoms n region ends =
    (d : Atom) → AreSumEnds region.kept.items region.part (get_or atoms n d).coefficients ends

-- the same for the atom before the n-th, where that is not before the first
abbrev pub AreEndsBefore : List Atom → ℕ → ℕ → Region → ℤ × ℤ → Type 0
AreEndsBefore atoms first n region ends = (k : ℕ) → first ≤ k → k + 1 ≡ n → AreEndsAt atoms k region ends

-- the vectors of two regions are the same
pub record AreSameRegions (one other : Region) : Type 0 where
  pub from : (x : List ℤ) → IsInRegion other x → IsInRegion one x
  pub into : (x : List ℤ) → IsInRegion one x → IsInRegion other x

-- the vectors of a region on which the n-th atom has this truth, as a node
pub record IsSide (atoms : List Atom) (n : ℕ) (region : Region) (holds : Bool) (next : Node) : Type 0 where
  pub node : IsNode atoms (n + 1) next
  pub from : (x : List ℤ) → IsInRegion next.region x
      → IsInRegion region x × ((d : Atom) → atom_truth (get_or atoms n d) x ≡ holds)
  pub into : (x : List ℤ) → IsInRegion region x → ((d : Atom) → atom_truth (get_or atoms n d) x ≡ holds)
      → IsInRegion next.region x

-- the two sides of a region, or the region where one of them is empty
abbrev pub AreSides : List Atom → ℕ → Region → Sides → Type 0
AreSides atoms n region (One next) = IsNode atoms (n + 1) next × AreSameRegions region next.region
AreSides atoms n region (Two low high) = IsSide atoms n region false low × IsSide atoms n region true high

-- a leaf: the vectors of a region that have one pattern
pub record IsLeaf (atoms : List Atom) (region : Region) (leaf : Node) : Type 0 where
  pub node : IsNode atoms (length atoms) leaf
  pub from : (x : List ℤ) → IsInRegion leaf.region x → IsInRegion region x
  pub into : (x : List ℤ) → IsInRegion region x → SameUpTo (length atoms) atoms x leaf.vector → IsInRegion leaf.region x

-- the leaf has the pattern of a vector
pub record IsLeafOf (atoms : List Atom) (leaves : List Node) (x : List ℤ) : Type 0 where
  pub leaf : Node
  pub among : Contains leaves leaf
  pub same : SameUpTo (length atoms) atoms x leaf.vector

abbrev pub leaf_patterns : List Atom → List Node → List (List Bool)
leaf_patterns atoms leaves = map (λ (leaf : Node). pattern_of atoms leaf.vector) leaves

-- what is added: leaves of the region, ascending, all of them if it is done, and else too many
pub record Adds (atoms : List Atom) (region : Region) (done : Bool) (old new : List Node) : Type 0 where
  pub more : List Node
  pub added : new ≡ old ++ more
  pub leaves : All (IsLeaf atoms region) more
  pub ascending : AreAscending (leaf_patterns atoms more)
  pub all : MatchBool done
      (((x : List ℤ) → IsInRegion region x → IsLeafOf atoms more x) × (length new ≤ 4096))
      (4096 < length new)

-- the node of all vectors of a box, or a refutation of the assumed literals
pub record IsStart (atoms : List Atom) (ranges : List (ℤ × ℤ)) (assumed : List Literal) (node : Node) : Type 0 where
  pub root : IsNode atoms 0 node
  pub from : (x : List ℤ) → IsInRegion node.region x → IsInBox ranges assumed x
  pub into : (x : List ℤ) → IsInBox ranges assumed x → IsInRegion node.region x

abbrev pub IsRoot : List Atom → List (ℤ × ℤ) → List Literal → Root → Type 0
IsRoot atoms ranges assumed (Start node) = IsStart atoms ranges assumed node
IsRoot atoms ranges assumed (Refuted tree) = IsEmptyBox ranges assumed tree

-- the class of a leaf: its pattern, and the least of its vectors
pub record IsClassOf (atoms : List Atom) (leaf : Node) (class : Class) : Type 0 where
  pub pattern : class.pattern ≡ pattern_of atoms leaf.vector
  pub here : IsInRegion leaf.region class.witness
  pub least : (x : List ℤ) → IsInRegion leaf.region x → IsAtMost class.witness x
