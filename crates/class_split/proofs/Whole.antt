-- The partition from the leaves of a box.
use Rattle.std.proofs.Common.{◌≡◌, ℕ, zero, suc, ◌+◌, ◌<◌, ◌≤◌, ℤ, Bool, true, false, List, [], ◌∷◌, ◌++◌, length, map, get_or, take, refl, ap, sym, ◌∙◌, arith, subst, below_more, rules}
use Rattle.std.specs.Prelude.{IsTrue, Contains}
use Rattle.std.specs.List.{All, AllByRecursion, AllZip}
use Rattle.std.proofs.lemmas.List.{length-map}
use Rattle.std.proofs.lemmas.List.Elements.{recursion_from_All, All-from_recursion, All-map, All-weaker}
use Rattle.lin_form.specs.Atom.{atom_truth, IsAsSaid}
use Rattle.lin_form.specs.Range.{IsInRanges}
use Rattle.input_classes.specs.Order.{IsAtMost, AreAscending}
use Rattle.input_classes.specs.Partition.{pattern_of, HasMorePatterns, IsPartition, Partition, IsWitnessed, patterns}
use Rattle.input_classes.specs.VectorSet.{IsInBox}
use Rattle.lin_form.specs.declared.atom.Atom.{Atom}
use Rattle.input_classes.specs.declared.class.Class.{Class}
use Rattle.lin_form.specs.declared.literal.Literal.{Literal}
use Rattle.linear_refuter.specs.Sum.{IsShaped}
use Rattle.class_split.specs.ExactPartition.{IsExactPartition}
use Rattle.class_split.specs.inside.Region.{IsInRegion, IsRestricted, IsFound, IsBoxRegion}
use Rattle.class_split.specs.inside.Node.{IsNode, IsLeaf, leaf_patterns, Adds, IsStart, IsClassOf}
use Rattle.class_split.specs.declared.region.Region.{Region}
use Rattle.class_split.specs.declared.found.Found.{Found}
use Rattle.class_split.specs.declared.node.Node.{Node}
use Rattle.class_split.proofs.Patterns.{ascending_different, same_pattern, pattern_same, patterns_at}

-- the region of a box, as far as its literals were read
pub record IsBoxSoFar (ranges : List (ℤ × ℤ)) (assumed : List Literal) (i : ℕ) (region : Region) : Type 0 where
  pub width : length region.part ≡ length ranges
  pub shaped : IsShaped region.kept.items region.part
  pub few : length region.kept.items ≤ i
  pub from : (x : List ℤ) → IsInRegion region x → IsInRanges ranges x × ((k : ℕ) (d : Literal) → k < i → IsAsSaid (get_or assumed k d) x)
  pub into : (x : List ℤ) → IsInBox ranges assumed x → IsInRegion region x

pub IsBoxSoFar-start : (ranges : List (ℤ × ℤ)) (assumed : List Literal) (region : Region) → region.part ≡ ranges → region.kept.items ≡ [] → IsBoxSoFar ranges assumed 0 region
IsBoxSoFar-start ranges assumed region e f = record {
  width = ap length e;
  shaped = rw f (All-from_recursion _ [] tt);
  few = rw f (omega arith);
  from = λ x h. (rw e at h.inside, λ k d l. absurd (omega (arith, l)));
  into = λ x h. record { inside = rw e h.inside; said = rw f (All-from_recursion _ [] tt) };
}

pub IsBoxSoFar-more : (ranges : List (ℤ × ℤ)) (assumed : List Literal) (i : ℕ) (region next : Region) (l : Literal) → i < length assumed → ((d : Literal) → get_or assumed i d ≡ l) → IsRestricted region l.atom l.holds next → IsBoxSoFar ranges assumed i region → IsBoxSoFar ranges assumed (i + 1) next
IsBoxSoFar-more ranges assumed i region next l h at r s = record {
  width = r.width ∙ s.width;
  shaped = r.shaped;
  few = let a = r.few in let b = s.few in omega arith;
  from = λ x k.
      let a = r.from x k in
      let b = s.from x a.0 in
      (b.0, λ j d. below_more (λ n. IsAsSaid (get_or assumed n d) x) i (λ n m. b.1 n d m) (let P : Literal → Type 0 = λ m. IsAsSaid m x in subst P (sym (at d)) a.1) j);
  into = λ x b. r.into x (s.into x b) (let P : Literal → Type 0 = λ m. IsAsSaid m x in subst P (at l) (b.said i l h));
}

pub IsBoxSoFar-all : (ranges : List (ℤ × ℤ)) (assumed : List Literal) (i : ℕ) (region : Region) → length assumed ≤ i → i ≤ length assumed → IsBoxSoFar ranges assumed i region → IsBoxRegion ranges assumed region
IsBoxSoFar-all ranges assumed i region h g s = record {
  width = s.width;
  shaped = s.shaped;
  few = let a = s.few in omega arith;
  from = λ x k. let a = s.from x k in record { inside = a.0; said = λ j d l. a.1 j d (omega (arith, l)) };
  into = s.into;
}

pub IsStart-from : (atoms : List Atom) (ranges : List (ℤ × ℤ)) (assumed : List Literal) (node : Node) (found : Found) → length assumed ≤ 32 → All (λ atom. length atom.coefficients ≡ length ranges) atoms → IsBoxRegion ranges assumed node.region → IsFound node.region found → node.vector ≡ found.vector → node.is_least ≡ found.is_least → length node.pattern ≡ 128 → IsStart atoms ranges assumed node
IsStart-from atoms ranges assumed node found few width b f e g p = record {
  root = record {
    width = rw (b.width) width;
    shaped = b.shaped;
    few = let a = b.few in omega arith;
    agree = λ x i k d l. absurd (omega (arith, l));
    here = rw e f.here;
    least = rw (e, g) f.least;
    pattern = record { places = p; truths = λ k d l. absurd (omega (arith, l)) };
  };
  from = b.from;
  into = b.into;
}

-- the truths of a leaf are its pattern
pub truths_list : (atoms : List Atom) (v : List ℤ) (pattern : List Bool) → length atoms ≤ length pattern → ((k : ℕ) (d : Atom) → k < length atoms → get_or pattern k false ≡ atom_truth (get_or atoms k d) v) → take (length atoms) pattern ≡ pattern_of atoms v
truths_list [] v pattern h t = refl
truths_list (a ∷ atoms) v [] h t = absurd (omega (arith, h))
truths_list (a ∷ atoms) v (b ∷ pattern) h t =
    let e : b ≡ atom_truth a v = t zero a (omega arith) in
    let r = truths_list atoms v pattern (omega (arith, h)) (λ k d l. t (suc k) d (omega (arith, l))) in
    cc

pub zip_push : {A B : Type 0} (R : A → B → Type 0) (xs : List A) (ys : List B) (x : A) (y : B) → AllZip R xs ys → R x y → AllZip R (xs ++ x ∷ []) (ys ++ y ∷ [])
zip_push R [] [] x y h r = (r, tt)
zip_push R [] (b ∷ ys) x y h r = absurd h
zip_push R (a ∷ xs) [] x y h r = absurd h
zip_push R (a ∷ xs) (b ∷ ys) x y h r = (h.0, zip_push R xs ys x y h.1 r)

zip_length : {A B : Type 0} (R : A → B → Type 0) (xs : List A) (ys : List B) → AllZip R xs ys → length xs ≡ length ys
zip_length R [] [] h = refl
zip_length R [] (b ∷ ys) h = absurd h
zip_length R (a ∷ xs) [] h = absurd h
zip_length R (a ∷ xs) (b ∷ ys) h = let e = zip_length R xs ys h.1 in omega arith

zip_patterns : (atoms : List Atom) (leaves : List Node) (classes : List Class) → AllZip (IsClassOf atoms) leaves classes → map (λ (c : Class). c.pattern) classes ≡ leaf_patterns atoms leaves
zip_patterns atoms [] [] h = refl
zip_patterns atoms [] (c ∷ classes) h = absurd h
zip_patterns atoms (l ∷ leaves) [] h = absurd h
zip_patterns atoms (l ∷ leaves) (c ∷ classes) h = let e = h.0.pattern in let r = zip_patterns atoms leaves classes h.1 in cc

-- the class of a leaf is one of the box
witnessed : (r : Partition) (node leaf : Node) (class : Class) → IsStart r.atoms r.ranges r.assumed node → IsLeaf r.atoms node.region leaf → IsClassOf r.atoms leaf class → IsWitnessed r class
witnessed r node leaf class s l c = record {
  member = (s.from class.witness (l.from class.witness c.here), same_pattern r.atoms class.witness leaf.vector (l.node.agree class.witness c.here) ∙ sym c.pattern);
  least = λ x m. c.least x (l.into x (s.into x m.0) (pattern_same r.atoms x leaf.vector (length r.atoms) (omega arith) (m.1 ∙ c.pattern)));
}

all_witnessed : (r : Partition) (node : Node) (leaves : List Node) (classes : List Class) → IsStart r.atoms r.ranges r.assumed node → AllByRecursion (IsLeaf r.atoms node.region) leaves → AllZip (IsClassOf r.atoms) leaves classes → AllByRecursion (IsWitnessed r) classes
all_witnessed r node [] [] s l z = tt
all_witnessed r node [] (c ∷ classes) s l z = absurd z
all_witnessed r node (leaf ∷ leaves) [] s l z = absurd z
all_witnessed r node (leaf ∷ leaves) (c ∷ classes) s l z = (witnessed r node leaf c s l.0 z.0, all_witnessed r node leaves classes s l.1 z.1)

contains_map : {A B : Type 0} (f : A → B) (xs : List A) (x : A) (k : ℕ) → k < length xs → get_or xs k x ≡ x → Contains (map f xs) (f x)
contains_map f [] x k h e = absurd (omega arith)
contains_map f (a ∷ xs) x zero h e = (0, omega arith, ap f e)
contains_map f (a ∷ xs) x (suc k) h e = let c = contains_map f xs x k (omega (arith, h)) e in (suc c.0, omega (arith, c.1), c.2)

-- the classes of all leaves are the partition
pub IsExactPartition-from : (r : Partition) (node : Node) (leaves : List Node) → All (λ atom. length atom.coefficients ≡ length r.ranges) r.atoms → IsShaped r.assumed r.ranges → length r.assumed ≤ 32 → IsStart r.atoms r.ranges r.assumed node → Adds r.atoms node.region true [] leaves → AllZip (IsClassOf r.atoms) leaves r.classes → IsExactPartition r
IsExactPartition-from r node leaves shaped said few s a z' =
    let atoms = r.atoms in
    let more = a.more in
    let P : List Node → Type 0 = λ ls. AllZip (IsClassOf atoms) ls r.classes in
    let z = subst P a.added z' in
    let e = zip_patterns atoms more r.classes z in
    let n = zip_length (IsClassOf atoms) more r.classes z in
    let m = ap length a.added in
    let first = a.all.0 node.vector s.root.here in
    let exact : IsPartition r = record {
      ascending = let Q : List (List Bool) → Type 0 = λ ps. AreAscending ps in subst Q (sym e) a.ascending;
      witnessed = All-from_recursion (IsWitnessed r) r.classes (all_witnessed r node more r.classes s (recursion_from_All (IsLeaf atoms node.region) more a.leaves) z);
      complete = λ x i.
          let l = a.all.0 x (s.into x i) in
          let c = contains_map (λ (leaf : Node). pattern_of atoms leaf.vector) more l.leaf l.among.0 l.among.1 l.among.2 in
          let Q : List (List Bool) → List Bool → Type 0 = λ ps p. Contains ps p in
          let d : Contains (patterns r) (pattern_of atoms l.leaf.vector) = let S : List (List Bool) → Type 0 = λ ps. Contains ps (pattern_of atoms l.leaf.vector) in subst S (sym e) c in
          let S : List Bool → Type 0 = λ p. Contains (patterns r) p in
          subst S (sym (same_pattern atoms x l.leaf.vector l.same)) d;
    } in
    record {
      exact = exact;
      some = let k = first.among.1 in omega (arith, n);
      few = let k = a.all.1 in omega (arith, n, m);
      shaped = shaped;
      shaped_assumed = said;
      few_assumed = few;
    }

vectors_of : List Node → List (List ℤ)
vectors_of leaves = map (λ (leaf : Node). leaf.vector) leaves

same_map : (atoms : List Atom) (leaves : List Node) → map (pattern_of atoms) (map (λ (leaf : Node). leaf.vector) leaves) ≡ leaf_patterns atoms leaves
same_map atoms [] = refl
same_map atoms (l ∷ leaves) = ap (λ t. pattern_of atoms l.vector ∷ t) (same_map atoms leaves)

-- too many leaves have as many patterns
pub HasMorePatterns-from : (atoms : List Atom) (ranges : List (ℤ × ℤ)) (assumed : List Literal) (node : Node) (leaves : List Node) → IsStart atoms ranges assumed node → Adds atoms node.region false [] leaves → HasMorePatterns 4096 atoms ranges assumed
HasMorePatterns-from atoms ranges assumed node leaves s a =
    let xs = map (λ (leaf : Node). leaf.vector) a.more in
    let e = same_map atoms a.more in
    record {
      vectors = xs;
      more = let n = length-map a.more (λ (leaf : Node). leaf.vector) in let m = ap length a.added in let k = a.all in omega (arith, n, m);
      inside = All-map (IsInBox ranges assumed) (λ (leaf : Node). leaf.vector) a.more (All-weaker (IsLeaf atoms node.region) (λ leaf. IsInBox ranges assumed leaf.vector) (λ leaf l. s.from leaf.vector (l.from leaf.vector l.node.here)) a.more a.leaves);
      different = λ i j x y p q same.
          ascending_different (map (pattern_of atoms) xs) i j (pattern_of atoms x) (pattern_of atoms y) (let Q : List (List Bool) → Type 0 = λ ps. AreAscending ps in subst Q (sym e) a.ascending) (patterns_at atoms xs i x p) (patterns_at atoms xs j y q) same;
    }

pub IsClassOf-from : (atoms : List Atom) (leaf : Node) (class : Class) → length atoms ≤ 128 → IsNode atoms (length atoms) leaf → class.pattern ≡ take (length atoms) leaf.pattern → IsInRegion leaf.region class.witness → ((x : List ℤ) → IsInRegion leaf.region x → IsAtMost class.witness x) → IsClassOf atoms leaf class
IsClassOf-from atoms leaf class short r e here least = record {
  pattern = e ∙ truths_list atoms leaf.vector leaf.pattern (let p = r.pattern.places in omega (arith, short, p)) r.pattern.truths;
  here = here;
  least = least;
}

pub true_is : (b : Bool) → b ≡ true → IsTrue b
true_is true e = search rules
true_is false e = absurd cc

pub leaf_nodes : (atoms : List Atom) (region : Region) (done : Bool) (leaves : List Node) → Adds atoms region done [] leaves → All (IsNode atoms (length atoms)) leaves
leaf_nodes atoms region done leaves a =
    let P : List Node → Type 0 = λ ls. All (IsNode atoms (length atoms)) ls in
    subst P (sym a.added) (All-weaker (IsLeaf atoms region) (IsNode atoms (length atoms)) (λ leaf l. l.node) a.more a.leaves)
