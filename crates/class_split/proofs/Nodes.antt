-- Nodes and their sides.
use Rattle.std.proofs.Common.{◌≡◌, ◌≢◌, ℕ, ◌+◌, ◌<◌, ◌≤◌, ℤ, Bool, true, false, not, List, length, get_or, set, refl, ap, sym, ◌∙◌, arith, subst, below_more, get_or-set_other, get_or-set_same}
use Rattle.std.specs.Prelude.{IsTrue}
use Rattle.std.specs.List.{All}
use Rattle.std.proofs.lemmas.List.{length-set}
use Rattle.lin_form.specs.Atom.{atom_truth}
use Rattle.input_classes.specs.Order.{IsAtMost}
use Rattle.lin_form.specs.declared.atom.Atom.{Atom}
use Rattle.class_split.specs.inside.Region.{IsInRegion, IsRestricted, IsFound}
use Rattle.class_split.specs.inside.Node.{SameUpTo, AreTruths, IsNode, IsSkipped, AreSameRegions, IsSide}
use Rattle.class_split.specs.declared.region.Region.{Region}
use Rattle.class_split.specs.declared.found.Found.{Found}
use Rattle.class_split.specs.declared.node.Node.{Node}
use Rattle.class_split.proofs.Patterns.{SameUpTo-sym}

pub AreTruths-more : (n : ℕ) (atoms : List Atom) (v : List ℤ) (pattern : List Bool) (t : Bool) → n < 128 → ((d : Atom) → atom_truth (get_or atoms n d) v ≡ t) → AreTruths n atoms v pattern → AreTruths (n + 1) atoms v (set pattern n t)
AreTruths-more n atoms v pattern t h e r = record {
  places = length-set pattern n t ∙ r.places;
  truths = λ k d. below_more (λ m. get_or (set pattern n t) m false ≡ atom_truth (get_or atoms m d) v) n
      (λ m l. let ne : m ≢ n = omega (arith, l) in rw get_or-set_other (r.truths m d l))
      (let p = r.places in let lt : n < length pattern = omega (arith, h) in rw get_or-set_same (sym (e d))) k;
}

pub IsSkipped-start : (atoms : List Atom) (n : ℕ) (node : Node) → n ≤ length atoms → IsNode atoms n node → IsSkipped atoms n node n node.pattern
IsSkipped-start atoms n node h r = record { from = omega arith; limit = h; agree = r.agree; truths = r.pattern }

pub IsSkipped-more : (atoms : List Atom) (first : ℕ) (node : Node) (n : ℕ) (pattern : List Bool) (a : Atom) (t : Bool) → length atoms ≤ 128 → n < length atoms → ((d : Atom) → get_or atoms n d ≡ a) → IsInRegion node.region node.vector → ((x : List ℤ) → IsInRegion node.region x → atom_truth a x ≡ t) → IsSkipped atoms first node n pattern → IsSkipped atoms first node (n + 1) (set pattern n t)
IsSkipped-more atoms first node n pattern a t small h at here f r = record {
  from = let k = r.from in omega arith;
  limit = omega (arith, h);
  agree = λ x i k d. below_more (λ m. atom_truth (get_or atoms m d) x ≡ atom_truth (get_or atoms m d) node.vector) n (λ m l. r.agree x i m d l)
      (ap (λ b. atom_truth b x) (at d) ∙ f x i ∙ sym (f node.vector here) ∙ sym (ap (λ b. atom_truth b node.vector) (at d))) k;
  truths = AreTruths-more n atoms node.vector pattern t (omega (arith, small, h)) (λ d. ap (λ b. atom_truth b node.vector) (at d) ∙ f node.vector here) r.truths;
}

-- the node behind the atoms that are skipped
pub IsNode-skipped : (atoms : List Atom) (first : ℕ) (node next : Node) (n : ℕ) → next.region ≡ node.region → next.vector ≡ node.vector → next.is_least ≡ node.is_least → IsNode atoms first node → IsSkipped atoms first node n next.pattern → IsNode atoms n next
IsNode-skipped atoms first node next n e f g r s = record {
  width = rw e r.width;
  shaped = rw e r.shaped;
  few = rw e (let k = r.few in let l = s.from in omega arith);
  agree = rw (e, f) s.agree;
  here = rw (e, f) r.here;
  least = rw (e, f, g) r.least;
  pattern = rw f s.truths;
}

other_truth : (b t : Bool) → (b ≡ not t → ⊥) → b ≡ t
other_truth true true h = refl
other_truth false false h = refl
other_truth true false h = absurd (h refl)
other_truth false true h = absurd (h refl)

-- where the other side is empty, the atom has one truth on all vectors
pub one_truth : (region other : Region) (a : Atom) (t : Bool) → IsRestricted region a (not t) other → ((x : List ℤ) → IsInRegion other x → ⊥) → (x : List ℤ) → IsInRegion region x → atom_truth a x ≡ t
one_truth region other a t r none x i = other_truth (atom_truth a x) t (λ e. none x (r.into x i e))

pub IsNode-one : (atoms : List Atom) (n : ℕ) (node next : Node) (a : Atom) (t : Bool) → n < 128 → ((d : Atom) → get_or atoms n d ≡ a) → next.region ≡ node.region → next.vector ≡ node.vector → next.is_least ≡ node.is_least → next.pattern ≡ set node.pattern n t → ((x : List ℤ) → IsInRegion node.region x → atom_truth a x ≡ t) → IsNode atoms n node → IsNode atoms (n + 1) next
IsNode-one atoms n node next a t h at e f g p one r = record {
  width = rw e r.width;
  shaped = rw e r.shaped;
  few = rw e (let k = r.few in omega arith);
  agree = rw (e, f) (λ x i k d. below_more (λ m. atom_truth (get_or atoms m d) x ≡ atom_truth (get_or atoms m d) node.vector) n (λ m l. r.agree x i m d l)
      (ap (λ b. atom_truth b x) (at d) ∙ one x i ∙ sym (one node.vector r.here) ∙ sym (ap (λ b. atom_truth b node.vector) (at d))) k);
  here = rw (e, f) r.here;
  least = rw (e, f, g) r.least;
  pattern = rw (f, p) (AreTruths-more n atoms node.vector node.pattern t h (λ d. ap (λ b. atom_truth b node.vector) (at d) ∙ one node.vector r.here) r.pattern);
}

AreTruths-same : (n : ℕ) (atoms : List Atom) (v w : List ℤ) (pattern : List Bool) → SameUpTo n atoms v w → AreTruths n atoms v pattern → AreTruths n atoms w pattern
AreTruths-same n atoms v w pattern s r = record { places = r.places; truths = λ k d l. r.truths k d l ∙ s k d l }

-- a side of a node
pub IsSide-from : (atoms : List Atom) (n : ℕ) (node next : Node) (a : Atom) (t : Bool) → n < 128 → ((d : Atom) → get_or atoms n d ≡ a) → IsNode atoms n node → IsRestricted node.region a t next.region → IsInRegion next.region next.vector → (IsTrue next.is_least → (x : List ℤ) → IsInRegion next.region x → IsAtMost next.vector x) → next.pattern ≡ set node.pattern n t → IsSide atoms n node.region t next
IsSide-from atoms n node next a t h at r s here least p = record {
  node = record {
    width = rw (s.width) r.width;
    shaped = s.shaped;
    few = let k = r.few in let l = s.few in omega arith;
    agree = λ x i k d. below_more (λ m. atom_truth (get_or atoms m d) x ≡ atom_truth (get_or atoms m d) next.vector) n
        (λ m l. r.agree x (s.from x i).0 m d l ∙ sym (r.agree next.vector (s.from next.vector here).0 m d l))
        (ap (λ b. atom_truth b x) (at d) ∙ (s.from x i).1 ∙ sym (s.from next.vector here).1 ∙ sym (ap (λ b. atom_truth b next.vector) (at d))) k;
    here = here;
    least = least;
    pattern = rw p (AreTruths-more n atoms next.vector node.pattern t h (λ d. ap (λ b. atom_truth b next.vector) (at d) ∙ (s.from next.vector here).1)
        (AreTruths-same n atoms node.vector next.vector node.pattern (SameUpTo-sym n atoms next.vector node.vector (r.agree next.vector (s.from next.vector here).0)) r.pattern));
  };
  from = λ x i. let f = s.from x i in (f.0, λ d. ap (λ b. atom_truth b x) (at d) ∙ f.1);
  into = λ x i e. s.into x i (sym (ap (λ b. atom_truth b x) (at a)) ∙ e a);
}

pub at_width : {n : ℕ} (atoms : List Atom) (i : ℕ) (a : Atom) → i < length atoms → a ≡ get_or atoms i a → All (λ atom. length atom.coefficients ≡ n) atoms → length a.coefficients ≡ n
at_width {n} atoms i a h e w = let P : Atom → Type 0 = λ b. length b.coefficients ≡ n in subst P (sym e) (w i a h)

pub IsSkipped-end : (atoms : List Atom) (first : ℕ) (node : Node) (n : ℕ) (pattern : List Bool) → length atoms ≤ n → IsSkipped atoms first node n pattern → IsSkipped atoms first node (length atoms) pattern
IsSkipped-end atoms first node n pattern h r =
    let e : n ≡ length atoms = let l = r.limit in omega (arith, h) in
    let P : ℕ → Type 0 = λ m. IsSkipped atoms first node m pattern in
    subst P e r

pub AreSameRegions-itself : (region : Region) → AreSameRegions region region
AreSameRegions-itself region = record { from = λ x h. h; into = λ x h. h }

-- the side of a node on which its vector is
pub IsSide-same : (atoms : List Atom) (n : ℕ) (node next : Node) (a : Atom) (t : Bool) → n < 128 → ((d : Atom) → get_or atoms n d ≡ a) → atom_truth a node.vector ≡ t → IsNode atoms n node → IsRestricted node.region a t next.region → next.vector ≡ node.vector → next.is_least ≡ node.is_least → next.pattern ≡ set node.pattern n t → IsSide atoms n node.region t next
IsSide-same atoms n node next a t h at e r s f g p =
    IsSide-from atoms n node next a t h at r s (rw f (s.into node.vector r.here e)) (rw (f, g) (λ l x i. r.least l x (s.from x i).0)) p

-- the other side, with a vector that is found
pub IsSide-other : (atoms : List Atom) (n : ℕ) (node next : Node) (a : Atom) (t : Bool) (found : Found) → n < 128 → ((d : Atom) → get_or atoms n d ≡ a) → IsNode atoms n node → IsRestricted node.region a t next.region → IsFound next.region found → next.vector ≡ found.vector → next.is_least ≡ found.is_least → next.pattern ≡ set node.pattern n t → IsSide atoms n node.region t next
IsSide-other atoms n node next a t found h at r s k f g p =
    IsSide-from atoms n node next a t h at r s (rw f k.here) (rw (f, g) k.least) p
