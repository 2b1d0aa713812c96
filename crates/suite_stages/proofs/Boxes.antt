-- Two sets with the same vectors: words, ranks, covers and shapes over them are the same.
use Rattle.std.proofs.Common.{ℕ, ℤ, List, get_or}
use Rattle.std.proofs.Math.Logic.{∥∥₁_map}
use Rattle.std.proofs.lemmas.List.Elements.{All-weaker}
use Rattle.lin_form.specs.declared.atom.Atom.{Atom}
use Rattle.lin_form.specs.declared.literal.Literal.{Literal}
use Rattle.input_classes.specs.declared.class.Class.{Class}
use Rattle.input_classes.specs.Partition.{witnesses}
use Rattle.input_classes.specs.VectorSet.{VectorSet, IsIn, Word, IsWordOf, box_of}
use Rattle.suite_words.specs.Cover.{IsFirstOfItsKind, IsCoverBy}
use Rattle.subject.specs.Alike.{LeadAlike, HasAtMost, HasRank, IsListed}
use Rattle.subject.specs.Meaning.{LeadsTo, Meaning}
use Rattle.abstract_machine.specs.Reached.{AreAllReached, ReachesExactly}
use Rattle.subject.specs.Shape.{LeadAlikeBy, HasShape}
use Rattle.subject.specs.Suite.{SuiteParts, in_vectors}
use Rattle.class_stages.proofs.Proper.{made_of}

-- each vector of the one is in the other
abbrev pub Has : VectorSet → VectorSet → Type 0
Has s t = (x : List ℤ) → IsIn s x → IsIn t x

word : (s t : VectorSet) → Has s t → (w : Word) → IsWordOf s w → IsWordOf t w
word s t f w h = All-weaker (IsIn s) (IsIn t) f w h

pub lead : {S : Type 0} (s t : VectorSet) (m : Meaning S) → Has t s → (u w : Word) → LeadAlike s m u w → LeadAlike t m u w
lead s t m f u w h v k = h v (word t s f v k)

most : {S : Type 0} (s t : VectorSet) (m : Meaning S) (n : ℕ) → Has s t → Has t s → HasAtMost s m n → HasAtMost t m n
most s t m n f g h = record {
  words = h.words;
  are_words = All-weaker (IsWordOf s) (IsWordOf t) (word s t f) h.words h.are_words;
  few = h.few;
  each = λ w k. ∥∥₁_map (h.each w (word t s g w k)) (listed w);
}
  where
    listed : (w : Word) → IsListed s m h.words w → IsListed t m h.words w
    listed w l = record { like = l.like; there = l.there; alike = lead s t m g w l.like l.alike }

pub rank : {S : Type 0} (s t : VectorSet) (m : Meaning S) (n : ℕ) → Has s t → Has t s → HasRank s m n → HasRank t m n
rank s t m n f g h = record {
  most = most s t m n f g h.most;
  words = h.words;
  are_words = All-weaker (IsWordOf s) (IsWordOf t) (word s t f) h.words h.are_words;
  many = h.many;
  apart = λ i j d less inside alike. h.apart i j d less inside (lead t s m f (get_or h.words i d) (get_or h.words j d) alike);
}

led : {S : Type 0} (s t : VectorSet) (m : Meaning S) → Has s t → (x : S) → LeadsTo s m x → LeadsTo t m x
led s t m f x l = record { word = l.word; is_word = word s t f l.word l.is_word; leads = l.leads }

reached : {S : Type 0} (s t : VectorSet) (m : Meaning S) → Has s t → Has t s → (xs : List S) → AreAllReached s m xs → AreAllReached t m xs
reached s t m f g xs h = record {
  are_reached = record {
    reached = All-weaker (LeadsTo s m) (LeadsTo t m) (led s t m f) xs h.are_reached.reached;
    different = h.are_reached.different;
  };
  each = λ x l. h.each x (led t s m g x l);
}

pub reaches : {S : Type 0} (s t : VectorSet) (m : Meaning S) (n : ℕ) → Has s t → Has t s → ReachesExactly n s m → ReachesExactly n t m
reaches s t m n f g h = record { states = h.states; are_all = reached s t m f g h.states h.are_all; number = h.number }

cover : (c : ℕ) (A B : List ℕ → List ℕ → Type 0) (words : List (List ℕ)) → ((u w : List ℕ) → A u w → B u w) → ((u w : List ℕ) → B u w → A u w) → IsCoverBy c A words → IsCoverBy c B words
cover c A B words to from h = record {
  only = All-weaker (IsFirstOfItsKind c A) (IsFirstOfItsKind c B) (λ p k. record { letters = k.letters; first = λ u l before alike. k.first u l before (from u p alike) }) words h.only;
  each = λ p k. h.each p (record { letters = k.letters; first = λ u l before alike. k.first u l before (to u p alike) });
  ordered = h.ordered;
}

-- a suite keeps its shape where the literals say the same in other words
pub shape : {S : Type 0} (m : Meaning S) (atoms : List Atom) (ranges : List (ℤ × ℤ)) (these those : List Literal) (classes : List Class) (bound : ℕ) (s : SuiteParts) → Has (box_of m.signature these) (box_of m.signature those) → Has (box_of m.signature those) (box_of m.signature these) → HasShape m (made_of atoms ranges those classes) bound s → HasShape m (made_of atoms ranges these classes) bound s
shape m atoms ranges these those classes bound s f g h =
    let u = h.suits in
    let words : List ℕ → Word = in_vectors (witnesses (made_of atoms ranges these classes)) in
    let a = box_of m.signature these in
    let b = box_of m.signature those in
    record {
      suits = record {
        signature = u.signature;
        same_bound = u.same_bound;
        classes = u.classes;
        rank = rank b a m s.states g f u.rank;
        few = u.few;
        cover = cover _ (LeadAlikeBy m (made_of atoms ranges those classes)) (LeadAlikeBy m (made_of atoms ranges these classes)) s.cover (λ v w. lead b a m f (words v) (words w)) (λ v w. lead a b m g (words v) (words w)) u.cover;
        marks = u.marks;
        replies = u.replies;
      };
      tests = h.tests;
    }
