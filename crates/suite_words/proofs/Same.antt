-- What is one on words of letters has the same cover and the same marks.
use Rattle.std.proofs.Common.{◌≡◌, ℕ, ℤ, ◌<◌, ◌↔◌, List, get_or, take, slice_get, Some, sym, ◌∙◌, arith}
use Rattle.std.specs.List.{All}
use Rattle.std.proofs.lemmas.List.Elements.{All-take}
use Rattle.std.proofs.lemmas.Option.{slice_get-get_or}
use Rattle.suite_words.specs.Cover.{AreLetters, IsFirstOfItsKind, IsCoverBy}
use Rattle.suite_words.specs.Marks.{AgreeOnMarks, AreMarksBy, IsNextMark}

module _ (c : ℕ) where
  same_kind : (Alike Like : List ℕ → List ℕ → Type 0) → ((u w : List ℕ) → AreLetters c u → AreLetters c w → Like u w → Alike u w) →
      (p : List ℕ) → IsFirstOfItsKind c Alike p → IsFirstOfItsKind c Like p
  same_kind Alike Like to p f = record { letters = f.letters; first = λ u h b l. f.first u h b (to u p h f.letters l) }

  pub same_cover : (Alike Like : List ℕ → List ℕ → Type 0) → ((u w : List ℕ) → AreLetters c u → AreLetters c w → Alike u w ↔ Like u w) → (cover : List (List ℕ)) →
      IsCoverBy c Alike cover → IsCoverBy c Like cover
  same_cover Alike Like both cover x = record {
    only = λ k d h. same_kind Alike Like (λ u w hu hw l. (both u w hu hw).1 l) (get_or cover k d) (x.only k d h);
    each = λ p f. x.each p (same_kind Like Alike (λ u w hu hw l. (both u w hu hw).0 l) p f);
    ordered = x.ordered;
  }

module _ (n c : ℕ) where
  agree_too : (f g : ℕ → List ℕ → List (List ℤ)) → ((i : ℕ) (w : List ℕ) → i < n → AreLetters c w → f i w ≡ g i w) → (marks : List (List ℕ)) → All (AreLetters c) marks →
      (i j : ℕ) → i < n → j < n → AgreeOnMarks f marks i j → AgreeOnMarks g marks i j
  agree_too f g same marks all i j hi hj a k d h =
      sym (same i (get_or marks k d) hi (all k d h)) ∙ (a k d h ∙ same j (get_or marks k d) hj (all k d h))

  module _ (f g : ℕ → List ℕ → List (List ℤ)) (same : (i : ℕ) (w : List ℕ) → i < n → AreLetters c w → f i w ≡ g i w) (marks : List (List ℕ)) (x : AreMarksBy f n c marks) where
    back : (i : ℕ) (w : List ℕ) → i < n → AreLetters c w → g i w ≡ f i w
    back i w h a = sym (same i w h a)

    -- the marks are words of letters
    letters : 1 < n → All (AreLetters c) marks
    letters many k d h = (x.next k (get_or marks k d) many (slice_get-get_or marks k d h)).letters

    some_letters : 1 < n → (k : ℕ) → All (AreLetters c) (take k marks)
    some_letters many k = All-take (AreLetters c) k marks (letters many)

    next_too : (k : ℕ) (w : List ℕ) → 1 < n → slice_get marks k ≡ Some w → IsNextMark g n c (take k marks) w
    next_too k w many h =
        let m = x.next k w many h in
        let low : m.p < n = omega (arith, m.before, m.inside) in
        record {
          p = m.p;
          q = m.q;
          before = m.before;
          inside = m.inside;
          agree = agree_too f g same (take k marks) (some_letters many k) m.p m.q low m.inside m.agree;
          first = λ i j less hj a. m.first i j less hj (agree_too g f back (take k marks) (some_letters many k) i j (omega (arith, less, hj)) hj a);
          letters = m.letters;
          differ = λ d. m.differ (same m.p w low m.letters ∙ (d ∙ back m.q w m.inside m.letters));
          least = λ v hv d. m.least v hv (λ e. d (back m.p v low hv ∙ (e ∙ same m.q v m.inside hv)));
        }

    pub same_marks : AreMarksBy g n c marks
    same_marks = record {
      one = x.one;
      next = next_too;
      ends = λ i j less hj a. x.ends i j less hj (agree_too g f back marks (letters (omega (arith, less, hj))) i j (omega (arith, less, hj)) hj a);
    }
