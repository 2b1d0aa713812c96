-- Lemmas for the crates above: what a pool has before the products are entered.
use Rattle.std.proofs.Common.{◌≡◌, ℕ, ◌+◌, ◌-◌, ◌<◌, ◌≤◌, List, [], ◌∷◌, ◌++◌, length, refl, ap, sym, ◌∙◌, inl, inr, arith}
use Rattle.std.proofs.lemmas.Bool.{cases_lt}
use Rattle.std.proofs.lemmas.List.{get_or_append_left, get_or-append_right, length-append}
use Rattle.word_pool.specs.Words.{word, AddsPrefixesOf, ArePrefixesOf, IsPrefixOfOne, Keeps}
use Rattle.word_pool.proofs.CallerLemmas.{word_kept}

-- a new pool has the empty word alone
pub new_pool : (words : List (List ℕ)) → 0 < length words → ArePrefixesOf ([] ∷ []) words
new_pool words some i h = let e : i ≡ 0 = omega (arith, h) in rw (e) (0, (some, (word words 0, refl)))

module _ (cover marks : List (List ℕ)) where
  in_cover : (u : List ℕ) → IsPrefixOfOne cover u → IsPrefixOfOne (cover ++ marks) u
  in_cover u p = (p.0, (omega (arith, p.1.0, length-append cover marks), (p.1.1.0, get_or_append_left cover marks [] p.0 p.1.0 ∙ p.1.1.1)))

  in_marks : (u : List ℕ) → IsPrefixOfOne marks u → IsPrefixOfOne (cover ++ marks) u
  in_marks u p =
      let at : length cover + p.0 - length cover ≡ p.0 = omega arith in (
        length cover + p.0,
        (
          omega (arith, p.1.0, length-append cover marks),
          (
            p.1.1.0,
            get_or-append_right cover marks (length cover) (length cover + p.0) [] refl (omega arith) ∙ (ap (word marks) at ∙ p.1.1.1),
          ),
        ),
      )

  -- a pool to which a cover and then marks were added
  pub prefixes_of_both : (old mid new : List (List ℕ)) → ArePrefixesOf old cover → Keeps old mid →
      AddsPrefixesOf old cover mid → Keeps mid new → AddsPrefixesOf mid marks new →
      ArePrefixesOf new (cover ++ marks)
  prefixes_of_both old mid new front keeps added keeps' added' i h = elim (cases_lt i (length mid)) as (λ _. IsPrefixOfOne (cover ++ marks) (word new i)) [
    | inr more ↦ in_marks (word new i) (added' i more h)
    | inl less ↦ rw (word_kept mid new keeps' i less) (elim (cases_lt i (length old)) as (λ _. IsPrefixOfOne (cover ++ marks) (word mid i)) [
      | inr more ↦ in_cover (word mid i) (added i more less)
      | inl low ↦ rw (word_kept old mid keeps i low) (in_cover (word old i) (front i low))
    ])
  ]
