-- What cover and marks have as the pool grows.
use Rattle.std.proofs.Common.{◌≡◌, ℕ, ◌+◌, ◌-◌, ◌<◌, List, [], ◌∷◌, ◌++◌, length, sym, subst, ◌∙◌, arith}
use Rattle.std.proofs.lemmas.List.{length-map}
use Rattle.charset.specs.Marks.{AreMarks}
use Rattle.fsm_core.specs.Machine.{Machine}
use Rattle.state_cover.specs.Cover.{IsCover}
use Rattle.suite_build.specs.declared.BuildError.{BuildError}
use Rattle.suite_build.specs.declared.BuildError.TheVariants as built
use Rattle.suite_build.specs.Refusals.{IsRefusal, IsRefusalOrMemory}
use Rattle.suite_build.proofs.CallerLemmas.{new_pool, prefixes_of_both}
use Rattle.suite_words.specs.Tests.{AreTests}
use Rattle.word_pool.specs.Words.{word, words_at, AddsPrefixesOf, AreIds, ArePrefixesOf, Keeps}
use Rattle.word_pool.proofs.CallerLemmas.{ids_kept, words_kept}
use Rattle.suite_making.specs.inside.Refusals.{AreWordsRefused, refusal_of}
use Rattle.suite_making.specs.inside.Words.{AreWordsOf}

pub refused_or_memory : (n c m : ℕ) (e : BuildError) → IsRefusalOrMemory n c m e → AreWordsRefused n c m (refusal_of e)
refused_or_memory n c m (built.BoundBelow k) h = h
refused_or_memory n c m built.TooManySteps h = h
refused_or_memory n c m built.Memory h = h

pub refused : (n c m : ℕ) (e : BuildError) → IsRefusal n c m e → AreWordsRefused n c m (refusal_of e)
refused n c m (built.BoundBelow k) h = h
refused n c m built.TooManySteps h = h
refused n c m built.Memory h = absurd h

pub cover_kept : (g : Machine) (old new : List (List ℕ)) → Keeps old new → (cs : List ℕ) → AreIds old cs → IsCover g (words_at old cs) → IsCover g (words_at new cs)
cover_kept g old new keeps cs ids h = subst (IsCover g) (sym (words_kept old new keeps cs ids)) h

pub cover_few : (g : Machine) (ws : List (List ℕ)) (cs : List ℕ) → IsCover g (words_at ws cs) → length cs ≡ g.states
cover_few g ws cs h = sym (length-map cs (word ws)) ∙ h.size

-- the pool with cover and marks has only their prefixes
pub front : (g : Machine) (old mid new : List (List ℕ)) (cs ms : List ℕ) → old ≡ [] ∷ [] → 0 < g.states → AreIds mid cs → IsCover g (words_at mid cs) → Keeps old mid →
    AddsPrefixesOf old (words_at mid cs) mid → Keeps mid new → AddsPrefixesOf mid (words_at new ms) new → ArePrefixesOf new (words_at new cs ++ words_at new ms)
front g old mid new cs ms empty some ids h keeps added keeps' added' =
    subst (λ (ws : List (List ℕ)). ArePrefixesOf new (ws ++ words_at new ms)) (sym (words_kept mid new keeps' cs ids))
    (prefixes_of_both (words_at mid cs) (words_at new ms) old mid new
    (subst (λ (ws : List (List ℕ)). ArePrefixesOf ws (words_at mid cs)) (sym empty) (new_pool (words_at mid cs) (omega (arith, some, h.size)))) keeps added keeps' added')

-- the words in the pool with the tests
pub words_all : (g : Machine) (bound : ℕ) (mid new : List (List ℕ)) (cs ms ts : List ℕ) → Keeps mid new → AreIds mid cs → AreIds mid ms → AreIds new ts →
    IsCover g (words_at mid cs) → AreMarks g (words_at mid cs) (words_at mid ms) →
    AreTests g.letters (words_at new cs) (words_at new ms) (bound - g.states + 1) (words_at new ts) → ArePrefixesOf new (words_at new ts) → AreWordsOf g bound new cs ms ts
words_all g bound mid new cs ms ts keeps cover_ids mark_ids test_ids cover marks tests prefixes = record {
  cover_ids = ids_kept mid new keeps cs cover_ids;
  mark_ids = ids_kept mid new keeps ms mark_ids;
  test_ids = test_ids;
  prefixes = prefixes;
  are_cover = cover_kept g mid new keeps cs cover_ids cover;
  are_marks = subst (λ (ws : List (List ℕ)). AreMarks g ws (words_at new ms)) (sym (words_kept mid new keeps cs cover_ids))
      (subst (λ (ws : List (List ℕ)). AreMarks g (words_at mid cs) ws) (sym (words_kept mid new keeps ms mark_ids)) marks);
  are_tests = tests;
}
