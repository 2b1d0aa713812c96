-- A line of cuts says one thing, which is small.
use Rattle.std.proofs.Common.{◌≡◌, ℕ, ◌+◌, ◌≤◌, List, length, ap}
use Rattle.line_forms.specs.declared.lexeme.Lexeme.{Lexeme}
use Rattle.line_forms.specs.declared.statement.TestForm.{TestForm}
use Rattle.line_forms.specs.declared.cuts.CutsForm.{CutsForm}
use Rattle.line_forms.specs.declared.cuts.CutsForm.TheVariants as cuts
use Rattle.line_forms.specs.Lexemes.{IsLexed}
use Rattle.line_forms.specs.Grammar.{IsTest, test_size}
use Rattle.line_forms.specs.CutForms.{IsCut, IsCutsForm, IsSmallCutsForm}
use Rattle.line_forms.specs.Longest.{in_sum, IsLongest}
use Rattle.line_forms.proofs.Compare.{one_test}
use Rattle.line_forms.proofs.Ends.{settled}
use Rattle.line_forms.proofs.Effects.{at_end}
use Rattle.line_forms.proofs.Unique.{both_end}
use Rattle.line_forms.proofs.Small.{small_test, plain_lexemes}

-- the comparison of a cut is the one that was read
pub cut_same : (ts : List Lexeme) (end : ℕ) (t x : TestForm) → IsLongest (IsTest ts) test_size 1 end t → IsCut ts x → x ≡ t
cut_same ts end t x long is = settled (IsTest ts) test_size in_sum ts 1 end t x long is.1 (at_end in_sum ts (1 + test_size x) is.2)
    (one_test ts 1 x t is.1 long.spelled)

one_cut : (ts : List Lexeme) (a b : TestForm) → IsCut ts a → IsCut ts b → a ≡ b
one_cut ts a b p q = both_end (a ≡ b) in_sum ts 1 (test_size a) (test_size b) (at_end in_sum ts (1 + test_size a) p.2)
    (at_end in_sum ts (1 + test_size b) q.2) (one_test ts 1 a b p.1 q.1)

pub one_cuts : (ts : List Lexeme) (a b : CutsForm) → IsCutsForm ts a → IsCutsForm ts b → a ≡ b
one_cuts ts (cuts.Version n) (cuts.Version m) p q = let h = p.1 in let k = q.1 in cc
one_cuts ts (cuts.Version n) (cuts.Cut t) p q = let h = p.0 in let k = q.0 in cc
one_cuts ts (cuts.Cut t) (cuts.Version m) p q = let h = p.0 in let k = q.0 in cc
one_cuts ts (cuts.Cut t) (cuts.Cut u) p q = ap cuts.Cut (one_cut ts t u p q)

pub small_cuts : (line : List ℕ) (ts : List Lexeme) (said : CutsForm) → IsLexed line ts → length ts ≤ 1024 → IsCutsForm ts said → IsSmallCutsForm said
small_cuts line ts (cuts.Version n) lexed short h = tt
small_cuts line ts (cuts.Cut t) lexed short h = small_test ts 1 t (plain_lexemes line ts lexed) short h.1
