-- What a line says whose first token is a word.
use Rattle.std.proofs.Common.{◌≡◌, ℕ, ◌≤◌, ◌-◌, Bool, true, false, cond, List, [], ◌∷◌, length, map, take, drop, get_or, codes, refl, sym, ap, ◌∙◌, arith, Option}
use Rattle.std.specs.Str.{bytes_eq}
use Rattle.std.proofs.lemmas.List.{take_all}
use Rattle.strict_lines.specs.Lines.{Token}
use Rattle.strict_lines.specs.declared.pieces.Piece.{Piece}
use Rattle.strict_lines.specs.declared.pieces.Piece.TheVariants as piece
use Rattle.strict_lines.specs.Pieces.{said}
use Rattle.suite_reading.specs.declared.place.LineKind.{LineKind}
use Rattle.suite_reading.specs.declared.place.LineKind.TheVariants as kind
use Rattle.suite_reading.specs.Items.{Item}
use Rattle.suite_reading.specs.inside.Said.{word_item, item_of}
use Rattle.suite_reader.specs.inside.Words.{kind_of, item_by}

push : {A B : Type 0} (f : A → B) (b : Bool) (x y : A) → f (cond b x y) ≡ cond b (f x) (f y)
push f true x y = refl
push f false x y = refl

-- one more word that is none of the kinds so far
over : (f : LineKind → Option Item) (b : Bool) (k rest : LineKind) (o : Option Item) → f rest ≡ o → f (cond b k rest) ≡ cond b (f k) o
over f b k rest o e = push f b k rest ∙ ap (λ x. cond b (f k) x) e

pub word_by : (w : List ℕ) (tokens : List Token) → word_item w tokens ≡ item_by (kind_of w) w tokens
word_by w tokens =
    sym (over f (bytes_eq w (codes "test")) kind.Test _ _ (over f (bytes_eq w (codes "class")) kind.Class _ _
    (over f (bytes_eq w (codes "cover")) kind.Cover _ _ (over f (bytes_eq w (codes "mark")) kind.Mark _ _
    (over f (bytes_eq w (codes "input")) kind.Input _ _ (over f (bytes_eq w (codes "output")) kind.Output _ _
    (over f (bytes_eq w (codes "bound")) kind.Bound _ _ (over f (bytes_eq w (codes "states")) kind.States _ _
    (over f (bytes_eq w (codes "end")) kind.End _ _ (over f (bytes_eq w (codes "suite")) kind.Suite kind.Step _ refl))))))))))
  where
    f : LineKind → Option Item
    f k = item_by k w tokens

pub word_first : (ps : List Piece) (d : Piece) (w : _) → 1 ≤ length ps → get_or ps 0 d ≡ piece.Word w → item_of (map said ps) ≡ word_item w.now (map said (take (length ps - 1) (drop 1 ps)))
word_first [] d w h e = absurd (omega (arith, h))
word_first (p ∷ ps) d w h e = let f : p ≡ piece.Word w = e in ap (λ q. item_of (map said (q ∷ ps))) f ∙ ap (λ (x : List Piece). word_item w.now (map said x)) (sym (ap (λ n. take n ps) size ∙ take_all (length ps) ps (omega arith)))
  where
    size : length (p ∷ ps) - 1 ≡ length ps
    size = omega arith
