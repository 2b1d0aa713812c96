-- Literals of assumptions that are put behind others.
use Rattle.std.proofs.Common.{◌≡◌, ℕ, ◌+◌, ◌<◌, ◌↔◌, Bool, true, false, ◌&&◌, List, [], ◌∷◌, ◌++◌, length, length-append, get_or, take, replicate, ℤ, pos, Option, Some, None, Result, Ok, Err, OnOk, IsTrue, All, arith, ap, sym, subst, ◌∙◌, refl}
use Rattle.std.specs.List.{list_all, cons_option, AllByRecursion}
use Rattle.std.proofs.lemmas.Bool.{false≢true}
use Rattle.std.proofs.lemmas.List.{take_more}
use Rattle.std.proofs.lemmas.List.Elements.{All-nil, All-cons, All-head, All-tail, All-get_or, recursion_from_All, All-from_recursion}
use Rattle.lin_form.specs.Atom.{IsAsSaid, IsClaimed, IsClaimOver}
use Rattle.lin_form.specs.Form.{truth_of}
use Rattle.lin_form.specs.declared.form.Comparison.{Comparison}
use Rattle.lin_form.specs.declared.literal.Claim.{Claim}
use Rattle.lin_form.specs.declared.literal.Literal.{Literal}
use Rattle.input_classes.specs.VectorSet.{IsIn, box_of}
use Rattle.chart_model.specs.Chart.{IsAssumption}
use Rattle.chart_model.specs.Box.{IsInBox}
use Rattle.chart_model.specs.declared.chart.Chart.{Chart}
use Rattle.chart_model.proofs.GuardLemmas.{All-back, All-front}
use Rattle.guard_atoms.specs.inside.Claims.{AddsClaim, AreClaims}

joined : {X : Type 0} (P : X → Type 0) (xs ys : List X) → All P xs → All P ys → All P (xs ++ ys)
joined P [] ys h k = k
joined P (x ∷ xs) ys h k = All-cons P x (xs ++ ys) (All-head P x xs h) (joined P xs ys (All-tail P x xs h) k)

single : {X : Type 0} (P : X → Type 0) (x : X) → P x → All P (x ∷ [])
single P x h = All-cons P x [] h (All-nil P)

abbrev Over : ℕ → Literal → Type 0
Over n literal = length literal.atom.coefficients ≡ n

-- the literals of a claim are put behind others
pub adds : (q : Comparison) (old : List Literal) (first : Literal) (second : Option Literal) → ((x memory : List ℤ) → IsTrue (truth_of q x memory) ↔ IsClaimed (record { first = first; second = second }) x) → IsClaimOver (length q.form.inputs) (record { first = first; second = second }) → AddsClaim q old (old ++ (first ∷ cons_option second []))
adds q old first None h w = record {
  says = λ x memory. (
    λ all. (All-front (λ l. IsAsSaid l x) old (first ∷ []) all, (h x memory).1 (record { first = All-head (λ l. IsAsSaid l x) first [] (All-back (λ l. IsAsSaid l x) old (first ∷ []) all); second = tt })),
    λ k. joined (λ l. IsAsSaid l x) old (first ∷ []) k.0 (single (λ l. IsAsSaid l x) first ((h x memory).0 k.1).first),
  );
  few = rw length-append (omega arith);
  width = λ k. joined (Over (length q.form.inputs)) old (first ∷ []) k (single (Over (length q.form.inputs)) first w.first);
}
adds q old first (Some second) h w = record {
  says = λ x memory. (
    λ all. let back = All-back (λ l. IsAsSaid l x) old (first ∷ second ∷ []) all in
        (All-front (λ l. IsAsSaid l x) old (first ∷ second ∷ []) all, (h x memory).1 (record { first = All-head (λ l. IsAsSaid l x) first (second ∷ []) back; second = All-head (λ l. IsAsSaid l x) second [] (All-tail (λ l. IsAsSaid l x) first (second ∷ []) back) })),
    λ k. let c = (h x memory).0 k.1 in joined (λ l. IsAsSaid l x) old (first ∷ second ∷ []) k.0 (All-cons (λ l. IsAsSaid l x) first (second ∷ []) c.first (single (λ l. IsAsSaid l x) second c.second)),
  );
  few = rw length-append (omega arith);
  width = λ k. joined (Over (length q.form.inputs)) old (first ∷ second ∷ []) k (All-cons (Over (length q.form.inputs)) first (second ∷ []) w.first (single (Over (length q.form.inputs)) second w.second));
}

pub no_claims : (inputs : ℕ) → AreClaims inputs [] []
no_claims inputs = record {
  says = λ x memory. (λ h. All-nil (λ q. IsTrue (truth_of q x memory)), λ h. All-nil (λ l. IsAsSaid l x));
  few = omega arith;
  width = All-nil (Over inputs);
}

-- one assumption more
pub claims_more : (inputs : ℕ) (assumed : List Comparison) (i : ℕ) (q : Comparison) (old new : List Literal) → i < length assumed → q ≡ get_or assumed i q → length q.form.inputs ≡ inputs → AreClaims inputs (take i assumed) old → AddsClaim q old new → AreClaims inputs (take (i + 1) assumed) new
claims_more inputs assumed i q old new l e n h k =
    let more : take (i + 1) assumed ≡ take i assumed ++ q ∷ [] = take_more assumed i q l ∙ ap (λ r. take i assumed ++ r ∷ []) (sym e) in
    subst (λ qs. AreClaims inputs qs new) (sym more) (record {
      says = λ x memory. (
        λ all. let s = (k.says x memory).0 all in joined (λ q. IsTrue (truth_of q x memory)) (take i assumed) (q ∷ []) ((h.says x memory).0 s.0) (single (λ q. IsTrue (truth_of q x memory)) q s.1),
        λ all. (k.says x memory).1 ((h.says x memory).1 (All-front (λ q. IsTrue (truth_of q x memory)) (take i assumed) (q ∷ []) all), All-head (λ q. IsTrue (truth_of q x memory)) q [] (All-back (λ q. IsTrue (truth_of q x memory)) (take i assumed) (q ∷ []) all)),
      );
      few = let a = h.few in let b = k.few in rw length-append (omega arith);
      width = subst (λ m. All (Over m) old → All (Over m) new) n k.width h.width;
    })

all_true : (qs : List Comparison) (x memory : List ℤ) → AllByRecursion (λ q. IsTrue (truth_of q x memory)) qs → list_all (λ q. truth_of q x memory) qs ≡ true
all_true [] x memory h = refl
all_true (q ∷ qs) x memory h = λ i. h.0 i && all_true qs x memory h.1 i

and_both : (b c : Bool) → (b && c) ≡ true → (b ≡ true) × (c ≡ true)
and_both true c e = (refl, e)
and_both false c e = absurd (false≢true e)

each_true : (qs : List Comparison) (x memory : List ℤ) → list_all (λ q. truth_of q x memory) qs ≡ true → AllByRecursion (λ q. IsTrue (truth_of q x memory)) qs
each_true [] x memory e = tt
each_true (q ∷ qs) x memory e = let h = and_both (truth_of q x memory) (list_all (λ q. truth_of q x memory) qs) e in (h.0, each_true qs x memory h.1)

-- the vectors of the ranges on which these literals are as they say are the chart's box
pub box_is : (chart : Chart) (literals : List Literal) (inputs : ℕ) → AreClaims inputs chart.assumed literals → (x : List ℤ) → IsIn (box_of chart.signature literals) x ↔ IsInBox chart x
box_is chart literals inputs h x = let zeros = replicate 4 (pos 0) in (
  λ k. record { ranges = k.inside; assumed = all_true chart.assumed x zeros (recursion_from_All (λ q. IsTrue (truth_of q x zeros)) chart.assumed ((h.says x zeros).0 k.said)) },
  λ k. record { inside = k.ranges; said = (h.says x zeros).1 (All-from_recursion (λ q. IsTrue (truth_of q x zeros)) chart.assumed (each_true chart.assumed x zeros k.assumed)) },
)

-- so after they were put there
pub adds_on : {E : Type 0} (q : Comparison) (old new : List Literal) (claim : Claim) (result : Result (Unit {0}) E) → ((x memory : List ℤ) → IsTrue (truth_of q x memory) ↔ IsClaimed claim x) → IsClaimOver (length q.form.inputs) claim → OnOk result (new ≡ old ++ (claim.first ∷ cons_option claim.second [])) → OnOk result (AddsClaim q old new)
adds_on q old new claim (Ok u) h w e = subst (AddsClaim q old) (sym e) (adds q old claim.first claim.second h w)
adds_on q old new claim (Err error) h w e = tt

-- an assumption of a chart is over its inputs
pub item_over : (inputs : ℕ) (assumed list : List Comparison) (i : ℕ) (q : Comparison) → All (IsAssumption inputs) assumed → list ≡ assumed → i < length list → q ≡ get_or list i q → length q.form.inputs ≡ inputs
item_over inputs assumed list i q h e l is = (subst (IsAssumption inputs) (sym is) (All-get_or (IsAssumption inputs) list i q l (subst (All (IsAssumption inputs)) (sym e) h))).form.each_input
