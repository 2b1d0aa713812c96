-- The stage of a suite has one outcome.
use Rattle.std.proofs.Common.{◌≡◌, ℕ, ℤ, List, Result, Ok, Err, sym, subst, inl, inr}
use Rattle.lin_form.specs.declared.atom.Atom.{Atom}
use Rattle.lin_form.specs.declared.literal.Literal.{Literal}
use Rattle.input_classes.specs.declared.class.Class.{Class}
use Rattle.input_classes.specs.Partition.{Partition}
use Rattle.input_classes.specs.VectorSet.{box_of}
use Rattle.subject.specs.Domain.{box}
use Rattle.subject.specs.Shape.{HasShape}
use Rattle.subject.proofs.CallerLemmas.{one_shape}
use Rattle.abstract_machine.proofs.Counting.{one_number}
use Rattle.suite_making.proofs.Joining.{one_rank}
use Rattle.suite_making.specs.declared.making.LeastSuite.{LeastSuite}
use Rattle.chart_model.specs.declared.chart.Chart.{Chart}
use Rattle.chart_meaning.specs.Plan.{plan_of_chart}
use Rattle.command_stages.specs.declared.stop.Source.{Source}
use Rattle.command_stages.specs.declared.stop.Stop.{Stop}
use Rattle.command_stages.specs.Stage.{Given, Stage, Then, Is, IsProper}
use Rattle.command_stages.proofs.Proper.{proper_then, proper_is, proper_unless}
use Rattle.command_stages.proofs.ProperBy.{IsMoved}
use Rattle.class_stages.proofs.Proper.{AreSame, made_of}
use Rattle.suite_stages.specs.Suites.{SuiteOver, IsLeastSuite, LeastSuiteOver}
use Rattle.suite_stages.proofs.Boxes.{Has, rank, reaches, shape}

pub suite_proper : {may : Source → Type 0} (bound : ℕ) (chart : Chart) (r : Partition) → IsProper may (SuiteOver bound chart r)
suite_proper bound chart r =
    let m = plan_of_chart chart in
    proper_then _ _ (proper_unless _ _) (λ u. proper_then _ _ (proper_is _ (one_rank (box_of m.signature r.assumed) m)) (λ states. proper_then _ _ (proper_unless _ _) (λ v. proper_then _ _ (proper_unless _ _) (λ w. proper_is _ (one_shape m r bound)))))

-- there is one suite for the least bound
one_least : (chart : Chart) (r : Partition) (l k : LeastSuite) → IsLeastSuite chart r l → IsLeastSuite chart r k → l ≡ k
one_least chart r l k first second =
    let m = plan_of_chart chart in
    let states : k.suite.states ≡ l.suite.states = one_rank (box m r) m k.suite.states l.suite.states second.shape.suits.rank first.shape.suits.rank in
    let suites : l.suite ≡ k.suite = one_shape m r l.suite.states l.suite k.suite first.shape (subst (λ n. HasShape m r n k.suite) states second.shape) in
    let numbers : l.configurations ≡ k.configurations = one_number (box m r) m l.configurations k.configurations first.configurations second.configurations in
    λ i. record { suite = suites i; configurations = numbers i }

pub least_proper : {may : Source → Type 0} (chart : Chart) (r : Partition) → IsProper may (LeastSuiteOver chart r)
least_proper chart r =
    let m = plan_of_chart chart in
    proper_then _ _ (proper_unless _ _) (λ u. proper_then _ _ (proper_is _ (one_rank (box_of m.signature r.assumed) m)) (λ states. proper_then _ _ (proper_unless _ _) (λ v. proper_is _ (one_least chart r))))

-- what the one stage comes to, the other does
Includes : {A : Type 0} → Stage A → Stage A → Type 0
Includes {A} one two = (given : Given) (s : List Source) (x : Result A Stop) → one given s x → two given s x

then_more : {A B : Type 0} (first other : Stage A) (next later : A → Stage B) → Includes first other → ((a : A) → Includes (next a) (later a)) → Includes (Then first next) (Then other later)
unfolding Then Includes
then_more first other next later f g given s (Ok b) (a, u, v, e, p, q) = (a, u, v, e, f given u (Ok a) p, g a given v (Ok b) q)
then_more first other next later f g given s (Err y) (inl p) = inl (f given s (Err y) p)
then_more first other next later f g given s (Err y) (inr (a, u, v, e, p, q)) = inr (a, u, v, e, f given u (Ok a) p, g a given v (Err y) q)

is_more : {A : Type 0} (P Q : A → Type 0) → ((a : A) → P a → Q a) → Includes (Is P) (Is Q)
unfolding Is Includes
is_more P Q f given s (Ok a) (e, p) = (e, f a p)
is_more P Q f given s (Err y) h = h

itself : {A : Type 0} (stage : Stage A) → Includes stage stage
unfolding Includes
itself stage given s x h = h

other_words : (bound : ℕ) (chart : Chart) (atoms : List Atom) (ranges : List (ℤ × ℤ)) (these those : List Literal) (classes : List Class) → Has (box_of chart.signature these) (box_of chart.signature those) → Has (box_of chart.signature those) (box_of chart.signature these) → Includes (SuiteOver bound chart (made_of atoms ranges those classes)) (SuiteOver bound chart (made_of atoms ranges these classes))
other_words bound chart atoms ranges these those classes f g =
    let m = plan_of_chart chart in
    then_more _ _ _ _ (itself _) (λ u. then_more _ _ _ _ (is_more _ _ (λ n. rank (box_of m.signature those) (box_of m.signature these) m n g f)) (λ n. then_more _ _ _ _ (itself _) (λ v. then_more _ _ _ _ (itself _) (λ w. is_more _ _ (λ s. shape m atoms ranges these those classes bound s f g)))))

-- the suite over the same partition is the same
pub suite_moved : (bound : ℕ) (chart : Chart) → IsMoved (AreSame chart.signature) (SuiteOver bound chart)
unfolding Includes
suite_moved bound chart r q same given s x h =
    let P : List Atom → Type 0 = λ some. SuiteOver bound chart (made_of some q.ranges q.assumed q.classes) given s x in
    let Q : List (ℤ × ℤ) → Type 0 = λ some. SuiteOver bound chart (made_of r.atoms some q.assumed q.classes) given s x in
    let R : List Class → Type 0 = λ some. SuiteOver bound chart (made_of r.atoms r.ranges q.assumed some) given s x in
    let there : SuiteOver bound chart (made_of r.atoms r.ranges q.assumed r.classes) given s x = subst R (sym same.classes) (subst Q (sym same.ranges) (subst P (sym same.atoms) h)) in
    other_words bound chart r.atoms r.ranges r.assumed q.assumed r.classes (λ y k. (same.box y).0 k) (λ y k. (same.box y).1 k) given s x there

least_words : (chart : Chart) (atoms : List Atom) (ranges : List (ℤ × ℤ)) (these those : List Literal) (classes : List Class) → Has (box_of chart.signature these) (box_of chart.signature those) → Has (box_of chart.signature those) (box_of chart.signature these) → Includes (LeastSuiteOver chart (made_of atoms ranges those classes)) (LeastSuiteOver chart (made_of atoms ranges these classes))
least_words chart atoms ranges these those classes f g =
    let m = plan_of_chart chart in
    then_more _ _ _ _ (itself _) (λ u. then_more _ _ _ _ (is_more _ _ (λ n. rank (box_of m.signature those) (box_of m.signature these) m n g f)) (λ n. then_more _ _ _ _ (itself _) (λ v. is_more _ _ (λ l h. record {
      shape = shape m atoms ranges these those classes l.suite.states l.suite f g h.shape;
      configurations = reaches (box_of m.signature those) (box_of m.signature these) m l.configurations g f h.configurations;
    }))))

-- the suite for the least bound over the same partition is the same
pub least_moved : (chart : Chart) → IsMoved (AreSame chart.signature) (LeastSuiteOver chart)
unfolding Includes
least_moved chart r q same given s x h =
    let P : List Atom → Type 0 = λ some. LeastSuiteOver chart (made_of some q.ranges q.assumed q.classes) given s x in
    let Q : List (ℤ × ℤ) → Type 0 = λ some. LeastSuiteOver chart (made_of r.atoms some q.assumed q.classes) given s x in
    let R : List Class → Type 0 = λ some. LeastSuiteOver chart (made_of r.atoms r.ranges q.assumed some) given s x in
    let there : LeastSuiteOver chart (made_of r.atoms r.ranges q.assumed r.classes) given s x = subst R (sym same.classes) (subst Q (sym same.ranges) (subst P (sym same.atoms) h)) in
    least_words chart r.atoms r.ranges r.assumed q.assumed r.classes (λ y k. (same.box y).0 k) (λ y k. (same.box y).1 k) given s x there
