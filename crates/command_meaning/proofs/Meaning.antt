-- What the text of a command shows, from the answer that is carried out.
use Rattle.std.proofs.Common.{◌≡◌, ℕ, ◌≤◌, Bool, true, false, List, [], map, Option, Some, None, Result, Ok, Err, refl, sym, ◌∙◌, ap, subst, arith, inl, inr}
use Rattle.test_world.specs.Sink.{Grows}
use Rattle.lin_form.specs.declared.form.Comparison.{Comparison}
use Rattle.lin_form.specs.declared.signature.Signature.{Signature}
use Rattle.lin_form.specs.Signature.{ranges_of}
use Rattle.input_classes.specs.Partition.{Partition, Covers}
use Rattle.input_classes.specs.VectorSet.{Box}
use Rattle.input_classes.proofs.CallerLemmas.{partition-covers}
use Rattle.subject.specs.Alike.{MembersActAlike}
use Rattle.subject.specs.Domain.{Complete, Inside, box}
use Rattle.subject.specs.FiniteMap.{plan_of_map}
use Rattle.subject.specs.Shape.{HasShape}
use Rattle.subject.specs.Suite.{SuiteParts, tests_of}
use Rattle.subject.proofs.CallerLemmas.{by_classes, more_states, shape_decides}
use Rattle.chart_model.specs.declared.chart.Chart.{Chart}
use Rattle.chart_meaning.specs.Plan.{plan_of_chart}
use Rattle.guard_atoms.specs.Atoms.{atoms_in}
use Rattle.lin_form.specs.Atom.{inequality_of}
use Rattle.input_classes.specs.VectorSet.{VectorSet}
use Rattle.command_words.specs.declared.command.Command.{Command}
use Rattle.command_words.specs.declared.command.Command.TheVariants.{Play, Classes, Suite, Run as RunSuite, Json, Replay, Gen}
use Rattle.command_words.specs.Command.{command_of, IsCommand}
use Rattle.command_stages.specs.declared.stop.Source.{Source}
use Rattle.command_stages.specs.declared.stop.Stop.{Stop}
use Rattle.command_stages.specs.declared.stop.Stop.TheVariants.{NoCommand}
use Rattle.command_stages.specs.Stage.{Given, Stage, Then, Is, TextAt, Reading, Unless, Printed}
use Rattle.command_stages.specs.Serve.{Run, given_of, Ends, IsRun}
use Rattle.command_stages.specs.Texts.{ChartAt}
use Rattle.class_stages.specs.Classes.{IsChartPartition, ClassesOver}
use Rattle.class_stages.specs.Cutting.{CutsAt}
use Rattle.class_stages.specs.Text.{classes_text}
use Rattle.suite_stages.specs.Suites.{SuiteOver, IsLeastSuite, LeastSuiteOver}
use Rattle.suite_making.specs.declared.making.LeastSuite.{LeastSuite}
use Rattle.suite_model.specs.Text.{suite_text}
use Rattle.impl_table.specs.Fitting.{first_difference}
use Rattle.subject.specs.Domain.{IsFitting}
use Rattle.run_stages.specs.declared.implementation.Implementation.{Implementation}
use Rattle.run_stages.specs.declared.implementation.Implementation.TheVariants.{Chart as OfChart}
use Rattle.gen_stages.specs.Summary.{SummaryOf, summary_text}
use Rattle.command_meaning.specs.Generated.{IsSummaryOf}
use Rattle.run_stages.specs.Implementations.{signature_of}
use Rattle.verdict_report.specs.Json.{json_text}
use Rattle.judge_stages.specs.Verdicts.{Judgement, Printing, is_pass, printed_verdict, verdict_lines}
use Rattle.judge_stages.proofs.Suited.{suite_over}
use Rattle.run_stages.proofs.Fits.{has_fit}
use Rattle.command_answers.specs.Ends.{PlayEnds, ClassesEnds, SuiteEnds, RunEnds, ReplayEnds, AnswersCommand, Answers}
use Rattle.command_answers.specs.Play.{play_text}
use Rattle.command_meaning.specs.Inputs.{IsChartAt, AreCutsAt, AreInputsOf}
use Rattle.command_meaning.specs.Runs.{IsRunOf}
use Rattle.command_meaning.specs.Means.{AreClassesOf, IsSuiteOf, Means, PutsMeaning}
use Rattle.command_meaning.proofs.Running.{implementation_at, shows}
use Rattle.command_meaning.proofs.Replaying.{shows_replay}
use Rattle.command_meaning.specs.Replays.{IsSuiteAt, IsReplayOf}
use Rattle.replay_stages.specs.Suites.{SuiteAt}

chart_at : (given : Given) (sources : List Source) (chart : Chart) → ChartAt 1 given sources (Ok chart) → IsChartAt 1 given chart
unfolding Then TextAt Reading
chart_at given sources chart (text, u, v, e, p, q) = (text, p.1, q.1)

cuts_at : (named : Bool) (number : ℕ) (signature : Signature) (given : Given) (sources : List Source) (cuts : List Comparison) → CutsAt named number signature given sources (Ok cuts) → AreCutsAt named number signature given cuts
unfolding Then TextAt Reading Is
cuts_at false number signature given sources cuts p = p.1
cuts_at true number signature given sources cuts (text, u, v, e, p, q) = (text, p.1, q.1)

classes_over : (chart : Chart) (cuts : List Comparison) (given : Given) (sources : List Source) (r : Partition) → ClassesOver 1 chart cuts given sources (Ok r) → IsChartPartition chart cuts r
unfolding Then Unless Is
classes_over chart cuts given sources r (a, b, c, d, e, (f, g, h, i, j, (k, l, m, n, o, (p, q, s, t, u, v)))) = v.1

text_of : (a b : List ℕ) (p q : Bool) → (let x : Printed = record { passes = p; text = a } in x) ≡ record { passes = q; text = b } → a ≡ b
text_of a b p q e = ap (λ (x : Printed). x.text) e

passes_of : (a b : List ℕ) (p q : Bool) → (let x : Printed = record { passes = p; text = a } in x) ≡ record { passes = q; text = b } → p ≡ q
passes_of a b p q e = ap (λ (x : Printed). x.passes) e

-- the members of each class act alike in the chart's plan
abbrev pub ActAlike : Type 0
ActAlike = (chart : Chart) (cuts : List Comparison) (r : Partition) (s : VectorSet) → map inequality_of r.atoms ≡ atoms_in chart cuts → MembersActAlike s r (plan_of_chart chart)

alike : ActAlike → (chart : Chart) (cuts : List Comparison) (r : Partition) → IsChartPartition chart cuts r → MembersActAlike (box (plan_of_chart chart) r) r (plan_of_chart chart)
alike law chart cuts r h = law chart cuts r (box (plan_of_chart chart) r) h.atoms

covers : (chart : Chart) (cuts : List Comparison) (r : Partition) → IsChartPartition chart cuts r → Covers (box (plan_of_chart chart) r) r
covers chart cuts r h = subst (λ ranges. Covers (Box ranges r.assumed) r) h.ranges (partition-covers r h.exact)

are_classes : ActAlike → (named : Bool) (given : Given) (sources : List Source) (passes : Bool) (text : List ℕ) → ClassesEnds named given sources (Ok (record { passes = passes; text = text })) → (passes ≡ true) × AreClassesOf named given text
unfolding Then Is
are_classes law named given sources passes text (chart, a, b, c, is_chart, (cuts, d, e, f, are_cuts, (r, g, h, i, are, printed))) =
    let partition = classes_over chart cuts given g r are in (
      passes_of text (classes_text r) passes true printed.1,
      record {
        inputs = record { chart = chart; cuts = cuts; partition = r; is_chart = chart_at given a chart is_chart; are_cuts = cuts_at named 2 chart.signature given d cuts are_cuts; is_partition = partition };
        same_text = text_of text (classes_text r) passes true printed.1;
        alike = alike law chart cuts r partition;
      },
    )

is_suite : ActAlike → (bound : ℕ) (named : Bool) (given : Given) (sources : List Source) (passes : Bool) (text : List ℕ) → SuiteEnds bound named given sources (Ok (record { passes = passes; text = text })) → (passes ≡ true) × IsSuiteOf bound named given text
unfolding Then Is
is_suite law bound named given sources passes text (chart, a, b, c, is_chart, (cuts, d, e, f, are_cuts, (r, g, h, i, are, (suite, j, k, l, made, printed)))) =
    let m = plan_of_chart chart in
    let partition = classes_over chart cuts given g r are in
    let shape = suite_over bound chart r given j suite made in
    let covered = covers chart cuts r partition in (
      passes_of text (suite_text suite) passes true printed.1,
      record {
        inputs = record { chart = chart; cuts = cuts; partition = r; is_chart = chart_at given a chart is_chart; are_cuts = cuts_at named 3 chart.signature given d cuts are_cuts; is_partition = partition };
        suite = suite;
        same_text = text_of text (suite_text suite) passes true printed.1;
        shape = shape;
        complete = λ f inside. shape_decides m r bound covered suite (plan_of_map f) inside shape;
        inside = record {
          fits = record { names = refl; ranges = refl; outputs = refl };
          states = more_states m (box m r) suite.states bound shape.suits.rank.most shape.suits.few;
          classes = by_classes (box m r) r m covered (alike law chart cuts r partition);
        };
      },
    )

plays : (given : Given) (sources : List Source) (passes : Bool) (text : List ℕ) → PlayEnds given sources (Ok (record { passes = passes; text = text })) → passes ≡ true
unfolding Then Is
plays given sources passes text (chart, a, b, c, is_chart, (word, d, e, f, is_word, printed)) = passes_of text (play_text chart word) passes true printed.1

is_run : (printing : Printing) (bound : ℕ) (named : Bool) (given : Given) (sources : List Source) (passes : Bool) (text : List ℕ) → RunEnds printing bound named given sources (Ok (record { passes = passes; text = text })) → IsRunOf printing bound named given passes text
unfolding Then Is
is_run printing bound named given sources passes text (judgement, first, last, both, (chart, a, b, c, is_chart, (cuts, d, e, f, are_cuts, (i, g, h, j, is, (u, k, l, m, fit, (r, n, o, p, are, (suite, q, s, t, made, (v, w, x, y, judged, made_of))))))), printed) =
    let partition = classes_over chart cuts given n r are in
    let shape = suite_over bound chart r given q suite made in
    let same = printed.1 ∙ ap (printed_verdict printing) made_of.1 in
    record {
      inputs = record { chart = chart; cuts = cuts; partition = r; is_chart = chart_at given a chart is_chart; are_cuts = cuts_at named 3 chart.signature given d cuts are_cuts; is_partition = partition };
      implementation = i;
      is_implementation = implementation_at 4 given g i is;
      fits = has_fit 4 chart.signature (signature_of i) given k fit;
      suite = suite;
      shape = shape;
      verdict = v;
      is_verdict = judged.1;
      same_text = text_of text (printing suite v) passes (is_pass v) same;
      same_passes = passes_of text (printing suite v) passes (is_pass v) same;
      shows = shows chart r bound suite i v (covers chart cuts r partition) shape judged.1;
    }

suite_at : (given : Given) (sources : List Source) (suite : SuiteParts) → SuiteAt 1 given sources (Ok suite) → IsSuiteAt 1 given suite
unfolding Then TextAt Reading
suite_at given sources suite (text, u, v, e, p, q) = (text, p.1, q.1)

is_replay : (given : Given) (sources : List Source) (passes : Bool) (text : List ℕ) → ReplayEnds given sources (Ok (record { passes = passes; text = text })) → IsReplayOf given passes text
unfolding Then Is
is_replay given sources passes text (suite, a, b, c, is_suite, (i, d, e, f, is, (u, g, h, j, fit, (judgement, k, l, m, (v, n, o, p, judged, made_of), printed)))) =
    let same = printed.1 ∙ ap (printed_verdict verdict_lines) made_of.1 in
    record {
      suite = suite;
      is_suite = suite_at given a suite is_suite;
      implementation = i;
      is_implementation = implementation_at 2 given d i is;
      fits = has_fit 2 suite.signature (signature_of i) given g fit;
      verdict = v;
      is_verdict = judged.1;
      same_text = text_of text (verdict_lines suite v) passes (is_pass v) same;
      same_passes = passes_of text (verdict_lines suite v) passes (is_pass v) same;
      shows = shows_replay (tests_of suite) i v judged.1;
    }

least_over : (chart : Chart) (r : Partition) (given : Given) (sources : List Source) (l : LeastSuite) → LeastSuiteOver chart r given sources (Ok l) → IsLeastSuite chart r l
unfolding Then Unless Is
least_over chart r given sources l (a, b, c, d, e, (f, g, h, i, j, (k, q, m, n, o, p))) = p.1

is_summary : (number : ℕ) (given : Given) (sources : List Source) (passes : Bool) (text : List ℕ) → SummaryOf number given sources (Ok (record { passes = passes; text = text })) → (passes ≡ true) × IsSummaryOf number text
unfolding Then Is
is_summary number given sources passes text (chart, a, b, c, is_chart, (r, d, e, f, are, (l, g, h, i, made, (other, j, k, m, is_other, (judgement, n, o, p, (v, q, s, t, judged, made_of), printed))))) =
    let partition = classes_over chart [] given d r are in
    let least = least_over chart r given g l made in
    let same = printed.1 ∙ ap (λ (x : Judgement). let y : Printed = record { passes = true; text = summary_text number l.configurations x } in y) made_of.1 in (
      passes_of text (summary_text number l.configurations (record { suite = l.suite; verdict = v })) passes true same,
      record {
        chart = chart;
        is_chart = is_chart.1;
        partition = r;
        is_partition = partition;
        configurations = l.configurations;
        reached = least.configurations;
        suite = l.suite;
        shape = least.shape;
        other = other;
        is_other = is_other.1;
        verdict = v;
        is_verdict = judged.1;
        same_text = text_of text (summary_text number l.configurations (record { suite = l.suite; verdict = v })) passes true same;
        shows = shows chart r l.suite.states l.suite (OfChart other) v (covers chart [] r partition) least.shape judged.1;
      },
    )

shown : ActAlike → (o : Option Command) (given : Given) (sources : List Source) (passes : Bool) (text : List ℕ) → AnswersCommand o given sources (record { put = text; ends = Ok passes }) → Means o given passes text
shown law None given sources passes text h = let e : Ok passes ≡ Err NoCommand = (λ i. (h.1 i).ends) in absurd cc
shown law (Some Play) given sources passes text h = plays given sources passes text h
shown law (Some (Classes named)) given sources passes text h = are_classes law named given sources passes text h
shown law (Some (Suite bound named)) given sources passes text h = is_suite law bound named given sources passes text h
shown law (Some (RunSuite bound named)) given sources passes text h = is_run verdict_lines bound named given sources passes text h
shown law (Some Replay) given sources passes text h = is_replay given sources passes text h
shown law (Some (Gen number)) given sources passes text h = is_summary number given sources passes text h
shown law (Some (Json bound named)) given sources passes text h = is_run json_text bound named given sources passes text h

pub meant : ActAlike → (run : Run) (passes : Bool) → IsRun Answers (IsCommand run.words) run (Ok passes) → PutsMeaning (command_of run.words) run passes
meant law run passes h = let (text, is_for, put) = h.ends in (text, put, shown law (command_of run.words) (given_of run) is_for.0 passes text is_for.1)
