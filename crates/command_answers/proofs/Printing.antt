-- The replies that are printed one after another.
use Rattle.std.proofs.Common.{◌≡◌, ℕ, ℤ, ◌+◌, ◌<◌, ◌≤◌, List, [], ◌++◌, length, drop, get_or, Result, Ok, Err, sym, ◌∙◌, ap, subst, append_assoc, arith}
use Rattle.std.specs.List.{flat_map, All}
use Rattle.std.proofs.lemmas.List.{drop_more, append-nil}
use Rattle.std.proofs.lemmas.List.Elements.{All-weaker}
use Rattle.std.proofs.Math.ListN.{drop_of_length-le}
use Rattle.test_world.specs.Sink.{SinkState, Grows, Puts}
use Rattle.test_world.proofs.Growing.{grows_by_both, grows_by_nothing, prefix_after, prefix_before, rose_before}
use Rattle.lin_form.specs.Signature.{IsInInputRanges}
use Rattle.chart_model.specs.declared.chart.Chart.{Chart}
use Rattle.chart_meaning.specs.Configuration.{Configuration}
use Rattle.chart_meaning.specs.IsConfiguration.{IsConfiguration}
use Rattle.chart_meaning.specs.Step.{next_of, reply_of, start_of}
use Rattle.chart_meaning.specs.Plan.{plan_of_chart}
use Rattle.chart_syntax.specs.Words.{IsInBox}
use Rattle.subject.specs.Meaning.{answer_from}
use Rattle.command_stages.specs.Numbers.{line_of}
use Rattle.command_answers.specs.Play.{play_text}

-- the text of what is left of a word
abbrev pub text_from : Chart → Configuration → List (List ℤ) → List ℕ
text_from chart c word = flat_map line_of (answer_from (plan_of_chart chart) c word)

-- the replies to the vectors before the i-th are put, and the configuration is that after them
pub record IsPrinted (chart : Chart) (word : List (List ℤ)) (i : ℕ) (c : Configuration) (old now : SinkState) : Type 0 where
  pub sound : IsConfiguration chart c
  pub done : List ℕ
  pub whole : play_text chart word ≡ done ++ text_from chart c (drop i word)
  pub taken : Grows old now done
  pub later : old.faults ≤ now.faults

pub printed_none : (chart : Chart) (word : List (List ℤ)) (old : SinkState) (c : Configuration) → c ≡ start_of chart → IsConfiguration chart c → IsPrinted chart word 0 c old old
printed_none chart word old c is sound = record {
  sound = sound;
  done = [];
  whole = ap (λ s. text_from chart s word) (sym is);
  taken = grows_by_nothing old.taken;
  later = omega arith;
}

-- the text from a vector on is the line of its reply, and the text after it
text_next : (chart : Chart) (c : Configuration) (word : List (List ℤ)) (i : ℕ) (d : List ℤ) → i < length word → text_from chart c (drop i word) ≡ line_of (reply_of chart c (get_or word i d)) ++ text_from chart (next_of chart c (get_or word i d)) (drop (i + 1) word)
text_next chart c word i d less = ap (text_from chart c) (drop_more word i d less)

pub printed_more : {X E : Type 0} {x : X} (chart : Chart) (word : List (List ℤ)) (i : ℕ) (d : List ℤ) (c next : Configuration) (reply : List ℤ) (old before now : SinkState) → IsPrinted chart word i c old before → i < length word → next ≡ next_of chart c (get_or word i d) → reply ≡ reply_of chart c (get_or word i d) → IsConfiguration chart next → Puts {T = X} {E = E} before now (line_of reply) (Ok x) → IsPrinted chart word (i + 1) next old now
printed_more chart word i d c next reply old before now p less is_next is_reply sound grows =
    let early : old.faults ≤ before.faults = p.later in
    let late : before.faults ≤ now.faults = grows.later in
    record {
      sound = sound;
      done = p.done ++ line_of reply;
      whole = p.whole ∙ ap (λ t. p.done ++ t) (text_next chart c word i d less ∙ ap (λ r. line_of r ++ text_from chart (next_of chart c (get_or word i d)) (drop (i + 1) word)) (sym is_reply) ∙ ap (λ s. line_of reply ++ text_from chart s (drop (i + 1) word)) (sym is_next)) ∙ sym (append_assoc p.done (line_of reply) (text_from chart next (drop (i + 1) word)));
      taken = grows_by_both old.taken before.taken now.taken p.done (line_of reply) p.taken grows.put;
      later = omega arith;
    }

pub printed_part : {X E Y F : Type 0} {e : E} {f : F} (chart : Chart) (word : List (List ℤ)) (i : ℕ) (d : List ℤ) (c : Configuration) (reply : List ℤ) (old before now : SinkState) → IsPrinted chart word i c old before → i < length word → reply ≡ reply_of chart c (get_or word i d) → Puts {T = X} {E = E} before now (line_of reply) (Err e) → Puts {T = Y} {E = F} old now (play_text chart word) (Err f)
printed_part {X} {E} {Y} {F} {e} {f} chart word i d c reply old before now p less is_reply part =
    let rest : List ℕ = text_from chart (next_of chart c (get_or word i d)) (drop (i + 1) word) in
    let whole : play_text chart word ≡ p.done ++ line_of reply ++ rest = p.whole ∙ ap (λ t. p.done ++ t) (text_next chart c word i d less ∙ ap (λ r. line_of r ++ rest) (sym is_reply)) ∙ sym (append_assoc p.done (line_of reply) rest) in
    let early : old.faults ≤ before.faults = p.later in
    let late : before.faults ≤ now.faults = part.later in
    let P : List ℕ → Type 0 = λ t. Puts {T = Y} {E = F} old now t (Err f) in
    subst P (sym whole) (record {
      put = (prefix_before old now (p.done ++ line_of reply) rest (prefix_after old before now p.done (line_of reply) p.taken part.put.0), rose_before old.faults before.faults now.faults early part.put.1);
      later = omega arith;
    })

pub printed_all : {Y F : Type 0} {y : Y} (chart : Chart) (word : List (List ℤ)) (i : ℕ) (c : Configuration) (old now : SinkState) → IsPrinted chart word i c old now → length word ≤ i → Puts {T = Y} {E = F} old now (play_text chart word) (Ok y)
printed_all {Y} {F} {y} chart word i c old now p all =
    let whole : play_text chart word ≡ p.done = p.whole ∙ ap (λ w. p.done ++ text_from chart c w) (drop_of_length-le word all) ∙ append-nil p.done in
    let early : old.faults ≤ now.faults = p.later in
    let P : List ℕ → Type 0 = λ t. Grows old now t in
    record { put = subst P (sym whole) p.taken; later = omega arith }

-- each vector of the chart's box lies in its ranges
pub box_in_ranges : (chart : Chart) (vectors : List (List ℤ)) → All (IsInBox chart) vectors → All (IsInInputRanges chart.signature.inputs) vectors
box_in_ranges chart vectors h = All-weaker (IsInBox chart) (IsInInputRanges chart.signature.inputs) (λ vector box. box.ranges) vectors h
