use Rattle.std.proofs.Common.{◌∙◌, ap, subst, arith}
use Rattle.std.specs.List.{flat_map}
use Rattle.std.proofs.lemmas.List.{take_all}
use Rattle.std.proofs.lemmas.Option.{slice_get-get_or}
use Rattle.test_world.specs.Sink.{Grows}
use Rattle.suite_text.specs.declared.write.Part.TheVariants.{First}
use Rattle.suite_text.specs.inside.Parts.{part_text, parts}
use Rattle.test_world.proofs.Growing.{grows_by_nothing}
use Rattle.suite_text.proofs.Growing.{part_more, parts_fail, by_parts}
use Rattle.suite_text.proofs.write.write_suite.Goals as goal

pub loop-part-init : goal.loop-part-init
loop-part-init g c = record { made = c.requires; taken = grows_by_nothing _; later = omega arith }

pub loop-part-preserved : goal.loop-part-preserved
loop-part-preserved g c =
    let later = c.in-Ok.ensures.puts.later in
    record {
      made = c.put_part.ensures.made;
      taken = part_more (part_text c.args.suite.now) parts c.loop-part.part-index _ _ _ _ (slice_get-get_or parts c.loop-part.part-index First c.loop-part-test.true) c.loop-part.invariant.taken c.in-Ok.ensures.puts.put;
      later = omega (arith, later);
    }

pub returns-in-Err-clause-puts : goal.returns-in-Err-clause-puts
returns-in-Err-clause-puts g c =
    parts_fail c.args.suite.now c.loop-part.part-index _ _ (g.K.Sink.state c.loop-part.out) _ _ (slice_get-get_or parts c.loop-part.part-index First c.loop-part-test.true) c.loop-part.invariant.taken c.loop-part.invariant.later c.in-Err.ensures.puts

pub returns-clause-puts : goal.returns-clause-puts
returns-clause-puts g c =
    let all = take_all c.loop-part.part-index parts (omega arith) in
    record {
      put = subst (Grows (g.K.Sink.state c.args.out.now) (g.K.Sink.state c.loop-part.out)) (ap (flat_map (part_text c.args.suite.now)) all ∙ by_parts c.args.suite.now) c.loop-part.invariant.taken;
      later = c.loop-part.invariant.later;
    }
