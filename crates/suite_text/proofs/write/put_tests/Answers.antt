use Rattle.std.proofs.Common.{◌∙◌, ap, arith, get_or, inl, length, refl}
use Rattle.std.proofs.lemmas.List.{get_or-set_same}
use Rattle.std.proofs.lemmas.Option.{slice_get-get_or}
use Rattle.suite_model.specs.Text.{test_lines}
use Rattle.suite_text.specs.inside.Parts.{text_of}
use Rattle.test_world.proofs.Growing.{grows_by_nothing}
use Rattle.suite_text.proofs.Growing.{part_more, part_fails, no_test, still_made}
use Rattle.suite_text.proofs.Holding.{put_in_part}
use Rattle.suite_text.proofs.write.put_tests.Goals as goal

pub loop-test-init : goal.loop-test-init
loop-test-init g c = record {
  made = still_made c.args.suite.now c.args.scratch.now c.keep_end.new.self c.requires (c.keep_end.ensures.letters ∙ c.clear.ensures.letters) (c.keep_end.ensures.room ∙ c.clear.ensures.room);
  holds = inl (refl, ap (λ x. get_or x 0 0) c.keep_end.ensures.ends ∙ get_or-set_same c.clear.new.self.ends 0 _ 0 (omega (arith, c.has_text_room.ensures.ends, ap length c.clear.ensures.ends)) ∙ ap length c.clear.ensures.line);
  taken = grows_by_nothing _;
  later = omega arith;
}

pub loop-test-preserved : goal.loop-test-preserved
loop-test-preserved g c =
    let there = slice_get-get_or c.args.suite.now.tests c.loop-test.test no_test (omega arith) in
    let puts = c.in-Ok.ensures.puts _ there in
    let later = puts.later in
    record {
      made = c.in-Ok.ensures.made;
      holds = c.in-Ok.ensures.holds;
      taken = part_more (λ t. text_of (test_lines c.args.suite.now.classes t)) c.args.suite.now.tests c.loop-test.test _ _ _ _ there c.loop-test.invariant.taken puts.put;
      later = omega (arith, later);
    }

pub returns-in-Err-clause-puts : goal.returns-in-Err-clause-puts
returns-in-Err-clause-puts g c =
    let there = slice_get-get_or c.args.suite.now.tests c.loop-test.test no_test (omega arith) in
    part_fails (λ t. text_of (test_lines c.args.suite.now.classes t)) c.args.suite.now.tests c.loop-test.test _ _ _ _ _ there c.loop-test.invariant.taken c.loop-test.invariant.later (put_in_part _ _ _ _ _ (c.in-Err.ensures.puts _ there))
