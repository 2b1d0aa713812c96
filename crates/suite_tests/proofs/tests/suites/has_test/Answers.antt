use Rattle.std.proofs.Common.{[], length}
use Rattle.subject.specs.Suite.{Test}
use Rattle.suite_tests.proofs.Fitting.{fits}
use Rattle.suite_tests.proofs.tests.suites.has_test.Goals as goal

no_test : Test
no_test = record { letters = []; replies = [] }

pub has_letters-requires : goal.has_letters-requires
has_letters-requires c =
    let put = c.test_letters-count.ensures in
    fits (λ (t : Test). length t.letters) c.args.suite.now.tests no_test (length c.test_letters-count.new.scratch.letters) c.args.test c.test_letters-count.result
    put.still_made.tests c.requires.test (λ t there. (put.letters t there).0)
