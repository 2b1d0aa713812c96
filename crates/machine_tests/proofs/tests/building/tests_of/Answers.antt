use Rattle.machine_tests.proofs.tests.building.tests_of.Goals as goal

pub lists_at-requires : goal.lists_at-requires
lists_at-requires g c = rw (c.as_slice.ensures.value) (rw (c.in-Ok.is) at c.in_ok-words.ensures.ids)
