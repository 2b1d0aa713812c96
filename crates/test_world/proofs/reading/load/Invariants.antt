use Rattle.std.proofs.Common.{◌-◌, ◌≤◌, [], ◌∷◌, vec_len}
use Rattle.test_world.specs.Shelf.{HasName, held_of, Keeps, Visits, IsSound}
use Rattle.test_world.proofs.Loading.{IsLoading}
use Rattle.test_world.proofs.reading.load.Given as goal

abbrev pub invariant-loop-count : goal.invariant-loop-count
invariant-loop-count g l = record {
  keeps : Keeps (g.F.Shelf.state l.fn.shelf) (g.F.Shelf.state l.shelf);
  visits : Visits (g.F.Shelf.state l.fn.shelf) (g.F.Shelf.state l.shelf) (l.name ∷ []);
  loading : IsLoading (g.F.Shelf.state l.fn.shelf).shown (g.F.Shelf.state l.shelf).shown l.name l.bytes.items;
  short : vec_len l.bytes ≤ l.most;
  stays_sound : IsSound (g.F.Shelf.state l.fn.shelf) → HasName (held_of (g.F.Shelf.state l.fn.shelf)) l.name → IsSound (g.F.Shelf.state l.shelf);
}

abbrev pub decreases-loop-count : goal.decreases-loop-count
decreases-loop-count g l = l.most - vec_len l.bytes
