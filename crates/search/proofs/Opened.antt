-- The search with all its definitions open, under one name: what an evaluated example unfolds.
use Rattle.search.specs.Solve.{before, queued, learned, start, child_of, dropped, better, bearing, no_room, bear, expand, visit, taken, run, solve}

unfoldable pub opened : Unit {0}
unfolding before queued learned start child_of dropped better bearing no_room bear expand visit taken run solve
opened = tt
