-- What `write_line` leaves to be shown: there is room for the path and for the line.
use Rattle.nodes.proofs.Reaching.{node_steps, node_costs, node_few}
use Rattle.nodes.proofs.Walking.{path_leads}
use Rattle.lines.proofs.Telling.{node_room, node_line}
use Rattle.lines.proofs.write_line.Goals as goal

pub climb-deep-requires-clause-i_in_bounds : goal.climb-deep-requires-clause-i_in_bounds
climb-deep-requires-clause-i_in_bounds c = node_few c.requires.nodes _ c.requires.i_lt_n

pub write_down-requires-clause-leads : goal.write_down-requires-clause-leads
write_down-requires-clause-leads c = path_leads c.climb-deep.ensures c.requires.sound (node_steps c.requires.nodes _ c.requires.i_lt_n) (node_costs c.requires.nodes _ c.requires.i_lt_n)

pub write_down-requires-clause-path_in_bounds : goal.write_down-requires-clause-path_in_bounds
write_down-requires-clause-path_in_bounds c = node_room c.requires.nodes _ c.requires.i_lt_n c.climb-deep.ensures c.requires.list_room_in_bounds

pub returns : goal.returns
returns c = node_line _ _ _ c.climb-deep.ensures c.write_down.ensures
