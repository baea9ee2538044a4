-- What `board_of` leaves to be shown: there is room for the path, and its steps can be made.
use Rattle.nodes.proofs.Reaching.{node_steps, node_costs, node_few}
use Rattle.nodes.proofs.Walking.{path_leads, node_board}
use Rattle.nodes.proofs.path.board_of.Goals as goal

pub climb-deep-requires-clause-i_in_bounds : goal.climb-deep-requires-clause-i_in_bounds
climb-deep-requires-clause-i_in_bounds c = node_few c.requires.nodes _ c.requires.i_lt_n

pub play_down-requires : goal.play_down-requires
play_down-requires c = path_leads c.climb-deep.ensures c.requires.sound (node_steps c.requires.nodes _ c.requires.i_lt_n) (node_costs c.requires.nodes _ c.requires.i_lt_n)

pub returns-clause-value : goal.returns-clause-value
returns-clause-value c = node_board _ _ _ c.climb-deep.ensures c.play_down.ensures.value
