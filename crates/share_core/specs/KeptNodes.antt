-- How the nodes of a command are kept: the values that are there in a list of their own, as tasks ask for them.
use Rattle.std.specs.Prelude.{ℕ, Bool, true, false, ◌&&◌, List, [], ◌∷◌, Option, is_some, is_none, slice_get}
use Rattle.std.specs.Option.{option_map_or}
use Rattle.std.specs.Arc.{arc_value}
use Rattle.share_core.specs.Views.{NodeProgress, Unasked, Missed, Built, There}
use Rattle.share_core.specs.declared.kept_nodes.NodeState.{NodeState}
use Rattle.share_core.specs.declared.kept_nodes.NodeState.TheVariants as state

module _ {V : Type 0} where
  -- a node that is not there, as contracts see it
  abbrev pub state_of : NodeState V → NodeProgress V
  state_of state.Unasked = Unasked
  state_of state.Missed = Missed
  state_of (state.Built value weight) = Built (arc_value value) weight

  -- a node as contracts see it: it is there where it has a value
  abbrev pub client_node : NodeState V → Option V → NodeProgress V
  client_node state value = option_map_or There value (state_of state)

  -- the nodes as contracts see them
  abbrev pub client_nodes : List (NodeState V) → List (Option V) → List (NodeProgress V)
  client_nodes [] values = []
  client_nodes (s ∷ ss) [] = []
  client_nodes (s ∷ ss) (v ∷ vs) = client_node s v ∷ client_nodes ss vs

  -- whether each place has a value
  abbrev pub are_values : List (Option V) → Bool
  are_values [] = true
  are_values (v ∷ vs) = is_some v && are_values vs

  -- whether a place is there, and has no value
  abbrev pub is_waiting : List (Option V) → ℕ → Bool
  is_waiting vs n = option_map_or is_none (slice_get vs n) false
