-- Leaves as ends of links.
use Rattle.std.specs.Prelude.{Bool, true, false, not}
use Rattle.link_forest.specs.declared.link.Link.{Link}
use Rattle.link_forest.specs.declared.link.Link.TheVariants.{End, To}

-- both are so, or neither
abbrev pub is_alike : Bool → Bool → Bool
is_alike true other = other
is_alike false other = not other

-- the link is an end of this kind
abbrev pub is_leaf : Bool → Link → Bool
is_leaf side (End other) = is_alike side other
is_leaf side (To id) = false

-- both are ends of one kind
abbrev pub same_leaf : Link → Link → Bool
same_leaf (End side) ahead = is_leaf side ahead
same_leaf (To id) ahead = false

-- whether a leaf is inside, where leaves are exchanged
abbrev pub exchanged_leaf : Bool → Bool → Bool
exchanged_leaf side true = not side
exchanged_leaf side false = side
