-- The plain design that a design in memory stands for.
use Rattle.scad_design.specs.declared.design.Design.{Design}
use Rattle.scad_design.specs.declared.design.Design.TheOpen.{Design-F, Empty, Leaf, Joined}
use Rattle.scad_design.specs.declared.design.Design.TheFolds.{fold-Design}
use Rattle.scad_design.specs.Designs.{DesignTree, empty, a_leaf, joined_designs}

-- one layer, with what is below it seen already
abbrev pub plain_step : Design-F DesignTree → DesignTree
plain_step Empty = empty
plain_step (Leaf part) = a_leaf part
plain_step (Joined op left right) = joined_designs op left.value right.value

abbrev pub plain_of : Design → DesignTree
plain_of = fold-Design DesignTree plain_step
