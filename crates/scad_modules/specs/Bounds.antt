-- Numbers of at most 2^53 - 1 in size in a call's effect.
use Rattle.std.specs.Prelude.{All}
use Rattle.primitives.specs.Sizes.{IsSafe}
use Rattle.scad_modules.specs.Effects.{SolidCall, cube_call, polyhedron_call, cylinder_call, FlatCall, square_call, polygon_call, circle_call, ChosenCall, all_children, numbered_children, ranged_children, EffectCall, a_solid, a_flat, a_move, a_join, a_hull, an_extrusion, no_geometry, some_children}

-- what the calls of solid shapes want of sizes; they test points themselves
abbrev pub IsSafeSolid : SolidCall → Type 0
IsSafeSolid (cube_call center size) = All IsSafe size
IsSafeSolid (polyhedron_call points faces) = Unit {0}
IsSafeSolid (cylinder_call center height low high) = IsSafe height × IsSafe low × IsSafe high

-- the same of shapes in the plane
abbrev pub IsSafeFlat : FlatCall → Type 0
IsSafeFlat (square_call center size) = All IsSafe size
IsSafeFlat (polygon_call points) = Unit {0}
IsSafeFlat (circle_call radius) = IsSafe radius

-- the same of the numbers by which children are chosen
abbrev pub IsSafeChoice : ChosenCall → Type 0
IsSafeChoice all_children = Unit {0}
IsSafeChoice (numbered_children numbers) = All IsSafe numbers
IsSafeChoice (ranged_children from by upto) = IsSafe from × IsSafe by × IsSafe upto

-- the same of all effects; a step keeps its own bounds
abbrev pub IsSafeCall : EffectCall → Type 0
IsSafeCall (a_solid solid) = IsSafeSolid solid
IsSafeCall (a_flat flat) = IsSafeFlat flat
IsSafeCall (a_move steps) = Unit {0}
IsSafeCall (a_join op) = Unit {0}
IsSafeCall a_hull = Unit {0}
IsSafeCall (an_extrusion center height) = IsSafe height
IsSafeCall no_geometry = Unit {0}
IsSafeCall (some_children chosen) = IsSafeChoice chosen
