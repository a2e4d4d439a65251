-- The plain effect that an effect in memory stands for.
use Rattle.std.specs.Prelude.{◌≡◌, Option, option_map, Result, Ok, Err}
use Rattle.std.specs.Borrow.{Bor}
use Rattle.scad_value.specs.declared.value.Value.{Value}
use Rattle.scad_value.specs.declared.stop.ValueStop.{ValueStop}
use Rattle.scad_value.specs.declared.stop.ValueStop.TheVariants.{Kind, NoMemory}
use Rattle.scad_value.specs.Values.{Val}
use Rattle.scad_value.specs.Operators.{AnswerOrFault}
use Rattle.scad_value.specs.View.{val_of}
use Rattle.scad_modules.specs.declared.effects.SolidShape.{SolidShape}
use Rattle.scad_modules.specs.declared.effects.SolidShape.TheVariants.{Cube, Polyhedron, Cylinder}
use Rattle.scad_modules.specs.declared.effects.FlatShape.{FlatShape}
use Rattle.scad_modules.specs.declared.effects.FlatShape.TheVariants.{Square, Polygon, Circle}
use Rattle.scad_modules.specs.declared.effects.Chosen.{Chosen}
use Rattle.scad_modules.specs.declared.effects.Chosen.TheVariants.{All, Numbered, Range}
use Rattle.scad_modules.specs.declared.effects.Effect.{Effect}
use Rattle.scad_modules.specs.declared.effects.Effect.TheVariants.{Solid, Flat, Move, Join, Hull, Extrusion, Nothing, Children}
use Rattle.scad_modules.specs.Effects.{SolidCall, cube_call, polyhedron_call, cylinder_call, FlatCall, square_call, polygon_call, circle_call, ChosenCall, all_children, numbered_children, ranged_children, EffectCall, a_solid, a_flat, a_move, a_join, a_hull, an_extrusion, no_geometry, some_children}
use Rattle.scad_modules.specs.Bounds.{IsSafeCall}

-- the value of `$fn`
abbrev pub fragments_of : Option (Bor Value) → Option Val
fragments_of = option_map (λ value. val_of value.now)

-- a solid shape by its plain numbers
abbrev pub solid_call_of : SolidShape → SolidCall
solid_call_of (Cube size center) = cube_call center size
solid_call_of (Polyhedron points faces) = polyhedron_call points.items faces.items
solid_call_of (Cylinder height low high center) = cylinder_call center height low high

-- a shape in the plane by its plain numbers
abbrev pub flat_call_of : FlatShape → FlatCall
flat_call_of (Square size center) = square_call center size
flat_call_of (Polygon points) = polygon_call points.items
flat_call_of (Circle radius) = circle_call radius

-- which children are wanted
abbrev pub chosen_of : Chosen → ChosenCall
chosen_of All = all_children
chosen_of (Numbered numbers) = numbered_children numbers.items
chosen_of (Range from by upto) = ranged_children from by upto

-- what a call does
abbrev pub effect_call_of : Effect → EffectCall
effect_call_of (Solid shape) = a_solid (solid_call_of shape)
effect_call_of (Flat shape) = a_flat (flat_call_of shape)
effect_call_of (Move steps) = a_move steps.items
effect_call_of (Join op) = a_join op
effect_call_of Hull = a_hull
effect_call_of (Extrusion height center) = an_extrusion center height
effect_call_of Nothing = no_geometry
effect_call_of (Children chosen) = some_children (chosen_of chosen)

-- what was given is the effect or the fault, unless memory ran out
abbrev pub MeetsEffect : Result Effect ValueStop → AnswerOrFault EffectCall → Type 0
MeetsEffect (Ok effect) answer = answer ≡ Ok (effect_call_of effect)
MeetsEffect (Err (Kind kind)) answer = answer ≡ Err kind
MeetsEffect (Err NoMemory) answer = Unit {0}

-- the effect that was given has numbers of at most 2^53 - 1 in size
abbrev pub GivesSafe : Result Effect ValueStop → Type 0
GivesSafe (Ok effect) = IsSafeCall (effect_call_of effect)
GivesSafe (Err stop) = Unit {0}
