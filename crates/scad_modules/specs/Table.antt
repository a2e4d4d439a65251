-- The names and the parameters of the built-in modules (OpenSCAD User Manual, in the profile of this server).
use Rattle.std.specs.Prelude.{ℕ, Bool, List, [], ◌∷◌, Option, codes}
use Rattle.scad_builtin.specs.Builtins.{named_in, is_among}
use Rattle.scad_modules.specs.declared.table.BuiltinModule.{BuiltinModule}
use Rattle.scad_modules.specs.declared.table.BuiltinModule.TheVariants.{Cube, Polyhedron, Cylinder, Square, Polygon, Circle, LinearExtrude, Translate, Rotate, Mirror, Scale, Multmatrix, Union, Difference, Intersection, Hull, Color, Render, Echo, Assert, Children}

-- the built-in module of a name
abbrev pub builtin_module_of : List ℕ → Option BuiltinModule
builtin_module_of name = named_in
    ((codes "cube", Cube) ∷ (codes "polyhedron", Polyhedron) ∷ (codes "cylinder", Cylinder) ∷ (codes "square", Square)
    ∷ (codes "polygon", Polygon) ∷ (codes "circle", Circle) ∷ (codes "linear_extrude", LinearExtrude)
    ∷ (codes "translate", Translate) ∷ (codes "rotate", Rotate) ∷ (codes "mirror", Mirror) ∷ (codes "scale", Scale)
    ∷ (codes "multmatrix", Multmatrix) ∷ (codes "union", Union) ∷ (codes "difference", Difference)
    ∷ (codes "intersection", Intersection) ∷ (codes "hull", Hull) ∷ (codes "color", Color) ∷ (codes "render", Render)
    ∷ (codes "echo", Echo) ∷ (codes "assert", Assert) ∷ (codes "children", Children) ∷ []) name

-- modules of OpenSCAD that the profile leaves out
abbrev pub is_left_out_module : List ℕ → Bool
is_left_out_module = is_among
    (codes "sphere" ∷ codes "minkowski" ∷ codes "offset" ∷ codes "resize" ∷ codes "projection"
    ∷ codes "text" ∷ codes "surface" ∷ codes "import" ∷ codes "rotate_extrude" ∷ [])

-- the names of a module's parameters in order; those of `echo` may be any, and it has none of its own
abbrev pub parameters_of : BuiltinModule → List (List ℕ)
parameters_of Cube = codes "size" ∷ codes "center" ∷ []
parameters_of Polyhedron = codes "points" ∷ codes "faces" ∷ codes "convexity" ∷ []
parameters_of Cylinder =
    codes "h" ∷ codes "r1" ∷ codes "r2" ∷ codes "center" ∷ codes "r" ∷ codes "d" ∷ codes "d1" ∷ codes "d2" ∷ []
parameters_of Square = codes "size" ∷ codes "center" ∷ []
parameters_of Polygon = codes "points" ∷ codes "paths" ∷ codes "convexity" ∷ []
parameters_of Circle = codes "r" ∷ codes "d" ∷ []
parameters_of LinearExtrude =
    codes "height" ∷ codes "center" ∷ codes "convexity" ∷ codes "twist" ∷ codes "scale" ∷ codes "slices" ∷ []
parameters_of Translate = codes "v" ∷ []
parameters_of Rotate = codes "a" ∷ codes "v" ∷ []
parameters_of Mirror = codes "v" ∷ []
parameters_of Scale = codes "v" ∷ []
parameters_of Multmatrix = codes "m" ∷ []
parameters_of Union = []
parameters_of Difference = []
parameters_of Intersection = []
parameters_of Hull = []
parameters_of Color = codes "c" ∷ codes "alpha" ∷ []
parameters_of Render = codes "convexity" ∷ []
parameters_of Echo = []
parameters_of Assert = codes "condition" ∷ codes "message" ∷ []
parameters_of Children = codes "index" ∷ []
