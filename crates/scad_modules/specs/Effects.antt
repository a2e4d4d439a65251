-- What a call of a built-in module does.
use Rattle.std.specs.Prelude.{ℕ, ℤ, Bool, List}
use Rattle.csg_tree.specs.declared.op.Op.{Op}
use Rattle.int_transform.specs.declared.affine.Affine.{Affine}

-- a solid shape, by its sizes or by its points and faces in units
pub data SolidCall : Type 0 where
  cube_call : (center : Bool) → (size : List ℤ) → SolidCall
  polyhedron_call : (points : List (List ℤ)) → (faces : List (List ℕ)) → SolidCall
  cylinder_call : (center : Bool) → (height low high : ℤ) → SolidCall

-- a shape in the plane, in units
pub data FlatCall : Type 0 where
  square_call : (center : Bool) → (size : List ℤ) → FlatCall
  polygon_call : (points : List (List ℤ)) → FlatCall
  circle_call : (radius : ℤ) → FlatCall

-- which children of the enclosing call are wanted: all, those of some numbers in order, or those of a range
pub data ChosenCall : Type 0 where
  all_children : ChosenCall
  numbered_children : (numbers : List ℤ) → ChosenCall
  ranged_children : (from by upto : ℤ) → ChosenCall

-- a shape; its children moved by steps, the first done first, joined by an operation, extruded, or their hull; nothing; or
-- children of the enclosing call
pub data EffectCall : Type 0 where
  a_solid : (solid : SolidCall) → EffectCall
  a_flat : (flat : FlatCall) → EffectCall
  a_move : (steps : List Affine) → EffectCall
  a_join : (op : Op) → EffectCall
  a_hull : EffectCall
  an_extrusion : (center : Bool) → (height : ℤ) → EffectCall
  no_geometry : EffectCall
  some_children : (chosen : ChosenCall) → EffectCall
