-- What the program of one cube means: its design, by what a judge says of the one call, and the box that it is placed as.
use Rattle.std.proofs.Common.{◌≡◌, ℕ, zero, suc, Bool, true, false, List, [], ◌∷◌, ◌≤◌, None, refl, sym, subst, ap, ◌∙◌, pos, negsuc, arith, All, take, nat_le, unsigned_abs, ℤ}
use Rattle.std.specs.List.{AllZip}
use Rattle.std.proofs.lemmas.Bool.{leb-true}
use Rattle.std.proofs.Math.Nat.{eq-one_of_dvd-one}
use Rattle.plane_predicate.specs.declared.unit.Unit.TheVariants.{Whole}
use Rattle.plane_predicate.specs.Space.{Coefficients, point_at, IsInReach, IsPlane}
use Rattle.int_transform.specs.Maps.{map_of, image, HasSafeCoordinates, KeepsSafeCoordinates}
use Rattle.primitives.specs.Shapes.{Mesh, IsPlaneOfFace}
use Rattle.primitives.specs.Sizes.{AreSizes, IsAtLeastOne, IsSafe, length_in_grid_steps}
use Rattle.primitives.specs.Boxes.{box_faces}
use Rattle.primitives.specs.Placing.{moved_mesh}
use Rattle.primitives.proofs.lemmas.BoxBodies.{cube_is_shape}
use Rattle.csg_tree.specs.HalfSpaceTrees.{leaf}
use Rattle.scad_ast.specs.Terms.{statements_from}
use Rattle.scad_scope.specs.Names.{first_bindings}
use Rattle.scad_func.specs.Meaning.{Outcome, Gives, value_within}
use Rattle.scad_modules.specs.Effects.{SolidCall, cube_call}
use Rattle.scad_design.specs.Designs.{DesignTree, a_leaf, MovedShape}
use Rattle.scad_design.specs.Placing.{StaysSafe, IsPlacedLeaf, placing_tree}
use Rattle.scad_meaning.specs.Verdicts.{Judge, Verdict, IsRightJudge, solid_mesh}
use Rattle.scad_meaning.specs.Meaning.{design_of, design_within}
use Rattle.scad_meaning.specs.Sources.{IsMeaning, IsMeaningOfDesign, a_tree}
use Rattle.scad_meaning.proofs.lemmas.Verdicts.{one_solid_verdict}
use Rattle.script_server.specs.Meaning.Sources.{Means}
use Rattle.tree_export.specs.Worked.{worked_box}
use Rattle.one_cube.specs.Worked.{worked_source}
use Rattle.one_cube.proofs.Tokens.{at, program, writes}
use Rattle.one_cube.proofs.Checks.{all_by, all_of, is_safe, safe_by, is_reached, reach_by, is_above, above_by, one_least, plane_of_face, plane_by}

-- ---- the design, by what a judge says of the one call
abbrev call : SolidCall
call = cube_call false (pos 1 ∷ pos 2 ∷ pos 3 ∷ [])

abbrev saying : Verdict → Judge
saying verdict = record { solid = λ unit call. verdict; flat = λ unit call. None; height = λ unit center height. None; hull = λ design. None }

abbrev judged : Verdict → Outcome DesignTree
judged verdict = design_of Whole (saying verdict) first_bindings (statements_from program)

one_verdict : (judge : Judge) → design_of Whole judge first_bindings (statements_from program) ≡ judged (judge.solid Whole call)
unfolding design_of design_within value_within
one_verdict judge = refl

given : judged None ≡ Gives 4 (a_leaf (record { mesh = solid_mesh Whole call; steps = []; at = at 1 }))
unfolding design_of design_within value_within
given = refl

-- ---- the shape in its place
abbrev shape : MovedShape
shape = record { mesh = solid_mesh Whole call; steps = []; at = at 1 }

abbrev placed : Mesh
placed = moved_mesh (map_of []) (solid_mesh Whole call)

abbrev planes : List Coefficients
planes =
    record { a = negsuc 0; b = pos 0; c = pos 0; d = pos 0 } ∷ record { a = pos 1; b = pos 0; c = pos 0; d = pos 1 }
    ∷ record { a = pos 0; b = negsuc 0; c = pos 0; d = pos 0 } ∷ record { a = pos 0; b = pos 1; c = pos 0; d = pos 2 }
    ∷ record { a = pos 0; b = pos 0; c = negsuc 0; d = pos 0 } ∷ record { a = pos 0; b = pos 0; c = pos 1; d = pos 3 } ∷ []

sizes : AreSizes Whole false (pos 1 ∷ pos 2 ∷ pos 3 ∷ [])
sizes = record {
  long = all_by is_above IsAtLeastOne (λ s h. one_least s (above_by s h)) (pos 1 ∷ pos 2 ∷ pos 3 ∷ []) refl;
  on_grid = tt;
  safe = all_by (λ s. nat_le (unsigned_abs (length_in_grid_steps Whole s)) 9007199254740991) (λ s. IsSafe (length_in_grid_steps Whole s)) (λ s h. record { size = leb-true _ _ h }) (pos 1 ∷ pos 2 ∷ pos 3 ∷ []) refl;
}

faces_are : AllZip (IsPlaneOfFace placed) box_faces planes
faces_are = (plane_of_face placed _ _ refl refl refl, (plane_of_face placed _ _ refl refl refl, (plane_of_face placed _ _ refl refl refl, (plane_of_face placed _ _ refl refl refl, (plane_of_face placed _ _ refl refl refl, (plane_of_face placed _ _ refl refl refl, tt))))))

all_planes : All IsPlane planes
all_planes = all_of IsPlane planes (plane_by _ refl refl (λ k a b c d. eq-one_of_dvd-one a), (plane_by _ refl refl (λ k a b c d. eq-one_of_dvd-one a), (plane_by _ refl refl (λ k a b c d. eq-one_of_dvd-one b), (plane_by _ refl refl (λ k a b c d. eq-one_of_dvd-one b), (plane_by _ refl refl (λ k a b c d. eq-one_of_dvd-one c), (plane_by _ refl refl (λ k a b c d. eq-one_of_dvd-one c), tt))))))

stays_safe : StaysSafe shape
stays_safe = all_by (λ p. is_safe (image (map_of []) (point_at p))) (λ p. KeepsSafeCoordinates [] (point_at p)) (λ p h k few. step_safe p h k few) shape.mesh.points refl
  where
    step_safe : (p : List ℤ) → is_safe (image (map_of []) (point_at p)) ≡ true → (k : ℕ) → k ≤ 0 → HasSafeCoordinates (image (map_of (take k [])) (point_at p))
    step_safe p h zero few = safe_by (image (map_of []) (point_at p)) h
    step_safe p h (suc k) few = absurd (omega (arith, few))

placed_leaf : IsPlacedLeaf shape [] planes
placed_leaf = record {
  safe = stays_safe;
  reach = all_by (λ p. is_reached (image (map_of []) (point_at p))) (λ p. IsInReach (image (map_of []) (point_at p))) (λ p h. reach_by _ h) shape.mesh.points refl;
  planes_are = record { reduced = all_planes; solid = (cube_is_shape Whole false (pos 1 ∷ pos 2 ∷ pos 3 ∷ []) (omega arith) sizes).faces; faces = record { all = planes; each = faces_are; first = refl } };
  few = leb-true _ _ refl;
}

program_means : IsMeaning Whole program (a_tree worked_box)
program_means judge right =
    let accepted = one_solid_verdict Whole call (judge.solid Whole call) None (right.solid Whole call) sizes in
    subst (λ (o : Outcome DesignTree). IsMeaningOfDesign o (a_tree worked_box)) (sym (one_verdict judge ∙ (ap judged accepted ∙ given)))
    (placing_tree worked_box planes, (planes, placed_leaf, refl, refl), refl)

pub source_means : Means Whole worked_source worked_box
source_means = (program, writes, program_means)
