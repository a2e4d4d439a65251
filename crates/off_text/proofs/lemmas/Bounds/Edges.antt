-- A plane cuts a polygon into parts of at most twice as many edges.
use Rattle.std.proofs.Common.{◌≡◌, ℕ, zero, suc, ◌*◌, ◌≤◌, Bool, true, false, if◌then◌else◌, not, List, flat_map, length, length-append, refl, ap, arith, ℤ, pos, negsuc}
use Rattle.std.specs.Ordering.{int_eq}
use Rattle.plane_predicate.specs.Space.{Coefficients}
use Rattle.plane_polygon.specs.Polygons.{Outline, edge_plane, edge_count, corner}
use Rattle.plane_polygon.specs.Parts.{is_behind, index_before, edges_kept_by, edges_kept_at, part_behind, class_of}
use Rattle.plane_polygon.specs.Boxes.{trimmed_outline, outline_trimmed_to, counterclockwise_edges, box_over_x, box_over_y, box_over_z, box_outline, high_x, low_x, high_y, low_y, high_z, low_z}
use Rattle.plane_polygon.specs.declared.classes.Class.{Class}
use Rattle.plane_polygon.specs.declared.classes.Class.TheVariants.{Behind, Ahead, On, Across}
use Rattle.plane_polygon.proofs.lemmas.PartLists.{flat_up_to}
use Rattle.plane_predicate.specs.Indices.{indices_below}

-- an edge gives one or two edges, or none
kept_edges : (x y : Bool) (e m : Coefficients) → length (edges_kept_by x y e m) ≤ 2
kept_edges true true e m = omega arith
kept_edges true false e m = omega arith
kept_edges false true e m = omega arith
kept_edges false false e m = omega arith

all_edges : (f : ℕ → List Coefficients) → ((i : ℕ) → length (f i) ≤ 2) → (n : ℕ) →
    length (flat_map f (indices_below n)) ≤ 2 * n
all_edges f h zero = omega arith
all_edges f h (suc n) =
    let appended = length-append (flat_map f (indices_below n)) (f n) in
    omega (arith, ap length (flat_up_to f n), appended, all_edges f h n, h n)

pub part_edges : (s : Outline) (m : Coefficients) → edge_count (part_behind s m) ≤ 2 * edge_count s
part_edges s m =
    let from = λ (i : ℕ). is_behind m (corner s (index_before (edge_count s) i)) in
    all_edges (edges_kept_at s m) (λ i. kept_edges (from i) (is_behind m (corner s i)) (edge_plane s i) m) (edge_count s)

trimmed_to_edges : (c : Class) (s : Outline) (m : Coefficients) → edge_count (outline_trimmed_to c s m) ≤ 2 * edge_count s
trimmed_to_edges Across s m = part_edges s m
trimmed_to_edges Behind s m = omega arith
trimmed_to_edges Ahead s m = omega arith
trimmed_to_edges On s m = omega arith

trimmed_edges : (s : Outline) (m : Coefficients) → edge_count (trimmed_outline s m) ≤ 2 * edge_count s
trimmed_edges s m = trimmed_to_edges (class_of s m) s m

four_edges : (z : ℤ) (p q r s : Coefficients) → length (counterclockwise_edges z p q r s) ≡ 4
four_edges (pos n) p q r s = refl
four_edges (negsuc n) p q r s = refl

-- four edges, trimmed twice
trimmed_twice : (s : Outline) (m n : Coefficients) → edge_count s ≡ 4 → edge_count (trimmed_outline (trimmed_outline s m) n) ≤ 16
trimmed_twice s m n four = omega (arith, trimmed_edges (trimmed_outline s m) n, trimmed_edges s m)

chosen_edges : (x y : Bool) (r s t : Outline) → edge_count r ≤ 16 → edge_count s ≤ 16 → edge_count t ≤ 16 →
    edge_count (if x then r else if y then s else t) ≤ 16
chosen_edges true y r s t h k l = h
chosen_edges false true r s t h k l = k
chosen_edges false false r s t h k l = l

pub box_edges : (m : Coefficients) → edge_count (box_outline m) ≤ 16
box_edges m =
    chosen_edges (not (int_eq m.c (pos 0))) (not (int_eq m.b (pos 0)))
    (box_over_z m) (box_over_y m) (box_over_x m)
    (trimmed_twice (record { plane = m; edges = counterclockwise_edges m.c low_x low_y high_x high_y }) high_z low_z
    (four_edges m.c low_x low_y high_x high_y))
    (trimmed_twice (record { plane = m; edges = counterclockwise_edges m.b low_x high_z high_x low_z }) high_y low_y
    (four_edges m.b low_x high_z high_x low_z))
    (trimmed_twice (record { plane = m; edges = counterclockwise_edges m.a low_y low_z high_y high_z }) high_x low_x
    (four_edges m.a low_y low_z high_y high_z))
