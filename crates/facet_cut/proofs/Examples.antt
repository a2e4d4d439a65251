-- Worked rows, computed by the definitions.
use Rattle.std.proofs.Common.{◌≡◌, ◌≢◌, Bool, true, false, not, if◌then◌else◌, sym, ap, ◌∙◌, List, [], ◌∷◌, ◌++◌, length, map, reverse, refl, ℤ, pos, negsuc, neg_ℤ}
use Rattle.plane_predicate.specs.Space.{Coefficients, Coordinates, opposite_of, is_same}
use Rattle.plane_polygon.specs.Polygons.{Outline}
use Rattle.plane_polygon.specs.Boxes.{box_outline, trimmed_outline}
use Rattle.plane_polygon.specs.Parts.{is_behind}
use Rattle.bsp_tree.specs.Trees.{BspTree, inside, outside, node, size}
use Rattle.bsp_tree.proofs.lemmas.SameNumbers.{same_equal, not_same}
use Rattle.facet_cut.specs.Facets.{facets_of}
use Rattle.facet_cut.specs.Sides.{walk_by, AreJustBehind, AreJustAhead}

abbrev plane : ℤ → ℤ → ℤ → ℤ → Coefficients
plane a b c d = record { a = a; b = b; c = c; d = d }

-- the box from (x, y, z) to (u, v, w)
abbrev box : ℤ → ℤ → ℤ → ℤ → ℤ → ℤ → List Coefficients
box x y z u v w =
    plane (negsuc 0) (pos 0) (pos 0) (neg_ℤ x) ∷ plane (pos 1) (pos 0) (pos 0) u
    ∷ plane (pos 0) (negsuc 0) (pos 0) (neg_ℤ y) ∷ plane (pos 0) (pos 1) (pos 0) v
    ∷ plane (pos 0) (pos 0) (negsuc 0) (neg_ℤ z) ∷ plane (pos 0) (pos 0) (pos 1) w ∷ []

-- the part of a polygon behind all the planes
abbrev within : List Coefficients → Outline → Outline
within [] s = s
within (m ∷ above) s = within above (trimmed_outline s m)

-- what is behind all the planes, where a leaf stands there and another one elsewhere
abbrev chain : List Coefficients → List Coefficients → BspTree → BspTree → BspTree
chain [] above leaf other = leaf
chain (m ∷ planes) above leaf other =
    node (within above (box_outline m)) (chain planes (m ∷ above) leaf other) other

abbrev unit_box : BspTree
unit_box = chain (box (pos 0) (pos 0) (pos 0) (pos 1) (pos 1) (pos 1)) [] inside outside

unit_size : size unit_box ≡ 30
unit_size = refl

unit_facets : length (facets_of unit_box) ≡ 6
unit_facets = refl

unit_planes : map (λ (s : Outline). s.plane) (facets_of unit_box) ≡ box (pos 0) (pos 0) (pos 0) (pos 1)
    (pos 1) (pos 1)
unit_planes = refl

-- a box of 2 by 2 by 2 from which a corner of 1 by 1 by 1 is taken away: in the leaf inside the box, the
-- corner's three planes
abbrev notch : BspTree
notch =
    let large = box (pos 0) (pos 0) (pos 0) (pos 2) (pos 2) (pos 2) in
    let corner = plane (negsuc 0) (pos 0) (pos 0) (negsuc 0) ∷ plane (pos 0) (negsuc 0) (pos 0) (negsuc 0)
    ∷ plane (pos 0) (pos 0) (negsuc 0) (negsuc 0) ∷ [] in
    chain large [] (chain corner (reverse large) outside inside) outside

notch_size : size notch ≡ 45
notch_size = refl

notch_facets : length (facets_of notch) ≡ 15
notch_facets = refl

-- two boxes with a shared wall: the second one's other five planes stand ahead of the wall's plane
abbrev low_x : Coefficients
low_x = plane (negsuc 0) (pos 0) (pos 0) (pos 0)

abbrev wall : Coefficients
wall = plane (pos 1) (pos 0) (pos 0) (pos 1)

abbrev high_x : Coefficients
high_x = plane (pos 1) (pos 0) (pos 0) (pos 2)

abbrev four_sides : List Coefficients
four_sides =
    plane (pos 0) (negsuc 0) (pos 0) (pos 0) ∷ plane (pos 0) (pos 1) (pos 0) (pos 1)
    ∷ plane (pos 0) (pos 0) (negsuc 0) (pos 0) ∷ plane (pos 0) (pos 0) (pos 1) (pos 1) ∷ []

abbrev two_boxes : BspTree
two_boxes =
    node (box_outline low_x)
    (node (within (low_x ∷ []) (box_outline wall)) (chain four_sides (wall ∷ low_x ∷ []) inside outside)
    (chain (high_x ∷ four_sides) (opposite_of wall ∷ low_x ∷ []) inside outside))
    outside

two_boxes_size : size two_boxes ≡ 55
two_boxes_size = refl

-- ten facets, and none of them lies on the wall's plane
two_boxes_planes : map (λ (s : Outline). s.plane) (facets_of two_boxes) ≡ low_x ∷ four_sides ++
    high_x ∷ four_sides
two_boxes_planes = refl

-- ---- sides just behind and just ahead
-- the sides of a point on n: n is given c, its opposite the other side, and every other plane has the
-- point's side
abbrev beside : Bool → Coefficients → Coordinates → Coefficients → Bool
beside c n p m = if is_same m n then c else if is_same m (opposite_of n) then not c else is_behind m p

same_itself : (m : Coefficients) → is_same m m ≡ true
same_itself m = elim (is_same m m) as (λ b. is_same m m ≡ b → b ≡ true)
    [ true ↦ λ e. refl | false ↦ λ e. absurd (not_same m m e refl) ] refl

same_other : (m n : Coefficients) → m ≢ n → is_same m n ≡ false
same_other m n d = elim (is_same m n) as (λ b. is_same m n ≡ b → b ≡ false)
    [ true ↦ λ e. absurd (d (same_equal m n e)) | false ↦ λ e. refl ] refl

beside_itself : (c : Bool) (n : Coefficients) (p : Coordinates) → beside c n p n ≡ c
beside_itself c n p = ap (λ (x : Bool). if x then c else if is_same n (opposite_of n) then not c else is_behind
    n p) (same_itself n)

beside_opposite : (c : Bool) (n : Coefficients) (p : Coordinates) → n ≢ opposite_of n →
    beside c n p (opposite_of n) ≡ not c
beside_opposite c n p d =
    let o = opposite_of n in
    ap (λ (x : Bool). if x then c else if is_same o o then not c else is_behind o p)
    (same_other o n (λ e. d (sym e)))
    ∙ ap (λ (x : Bool). if x then not c else is_behind o p) (same_itself o)

beside_others : (c : Bool) (n : Coefficients) (p : Coordinates) (m : Coefficients) → m ≢ n →
    m ≢ opposite_of n → beside c n p m ≡ is_behind m p
beside_others c n p m d o =
    ap (λ (x : Bool). if x then c else if is_same m (opposite_of n) then not c else is_behind m p)
    (same_other m n d)
    ∙ ap (λ (x : Bool). if x then not c else is_behind m p) (same_other m (opposite_of n) o)

-- so there are such sides
pub beside_behind : (n : Coefficients) (p : Coordinates) → n ≢ opposite_of n →
    AreJustBehind n p (beside true n p)
beside_behind n p d = record {
  itself = beside_itself true n p;
  opposite = beside_opposite true n p d;
  others =
      beside_others true n p;
}

pub beside_ahead : (n : Coefficients) (p : Coordinates) → n ≢ opposite_of n →
    AreJustAhead n p (beside false n p)
beside_ahead n p d = record {
  itself = beside_itself false n p;
  opposite = beside_opposite false n p d;
  others =
      beside_others false n p;
}

-- a point of the shared wall has the solid on both sides
abbrev on_wall : Coordinates
on_wall = record { x = pos 2; y = pos 1; z = pos 1; w = pos 2 }

wall_behind : walk_by two_boxes (beside true wall on_wall) ≡ true
wall_behind = refl

wall_ahead : walk_by two_boxes (beside false wall on_wall) ≡ true
wall_ahead = refl

-- a point of the low end has it behind the plane alone, and ahead of the opposite plane alone
abbrev on_end : Coordinates
on_end = record { x = pos 0; y = pos 1; z = pos 1; w = pos 2 }

end_behind : walk_by two_boxes (beside true low_x on_end) ≡ true
end_behind = refl

end_ahead : walk_by two_boxes (beside false low_x on_end) ≡ false
end_ahead = refl

turned_behind : walk_by two_boxes (beside true (opposite_of low_x) on_end) ≡ false
turned_behind = refl

turned_ahead : walk_by two_boxes (beside false (opposite_of low_x) on_end) ≡ true
turned_ahead = refl
