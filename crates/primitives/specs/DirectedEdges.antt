-- The directed edges of faces, as the points that they go from and to. So equal points are one.
use Rattle.std.specs.Prelude.{◌≡◌, ℕ, ◌+◌, ◌<◌, ℤ, pos, ◌≤ℤ◌, List, [], ◌∷◌, get_or, length, All, nat_eq, if◌then◌else◌}
use Rattle.std.specs.List.{flat_map}
use Rattle.std.specs.Ordering.{int_eq}
use Rattle.std.specs.Cmp.Lexicographic.{pointwise}
use Rattle.plane_predicate.specs.Space.{Coefficients, point_at, inner_product, plane_of_points}
use Rattle.primitives.specs.Shapes.{mesh_point}
use Rattle.primitives.specs.GridSizes.{IsWithinGridLimits}
use Rattle.primitives.specs.declared.ways.DirectedEdge.{DirectedEdge}
use Rattle.plane_predicate.specs.Indices.{indices_below}

-- the edge in the other direction
abbrev pub reversed_edge : DirectedEdge → DirectedEdge
reversed_edge w = record { from = w.to; to = w.from }

-- the edge from one point to another: none between equal points
abbrev pub edge_between : List ℤ → List ℤ → List DirectedEdge
edge_between p q = if pointwise int_eq p q then [] else record { from = p; to = q } ∷ []

-- the place in a face of the given number of corners that follows place k: the first follows the last
abbrev pub next_in_face : ℕ → ℕ → ℕ
next_in_face k corners = if nat_eq (k + 1) corners then 0 else k + 1

-- the edge from the corner at place k of a face to the next one
abbrev pub edge_at_place : List (List ℤ) → List ℕ → ℕ → List DirectedEdge
edge_at_place points face k = edge_between (get_or points (get_or face k 0) []) (get_or points (get_or face (next_in_face k (length face)) 0) [])

-- the edges of a face, once round
abbrev pub edges_of_mesh_face : List (List ℤ) → List ℕ → List DirectedEdge
edges_of_mesh_face points face = flat_map (edge_at_place points face) (indices_below (length face))

-- the edges of all faces
abbrev pub all_edges : List (List ℤ) → List (List ℕ) → List DirectedEdge
all_edges points faces = flat_map (edges_of_mesh_face points) faces

-- the edge past the end of a list
abbrev pub missing_edge : DirectedEdge
missing_edge = record { from = []; to = [] }

-- an edge is among some edges exactly once
pub record IsMetOnce (ways : List DirectedEdge) (w : DirectedEdge) : Type 0 where
  pub at : ℕ
  pub at_in : at < length ways
  pub is : get_or ways at missing_edge ≡ w
  pub only : (k : ℕ) → k < length ways → get_or ways k missing_edge ≡ w → k ≡ at

-- each of some edges is met exactly once in its direction and exactly once in the other
abbrev pub AreMetBothWays : List DirectedEdge → Type 0
AreMetBothWays ways = All (λ w. IsMetOnce ways w × IsMetOnce ways (reversed_edge w)) ways

-- an edge is among the first n of some edges
pub record IsMetBelow (ways : List DirectedEdge) (n : ℕ) (w : DirectedEdge) : Type 0 where
  pub at : ℕ
  pub at_in : at < n
  pub is : get_or ways at missing_edge ≡ w

-- an edge is among some edges
abbrev pub IsMet : List DirectedEdge → DirectedEdge → Type 0
IsMet ways w = IsMetBelow ways (length ways) w

-- no two of the first n of some edges are the same
pub record AreDifferentBelow (ways : List DirectedEdge) (n : ℕ) : Type 0 where
  pub same : (i j : ℕ) → i < n → j < n → get_or ways i missing_edge ≡ get_or ways j missing_edge → i ≡ j

-- no two of some edges are the same
abbrev pub AreDifferent : List DirectedEdge → Type 0
AreDifferent ways = AreDifferentBelow ways (length ways)

-- as seen from ahead of a plane, no corner of a face is strictly to the left of an edge
abbrev pub HasNoneLeft : List (List ℤ) → List ℕ → Coefficients → DirectedEdge → Type 0
HasNoneLeft points face m w = All (λ i. inner_product m (plane_of_points (point_at w.from) (point_at w.to) (mesh_point points i)) ≤ℤ pos 0) face

-- as seen from ahead of a plane, a face goes round clockwise
abbrev pub IsClockwise : List (List ℤ) → List ℕ → Coefficients → Type 0
IsClockwise points face m = All (HasNoneLeft points face m) (edges_of_mesh_face points face)

-- both points of an edge have coordinates of at most 65,535 units
pub record IsEdgeOnGrid (w : DirectedEdge) : Type 0 where
  pub from_grid : IsWithinGridLimits (point_at w.from)
  pub to_grid : IsWithinGridLimits (point_at w.to)

-- the edges of a face, where both points of each of them have such coordinates
pub record AreEdgesOnGrid (points : List (List ℤ)) (face : List ℕ) (ways : List DirectedEdge) : Type 0 where
  pub are : ways ≡ edges_of_mesh_face points face
  pub grid : All IsEdgeOnGrid ways
