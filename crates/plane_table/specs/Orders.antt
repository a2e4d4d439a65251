-- The order in which lists of planes stand: by their numbers, the same for a plane and its opposite.
use Rattle.std.specs.Prelude.{◌≡◌, ℕ, ◌+◌, ◌<◌, Bool, ◌&&◌, ◌||◌, List, length, get_or, if◌then◌else◌, pos, int_lt}
use Rattle.std.specs.declared.cmp.Ordering.{Ordering}
use Rattle.std.specs.declared.cmp.Ordering.TheVariants.{Less}
use Rattle.std.specs.Ordering.{int_cmp, int_eq, ordering_then}
use Rattle.plane_predicate.specs.Space.{Coefficients, opposite_of}
use Rattle.plane_polygon.specs.Polygons.{missing_plane}

-- the first number that isn't 0 is below 0
abbrev pub is_low : Coefficients → Bool
is_low m =
    int_lt m.a (pos 0) || (int_eq m.a (pos 0) && (int_lt m.b (pos 0) || (int_eq m.b (pos 0) &&
    (int_lt m.c (pos 0) || (int_eq m.c (pos 0) && int_lt m.d (pos 0))))))

-- a plane or its opposite, so that the first number that isn't 0 is above 0
unfoldable pub normal_form : Coefficients → Coefficients
normal_form m = if is_low m then opposite_of m else m

-- the order of four numbers, by their first difference
abbrev pub by_numbers : Coefficients → Coefficients → Ordering
by_numbers m n =
    ordering_then (int_cmp m.a n.a) (ordering_then (int_cmp m.b n.b) (ordering_then (int_cmp m.c n.c) (int_cmp m.d n.d)))

-- the same for a plane and its opposite
abbrev pub plane_order : Coefficients → Coefficients → Ordering
plane_order m n = by_numbers (normal_form m) (normal_form n)

-- each plane comes before the next
pub record IsAscending (planes : List Coefficients) : Type 0 where
  pub next : (i : ℕ) → i + 1 < length planes → plane_order (get_or planes i missing_plane) (get_or planes (i + 1) missing_plane) ≡ Less

-- a plane comes after the last of a list, if there is one
abbrev pub ComesNext : List Coefficients → Coefficients → Type 0
ComesNext planes m = (i : ℕ) → i + 1 ≡ length planes → plane_order (get_or planes i missing_plane) m ≡ Less
