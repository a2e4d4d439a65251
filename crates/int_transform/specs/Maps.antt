-- Affine maps of space in whole numbers, without a bound.
use Rattle.std.specs.Prelude.{◌≡◌, ℕ, zero, suc, ◌≤◌, ℤ, pos, negsuc, ◌+ℤ◌, ◌*ℤ◌, unsigned_abs, neg_ℤ, List, [], ◌∷◌, get_or, length, take}
use Rattle.plane_predicate.specs.Space.{Coordinates, determinant}
use Rattle.int_transform.specs.declared.affine.Row.{Row}
use Rattle.int_transform.specs.declared.affine.Affine.{Affine}

-- one coordinate of the image of a point, times its w
abbrev pub row_at : Row → Coordinates → ℤ
row_at r p = r.a *ℤ p.x +ℤ r.b *ℤ p.y +ℤ r.c *ℤ p.z +ℤ r.d *ℤ p.w

-- the image of a point
abbrev pub image : Affine → Coordinates → Coordinates
image m p = record { x = row_at m.x p; y = row_at m.y p; z = row_at m.z p; w = p.w }

-- a row of the map that goes on with row r where m ends
abbrev pub row_after : Row → Affine → Row
row_after r m = record {
  a = r.a *ℤ m.x.a +ℤ r.b *ℤ m.y.a +ℤ r.c *ℤ m.z.a;
  b = r.a *ℤ m.x.b +ℤ r.b *ℤ m.y.b +ℤ r.c *ℤ m.z.b;
  c = r.a *ℤ m.x.c +ℤ r.b *ℤ m.y.c +ℤ r.c *ℤ m.z.c;
  d = r.a *ℤ m.x.d +ℤ r.b *ℤ m.y.d +ℤ r.c *ℤ m.z.d +ℤ r.d;
}

-- the product of two maps: first m, then n
abbrev pub composition : Affine → Affine → Affine
composition n m = record { x = row_after n.x m; y = row_after n.y m; z = row_after n.z m }

-- each coordinate times a number, and another one added
abbrev pub diagonal_map : ℤ → ℤ → ℤ → ℤ → ℤ → ℤ → Affine
diagonal_map a b c x y z = record {
  x = record { a = a; b = pos 0; c = pos 0; d = x };
  y = record { a = pos 0; b = b; c = pos 0; d = y };
  z = record { a = pos 0; b = pos 0; c = c; d = z };
}

-- the map that moves nothing
abbrev pub identity : Affine
identity = diagonal_map (pos 1) (pos 1) (pos 1) (pos 0) (pos 0) (pos 0)

-- a list of steps as one map: the first of the list is done first
abbrev pub map_of : List Affine → Affine
map_of [] = identity
map_of (step ∷ steps) = composition (map_of steps) step

-- the move by a vector (User Manual, translate)
abbrev pub translation : Coordinates → Affine
translation p = diagonal_map (pos 1) (pos 1) (pos 1) p.x p.y p.z

-- each coordinate times a factor of its own (User Manual, scale)
abbrev pub scale_map : Coordinates → Affine
scale_map p = diagonal_map p.x p.y p.z (pos 0) (pos 0) (pos 0)

-- the mirror image at the plane through the origin across axis 0, 1 or 2 (User Manual, mirror)
abbrev pub reflection : ℕ → Affine
reflection zero = diagonal_map (negsuc 0) (pos 1) (pos 1) (pos 0) (pos 0) (pos 0)
reflection (suc zero) = diagonal_map (pos 1) (negsuc 0) (pos 1) (pos 0) (pos 0) (pos 0)
reflection (suc (suc n)) = diagonal_map (pos 1) (pos 1) (negsuc 0) (pos 0) (pos 0) (pos 0)

-- a right-handed quarter turn about axis 0, 1 or 2: about z, x goes to y (User Manual, rotate)
abbrev pub quarter_rotation : ℕ → Affine
quarter_rotation zero = record {
  x = record { a = pos 1; b = pos 0; c = pos 0; d = pos 0 };
  y = record { a = pos 0; b = pos 0; c = negsuc 0; d = pos 0 };
  z = record { a = pos 0; b = pos 1; c = pos 0; d = pos 0 };
}
quarter_rotation (suc zero) = record {
  x = record { a = pos 0; b = pos 0; c = pos 1; d = pos 0 };
  y = record { a = pos 0; b = pos 1; c = pos 0; d = pos 0 };
  z = record { a = negsuc 0; b = pos 0; c = pos 0; d = pos 0 };
}
quarter_rotation (suc (suc n)) = record {
  x = record { a = pos 0; b = negsuc 0; c = pos 0; d = pos 0 };
  y = record { a = pos 1; b = pos 0; c = pos 0; d = pos 0 };
  z = record { a = pos 0; b = pos 0; c = pos 1; d = pos 0 };
}

-- the cosine of 0 to 3 quarter turns
abbrev pub cosine_of : ℕ → ℤ
cosine_of zero = pos 1
cosine_of (suc zero) = pos 0
cosine_of (suc (suc zero)) = negsuc 0
cosine_of (suc (suc (suc n))) = pos 0

-- the sine of 0 to 3 quarter turns
abbrev pub sine_of : ℕ → ℤ
sine_of zero = pos 0
sine_of (suc zero) = pos 1
sine_of (suc (suc zero)) = pos 0
sine_of (suc (suc (suc n))) = negsuc 0

-- the right-handed turn about an axis by an angle with this cosine and sine
abbrev pub rotation_of : ℕ → ℤ → ℤ → Affine
rotation_of zero c s = record {
  x = record { a = pos 1; b = pos 0; c = pos 0; d = pos 0 };
  y = record { a = pos 0; b = c; c = neg_ℤ s; d = pos 0 };
  z = record { a = pos 0; b = s; c = c; d = pos 0 };
}
rotation_of (suc zero) c s = record {
  x = record { a = c; b = pos 0; c = s; d = pos 0 };
  y = record { a = pos 0; b = pos 1; c = pos 0; d = pos 0 };
  z = record { a = neg_ℤ s; b = pos 0; c = c; d = pos 0 };
}
rotation_of (suc (suc n)) c s = record {
  x = record { a = c; b = neg_ℤ s; c = pos 0; d = pos 0 };
  y = record { a = s; b = c; c = pos 0; d = pos 0 };
  z = record { a = pos 0; b = pos 0; c = pos 1; d = pos 0 };
}

-- a map done the given number of times
abbrev pub power_of : Affine → ℕ → Affine
power_of m zero = identity
power_of m (suc n) = composition m (power_of m n)

-- the row with these numbers
abbrev pub row_of : List ℤ → Row
row_of r = record { a = get_or r 0 (pos 0); b = get_or r 1 (pos 0); c = get_or r 2 (pos 0); d = get_or r 3 (pos 0) }

-- the map with these rows (User Manual, multmatrix)
abbrev pub affine_of : List (List ℤ) → Affine
affine_of rows = record { x = row_of (get_or rows 0 []); y = row_of (get_or rows 1 []); z = row_of (get_or rows 2 []) }

-- the determinant of the linear part: 0 exactly where the map is singular
abbrev pub determinant_of : Affine → ℤ
determinant_of m = determinant m.x.a m.x.b m.x.c m.y.a m.y.b m.y.c m.z.a m.z.b m.z.c

-- the first three numbers of a point
abbrev pub coordinate_list : Coordinates → List ℤ
coordinate_list p = p.x ∷ p.y ∷ p.z ∷ []

-- coordinates that are at most 2^53 - 1 in size
pub record HasSafeCoordinates (p : Coordinates) : Type 0 where
  pub x_size : unsigned_abs p.x ≤ 9007199254740991
  pub y_size : unsigned_abs p.y ≤ 9007199254740991
  pub z_size : unsigned_abs p.z ≤ 9007199254740991

-- a row whose numbers are at most 2^53 - 1 in size
pub record IsSafeRow (r : Row) : Type 0 where
  pub a_size : unsigned_abs r.a ≤ 9007199254740991
  pub b_size : unsigned_abs r.b ≤ 9007199254740991
  pub c_size : unsigned_abs r.c ≤ 9007199254740991
  pub d_size : unsigned_abs r.d ≤ 9007199254740991

-- what a step keeps: its numbers are at most 2^53 - 1 in size, and it is not singular
pub record IsStep (m : Affine) : Type 0 where
  pub x : IsSafeRow m.x
  pub y : IsSafeRow m.y
  pub z : IsSafeRow m.z
  pub regular : determinant_of m ≡ pos 0 → ⊥

-- a row of a matrix of a source: its first three numbers are at most 65535 in size
pub record IsMatrixRow (r : Row) : Type 0 where
  pub a_size : unsigned_abs r.a ≤ 65535
  pub b_size : unsigned_abs r.b ≤ 65535
  pub c_size : unsigned_abs r.c ≤ 65535
  pub d_size : unsigned_abs r.d ≤ 9007199254740991

-- a map that a matrix of the manual may give: small linear entries, and safe moves
pub record IsMatrix (m : Affine) : Type 0 where
  pub x : IsMatrixRow m.x
  pub y : IsMatrixRow m.y
  pub z : IsMatrixRow m.z

-- the point and its images after each of the steps have coordinates at most 2^53 - 1 in size
abbrev pub KeepsSafeCoordinates : List Affine → Coordinates → Type 0
KeepsSafeCoordinates steps p = (k : ℕ) → k ≤ length steps → HasSafeCoordinates (image (map_of (take k steps)) p)

-- the image after some of the steps has a coordinate past 2^53 - 1
pub record LeavesSafeCoordinates (steps : List Affine) (p : Coordinates) : Type 0 where
  pub after : ℕ
  pub within : after ≤ length steps
  pub past : HasSafeCoordinates (image (map_of (take after steps)) p) → ⊥
