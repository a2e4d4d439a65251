-- Planes by number over a list of planes.
use Rattle.std.specs.Prelude.{◌≡◌, ◌≢◌, ℕ, ◌+◌, ◌-◌, ◌*◌, ◌/◌, ◌%◌, ◌<◌, List, length, get_or, if◌then◌else◌, ◌==◌, Bool, true, All}
use Rattle.plane_predicate.specs.Space.{Coefficients, opposite_of}
use Rattle.plane_predicate.specs.Lines.{IsSmall}
use Rattle.plane_polygon.specs.Polygons.{missing_plane}
use Rattle.plane_polygon.specs.Parallels.{HasSameDirection}
use Rattle.plane_table.specs.declared.directions.OrientedPlane.{OrientedPlane}

-- a plane for an even number, and its opposite for an odd one
unfoldable pub oriented_by_number : ℕ → Coefficients → Coefficients
oriented_by_number n m = if n % 2 == 0 then m else opposite_of m

-- the plane that a number names over a list of planes: 2k names plane k, and 2k + 1 its opposite
abbrev pub plane_named : List Coefficients → ℕ → Coefficients
plane_named planes n = oriented_by_number n (get_or planes (n / 2) missing_plane)

-- the number that names the opposite plane
unfoldable pub opposite_number : ℕ → ℕ
opposite_number n = if n % 2 == 0 then n + 1 else n - 1

-- the number names a plane of the list or its opposite
abbrev pub NamesPlaneIn : List Coefficients → ℕ → Type 0
NamesPlaneIn planes n = n < 2 * length planes

-- neither equal nor opposite
pub record AreApart (m n : Coefficients) : Type 0 where
  pub differ : m ≢ n
  pub not_opposite : m ≢ opposite_of n

-- no two planes of the list are equal or opposite
pub record HasNoTwoAlike (planes : List Coefficients) : Type 0 where
  pub apart : (i j : ℕ) → i < length planes → j < length planes → i ≢ j →
      AreApart (get_or planes i missing_plane) (get_or planes j missing_plane)

-- the plane that a number names, with the number of one that has its direction
pub record IsOrientedAs (planes : List Coefficients) (n : ℕ) (entry : OrientedPlane) : Type 0 where
  pub plane : entry.plane ≡ plane_named planes n
  pub alike : HasSameDirection (plane_named planes entry.direction) (plane_named planes n)

-- past the end of a list of such planes
abbrev pub no_entry : OrientedPlane
no_entry = record { plane = missing_plane; direction = 0 }

-- the first planes of the list and their opposites, by number
pub record AreFirstOriented (planes : List Coefficients) (entries : List OrientedPlane) (first : ℕ) : Type 0 where
  pub count : length entries ≡ 2 * first
  pub each : (n : ℕ) → n < length entries → IsOrientedAs planes n (get_or entries n no_entry)

-- all of them
abbrev pub AreOriented : List Coefficients → List OrientedPlane → Type 0
AreOriented planes entries = AreFirstOriented planes entries (length planes)

-- what a table keeps: the entries are its planes and their opposites by number, no two planes are equal or opposite, and
-- all are small where it says so
pub record IsTable (planes : List Coefficients) (entries : List OrientedPlane) (is_small : Bool) : Type 0 where
  pub oriented : AreOriented planes entries
  pub apart : HasNoTwoAlike planes
  pub small : is_small ≡ true → All IsSmall planes

-- each plane that a number names is small
abbrev pub AreNumbersSmall : List Coefficients → Type 0
AreNumbersSmall planes = (n : ℕ) → NamesPlaneIn planes n → IsSmall (plane_named planes n)
