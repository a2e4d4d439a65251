-- The source of one cube.
use Rattle.std.specs.Prelude.{ℕ, List, codes}

-- the bytes of `cube([1,2,3]);`
abbrev pub worked_source : List ℕ
worked_source = codes "cube([1,2,3]);"
