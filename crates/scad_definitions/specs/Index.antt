-- An index of names, read by bytes.
use Rattle.std.specs.Prelude.{ℕ, List, Option}
use Rattle.std.specs.BTreeMap.{BTreeMap, get_by}
use Rattle.std.specs.Cmp.Lexicographic.{slice_cmp}
use Rattle.std.specs.Ordering.{nat_cmp}
use Rattle.std.specs.declared.vec.Vec.{Vec}

-- the place by a name
abbrev pub place_of_name : {Y : Type 0} → BTreeMap (Vec ℕ Y) ℕ → List ℕ → Option ℕ
place_of_name index name = get_by (λ key. slice_cmp nat_cmp name key.items) index
