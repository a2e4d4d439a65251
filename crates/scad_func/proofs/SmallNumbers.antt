-- Lists of bounded values have small numbers.
use Rattle.std.proofs.Common.{List, [], ◌∷◌, refl}
use Rattle.std.specs.Prelude.{IsTrue}
use Rattle.std.proofs.lemmas.Bool.{and_parts, and_from}
use Rattle.scad_value.specs.Values.{Val, vals_from, have_small_numbers}
use Rattle.scad_builtin.specs.Builtins.{are_bounded}

pub list_small : (vs : List Val) → IsTrue (are_bounded vs) → IsTrue (have_small_numbers (vals_from vs))
list_small [] h = refl
list_small (v ∷ vs) h = let p = and_parts _ _ h in and_from _ _ (and_parts _ _ p.0).0 (list_small vs p.1)
