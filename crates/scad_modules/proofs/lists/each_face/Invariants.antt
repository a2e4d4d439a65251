use Rattle.std.proofs.Common.{◌≡◌, drop}
use Rattle.scad_value.specs.Values.{vals_from}
use Rattle.scad_value.specs.View.{vals_in}
use Rattle.scad_modules.specs.Reading.{face_in, each_in}
use Rattle.scad_modules.proofs.Fronts.{in_front}
use Rattle.scad_modules.proofs.lists.each_face.Given as goal

abbrev pub invariant-loop-value : goal.invariant-loop-value
invariant-loop-value l =
    in_front l.faces.items (each_in face_in (vals_from (vals_in (drop l.value-index l.values))))
    ≡ each_in face_in (vals_from (vals_in l.values))
