use Rattle.int_transform.specs.Maps.{map_of}
use Rattle.int_transform.proofs.lemmas.Images.{image-composition}
use Rattle.int_transform.proofs.laws.maps_are_done_in_order.Goals as goal

pub returns-clause-both : goal.returns-clause-both
returns-clause-both c = image-composition

pub returns-clause-first : goal.returns-clause-first
returns-clause-first c = λ step steps p. image-composition (map_of steps) step p
