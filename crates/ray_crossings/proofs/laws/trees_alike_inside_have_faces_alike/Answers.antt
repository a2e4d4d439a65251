use Rattle.ray_crossings.proofs.Tiles.{cover_alike}
use Rattle.ray_crossings.proofs.laws.trees_alike_inside_have_faces_alike.Goals as goal

pub returns : goal.returns
returns c = λ unit cell f g bytes others proper properly. cover_alike unit cell f g bytes others proper.leaves properly.leaves
