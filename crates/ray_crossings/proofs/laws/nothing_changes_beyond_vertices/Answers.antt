use Rattle.ray_crossings.proofs.Beyond.{alike}
use Rattle.ray_crossings.proofs.laws.nothing_changes_beyond_vertices.Goals as goal

pub returns : goal.returns
returns c = λ unit bytes f proper text k behind a b oa ob ga gb. alike unit bytes f proper.leaves text k behind a b oa ob ga gb
