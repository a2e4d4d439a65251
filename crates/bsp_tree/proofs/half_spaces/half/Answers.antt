use Rattle.std.proofs.Common.{◌≡◌, sym, subst}
use Rattle.std.proofs.lemmas.Result.{IfOk-weaker}
use Rattle.plane_predicate.specs.Space.{IsPlane}
use Rattle.bsp_tree.specs.Trees.{half_space}
use Rattle.bsp_tree.specs.Cells.{IsOfWorld}
use Rattle.bsp_tree.specs.Shapes.{tree_of}
use Rattle.bsp_tree.proofs.lemmas.Worlds.{half_of_world}
use Rattle.bsp_tree.proofs.half_spaces.half.Goals as goal

pub returns-clause-world : goal.returns-clause-world
returns-clause-world c =
    let m = c.args.plane.now in
    let h : IsPlane m = c.planes_keep_their_form.ensures in
    IfOk-weaker c.half_of.result (λ s. tree_of s ≡ half_space m) (λ s. IsOfWorld (tree_of s))
    (λ s e. subst IsOfWorld (sym e) (half_of_world m h c.requires)) c.half_of.ensures
