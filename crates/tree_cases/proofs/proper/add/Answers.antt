use Rattle.std.proofs.Common.{◌≡◌, ◌∷◌, ◌++◌, [], rules}
use Rattle.std.proofs.lemmas.List.Elements.{All-append, All-cons, All-nil}
use Rattle.csg_tree.specs.ProperTrees.{IsLeafPlane}
use Rattle.tree_cases.proofs.proper.add.Goals as goal

pub returns : goal.returns
returns c =
    let items : c.push.new.self.items ≡ c.args.planes.now.items ++ c.args.plane ∷ [] = search rules in
    let plane : IsLeafPlane c.args.plane =
    record { plane = c.planes_keep_their_form.ensures; reach = c.requires.reach } in
    record {
      all = rw items
          (All-append IsLeafPlane c.args.planes.now.items (c.args.plane ∷ []) c.requires.all
          (All-cons IsLeafPlane c.args.plane [] plane (All-nil IsLeafPlane)));
    }
