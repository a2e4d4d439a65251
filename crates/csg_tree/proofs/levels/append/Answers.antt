use Rattle.std.proofs.Common.{◌∷◌, ◌++◌, [], List, ℕ, ap, ◌∙◌}
use Rattle.csg_tree.proofs.ByHeight.{level_set, level_read}
use Rattle.csg_tree.proofs.levels.append.Goals as goal

pub returns-clause-level : goal.returns-clause-level
returns-clause-level c =
    level_set c.args.levels.now.items c.args.height c.push.new.self c.args.number c.requires
    (c.in_ok-push.ensures.items
    ∙ ap (λ (xs : List ℕ). xs ++ c.args.number ∷ []) (level_read c.args.levels.now.items c.args.height c.index_mut.result.now c.requires c.index_mut.ensures.value))
