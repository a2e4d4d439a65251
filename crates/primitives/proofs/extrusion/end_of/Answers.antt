use Rattle.std.proofs.Common.{◌+◌, ◌++◌, List, ℕ, [], ◌∷◌, sym, ap, ◌∙◌}
use Rattle.primitives.proofs.lemmas.PrismLists.{range_next}
use Rattle.primitives.proofs.extrusion.end_of.Goals as goal

pub loop-i-preserved : goal.loop-i-preserved
loop-i-preserved c =
    c.in_ok-push.ensures.items ∙ ap (λ (xs : List ℕ). xs ++ (c.args.first + c.loop-i.i) ∷ []) c.loop-i.invariant ∙ sym (range_next c.args.first c.loop-i.i)
