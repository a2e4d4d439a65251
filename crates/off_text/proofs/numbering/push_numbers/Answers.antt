use Rattle.std.proofs.Common.{◌∙◌, ap, ℕ, ◌++◌, ◌∷◌, []}
use Rattle.off_text.proofs.Numbers.{corner_grows, corner_numbers}
use Rattle.off_text.proofs.numbering.push_numbers.Goals as goal

pub loop-corner-preserved : goal.loop-corner-preserved
loop-corner-preserved c =
    let grows = c.in_ok-index.ensures.keys in
    record {
      vertices = corner_grows c.loop-corner.vertices.keys c.insert_full.new.self.keys c.args.corners.now c.loop-corner.corner-index c.corner-item.result c.loop-corner-test.true c.corner-item.is grows _ c.loop-corner.invariant.vertices;
      numbers = corner_numbers c.loop-corner.vertices.keys c.insert_full.new.self.keys c.args.corners.now c.loop-corner.corner-index c.corner-item.result c.loop-corner-test.true c.corner-item.is grows
          c.loop-corner.numbers.items c.push_number.new.numbers.items _
          (c.in_ok-push_number.ensures ∙ ap (λ (n : ℕ). c.loop-corner.numbers.items ++ n ∷ []) c.in_ok-index.ensures.index)
          c.loop-corner.invariant.numbers;
    }
