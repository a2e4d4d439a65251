use Rattle.std.proofs.Common.{ℕ, sym, subst₂, ap₂, ◌∙◌, add-one}
use Rattle.off_text.specs.Texts.{comes_before}
use Rattle.off_text.proofs.Least.{IsLeastOf, least_new, least_kept, least_found, item_is, within_of}
use Rattle.off_text.proofs.vertex.least_corner.Goals.{then-comes_before, else-comes_before}
use Rattle.off_text.proofs.vertex.least_corner.Goals as goal

pub loop-i-preserved : goal.loop-i-preserved
loop-i-preserved c =
    let h = c.loop-i.invariant in
    let corners = c.args.corners.now in
    let next = item_is corners c.loop-i.i c.index-corners-i.result c.loop-i-test.true c.index-corners-i.is in
    let known = item_is corners c.loop-i.least c.index-corners-least.result (within_of corners c.loop-i.i c.loop-i.least h c.loop-i-test.true) c.index-corners-least.is in
    let test = sym (ap₂ comes_before next known) ∙ sym c.comes_before.ensures in
    elim c.if-comes_before.branch [
      | then-comes_before w ↦ subst₂ (λ (n m : ℕ). IsLeastOf corners n m) (sym (add-one c.loop-i.i)) (sym w.least-is) (least_new corners c.loop-i.i c.loop-i.least h c.loop-i-test.true (test ∙ w.if-comes_before.true))
      | else-comes_before w ↦ subst₂ (λ (n m : ℕ). IsLeastOf corners n m) (sym (add-one c.loop-i.i)) (sym w.least-is) (least_kept corners c.loop-i.i c.loop-i.least h (test ∙ w.if-comes_before.false))
    ]

pub returns : goal.returns
returns c = least_found c.args.corners.now c.loop-i.i c.loop-i.least c.loop-i.invariant c.loop-i-test.false
