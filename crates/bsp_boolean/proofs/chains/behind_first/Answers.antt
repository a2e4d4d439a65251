use Rattle.std.proofs.Common.{◌∙◌, ap, subst, All}
use Rattle.std.proofs.lemmas.List.Elements.{All-tail}
use Rattle.plane_table.specs.Faces.{IsFaceOver}
use Rattle.bsp_tree.specs.Trees.{inside}
use Rattle.bsp_boolean.specs.declared.chains.Step.{Step}
use Rattle.bsp_boolean.specs.Chains.{solid_after_step, chain_of, outlines_of, IsStepOver}
use Rattle.bsp_boolean.proofs.FaceChains.{all_kept, more_kept, nothing_left}
use Rattle.bsp_boolean.proofs.chains.behind_first.Goals as goal

pub loop-face-preserved-in-On : goal.loop-face-preserved-in-On
loop-face-preserved-in-On c =
    let planes = c.args.table.now in
    let step = c.in-Some.ensures.steps.0 in
    let t = chain_of (outlines_of planes c.next.new.self.rest.items) inside in
    let whole = rw step at c.loop-face.invariant.whole in
    let gives = c.in_ok-kept.ensures.gives t ∙ ap (λ (s : Step). solid_after_step planes s t) c.in-On.is in
    let over = subst (IsStepOver planes) c.in-On.is c.in_ok-kept.ensures.over in
    record {
      whole = more_kept planes c.loop-face.low.items _ c.in-On.kept _ _ _ whole gives c.in_ok-push_kept-in-On.ensures;
      low = all_kept planes c.loop-face.low.items _ c.in-On.kept c.in_ok-push_kept-in-On.ensures c.loop-face.invariant.low over.0;
      rest = All-tail (IsFaceOver planes) c.in-Some.face _ (subst (All (IsFaceOver planes)) step c.loop-face.invariant.rest);
      by = over.1;
    }

pub loop-face-preserved : goal.loop-face-preserved
loop-face-preserved c =
    let planes = c.args.table.now in
    let step = c.in-Some.ensures.steps.0 in
    let t = chain_of (outlines_of planes c.next.new.self.rest.items) inside in
    let whole = rw step at c.loop-face.invariant.whole in
    let gives = c.in_ok-kept.ensures.gives t ∙ ap (λ (s : Step). solid_after_step planes s t) c.in-Whole.is in
    let over = subst (IsStepOver planes) c.in-Whole.is c.in_ok-kept.ensures.over in
    record {
      whole = more_kept planes c.loop-face.low.items _ c.in-Whole.kept _ _ _ whole gives c.in_ok-push_kept-in-Whole.ensures;
      low = all_kept planes c.loop-face.low.items _ c.in-Whole.kept c.in_ok-push_kept-in-Whole.ensures c.loop-face.invariant.low over;
      rest = All-tail (IsFaceOver planes) c.in-Some.face _ (subst (All (IsFaceOver planes)) step c.loop-face.invariant.rest);
      by = tt;
    }

pub returns-in-Nothing : goal.returns-in-Nothing
returns-in-Nothing c =
    let planes = c.args.table.now in
    let t = chain_of (outlines_of planes c.next.new.self.rest.items) inside in
    let whole = rw (c.in-Some.ensures.steps.0) at c.loop-face.invariant.whole in
    let gives = c.in_ok-kept.ensures.gives t ∙ ap (λ (s : Step). solid_after_step planes s t) c.in-Nothing.is in
    nothing_left planes c.loop-face.low.items _ _ whole gives
