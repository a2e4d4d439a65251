use Rattle.std.proofs.Common.{rules, ◌≡◌, sym, ◌∙◌, subst, ap₂, to_z-of_z, FitsSigned, w64}
use Rattle.int_transform.specs.Maps.{rotation_of, IsStep}
use Rattle.int_transform.proofs.lemmas.Regular.{rotation_is, rotation_is_step}
use Rattle.int_transform.proofs.step.Step.quarter.Goals as goal

pub invariant_of-result : goal.invariant_of-result
invariant_of-result c =
    let cosine : FitsSigned w64 c.cosine.result = search rules in
    let sine : FitsSigned w64 c.sine.result = search rules in
    let e : c.rotation.result ≡ rotation_of c.args.axis c.cosine.result c.sine.result = simp to_z-of_z at c.rotation.ensures in
    subst IsStep (sym (e ∙ ap₂ (rotation_of c.args.axis) c.cosine.ensures c.sine.ensures.value)) (rotation_is_step c.args.axis c.args.turns)

pub returns : goal.returns
returns c =
    let cosine : FitsSigned w64 c.cosine.result = search rules in
    let sine : FitsSigned w64 c.sine.result = search rules in
    let e : c.rotation.result ≡ rotation_of c.args.axis c.cosine.result c.sine.result = simp to_z-of_z at c.rotation.ensures in
    e ∙ ap₂ (rotation_of c.args.axis) c.cosine.ensures c.sine.ensures.value ∙ rotation_is c.args.axis c.args.turns c.requires.axis_is c.requires.turns_are
