use Rattle.std.proofs.Common.{◌≡◌, ℕ, get_or, inl, inr, arith, subst, refl, sym, ap, ◌∙◌}
use Rattle.std.proofs.lemmas.Bool.{cases_lt}
use Rattle.std.proofs.lemmas.List.{get_or_read}
use Rattle.plane_predicate.specs.Lines.{IsSmall}
use Rattle.plane_predicate.proofs.small.are_small.Goals as goal

pub loop-plane-preserved : goal.loop-plane-preserved
loop-plane-preserved c k d l =
    let planes = c.args.planes.now in
    let i = c.loop-plane.plane-index in
    elim (cases_lt k i) [
      | inl b ↦ c.loop-plane.invariant k d b
      | inr b ↦ (let e : k ≡ i = omega arith in
          subst IsSmall (get_or_read planes i c.plane-item.result c.loop-plane-test.true c.plane-item.is d ∙ sym (ap (λ (j : ℕ). get_or planes j d) e)) (c.if-not-is_small.ensures refl))
    ]

pub returns : goal.returns
returns c t k d l = c.loop-plane.invariant k d (omega arith)
