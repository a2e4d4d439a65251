use Rattle.std.proofs.Common.{◌∙◌, List, ℕ, sym, ap}
use Rattle.script_service.specs.Demos.{bytes_before, bytes_after}
use Rattle.script_service.proofs.Lines.{before_cut, behind_cut, before_all, behind_all}
use Rattle.script_service.proofs.demo.cut.Goals as goal

pub returns-in-Some : goal.returns-in-Some
returns-in-Some c =
    let at = c.args.at in
    let around = c.in-Some.ensures.around in
    let first = c.in-Some.ensures.first in (
      sym (ap (λ (l : List ℕ). bytes_before at l) around ∙ before_cut at c.in-Some.parts.0.now c.in-Some.parts.1.now first),
      sym (ap (λ (l : List ℕ). bytes_after at l) around ∙ behind_cut at c.in-Some.parts.0.now c.in-Some.parts.1.now first),
    )

pub returns-in-None : goal.returns-in-None
returns-in-None c =
    (sym (before_all c.args.at c.args.bytes.now c.in-None.ensures.none), sym (behind_all c.args.at c.args.bytes.now c.in-None.ensures.none))
