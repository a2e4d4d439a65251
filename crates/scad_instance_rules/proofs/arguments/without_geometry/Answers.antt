use Rattle.std.proofs.Common.{sym, ap, ◌∙◌, if◌then◌else◌}
use Rattle.text_place.specs.declared.fault.FaultKind.TheVariants.{NotInProfile}
use Rattle.scad_func.specs.Meaning.{Gives, Faults}
use Rattle.scad_meaning.specs.Meaning.{no_design}
use Rattle.scad_instance_rules.proofs.arguments.without_geometry.Goals as goal

pub returns-then-is_bare : goal.returns-then-is_bare
returns-then-is_bare c = λ turns leaves. record {
  is = ap (λ b. if b then Gives turns (no_design leaves) else Faults NotInProfile c.args.place) (sym c.is_bare.ensures ∙ c.if-is_bare.true)
      ∙ ap (Gives turns) (sym (c.nothing_made.ensures leaves));
}
