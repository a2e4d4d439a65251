use Rattle.std.proofs.Common.{◌≡◌, pos, false, Some, Ok, rules, refl, sym, subst, ap, ◌∙◌, to_z, of_z, to_z-of_z, FitsSigned, w64}
use Rattle.text_place.specs.declared.fault.FaultKind.TheVariants.{WrongDimension}
use Rattle.scad_modules.specs.Reading.{bound_argument, number_in_value, truth_in, or_default, of_type, refused_where}
use Rattle.scad_modules.specs.ArgumentView.{bound_arguments_in}
use Rattle.scad_modules.specs.Effects.{a_solid, cylinder_call}
use Rattle.scad_modules.specs.Shapes.{cylinder_effect, with_four}
use Rattle.scad_modules.specs.View.{fragments_of, MeetsEffect}
use Rattle.scad_modules.proofs.Cylinders.{sizes_read}
use Rattle.scad_modules.proofs.shapes.cylinder.Goals as goal
use Rattle.scad_modules.proofs.shapes.cylinder.Goals.{In_ok-high}

-- the sizes are read
read : (c : In_ok-high) → cylinder_effect c.args.inside (fragments_of c.args.fragments) (bound_arguments_in c.args.bound.now)
    ≡ of_type (or_default false truth_in (bound_argument (bound_arguments_in c.args.bound.now) 3)) (λ center. refused_where c.args.inside WrongDimension
    (with_four (fragments_of c.args.fragments) (Ok (a_solid (cylinder_call center c.in_ok-height.height c.in_ok-low.low c.in_ok-high.high)))))
read c =
    let fits : FitsSigned w64 c.in_ok-radius.radius = search rules in
    let bound = bound_arguments_in c.args.bound.now in
    sizes_read c.args.inside (fragments_of c.args.fragments) bound c.in_ok-height.height c.in_ok-radius.radius c.in_ok-low.low c.in_ok-high.high
    c.if-is_given.ensures c.if-is_given-2.ensures c.if-is_given-3.ensures c.if-has_two_radii.ensures c.in_ok-height.ensures.value c.in_ok-radius.ensures.value
    (subst (λ d. or_default d number_in_value (bound_argument bound 1) ≡ Some c.in_ok-low.low) (to_z-of_z fits) c.in_ok-low.ensures.value)
    (subst (λ d. or_default d number_in_value (bound_argument bound 2) ≡ Some c.in_ok-high.high) (to_z-of_z fits) c.in_ok-high.ensures.value)

pub returns-in_err-center-clause-effect : goal.returns-in_err-center-clause-effect
returns-in_err-center-clause-effect c =
    subst (MeetsEffect c.from_residual-in_err-center.result) (sym (read (goal.at.returns-in_err-center-clause-effect c).In_ok-high)) (search rules)

pub returns-then-inside-clause-effect : goal.returns-then-inside-clause-effect
returns-then-inside-clause-effect c = read (goal.at.returns-then-inside-clause-effect c).In_ok-high ∙ search rules

pub returns-in_err-fragment_count-clause-effect : goal.returns-in_err-fragment_count-clause-effect
returns-in_err-fragment_count-clause-effect c =
    subst (MeetsEffect c.from_residual-in_err-fragment_count.result) (sym (read (goal.at.returns-in_err-fragment_count-clause-effect c).In_ok-high)) (search rules)

pub returns-then-is_round-clause-effect : goal.returns-then-is_round-clause-effect
returns-then-is_round-clause-effect c = read (goal.at.returns-then-is_round-clause-effect c).In_ok-high ∙ search rules

pub returns-clause-effect : goal.returns-clause-effect
returns-clause-effect c = read (goal.at.returns-clause-effect c).In_ok-high ∙ search rules
