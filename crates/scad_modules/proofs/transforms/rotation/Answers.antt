use Rattle.std.proofs.Common.{rules, ◌≡◌, [], ◌∷◌, pos, get_or, sym, ◌∙◌, ap, ap₂, Ok, to_z-of_z, FitsSigned, w64}
use Rattle.scad_modules.specs.Effects.{a_move}
use Rattle.scad_modules.specs.Transforms.{quarter_rotation_about}
use Rattle.scad_modules.proofs.transforms.rotation.Goals as goal

pub returns-clause-effect : goal.returns-clause-effect
returns-clause-effect c =
    let x : FitsSigned w64 (get_or c.args.by 0 (pos 0)) = search rules in
    let y : FitsSigned w64 (get_or c.args.by 1 (pos 0)) = search rules in
    let z : FitsSigned w64 (get_or c.args.by 2 (pos 0)) = search rules in
    let a : c.quarter_turns_about.result ≡ quarter_rotation_about 0 (get_or c.args.by 0 (pos 0)) = simp to_z-of_z at c.quarter_turns_about.ensures in
    let b : c.quarter_turns_about-2.result ≡ quarter_rotation_about 1 (get_or c.args.by 1 (pos 0)) = simp to_z-of_z at c.quarter_turns_about-2.ensures in
    let d : c.quarter_turns_about-3.result ≡ quarter_rotation_about 2 (get_or c.args.by 2 (pos 0)) = simp to_z-of_z at c.quarter_turns_about-3.ensures in
    ap (λ l. Ok (a_move l))
    (ap₂ (λ t l. t ∷ l) (sym a) (ap₂ (λ t l. t ∷ l) (sym b) (ap (λ t. t ∷ []) (sym d)))
    ∙ sym c.in_ok-steps.ensures.items)
