-- Programs and outlines by the depths of their tokens.
use Rattle.std.proofs.Common.{◌≡◌, ℕ, suc, List, ◌++◌, take, length, refl, subst}
use Rattle.scad_lexer.specs.declared.token.Token.{Token}
use Rattle.scad_ast.specs.Terms.{StatementTerm}
use Rattle.scad_grammar.specs.Grammar.{WholeProgram, ProgramWithGaps}
use Rattle.scad_grammar.specs.Depths.{HasDepths, AllBelow, IsProgramPrefixBelow, program_depths}
use Rattle.scad_grammar.specs.FirstFault.{IsShallowProgramPrefix}
use Rattle.scad_grammar.proofs.Fronts.{no_gap_front, front_shown, filled_shown, filled_all}
use Rattle.scad_grammar.proofs.lemmas.Programs.{one_program}
use Rattle.scad_grammar.proofs.lemmas.Wider.{is_outline}
use Rattle.scad_grammar.proofs.Shown.{program_shows}
use Rattle.scad_grammar.proofs.Filled.{program_fills}

pub shallow_program : (d : ℕ) (x : List StatementTerm) (s : List Token) (depths : List ℕ) → HasDepths x s depths → AllBelow (suc d) depths → WholeProgram (suc d) x s
shallow_program d x s depths h b = (program_shows h.0 d).kept x s h.1 (subst (AllBelow (suc d)) h.2 b)

pub program_is_shallow : (d : ℕ) (x : List StatementTerm) (s : List Token) → WholeProgram (suc d) x s → (depths : List ℕ) × HasDepths x s depths × AllBelow (suc d) depths
program_is_shallow d x s p =
    let f = (program_fills d).at x s (is_outline (suc d) x s p) in
    let depths = (program_depths (suc (suc d))).of f.0 f.1 f.2 in
    let all = filled_all (suc d) s f.1 depths ((program_shows (suc d) 0).plain x s p) f.3 in
    let here : HasDepths f.0 s depths = subst (λ s. HasDepths f.0 s depths) all.0 (suc (suc d), f.2, refl) in
    let same : f.0 ≡ x = one_program (suc (suc d)) (suc d) f.0 x s here.1 p in
    (depths, subst (λ x. HasDepths x s depths) same here, all.1)

pub within_is_shallow : (d : ℕ) (s : List Token) → IsShallowProgramPrefix (suc d) s → IsProgramPrefixBelow (suc d) s
within_is_shallow d s b =
    let f = (program_fills d).at b.1 (s ++ b.2) b.3 in
    let depths = (program_depths (suc (suc d))).of f.0 f.1 f.2 in
    let plain = no_gap_front s b.0.2 ((program_shows b.0.0 0).plain b.0.1 (s ++ b.0.2) b.0.3) in
    let v = filled_shown (suc d) s b.2 f.1 depths plain f.3 in
    (f.0, v.0, depths, subst (λ s. HasDepths f.0 s depths) v.1 (suc (suc d), f.2, refl), v.2)

pub shallow_is_within : (d : ℕ) (s : List Token) → IsProgramPrefixBelow (suc d) s → IsShallowProgramPrefix (suc d) s
shallow_is_within d s b =
    let h = b.3 in
    let y = (program_shows h.0 d).shown b.0 (s ++ b.1) h.1 in
    let v = front_shown (suc d) s b.1 _ y.1 y.3 (subst (λ depths. AllBelow (suc d) (take (length s) depths)) h.2 b.4) in
    ((h.0, b.0, b.1, h.1), y.0, v.0, subst (ProgramWithGaps (suc d) y.0) v.1 y.2)
