-- No list of tokens has two programs.
use Rattle.std.proofs.Common.{◌≡◌, ℕ, ◌+◌, List, [], Ok, sym, ap, ◌∙◌, arith, refl, append-nil}
use Rattle.scad_lexer.specs.declared.token.Token.{Token}
use Rattle.scad_ast.specs.Terms.{StatementTerm}
use Rattle.scad_grammar.specs.declared.SyntaxFault.{SyntaxFault}
use Rattle.scad_grammar.specs.Reading.{Read}
use Rattle.scad_grammar.specs.Grammar.{WholeProgram}
use Rattle.scad_grammar.specs.StatementReads.{program_read}
use Rattle.scad_grammar.proofs.lemmas.Statements.{program_reads}
use Rattle.scad_grammar.proofs.lemmas.Wider.{lift}

pub complete_at : (d : ℕ) (x : List StatementTerm) (s : List Token) → WholeProgram d x s → program_read d s ≡ Ok (x, [])
complete_at d x s h = ap (program_read d) (sym (append-nil s)) ∙ (program_reads d).complete x s [] h refl

pub one_program : (d k : ℕ) (x y : List StatementTerm) (s : List Token) → WholeProgram d x s → WholeProgram k y s → x ≡ y
one_program d k x y s h g =
    let e : d + k ≡ k + d = omega arith in
    let a = complete_at (k + d) x s (lift k d x s h) in
    let b = complete_at (k + d) y s (rw (sym e) (lift d k y s g)) in
    let c : ◌≡◌ {A = Read Token SyntaxFault (List StatementTerm)} (Ok (x, [])) (Ok (y, [])) = sym a ∙ b in
    let p : ◌≡◌ {A = List StatementTerm × List Token} (x, []) (y, []) = cc in
    ap (λ (p : List StatementTerm × List Token). p.0) p
