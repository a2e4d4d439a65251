-- An answer that is what the reader of whole programs reads is the program or the first fault.
use Rattle.std.proofs.Common.{◌≡◌, ℕ, ◌≤◌, ◌<◌, ◌^◌, List, [], ◌∷◌, ◌++◌, length, true, Result, Ok, Err, refl, sym, ap, ◌∙◌, subst, arith, IfOk, IfErr, inl, inr}
use Rattle.std.proofs.lemmas.List.Elements.{Contains-append_right}
use Rattle.std.specs.Prelude.{Contains}
use Rattle.text_place.specs.declared.fault.Stop.{Stop}
use Rattle.text_place.specs.declared.fault.Stop.TheVariants.{Fault, NoMemory}
use Rattle.scad_lexer.specs.declared.token.Token.{Token}
use Rattle.scad_ast.specs.declared.program.Program.{Program}
use Rattle.scad_ast.specs.Terms.{StatementTerm}
use Rattle.scad_ast.specs.Counts.{count_begun_by_program}
use Rattle.scad_ast.specs.ProgramView.{program_of}
use Rattle.scad_grammar.specs.declared.SyntaxFault.{SyntaxFault}
use Rattle.scad_grammar.specs.FirstFault.{IsFirstFault}
use Rattle.scad_grammar.specs.Grammar.{WholeProgram}
use Rattle.scad_grammar.specs.Reading.{then_read}
use Rattle.scad_grammar.proofs.lemmas.Counts.{few_begun}
use Rattle.scad_grammar.proofs.lemmas.FirstFaults.{no_fault}
use Rattle.scad_grammar.proofs.lemmas.Programs.{complete_at}
use Rattle.scad_parser.specs.Parsing.{ends_with_end, nothing_after, whole_read, kind_of, place_of_first, IsSyntaxStop, StandsAtToken, AnswersProgram, AnswersFault, IsRead}
use Rattle.scad_parser.proofs.Whole.{ReadProgram, verdict, whole_found, only_whole}

module _ (d : ℕ) (ts : List Token) where
  pub found : (r : Result Program Stop) → IsRead r (whole_read d ts) → IfOk r (λ p. WholeProgram d (program_of p) ts)
  found (Ok p) h = whole_found d ts (program_of p) h.0 h.1
  found (Err s) h = tt

  pub few : (r : Result Program Stop) → IsRead r (whole_read d ts) → IfOk r (λ p. count_begun_by_program (program_of p) ≤ length ts)
  few (Ok p) h = few_begun d (program_of p) ts (whole_found d ts (program_of p) h.0 h.1)
  few (Err s) h = tt

  -- what fewer than 2^32 tokens write
  pub few_read : (x : List StatementTerm) (us : List Token) → length ts < 2 ^ 32 → whole_read d ts ≡ Ok (x, us) → count_begun_by_program x < 2 ^ 32
  few_read x us h e = omega (arith, few_begun d x ts (whole_found d ts x us e), h)

  pub program : (r : Result Program Stop) → IsRead r (whole_read d ts) → (x : List StatementTerm) → WholeProgram d x ts → AnswersProgram r x
  program (Ok p) h x g =
      let read = ap (λ (q : ReadProgram). then_read q nothing_after) (complete_at d x ts g) in
      let both : ◌≡◌ {A = ReadProgram} (Ok (program_of p, h.0)) (Ok (x, [])) = sym h.1 ∙ read in
      let pair : ◌≡◌ {A = List StatementTerm × List Token} (program_of p, h.0) (x, []) = cc in
      ap (λ (p : List StatementTerm × List Token). p.0) pair
  program (Err (Fault f)) h x g =
      let read = ap (λ (q : ReadProgram). then_read q nothing_after) (complete_at d x ts g) in
      absurd (let both : ◌≡◌ {A = ReadProgram} (Err (h.0, h.1)) (Ok (x, [])) = sym h.2 ∙ read in cc)
  program (Err NoMemory) h x g = tt

  pub only : (r : Result Program Stop) → IsRead r (whole_read d ts) → (k : SyntaxFault) (at : List Token) → IsFirstFault d ts k at → AnswersFault r k at
  only (Ok p) h k at g = elim (no_fault d ts (program_of p) k at (whole_found d ts (program_of p) h.0 h.1) g) [ ]
  only (Err (Fault f)) h k at g =
      let both : ◌≡◌ {A = ReadProgram} (Err (h.0, h.1)) (Err (k, at)) = sym h.2 ∙ only_whole d ts k at g in
      let pair : ◌≡◌ {A = SyntaxFault × List Token} (h.0, h.1) (k, at) = cc in
      (h.3 ∙ ap (λ (p : SyntaxFault × List Token). kind_of p.0) pair, h.4 ∙ ap (λ (p : SyntaxFault × List Token). place_of_first p.1) pair)
  only (Err NoMemory) h k at g = tt

  pub fault : (r : Result Program Stop) → ends_with_end ts ≡ true → IsRead r (whole_read d ts) → IfErr r (λ stop. IsSyntaxStop d ts stop)
  fault (Ok p) e h = tt
  fault (Err (Fault f)) e h = elim (verdict d ts e) [
    | inl p ↦ absurd (let both : ◌≡◌ {A = ReadProgram} (Err (h.0, h.1)) (Ok (p.0, [])) = sym h.2 ∙ p.2 in cc)
    | inr p ↦ let here = only (Err (Fault f)) h p.0 p.1 p.2 in (p.0, p.1, p.2, here.0, here.1)
  ]
  fault (Err NoMemory) e h = tt

  pub stands : (r : Result Program Stop) → IfErr r (λ stop. IsSyntaxStop d ts stop) → IfErr r (λ stop. StandsAtToken ts stop)
  stands (Ok p) h = tt
  stands (Err (Fault f)) h =
      let first = h.2 in
      let whole : ts ≡ first.0 ++ first.1 ∷ first.2 = first.3 ∙ ap (λ l. first.0 ++ l) first.4 in (
        first.1,
        subst (λ l. Contains l first.1) (sym whole) (Contains-append_right first.0 (first.1 ∷ first.2) first.1 (0, omega arith, refl)),
        h.4 ∙ ap place_of_first first.4,
      )
  stands (Err NoMemory) h = tt
