-- Which token is the first fault of some tokens, and of what kind it is.
use Rattle.std.specs.Prelude.{◌≡◌, ℕ, List, [], ◌∷◌, ◌++◌, true, ◌⊎◌}
use Rattle.scad_lexer.specs.declared.token.Token.{Token}
use Rattle.scad_lexer.specs.declared.token.TokenKind.TheVariants.{Numeral}
use Rattle.scad_ast.specs.Terms.{StatementTerm}
use Rattle.scad_grammar.specs.declared.SyntaxFault.{SyntaxFault}
use Rattle.scad_grammar.specs.declared.SyntaxFault.TheVariants.{Expected, Nested, NotInProfile}
use Rattle.scad_grammar.specs.Classes.{has_class_in, is_like}
use Rattle.scad_grammar.specs.Faults.{left_out_classes, left_out_of_expressions}
use Rattle.scad_grammar.specs.Grammar.{WholeProgram, ProgramIn, with_gaps}

-- some program, however deep, begins with these tokens
abbrev pub IsProgramPrefix : List Token → Type 0
IsProgramPrefix tokens = (depth : ℕ) × (program : List StatementTerm) × (rest : List Token) × WholeProgram depth program (tokens ++ rest)

-- Some program begins with these tokens in which each of them is less deep than so much: one with gaps
-- does, and before its first gap it shows only what is less deep.
abbrev pub IsShallowProgramPrefix : ℕ → List Token → Type 0
IsShallowProgramPrefix depth tokens = IsProgramPrefix tokens × (program : List StatementTerm) × (rest : List Token) × ProgramIn with_gaps depth program (tokens ++ rest)

-- the place behind these tokens is that of an expression: a numeral could stand there
abbrev pub BeforeExpression : List Token → Type 0
BeforeExpression tokens = (next : Token) × (is_like (Numeral 0) next ≡ true) × IsProgramPrefix (tokens ++ next ∷ [])

-- behind these tokens, this one is of a form that the profile leaves out
abbrev pub IsLeftOut : List Token → Token → Type 0
IsLeftOut tokens token = (has_class_in left_out_classes token ≡ true) ⊎ ((has_class_in left_out_of_expressions token ≡ true) × BeforeExpression tokens)

-- Behind these tokens, this one is such a fault. Nested: programs go on with it, but in each it is too deep. Else none goes
-- on with it: NotInProfile where its form is left out, or Expected.
abbrev pub IsFault : ℕ → SyntaxFault → List Token → Token → Type 0
IsFault depth Expected tokens token = (IsProgramPrefix (tokens ++ token ∷ []) → ⊥) × (IsLeftOut tokens token → ⊥)
IsFault depth NotInProfile tokens token = (IsProgramPrefix (tokens ++ token ∷ []) → ⊥) × IsLeftOut tokens token
IsFault depth Nested tokens token = IsProgramPrefix (tokens ++ token ∷ []) × (IsShallowProgramPrefix depth (tokens ++ token ∷ []) → ⊥)

-- The first fault of the tokens is that of the first one of `at`: programs begin with all tokens before it, none of
-- which is too deep in them.
abbrev pub IsFirstFault : ℕ → List Token → SyntaxFault → List Token → Type 0
IsFirstFault depth tokens fault at =
    (front : List Token) × (token : Token) × (more : List Token) × (tokens ≡ front ++ at) × (at ≡ token ∷ more) × IsShallowProgramPrefix depth front
    × IsFault depth fault front token
