-- What a source writes, and what is made of it.
use Rattle.std.specs.Prelude.{◌≡◌, true, ℕ, List, Result, Err, ◌⊎◌}
use Rattle.text_place.specs.declared.fault.Stop.{Stop}
use Rattle.text_place.specs.declared.fault.Stop.TheVariants as stop
use Rattle.text_place.specs.declared.fault.Fault.{Fault}
use Rattle.scad_lexer.specs.declared.token.Token.{Token}
use Rattle.scad_lexer.specs.Tokens.{Lexes, GivesTokens, FaultAt}
use Rattle.scad_ast.specs.declared.program.Program.{Program}
use Rattle.scad_ast.specs.ProgramView.{program_of}
use Rattle.scad_ast.specs.Terms.{StatementTerm}
use Rattle.scad_grammar.specs.Grammar.{least_too_deep, WholeProgram}
use Rattle.scad_parser.specs.Parsing.{ends_with_end, IsSyntaxStop, HasSyntaxFault}

-- the source's tokens are the program's, at most 64 deep
abbrev pub WritesProgram : List ℕ → List StatementTerm → Type 0
WritesProgram source program = (tokens : List Token) × Lexes source (GivesTokens tokens) × WholeProgram least_too_deep program tokens

-- the first fault of a source that writes no program: of its bytes, or else of its tokens
abbrev pub HasTextFault : List ℕ → Fault → Type 0
HasTextFault source fault =
    Lexes source (FaultAt fault.kind fault.place)
    ⊎ ((tokens : List Token) × Lexes source (GivesTokens tokens) × HasSyntaxFault least_too_deep tokens fault)

-- the source is refused with that fault, unless memory ran out
abbrev pub RefusesText : List ℕ → Stop → Type 0
RefusesText source (stop.Fault fault) = HasTextFault source fault
RefusesText source stop.NoMemory = Unit {0}

-- what came of tokens: something that may be made of the program that they write, or, where the last one is an end, why they
-- are refused
abbrev pub IsMadeOfTokens : {T : Type 0} → (Program → Result T Stop → Type 0) → List Token → Result T Stop → Type 0
IsMadeOfTokens makes tokens result =
    ((program : Program) × WholeProgram least_too_deep (program_of program) tokens × makes program result)
    ⊎ ((why : Stop) × (ends_with_end tokens ≡ true → IsSyntaxStop least_too_deep tokens why) × (result ≡ Err why))

-- what came of a source: something that may be made of the program that it writes, or why it is refused
abbrev pub IsMadeOf : {T : Type 0} → (Program → Result T Stop → Type 0) → List ℕ → Result T Stop → Type 0
IsMadeOf makes source result =
    ((program : Program) × WritesProgram source (program_of program) × makes program result)
    ⊎ ((why : Stop) × RefusesText source why × (result ≡ Err why))
