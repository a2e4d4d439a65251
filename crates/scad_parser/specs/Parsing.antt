-- What the parser answers: the program that tokens write, or their first fault.
use Rattle.std.specs.Prelude.{◌≡◌, ℕ, List, [], ◌∷◌, Bool, false, Some, Result, Ok, Err, Contains}
use Rattle.plain_text.specs.declared.place.Place.{Place}
use Rattle.text_place.specs.declared.fault.Fault.{Fault as FaultIn}
use Rattle.text_place.specs.declared.fault.FaultKind.{FaultKind}
use Rattle.text_place.specs.declared.fault.FaultKind.TheVariants.{Expected as ExpectedKind, Nested as NestedKind, NotInProfile as NotInProfileKind}
use Rattle.text_place.specs.declared.fault.Stop.{Stop}
use Rattle.text_place.specs.declared.fault.Stop.TheVariants.{Fault, NoMemory}
use Rattle.scad_lexer.specs.declared.token.Token.{Token}
use Rattle.scad_lexer.specs.Tokens.{is_end}
use Rattle.scad_ast.specs.declared.program.Program.{Program}
use Rattle.scad_ast.specs.Terms.{StatementTerm}
use Rattle.scad_ast.specs.ProgramView.{program_of}
use Rattle.scad_grammar.specs.declared.SyntaxFault.{SyntaxFault}
use Rattle.scad_grammar.specs.declared.SyntaxFault.TheVariants.{Expected, Nested, NotInProfile}
use Rattle.scad_grammar.specs.FirstFault.{IsFirstFault}
use Rattle.scad_grammar.specs.Faults.{TokenReader, fault_of, left_out_classes}
use Rattle.scad_grammar.specs.Reading.{Read, then_read}
use Rattle.scad_grammar.specs.StatementReads.{program_read}

-- the kind of fault that a reader's fault is answered as; its place is told apart
abbrev pub kind_of : SyntaxFault → FaultKind
kind_of Expected = ExpectedKind
kind_of Nested = NestedKind
kind_of NotInProfile = NotInProfileKind

-- the place of the first token
abbrev pub place_of_first : List Token → Place
place_of_first [] = record { line = 1; column = 1 }
place_of_first (token ∷ tokens) = token.place

-- the first fault of these tokens, no token of which may be as deep as the number, with the place of its token
abbrev pub HasSyntaxFault : ℕ → List Token → FaultIn → Type 0
HasSyntaxFault depth tokens found = (fault : SyntaxFault) × (at : List Token) × IsFirstFault depth tokens fault at × (found.kind ≡ kind_of fault) × (found.place ≡ place_of_first at)

-- the stop is that fault, unless memory ran out
abbrev pub IsSyntaxStop : ℕ → List Token → Stop → Type 0
IsSyntaxStop depth tokens (Fault fault) = HasSyntaxFault depth tokens fault
IsSyntaxStop depth tokens NoMemory = Unit {0}

-- a fault stands at one of the tokens, which may be the end; running out of memory has no place
abbrev pub StandsAtToken : List Token → Stop → Type 0
StandsAtToken tokens (Fault fault) = (token : Token) × Contains tokens token × (fault.place ≡ token.place)
StandsAtToken tokens NoMemory = Unit {0}

-- the answer is this program, unless memory ran out
abbrev pub AnswersProgram : Result Program Stop → List StatementTerm → Type 0
AnswersProgram (Ok program) wanted = program_of program ≡ wanted
AnswersProgram (Err (Fault fault)) wanted = ⊥
AnswersProgram (Err NoMemory) wanted = Unit {0}

-- the answer is this fault at the first of these tokens, unless memory ran out
abbrev pub AnswersFault : Result Program Stop → SyntaxFault → List Token → Type 0
AnswersFault (Ok program) fault at = ⊥
AnswersFault (Err (Fault found)) fault at = (found.kind ≡ kind_of fault) × (found.place ≡ place_of_first at)
AnswersFault (Err NoMemory) fault at = Unit {0}

-- the last token is an end
abbrev pub ends_with_end : List Token → Bool
ends_with_end [] = false
ends_with_end (token ∷ []) = is_end token.kind
ends_with_end (token ∷ next ∷ tokens) = ends_with_end (next ∷ tokens)

-- nothing stands behind what was read
abbrev pub nothing_after : {A : Type 0} → A → TokenReader A
nothing_after x [] = Ok (x, [])
nothing_after x (token ∷ tokens) = Err (fault_of left_out_classes (Some token), token ∷ tokens)

-- a program and its end, and nothing behind it
abbrev pub whole_read : ℕ → TokenReader (List StatementTerm)
whole_read depth tokens = then_read (program_read depth tokens) nothing_after

-- the answer is what a reader of the grammar reads, unless memory ran out
abbrev pub IsRead : Result Program Stop → Read Token SyntaxFault (List StatementTerm) → Type 0
IsRead (Ok program) read = (rest : List Token) × (read ≡ Ok (program_of program, rest))
IsRead (Err (Fault found)) read = (fault : SyntaxFault) × (at : List Token) × (read ≡ Err (fault, at)) × (found.kind ≡ kind_of fault) × (found.place ≡ place_of_first at)
IsRead (Err NoMemory) read = Unit {0}
