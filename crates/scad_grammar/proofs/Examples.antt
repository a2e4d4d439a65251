-- Small programs, outlines and faults of the grammar, by hand.
use Rattle.std.proofs.Common.{codes, ℕ, zero, suc, List, [], ◌∷◌, ◌++◌, None, inl, inr, refl}
use Rattle.plain_text.specs.declared.place.Place.{Place}
use Rattle.scad_lexer.specs.declared.token.Token.{Token}
use Rattle.scad_lexer.specs.declared.token.TokenKind.{TokenKind}
use Rattle.scad_lexer.specs.declared.token.TokenKind.TheVariants.{Numeral, Name, Special, Reserved, Symbol, End}
use Rattle.scad_lexer.specs.declared.token.Reserved.TheVariants.{Module, If, Function, IntersectionFor, Let}
use Rattle.scad_lexer.specs.declared.token.Symbol.TheVariants.{Semicolon, Assign, OpenParenthesis, CloseParenthesis, Minus, Dot, Caret}
use Rattle.scad_ast.specs.Terms.{StatementTerm, EmptyStatement, InstanceStatement, AnInstance, IfTerm, UndefTerm, EmptyBody}
use Rattle.scad_grammar.specs.declared.SyntaxFault.{SyntaxFault}
use Rattle.scad_grammar.specs.declared.SyntaxFault.TheVariants.{Expected, Nested, NotInProfile}
use Rattle.scad_grammar.specs.Grammar.{InParentheses, CoreOf, ArgsIn, BindersIn, with_gaps, Expr, Operand, Statement, Body, WholeProgram, ProgramWithGaps}
use Rattle.scad_grammar.specs.Reading.{repeated_read, repeated_times, trailing_items, trailing_times}
use Rattle.scad_grammar.specs.Reads.{expr_read, operand_read}
use Rattle.scad_grammar.specs.StatementReads.{statement_read, body_read}
use Rattle.scad_grammar.specs.FirstFault.{IsFirstFault}
use Rattle.scad_grammar.proofs.lemmas.FirstFaults.{first_fault}

abbrev at : ℕ → Place
at column = record { line = 1; column = column }

abbrev token : TokenKind → ℕ → Token
token kind column = record { kind = kind; place = at column }

abbrev end_token : Token
end_token = token End 9

-- an empty source
empty_program : (d : ℕ) → WholeProgram d [] (token End 1 ∷ [])
empty_program d = ([], token End 1, [], token End 1 ∷ [], refl, (refl, refl), refl, refl)

-- `;`
one_semicolon : (d : ℕ) → WholeProgram (suc d) (EmptyStatement (at 1) ∷ []) (token (Symbol Semicolon) 1 ∷ token End 2 ∷ [])
unfolding Statement
one_semicolon d = (
  EmptyStatement (at 1) ∷ [],
  token End 2,
  token (Symbol Semicolon) 1 ∷ [],
  token End 2 ∷ [],
  (token (Symbol Semicolon) 1 ∷ [], [], inl (token (Symbol Semicolon) 1, (refl, refl), refl), refl, refl),
  (refl, refl),
  refl,
  refl,
)

-- tokens at no place of their own
abbrev placed : List TokenKind → List Token
placed [] = []
placed (k ∷ ks) = token k 1 ∷ placed ks

-- the outline of `if (1) ;` in which nothing is one deep: its condition and its body are gaps
abbrev gap_at : ℕ → Token
gap_at = token (Symbol Caret)

abbrev outlined : StatementTerm
outlined = InstanceStatement (AnInstance (at 1) [] (IfTerm (at 1) (UndefTerm (at 3)) (EmptyBody (at 5))))

abbrev condition : List Token
condition = token (Symbol OpenParenthesis) 2 ∷ gap_at 3 ∷ token (Symbol CloseParenthesis) 4 ∷ []

in_condition : InParentheses (Expr with_gaps 0) (UndefTerm (at 3)) condition
unfolding Expr Operand
in_condition = (
  token (Symbol OpenParenthesis) 2,
  UndefTerm (at 3),
  token (Symbol OpenParenthesis) 2 ∷ [],
  gap_at 3 ∷ token (Symbol CloseParenthesis) 4 ∷ [],
  (refl, refl),
  (UndefTerm (at 3), token (Symbol CloseParenthesis) 4, gap_at 3 ∷ [], token (Symbol CloseParenthesis) 4 ∷ [], (gap_at 3, (refl, refl), refl), (refl, refl), refl, refl),
  refl,
  refl,
)

gap_body : Body with_gaps 0 (EmptyBody (at 5)) (gap_at 5 ∷ [])
unfolding Statement Body
gap_body = (gap_at 5, (refl, refl), refl)

abbrev if_tokens : List Token
if_tokens = token (Reserved If) 1 ∷ (condition ++ gap_at 5 ∷ [])

outlined_core : CoreOf (Expr with_gaps 0) (ArgsIn 0 (Expr with_gaps 0)) (BindersIn with_gaps 0 (Expr with_gaps 0)) (Body with_gaps 0) (IfTerm (at 1) (UndefTerm (at 3)) (EmptyBody (at 5))) if_tokens
outlined_core =
    inl (
      (token (Reserved If) 1, (UndefTerm (at 3), EmptyBody (at 5))),
      None,
      if_tokens,
      [],
      (token (Reserved If) 1, (UndefTerm (at 3), EmptyBody (at 5)), token (Reserved If) 1 ∷ [], condition ++ gap_at 5 ∷ [], (refl, refl), (UndefTerm (at 3), EmptyBody (at 5), condition, gap_at 5 ∷ [], in_condition, gap_body, refl, refl), refl, refl),
      refl,
      tt,
      refl,
      refl,
    )

outline_of_if : ProgramWithGaps 1 (outlined ∷ []) (if_tokens ++ end_token ∷ [])
unfolding Statement Body
outline_of_if = (
  outlined ∷ [],
  end_token,
  if_tokens,
  end_token ∷ [],
  (if_tokens, [], inr (inr (inr (inr (inr (inr (AnInstance (at 1) [] (IfTerm (at 1) (UndefTerm (at 3)) (EmptyBody (at 5))), ([], IfTerm (at 1) (UndefTerm (at 3)) (EmptyBody (at 5)), [], if_tokens, refl, outlined_core, refl, refl), refl)))))), refl, refl),
  (refl, refl),
  refl,
  refl,
)

-- first faults: the kind, and the tokens from the fault on, of tokens with an end
abbrev Row : ℕ → SyntaxFault → List TokenKind → List TokenKind → Type 0
Row d fault before behind = IsFirstFault d (placed before ++ placed behind) fault (placed behind)

-- the given number of opening brackets
abbrev brackets : ℕ → List TokenKind
brackets zero = []
brackets (suc n) = Symbol OpenParenthesis ∷ brackets n

-- `x = if`: the word stands in the place of an expression
word_for_expression : Row 65 NotInProfile (Name (codes "x") ∷ Symbol Assign ∷ []) (Reserved If ∷ End ∷ [])
unfolding repeated_read repeated_times trailing_items trailing_times expr_read operand_read statement_read body_read
word_for_expression = first_fault 65 _ NotInProfile _ refl refl

-- `x = 1 if`: behind a whole expression
word_behind_expression : Row 65 Expected (Name (codes "x") ∷ Symbol Assign ∷ Numeral 1 ∷ []) (Reserved If ∷ End ∷ [])
unfolding repeated_read repeated_times trailing_items trailing_times expr_read operand_read statement_read body_read
word_behind_expression = first_fault 65 _ Expected _ refl refl

-- `x = intersection_for`: no word that expressions leave out
other_word_for_expression : Row 65 Expected (Name (codes "x") ∷ Symbol Assign ∷ []) (Reserved IntersectionFor ∷ End ∷ [])
unfolding repeated_read repeated_times trailing_items trailing_times expr_read operand_read statement_read body_read
other_word_for_expression = first_fault 65 _ Expected _ refl refl

-- `x = a.function`: a name stands there, and no numeral could
word_for_member : Row 65 Expected (Name (codes "x") ∷ Symbol Assign ∷ Name (codes "a") ∷ Symbol Dot ∷ []) (Reserved Function ∷ End ∷ [])
unfolding repeated_read repeated_times trailing_items trailing_times expr_read operand_read statement_read body_read
word_for_member = first_fault 65 _ Expected _ refl refl

-- `m() function`: the place of a body
word_for_body : Row 65 Expected (Name (codes "m") ∷ Symbol OpenParenthesis ∷ Symbol CloseParenthesis ∷ []) (Reserved Function ∷ End ∷ [])
unfolding repeated_read repeated_times trailing_items trailing_times expr_read operand_read statement_read body_read
word_for_body = first_fault 65 _ Expected _ refl refl

-- `let`, wherever it stands
left_out_word : Row 65 NotInProfile ([]) (Reserved Let ∷ End ∷ [])
unfolding repeated_read repeated_times trailing_items trailing_times expr_read operand_read statement_read body_read
left_out_word = first_fault 65 _ NotInProfile _ refl refl

-- `module m($fn`, and `m() $fn`: a special name, where it is neither an expression nor given a value
special_parameter : Row 65 NotInProfile (Reserved Module ∷ Name (codes "m") ∷ Symbol OpenParenthesis ∷ []) (Special (codes "fn") ∷ End ∷ [])
unfolding repeated_read repeated_times trailing_items trailing_times expr_read operand_read statement_read body_read
special_parameter = first_fault 65 _ NotInProfile _ refl refl

special_body : Row 65 NotInProfile (Name (codes "m") ∷ Symbol OpenParenthesis ∷ Symbol CloseParenthesis ∷ []) (Special (codes "fn") ∷ Symbol Assign ∷ End ∷ [])
unfolding repeated_read repeated_times trailing_items trailing_times expr_read operand_read statement_read body_read
special_body = first_fault 65 _ NotInProfile _ refl refl

-- `$fn;` and `$fn = ;`: programs begin with the name
special_alone : Row 65 Expected (Special (codes "fn") ∷ []) (Symbol Semicolon ∷ End ∷ [])
unfolding repeated_read repeated_times trailing_items trailing_times expr_read operand_read statement_read body_read
special_alone = first_fault 65 _ Expected _ refl refl

no_special_value : Row 65 Expected (Special (codes "fn") ∷ Symbol Assign ∷ []) (Symbol Semicolon ∷ End ∷ [])
unfolding repeated_read repeated_times trailing_items trailing_times expr_read operand_read statement_read body_read
no_special_value = first_fault 65 _ Expected _ refl refl

-- `m($fn`: an argument begins with the name, also where an `=` follows
special_argument : Row 65 Expected (Name (codes "m") ∷ Symbol OpenParenthesis ∷ Special (codes "fn") ∷ []) (End ∷ [])
unfolding repeated_read repeated_times trailing_items trailing_times expr_read operand_read statement_read body_read
special_argument = first_fault 65 _ Expected _ refl refl

special_given : Row 65 Expected (Name (codes "m") ∷ Symbol OpenParenthesis ∷ Special (codes "fn") ∷ Symbol Assign ∷ []) (Symbol CloseParenthesis ∷ End ∷ [])
unfolding repeated_read repeated_times trailing_items trailing_times expr_read operand_read statement_read body_read
special_given = first_fault 65 _ Expected _ refl refl

-- `m($children`: before an `=` it is an expression, and no name of an argument
child_count_given : Row 65 Expected (Name (codes "m") ∷ Symbol OpenParenthesis ∷ Special (codes "children") ∷ []) (Symbol Assign ∷ End ∷ [])
unfolding repeated_read repeated_times trailing_items trailing_times expr_read operand_read statement_read body_read
child_count_given = first_fault 65 _ Expected _ refl refl

-- `$children`, where no expression begins
child_count_for_statement : Row 65 Expected ([]) (Special (codes "children") ∷ End ∷ [])
unfolding repeated_read repeated_times trailing_items trailing_times expr_read operand_read statement_read body_read
child_count_for_statement = first_fault 65 _ Expected _ refl refl

-- where nothing may be one deep: `x = (1` and `if (1`, at the numeral and not before
condition_too_deep : Row 1 Nested (Name (codes "x") ∷ Symbol Assign ∷ Symbol OpenParenthesis ∷ []) (Numeral 1 ∷ End ∷ [])
unfolding repeated_read repeated_times trailing_items trailing_times expr_read operand_read statement_read body_read
condition_too_deep = first_fault 1 _ Nested _ refl refl

test_too_deep : Row 1 Nested (Reserved If ∷ Symbol OpenParenthesis ∷ []) (Numeral 1 ∷ End ∷ [])
unfolding repeated_read repeated_times trailing_items trailing_times expr_read operand_read statement_read body_read
test_too_deep = first_fault 1 _ Nested _ refl refl

-- `x = --1`: the operand of the first sign is one deep
operand_too_deep : Row 1 Nested (Name (codes "x") ∷ Symbol Assign ∷ Symbol Minus ∷ []) (Symbol Minus ∷ Numeral 1 ∷ End ∷ [])
unfolding repeated_read repeated_times trailing_items trailing_times expr_read operand_read statement_read body_read
operand_too_deep = first_fault 1 _ Nested _ refl refl

-- `m() ;`: a body is one deep
body_too_deep : Row 1 Nested (Name (codes "m") ∷ Symbol OpenParenthesis ∷ Symbol CloseParenthesis ∷ []) (Symbol Semicolon ∷ End ∷ [])
unfolding repeated_read repeated_times trailing_items trailing_times expr_read operand_read statement_read body_read
body_too_deep = first_fault 1 _ Nested _ refl refl

-- `x = (;` and `x = (if`: too deep or not, no program goes on
no_program_too_deep : Row 1 Expected (Name (codes "x") ∷ Symbol Assign ∷ Symbol OpenParenthesis ∷ []) (Symbol Semicolon ∷ End ∷ [])
unfolding repeated_read repeated_times trailing_items trailing_times expr_read operand_read statement_read body_read
no_program_too_deep = first_fault 1 _ Expected _ refl refl

word_too_deep : Row 1 NotInProfile (Name (codes "x") ∷ Symbol Assign ∷ Symbol OpenParenthesis ∷ []) (Reserved If ∷ End ∷ [])
unfolding repeated_read repeated_times trailing_items trailing_times expr_read operand_read statement_read body_read
word_too_deep = first_fault 1 _ NotInProfile _ refl refl

-- `x = ((..(1;` with 64 and 65 brackets
numeral_64_deep : Row 65 Expected (Name (codes "x") ∷ Symbol Assign ∷ (brackets 64 ++ Numeral 1 ∷ [])) (Symbol Semicolon ∷ End ∷ [])
unfolding repeated_read repeated_times trailing_items trailing_times expr_read operand_read statement_read body_read
numeral_64_deep = first_fault 65 _ Expected _ refl refl

numeral_65_deep : Row 65 Nested (Name (codes "x") ∷ Symbol Assign ∷ brackets 65) (Numeral 1 ∷ Symbol Semicolon ∷ End ∷ [])
unfolding repeated_read repeated_times trailing_items trailing_times expr_read operand_read statement_read body_read
numeral_65_deep = first_fault 65 _ Nested _ refl refl

-- `x = ((..(;` with 65
semicolon_65_deep : Row 65 Expected (Name (codes "x") ∷ Symbol Assign ∷ brackets 65) (Symbol Semicolon ∷ End ∷ [])
unfolding repeated_read repeated_times trailing_items trailing_times expr_read operand_read statement_read body_read
semicolon_65_deep = first_fault 65 _ Expected _ refl refl
