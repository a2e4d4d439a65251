-- The fault of a token at which nothing goes on.
use Rattle.std.specs.Prelude.{ℕ, List, [], ◌∷◌, ◌++◌, map, Bool, cond, Option, Some, None}
use Rattle.scad_lexer.specs.declared.token.Token.{Token}
use Rattle.scad_lexer.specs.declared.token.TokenKind.TheVariants.{Special, Reserved, Symbol}
use Rattle.scad_lexer.specs.declared.token.Reserved.TheVariants.{Function, If, For, Use, Include, Let, Each}
use Rattle.scad_lexer.specs.declared.token.Symbol.TheVariants.{Caret}
use Rattle.scad_grammar.specs.declared.SyntaxFault.{SyntaxFault}
use Rattle.scad_grammar.specs.declared.SyntaxFault.TheVariants.{Expected, NotInProfile}
use Rattle.scad_grammar.specs.Classes.{token_class, has_class_in}
use Rattle.scad_grammar.specs.Reading.{Reader, token_or_fault_read}

-- forms that this profile leaves out wherever no program goes on with them
abbrev pub left_out_classes : List ℕ
left_out_classes = map token_class (Reserved Use ∷ Reserved Include ∷ Reserved Let ∷ Reserved Each ∷ Symbol Caret ∷ Special [] ∷ [])

-- the same in the place of an expression
abbrev pub left_out_of_expressions : List ℕ
left_out_of_expressions = map token_class (Reserved For ∷ Reserved If ∷ Reserved Function ∷ []) ++ left_out_classes

-- the fault of a token, or of the end of all tokens, where those of these classes are left out
abbrev pub fault_of : List ℕ → Option Token → SyntaxFault
fault_of classes None = Expected
fault_of classes (Some token) = cond (has_class_in classes token) NotInProfile Expected

-- reads tokens from their front
abbrev pub TokenReader : Type 0 → Type 0
TokenReader A = Reader Token SyntaxFault A

-- one token of these
abbrev pub token_read : (Token → Bool) → TokenReader Token
token_read test = token_or_fault_read test (fault_of left_out_classes)

-- one token of these, where an expression may begin
abbrev pub first_token_read : (Token → Bool) → TokenReader Token
first_token_read test = token_or_fault_read test (fault_of left_out_of_expressions)
