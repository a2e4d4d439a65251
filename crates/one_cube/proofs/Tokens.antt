-- The tokens of one cube's source, and the program that they write.
use Rattle.std.proofs.Common.{◌≡◌, ℕ, true, List, [], ◌∷◌, Ok, refl}
use Rattle.std.specs.Prelude.{codes}
use Rattle.plain_text.specs.declared.place.Place.{Place}
use Rattle.scad_lexer.specs.declared.token.Token.{Token}
use Rattle.scad_lexer.specs.declared.token.TokenKind.{TokenKind}
use Rattle.scad_lexer.specs.declared.token.TokenKind.TheVariants.{Numeral, Name, Symbol, End}
use Rattle.scad_lexer.specs.declared.token.Symbol.TheVariants.{OpenParenthesis, CloseParenthesis, OpenBracket, CloseBracket, Comma, Semicolon}
use Rattle.scad_lexer.specs.declared.word.Word.TheVariants as word
use Rattle.scad_lexer.specs.Words.{word_of_bytes, matches, many_then}
use Rattle.scad_lexer.specs.Tokens.{SourceWord, Lexes, GivesTokens, ends_once}
use Rattle.scad_ast.specs.Terms.{NumberTerm, ListTerm, no_terms, and_term, PositionalTerm, StatementTerm, InstanceStatement, AnInstance, ModuleCallTerm, EmptyBody}
use Rattle.scad_grammar.specs.StatementReads.{program_read, statement_read}
use Rattle.scad_grammar.specs.Reading.{repeated_read, repeated_times, trailing_items, trailing_times}
use Rattle.scad_grammar.specs.Reads.{expr_read}
use Rattle.scad_grammar.proofs.lemmas.FirstFaults.{is_found}
use Rattle.scad_parser.specs.Sources.{WritesProgram}
use Rattle.one_cube.specs.Worked.{worked_source}
use Rattle.one_cube.proofs.Words.{AreWords, given_by, words_read}

abbrev pub at : ℕ → Place
at column = record { line = 1; column = column }

abbrev token : TokenKind → ℕ → Token
token kind column = record { kind = kind; place = at column }

abbrev tokens : List Token
tokens =
    token (Name (codes "cube")) 1 ∷ token (Symbol OpenParenthesis) 5 ∷ token (Symbol OpenBracket) 6 ∷ token (Numeral 1) 7 ∷ token (Symbol Comma) 8
    ∷ token (Numeral 2) 9 ∷ token (Symbol Comma) 10 ∷ token (Numeral 3) 11 ∷ token (Symbol CloseBracket) 12 ∷ token (Symbol CloseParenthesis) 13
    ∷ token (Symbol Semicolon) 14 ∷ token End 15 ∷ []

abbrev pieces : List SourceWord
pieces =
    record { bytes = 4; word = word.Name } ∷ record { bytes = 1; word = word.Symbol OpenParenthesis } ∷ record { bytes = 1; word = word.Symbol OpenBracket }
    ∷ record { bytes = 1; word = word.Numeral } ∷ record { bytes = 1; word = word.Symbol Comma } ∷ record { bytes = 1; word = word.Numeral }
    ∷ record { bytes = 1; word = word.Symbol Comma } ∷ record { bytes = 1; word = word.Numeral } ∷ record { bytes = 1; word = word.Symbol CloseBracket }
    ∷ record { bytes = 1; word = word.Symbol CloseParenthesis } ∷ record { bytes = 1; word = word.Symbol Semicolon } ∷ []

are_words : AreWords pieces worked_source
unfolding word_of_bytes matches many_then
are_words = (refl, refl, refl, tt, (refl, refl, refl, tt, (refl, refl, refl, tt, (refl, refl, refl, tt, (refl, refl, refl, tt, (refl, refl, refl, tt, (refl, refl, refl, tt, (refl, refl, refl, tt, (refl, refl, refl, tt, (refl, refl, refl, tt, (refl, refl, refl, tt, refl)))))))))))

lexes : Lexes worked_source (GivesTokens tokens)
unfolding matches
lexes = (pieces, words_read pieces (at 1) worked_source are_words)

abbrev pub program : List StatementTerm
program =
    InstanceStatement (AnInstance (at 1) [] (ModuleCallTerm (at 1) (codes "cube")
    (PositionalTerm (ListTerm (at 6) (and_term (NumberTerm (at 7) 1) (and_term (NumberTerm (at 9) 2) (and_term (NumberTerm (at 11) 3) no_terms)))) ∷ [])
    (EmptyBody (at 14)))) ∷ []

ends : ends_once tokens ≡ true
ends = refl

is_read : program_read 65 tokens ≡ Ok (program, [])
unfolding repeated_read repeated_times statement_read expr_read trailing_items trailing_times
is_read = refl

pub writes : WritesProgram worked_source program
writes = (tokens, lexes, (is_found 65 tokens program [] ends is_read).1)
