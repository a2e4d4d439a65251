-- What is made of a source is made of its tokens' program, and it is refused with the fault of its bytes or of its tokens.
use Rattle.std.proofs.Common.{◌≡◌, inl, inr, ⊎_elim, true, List, ℕ, Result}
use Rattle.text_place.specs.declared.fault.Stop.{Stop}
use Rattle.text_place.specs.declared.fault.Stop.TheVariants.{Fault, NoMemory}
use Rattle.scad_lexer.specs.declared.token.Token.{Token}
use Rattle.scad_lexer.specs.Tokens.{Lexes, GivesTokens}
use Rattle.scad_ast.specs.declared.program.Program.{Program}
use Rattle.scad_grammar.specs.Grammar.{least_too_deep}
use Rattle.scad_parser.specs.Parsing.{ends_with_end, IsSyntaxStop}
use Rattle.scad_parser.specs.Sources.{RefusesText, IsMadeOfTokens, IsMadeOf}

refused : (source : List ℕ) (tokens : List Token) (why : Stop) → Lexes source (GivesTokens tokens) → IsSyntaxStop least_too_deep tokens why → RefusesText source why
refused source tokens (Fault fault) lexes stops = inr (tokens, lexes, stops)
refused source tokens NoMemory lexes stops = tt

pub made : {T : Type 0} (makes : Program → Result T Stop → Type 0) (source : List ℕ) (tokens : List Token) (r : Result T Stop) → Lexes source (GivesTokens tokens)
    → ends_with_end tokens ≡ true → IsMadeOfTokens makes tokens r → IsMadeOf makes source r
made makes source tokens r lexes end of =
    ⊎_elim
    (λ m. inl (m.0, (tokens, lexes, m.1), m.2))
    (λ m. inr (m.0, refused source tokens m.0 lexes (m.1 end), m.2))
    of
