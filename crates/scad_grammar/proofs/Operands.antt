-- What is read of suffixes and operands is in the grammar, where that holds of their parts.
use Rattle.std.proofs.Common.{◌≡◌, ℕ, List, [], ◌∷◌, ◌++◌, false, refl}
use Rattle.plain_text.specs.declared.place.Place.{Place}
use Rattle.scad_lexer.specs.declared.token.Token.{Token}
use Rattle.scad_lexer.specs.declared.token.TokenKind.{TokenKind}
use Rattle.scad_lexer.specs.declared.token.TokenKind.TheVariants.{Name, Symbol}
use Rattle.scad_lexer.specs.declared.token.Symbol.TheVariants.{OpenBracket, CloseBracket, Dot, Minus}
use Rattle.scad_ast.specs.Terms.{Term}
use Rattle.scad_grammar.specs.Classes.{name_class, open_parenthesis_sign, open_bracket_sign, close_bracket_sign, dot_sign, plus_sign, minus_sign, not_sign, has_class_in, has_class}
use Rattle.scad_grammar.specs.Languages.{Language, SingleToken, Concatenation, Alternation, Repetition, BeforeToken, first_of}
use Rattle.scad_grammar.specs.Grammar.{Suffix, index_term, member_term, postfix_term, unary_term}
use Rattle.scad_grammar.specs.Reading.{next_is, sequence_read, repeated_read}
use Rattle.scad_grammar.specs.Faults.{TokenReader, token_read}
use Rattle.scad_grammar.specs.Reads.{firsts_of_primary, suffix_read, postfix_read, unary_read}
use Rattle.scad_grammar.proofs.lemmas.Readers.{IsReader, Opens, both_reads, choice_reads, many_reads, many_follows, both_opens, either_opens, one_opens, never_starts}
use Rattle.scad_grammar.proofs.Tests.{OneReads, one_at, then, next_apart, next_within, next_less}

abbrev pub here : Place
here = record { line = 1; column = 1 }

abbrev pub token : TokenKind → Token
token kind = record { kind = kind; place = here }

pub open_bracket_one : OneReads (has_class open_bracket_sign)
open_bracket_one = one_at (has_class open_bracket_sign) (token (Symbol OpenBracket), refl)

pub close_bracket_one : OneReads (has_class close_bracket_sign)
close_bracket_one = one_at (has_class close_bracket_sign) (token (Symbol CloseBracket), refl)

pub dot_one : OneReads (has_class dot_sign)
dot_one = one_at (has_class dot_sign) (token (Symbol Dot), refl)

pub name_one : OneReads (has_class name_class)
name_one = one_at (has_class name_class) (token (Name []), refl)

pub unary_one : OneReads (has_class_in (minus_sign ∷ plus_sign ∷ not_sign ∷ []))
unary_one = one_at (has_class_in (minus_sign ∷ plus_sign ∷ not_sign ∷ [])) (token (Symbol Minus), refl)

-- what may begin a suffix, and what may go on an operand
abbrev pub suffix_signs : List ℕ
suffix_signs = open_bracket_sign ∷ dot_sign ∷ []

abbrev pub operand_more : List ℕ
operand_more = open_parenthesis_sign ∷ open_bracket_sign ∷ dot_sign ∷ []

abbrev pub unary_signs : List ℕ
unary_signs = minus_sign ∷ plus_sign ∷ not_sign ∷ []

pub suffix_opens : (E : Language Term) → Opens (Suffix E) (has_class_in suffix_signs)
suffix_opens E =
    either_opens _ _ (has_class_in suffix_signs)
    (both_opens index_term (SingleToken (has_class open_bracket_sign)) _ _ (λ x s rest h. next_within (open_bracket_sign ∷ []) suffix_signs refl (s ++ rest) (one_opens (has_class open_bracket_sign) x s rest h)))
    (both_opens member_term (SingleToken (has_class dot_sign)) _ _ (λ x s rest h. next_within (dot_sign ∷ []) suffix_signs refl (s ++ rest) (one_opens (has_class dot_sign) x s rest h)))

module _ (e : TokenReader Term) (E F : Language Term) (more : List ℕ) (ie : IsReader e E F (λ x. has_class_in more)) (closes : (t : Token) (s rest : List Token) → SingleToken (has_class close_bracket_sign) t s → next_is (has_class_in more) (s ++ rest) ≡ false)
    (some_e : (w : List Token) × (y : Term) × F y w) where
  closed : IsReader (sequence_read first_of e (token_read (has_class close_bracket_sign))) (BeforeToken E (has_class close_bracket_sign)) (BeforeToken F (has_class close_bracket_sign)) (λ x t. false)
  closed =
      both_reads first_of e (token_read (has_class close_bracket_sign)) E F (SingleToken (has_class close_bracket_sign)) (SingleToken (has_class close_bracket_sign)) (λ x. has_class_in more) (λ x t. false) (λ x t. false) ie close_bracket_one
      (token (Symbol CloseBracket) ∷ [], token (Symbol CloseBracket), (refl, refl)) (λ x t s rest h k. closes t s rest h) (λ x t rest h. h)

  some_closed : (w : List Token) × (y : Term) × BeforeToken F (has_class close_bracket_sign) y w
  some_closed = (some_e.0 ++ token (Symbol CloseBracket) ∷ [], some_e.1, (some_e.1, token (Symbol CloseBracket), some_e.0, token (Symbol CloseBracket) ∷ [], some_e.2, (refl, refl), refl, refl))

  pub suffix_reads : IsReader (suffix_read e) (Suffix E) (Suffix F) (λ x t. false)
  suffix_reads =
      choice_reads (has_class open_bracket_sign) (sequence_read index_term (token_read (has_class open_bracket_sign)) (sequence_read first_of e (token_read (has_class close_bracket_sign)))) (sequence_read member_term (token_read (has_class dot_sign)) (token_read (has_class name_class)))
      (Concatenation index_term (SingleToken (has_class open_bracket_sign)) (BeforeToken E (has_class close_bracket_sign))) (Concatenation index_term (SingleToken (has_class open_bracket_sign)) (BeforeToken F (has_class close_bracket_sign)))
      (Concatenation member_term (SingleToken (has_class dot_sign)) (SingleToken (has_class name_class))) (Concatenation member_term (SingleToken (has_class dot_sign)) (SingleToken (has_class name_class))) (λ x t. false)
      (then (sequence_read first_of e (token_read (has_class close_bracket_sign))) (BeforeToken E (has_class close_bracket_sign)) (BeforeToken F (has_class close_bracket_sign)) (has_class open_bracket_sign) (λ x t. false) (λ x t. false) index_term open_bracket_one closed some_closed (λ t y rest h. h))
      (then (token_read (has_class name_class)) (SingleToken (has_class name_class)) (SingleToken (has_class name_class)) (has_class dot_sign) (λ x t. false) (λ x t. false) member_term dot_one name_one (token (Name []) ∷ [], token (Name []), (refl, refl)) (λ t y rest h. h))
      (both_opens index_term (SingleToken (has_class open_bracket_sign)) _ _ (one_opens (has_class open_bracket_sign)))
      (λ x s rest h k. next_apart (dot_sign ∷ []) (open_bracket_sign ∷ []) refl (s ++ rest) (both_opens member_term (SingleToken (has_class dot_sign)) _ _ (one_opens (has_class dot_sign)) x s rest h))

  suffixes_reads : IsReader (repeated_read (has_class_in suffix_signs) (suffix_read e)) (Repetition (Suffix E)) (Repetition (Suffix F)) (λ x. has_class_in operand_more)
  suffixes_reads = many_reads (has_class_in suffix_signs) (suffix_read e) (Suffix E) (Suffix F) (λ x t. false) (has_class_in operand_more) suffix_reads (suffix_opens E) (λ x rest h. never_starts rest) (λ x rest h. never_starts rest) (next_less suffix_signs operand_more refl)

  -- p is a primary
  module _ (p : TokenReader Term) (P Q : Language Term) (ip : IsReader p P Q (λ x. has_class_in (open_parenthesis_sign ∷ []))) where
    pub postfix_reads : IsReader (postfix_read e p) (Concatenation postfix_term P (Repetition (Suffix E))) (Concatenation postfix_term Q (Repetition (Suffix F))) (λ x. has_class_in operand_more)
    postfix_reads =
        both_reads postfix_term p (repeated_read (has_class_in suffix_signs) (suffix_read e)) P Q (Repetition (Suffix E)) (Repetition (Suffix F)) (λ x. has_class_in (open_parenthesis_sign ∷ [])) (λ x. has_class_in operand_more) (λ x. has_class_in operand_more) ip suffixes_reads
        ([], [], refl)
        (λ x. many_follows (Suffix E) (has_class_in suffix_signs) (has_class_in (open_parenthesis_sign ∷ [])) (has_class_in operand_more) (suffix_opens E) (next_apart suffix_signs (open_parenthesis_sign ∷ []) refl) (next_less (open_parenthesis_sign ∷ []) operand_more refl))
        (λ x y rest h. h)

    -- u is an operand one deeper
    module _ (u : TokenReader Term) (U V : Language Term) (iu : IsReader u U V (λ x. has_class_in operand_more)) (some_u : (w : List Token) × (y : Term) × V y w)
        (starts_p : Opens P (has_class_in firsts_of_primary)) where
      pub unary_reads : IsReader (unary_read e u p) (Alternation (Concatenation unary_term (SingleToken (has_class_in unary_signs)) U) (Concatenation postfix_term P (Repetition (Suffix E)))) (Alternation (Concatenation unary_term (SingleToken (has_class_in unary_signs)) V) (Concatenation postfix_term Q (Repetition (Suffix F)))) (λ x. has_class_in operand_more)
      unary_reads =
          choice_reads (has_class_in unary_signs) (sequence_read unary_term (token_read (has_class_in unary_signs)) u) (postfix_read e p)
          (Concatenation unary_term (SingleToken (has_class_in unary_signs)) U) (Concatenation unary_term (SingleToken (has_class_in unary_signs)) V) (Concatenation postfix_term P (Repetition (Suffix E))) (Concatenation postfix_term Q (Repetition (Suffix F))) (λ x. has_class_in operand_more)
          (then u U V (has_class_in unary_signs) (λ x. has_class_in operand_more) (λ x. has_class_in operand_more) unary_term unary_one iu some_u (λ t y rest h. h))
          postfix_reads
          (both_opens unary_term (SingleToken (has_class_in unary_signs)) U (has_class_in unary_signs) (one_opens (has_class_in unary_signs)))
          (λ x s rest h k. next_apart firsts_of_primary unary_signs refl (s ++ rest) (both_opens postfix_term P (Repetition (Suffix E)) (has_class_in firsts_of_primary) starts_p x s rest h))
