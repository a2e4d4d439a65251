-- Reading what is less deep than so much, and a chain behind an operand that was read.
use Rattle.std.specs.Prelude.{ℕ, List, [], ◌∷◌, Ok}
use Rattle.scad_ast.specs.Terms.{Term, LinkTerm}
use Rattle.scad_grammar.specs.Classes.{has_class_in}
use Rattle.scad_grammar.specs.Faults.{TokenReader, token_read}
use Rattle.scad_grammar.specs.Grammar.{chain_term, link_term}
use Rattle.scad_grammar.specs.Reading.{sequence_read, repeated_read}
use Rattle.scad_grammar.specs.Reads.{expr_read, operand_read, arg_in, primary_read, unary_read, chain_read}
use Rattle.scad_expressions.specs.declared.class.Level.{Level}
use Rattle.scad_expressions.specs.TokenClasses.{operators_at, levels_below}

-- a primary, an operand with its operators before it, and an operator of a level with what stands behind it, over what
-- is less deep than so much
abbrev pub primary_in : ℕ → TokenReader Term
primary_in depth = primary_read (expr_read depth) (arg_in depth (expr_read depth))

abbrev pub unary_in : ℕ → TokenReader Term
unary_in depth = unary_read (expr_read depth) (operand_read depth) (primary_in depth)

abbrev pub link_in : Level → ℕ → TokenReader LinkTerm
link_in level depth = sequence_read link_term (token_read (has_class_in (operators_at level))) (chain_read (levels_below level) (unary_in depth))

-- an operand with the operators behind it of these levels, the loosest first
abbrev pub climb_read : List (List ℕ) → TokenReader Term → Term → TokenReader Term
climb_read [] operand x tokens = Ok (x, tokens)
climb_read (ops ∷ levels) operand x tokens = sequence_read chain_term (climb_read levels operand x) (repeated_read (has_class_in ops) (sequence_read link_term (token_read (has_class_in ops)) (chain_read levels operand))) tokens
