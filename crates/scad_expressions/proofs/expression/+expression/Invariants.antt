use Rattle.std.proofs.Common.{◌≡◌, ◌+◌, ◌-◌, ◌*◌, ◌≤◌, [], ◌∷◌, map, length, Ok}
use Rattle.scad_ast.specs.ExprView.{term_of, link_of, suffix_of, arg_of}
use Rattle.scad_grammar.specs.Classes.{comma_sign, close_bracket_sign, close_parenthesis_sign, has_class_in, has_class, has_class_outside}
use Rattle.scad_grammar.specs.Reading.{repeated_read, trailing_items, in_front}
use Rattle.scad_grammar.specs.Reads.{expr_read, arg_in, suffix_read}
use Rattle.scad_expressions.specs.Climbing.{unary_in, link_in, climb_read}
use Rattle.scad_expressions.specs.TokenClasses.{levels_below, operators_at, suffix_signs, tighter_levels}
use Rattle.scad_expressions.proofs.expression.+expression.Given as goal

abbrev pub decreases-expr : goal.decreases-expr
decreases-expr l = 64 * l.depth

abbrev pub decreases-operand : goal.decreases-operand
decreases-operand l = 64 * l.depth

abbrev pub decreases-suffix : goal.decreases-suffix
decreases-suffix l = 64 * l.depth + 1

abbrev pub decreases-suffixes : goal.decreases-suffixes
decreases-suffixes l = 64 * l.depth + 2

abbrev pub decreases-arg : goal.decreases-arg
decreases-arg l = 64 * l.depth + 1

abbrev pub decreases-more_args : goal.decreases-more_args
decreases-more_args l = 64 * l.depth + 2

abbrev pub decreases-arg_list : goal.decreases-arg_list
decreases-arg_list l = 64 * l.depth + 3

abbrev pub decreases-called : goal.decreases-called
decreases-called l = 64 * l.depth + 5

abbrev pub decreases-named : goal.decreases-named
decreases-named l = 64 * l.depth + 6

abbrev pub decreases-more_items : goal.decreases-more_items
decreases-more_items l = 64 * l.depth + 1

abbrev pub decreases-range : goal.decreases-range
decreases-range l = 64 * l.depth + 2

abbrev pub decreases-filled : goal.decreases-filled
decreases-filled l = 64 * l.depth + 3

abbrev pub decreases-inside : goal.decreases-inside
decreases-inside l = 64 * l.depth + 4

abbrev pub decreases-bracket : goal.decreases-bracket
decreases-bracket l = 64 * l.depth + 5

abbrev pub decreases-paren : goal.decreases-paren
decreases-paren l = 64 * l.depth + 1

abbrev pub decreases-primary : goal.decreases-primary
decreases-primary l = 64 * l.depth + 7

abbrev pub decreases-suffixed : goal.decreases-suffixed
decreases-suffixed l = 64 * l.depth + 4

abbrev pub decreases-postfix : goal.decreases-postfix
decreases-postfix l = 64 * l.depth + 8

abbrev pub decreases-signed : goal.decreases-signed
decreases-signed l = 64 * l.depth + 1

abbrev pub decreases-unary : goal.decreases-unary
decreases-unary l = 64 * l.depth + 9

abbrev pub decreases-climb_below : goal.decreases-climb_below
decreases-climb_below l = 64 * l.depth + (7 * tighter_levels l.level + 9)

abbrev pub decreases-side : goal.decreases-side
decreases-side l = 64 * l.depth + (7 * tighter_levels l.level + 10)

abbrev pub decreases-link : goal.decreases-link
decreases-link l = 64 * l.depth + (7 * tighter_levels l.level + 11)

abbrev pub decreases-links : goal.decreases-links
decreases-links l = 64 * l.depth + (7 * tighter_levels l.level + 12)

abbrev pub decreases-linked : goal.decreases-linked
decreases-linked l = 64 * l.depth + (7 * tighter_levels l.level + 14)

abbrev pub decreases-climbed : goal.decreases-climbed
decreases-climbed l = 64 * l.depth + 50

abbrev pub decreases-chain : goal.decreases-chain
decreases-chain l = 64 * l.depth + 51

abbrev pub decreases-choice : goal.decreases-choice
decreases-choice l = 64 * l.depth + 52

abbrev pub decreases-chosen : goal.decreases-chosen
decreases-chosen l = 64 * l.depth + 3

abbrev pub decreases-behind : goal.decreases-behind
decreases-behind l = 64 * l.depth + 1

abbrev pub decreases-sides : goal.decreases-sides
decreases-sides l = 64 * l.depth + 2

abbrev pub decreases-arguments : goal.decreases-arguments
decreases-arguments l = 64 * l.depth + 4

abbrev pub decreases-some_suffixes : goal.decreases-some_suffixes
decreases-some_suffixes l = 64 * l.depth + 3

abbrev pub decreases-some_links : goal.decreases-some_links
decreases-some_links l = 64 * l.depth + (7 * tighter_levels l.level + 13)

abbrev pub invariant-links-links : goal.invariant-links-links
invariant-links-links l =
    repeated_read (has_class_in (operators_at l.level)) (link_in l.level l.depth) l.tokens
    ≡ in_front (map link_of l.items.items) (repeated_read (has_class_in (operators_at l.level)) (link_in l.level l.depth) l.rest)

abbrev pub decreases-links-links : goal.decreases-links-links
decreases-links-links l = length l.rest

abbrev pub invariant-suffixes-suffixes : goal.invariant-suffixes-suffixes
invariant-suffixes-suffixes l =
    repeated_read (has_class_in suffix_signs) (suffix_read (expr_read l.depth)) l.tokens ≡ in_front (map suffix_of l.items.items) (repeated_read (has_class_in suffix_signs) (suffix_read (expr_read l.depth)) l.rest)

abbrev pub decreases-suffixes-suffixes : goal.decreases-suffixes-suffixes
decreases-suffixes-suffixes l = length l.rest

abbrev pub invariant-more_items-commas : goal.invariant-more_items-commas
invariant-more_items-commas l =
    in_front (map term_of l.fn.items.items) (trailing_items (has_class comma_sign) (has_class_outside (close_bracket_sign ∷ [])) (expr_read l.depth) l.tokens)
    ≡ in_front (map term_of l.items.items) (trailing_items (has_class comma_sign) (has_class_outside (close_bracket_sign ∷ [])) (expr_read l.depth) l.rest)

abbrev pub decreases-more_items-commas : goal.decreases-more_items-commas
decreases-more_items-commas l = length l.rest

abbrev pub invariant-more_args-commas : goal.invariant-more_args-commas
invariant-more_args-commas l =
    in_front (map arg_of l.fn.items.items) (trailing_items (has_class comma_sign) (has_class_outside (close_parenthesis_sign ∷ [])) (arg_in l.depth (expr_read l.depth)) l.tokens)
    ≡ in_front (map arg_of l.items.items) (trailing_items (has_class comma_sign) (has_class_outside (close_parenthesis_sign ∷ [])) (arg_in l.depth (expr_read l.depth)) l.rest)

abbrev pub decreases-more_args-commas : goal.decreases-more_args-commas
decreases-more_args-commas l = length l.rest

abbrev pub invariant-climb_below-levels : goal.invariant-climb_below-levels
invariant-climb_below-levels l = record {
  told : climb_read (levels_below l.at) (unary_in l.depth) (term_of l.fn.first) l.tokens ≡ Ok (term_of l.first, l.rest);
  within : tighter_levels l.at ≤ tighter_levels l.fn.level;
}

abbrev pub decreases-climb_below-levels : goal.decreases-climb_below-levels
decreases-climb_below-levels l = tighter_levels l.fn.level - tighter_levels l.at
