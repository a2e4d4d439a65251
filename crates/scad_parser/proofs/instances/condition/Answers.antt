use Rattle.scad_ast.specs.ExprView.{term_of}
use Rattle.scad_grammar.specs.Classes.{close_parenthesis_sign, has_class}
use Rattle.scad_grammar.specs.Reads.{expr_read}
use Rattle.scad_expressions.proofs.lemmas.Stops.{same_read, closed_gives, parenthesized}
use Rattle.scad_parser.proofs.instances.condition.Goals as goal

pub returns : goal.returns
returns c = record {
  value =
      same_read term_of c.closed.result _ _ (parenthesized (expr_read c.args.depth) c.args.tokens.now _ c.in_ok-rest.rest.now c.in_ok-rest.ensures.value)
      (closed_gives term_of (has_class close_parenthesis_sign) c.expr.result c.closed.result _ c.expr.ensures.value c.closed.ensures);
}
