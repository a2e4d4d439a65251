use Rattle.scad_ast.specs.StatementView.{params_of}
use Rattle.scad_grammar.specs.Classes.{close_parenthesis_sign, has_class}
use Rattle.scad_grammar.specs.Reads.{expr_read}
use Rattle.scad_grammar.specs.StatementReads.{param_in, params_read}
use Rattle.scad_expressions.proofs.lemmas.Stops.{same_read, closed_gives, parenthesized}
use Rattle.scad_parser.proofs.parameters.params.Goals as goal

pub returns : goal.returns
returns c = record {
  value =
      same_read params_of c.closed.result _ _ (parenthesized (params_read (param_in c.args.depth (expr_read c.args.depth))) c.args.tokens.now _ c.in_ok-rest.rest.now c.in_ok-rest.ensures.value)
      (closed_gives params_of (has_class close_parenthesis_sign) c.param_list.result c.closed.result _ c.param_list.ensures.value c.closed.ensures);
}
