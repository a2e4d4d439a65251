use Rattle.scad_ast.specs.StatementView.{binders_of}
use Rattle.scad_grammar.specs.Classes.{close_parenthesis_sign, has_class}
use Rattle.scad_grammar.specs.Reads.{expr_read}
use Rattle.scad_grammar.specs.StatementReads.{binder_in, binders_read}
use Rattle.scad_expressions.proofs.lemmas.Stops.{same_read, closed_gives, parenthesized}
use Rattle.scad_parser.proofs.loop_variables.binders.Goals as goal

pub returns : goal.returns
returns c = record {
  value =
      same_read binders_of c.closed.result _ _ (parenthesized (binders_read (binder_in c.args.depth (expr_read c.args.depth))) c.args.tokens.now _ c.in_ok-rest.rest.now c.in_ok-rest.ensures.value)
      (closed_gives binders_of (has_class close_parenthesis_sign) c.binder_list.result c.closed.result _ c.binder_list.ensures.value c.closed.ensures);
}
