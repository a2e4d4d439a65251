use Rattle.scad_ast.specs.ExprView.{term_of}
use Rattle.scad_grammar.specs.Classes.{semicolon_sign, has_class}
use Rattle.scad_expressions.proofs.lemmas.Stops.{closed_gives}
use Rattle.scad_parser.proofs.assignments.ended.Goals as goal

pub returns : goal.returns
returns c = record { value = closed_gives term_of (has_class semicolon_sign) c.expr.result c.closed.result _ c.expr.ensures.value c.closed.ensures }
