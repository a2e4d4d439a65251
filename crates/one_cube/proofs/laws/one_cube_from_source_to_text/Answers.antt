use Rattle.std.proofs.Common.{inr, refl}
use Rattle.plane_predicate.specs.declared.unit.Unit.TheVariants.{Whole}
use Rattle.reply_text.specs.declared.reply.Reply.TheVariants as reply
use Rattle.tree_export.specs.declared.export.TreeExport.TheVariants as exported
use Rattle.tree_export.specs.Worked.{worked_box, worked_box_text}
use Rattle.script_server.specs.Meaning.Exports.{AnswersSource}
use Rattle.one_cube.specs.Worked.{worked_source}
use Rattle.one_cube.proofs.Means.{source_means}
use Rattle.one_cube.proofs.laws.one_cube_from_source_to_text.Goals as goal

pub returns-clause-means : goal.returns-clause-means
returns-clause-means c = source_means

pub returns-clause-answered : goal.returns-clause-answered
returns-clause-answered c =
    let rule : AnswersSource Whole worked_source (reply.Solid worked_box_text) = inr (worked_box, source_means, (exported.Text worked_box_text, c.a_box_has_its_text.ensures, refl)) in
    record { meaning = c.the_rule_gives_the_meaning.ensures Whole worked_source (reply.Solid worked_box_text) rule; rule = rule }
