use Rattle.std.proofs.Common.{rules}
use Rattle.off_text.proofs.Lines.{written_none, written_next, written_end}
use Rattle.off_text.proofs.part.number_facets.Goals as goal

pub loop-facet-init : goal.loop-facet-init
loop-facet-init c = written_none c.args.unit _ _ (search rules) (search rules) (search rules)

pub loop-facet-preserved : goal.loop-facet-preserved
loop-facet-preserved c =
    written_next c.args.unit c.args.facets.now c.loop-facet.facet-index c.facet-item.result c.loop-facet-test.true c.facet-item.is
    c.loop-facet.part.vertices.keys c.loop-facet.part.faces c.loop-facet.invariant
    c.push_facet.new.part.vertices.keys c.push_facet.new.part.faces c.in_ok-push_facet.ensures

pub returns : goal.returns
returns c = written_end c.args.unit c.args.facets.now c.loop-facet.facet-index c.loop-facet.part.vertices.keys c.loop-facet.part.faces c.loop-facet-test.false c.loop-facet.invariant
