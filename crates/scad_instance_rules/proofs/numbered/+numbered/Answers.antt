use Rattle.std.proofs.Common.{◌≡◌, ◌<◌, ◌+◌, ◌∙◌, List, length, map, drop, get_or, ap, subst, arith}
use Rattle.scad_ast.specs.declared.statement.Statement.{Statement}
use Rattle.scad_ast.specs.Terms.{StatementTerm, statements_from}
use Rattle.scad_ast.specs.StatementView.{statement_of, statements_of}
use Rattle.scad_func.specs.View.{table_in}
use Rattle.scad_definitions.specs.Blocks.{StandAt, entities_of}
use Rattle.scad_instance_rules.specs.Positions.{term_of_numbered}
use Rattle.scad_instance_rules.proofs.Numbering.{remaining_more, statements_here, here_stands, nesting_here, nesting_of, block_form}
use Rattle.scad_instance_rules.proofs.numbered.+numbered.Goals as goal

pub add_all-add-requires : goal.add_all-add-requires
add_all-add-requires t c =
    let ss = c.args.statements.now.items.items in
    let i = c.each.statement-index in
    let h : i < length ss = omega (arith, c.each-test.true, ap length c.deref-statement-items.ensures.value) in
    let s = c.statement-item.result in
    let here : s ≡ get_or ss i s = c.statement-item.is ∙ ap (λ (l : List Statement). get_or l i s) c.deref-statement-items.ensures.value in (
      omega (arith, nesting_here c.args.statements.now i s h here, c.decreases),
      (
        c.requires.whole,
        here_stands (table_in c.args.source.now) c.args.first c.each.next (statements_from (statements_of c.args.statements.now))
            (map term_of_numbered c.args.found.now.items) (map term_of_numbered c.each.found.items) ss i s h here c.each.invariant.remaining,
      ),
    )

pub add_all-each-preserved : goal.add_all-each-preserved
add_all-each-preserved t c =
    let ss = c.args.statements.now.items.items in
    let i = c.each.statement-index in
    let h : i < length ss = omega (arith, c.each-test.true, ap length c.deref-statement-items.ensures.value) in
    let s = c.statement-item.result in
    let here : s ≡ get_or ss i s = c.statement-item.is ∙ ap (λ (l : List Statement). get_or l i s) c.deref-statement-items.ensures.value in
    let g = c.in_ok-next.ensures in
    record {
      remaining = remaining_more (table_in c.args.source.now) c.args.first c.each.next c.in_ok-next.next
          (statements_from (statements_of c.args.statements.now)) (statements_from (map statement_of (drop i ss)))
          (map term_of_numbered c.args.found.now.items) (map term_of_numbered c.each.found.items) (map term_of_numbered c.add.new.found.items)
          (statement_of s) (statements_from (map statement_of (drop (i + 1) ss))) c.each.invariant.remaining (statements_here ss i s h here)
          g.block_end g.adds.instances;
      blocks = λ before. g.adds.blocks (c.each.invariant.blocks before);
    }

pub add-add_all-requires : goal.add-add_all-requires
add-add_all-requires t c =
    let is = ap statement_of c.in-Block.is ∙ block_form c.in-Block.field-0 c.in-Block.statements in (
      omega (arith, ap nesting_of is, c.decreases),
      (
        c.requires.whole,
        subst (λ (s : StatementTerm). StandAt (table_in c.args.source.now) c.args.first (entities_of s)) is c.requires.stand,
      ),
    )
