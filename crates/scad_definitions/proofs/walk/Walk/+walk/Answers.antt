use Rattle.std.proofs.Common.{◌≡◌, ◌∙◌, ◌<◌, ◌≤◌, List, length, get_or, refl, sym, ap, arith}
use denote.Param.Weighed.{most, at_most}
use Rattle.scad_ast.specs.declared.statement.Statements.{size-Statements, size_is-Statements}
use Rattle.scad_ast.specs.declared.statement.Statement.{Statement, size-Statement}
use Rattle.scad_ast.specs.Terms.{statements_from, no_statements, and_statement, InstanceStatement}
use Rattle.scad_ast.specs.StatementView.{statements_of, instance_of, body_of}
use Rattle.scad_definitions.specs.Blocks.{entities_in, entities_of_body, entities_of_instance, LocalTerms, locals_of_block, BlockTable}
use Rattle.scad_definitions.specs.Walk.{table_so_far, count_numbered, with_entities, with_block_begun, locals_with}
use Rattle.scad_definitions.specs.TextView.{locals_of, locals_under_way}
use Rattle.scad_definitions.proofs.Begun.{numbered_after, numbered_begun, room_here}
use Rattle.scad_definitions.proofs.Scans.{instance_beginnings}
use Rattle.scad_definitions.proofs.Walks.{ending, begun_there, joined_told, walked_more, own_more, own_single, single_blocks}
use Rattle.scad_definitions.proofs.walk.Walk.+walk.Goals as goal

pub single-end-requires : goal.single-end-requires
single-end-requires t c =
    let w = table_so_far c.args.self.now in
    let i = instance_of c.args.instance.now in
    let s = and_statement (InstanceStatement i) no_statements in
    let told : table_so_far c.core.new.self ≡ with_entities (with_block_begun w s) (entities_of_instance i) =
    c.in_ok-core.ensures ∙ ap (with_entities (table_so_far c.begin.new.self)) (sym (instance_beginnings c.args.instance.now)) ∙ ap (λ (w : BlockTable). with_entities w (entities_of_instance i)) c.in_ok-number.ensures.walked in
    record {
      begun = begun_there w (table_so_far c.core.new.self) c.in_ok-number.number s (entities_of_instance i) told c.in_ok-number.ensures.number;
      few = omega (arith, ap count_numbered told, numbered_after (with_block_begun w s) (entities_of_instance i), numbered_begun w s, c.requires);
    }

pub single-returns : goal.single-returns
single-returns t c =
    let i = instance_of c.args.instance.now in
    ending (table_so_far c.args.self.now) (table_so_far c.core.new.self) (table_so_far c.end.new.self) c.in_ok-number.number
    (locals_of c.new.result) (and_statement (InstanceStatement i) no_statements) (entities_of_instance i) c.end.ensures
    (c.in_ok-core.ensures ∙ ap (with_entities (table_so_far c.begin.new.self)) (sym (instance_beginnings c.args.instance.now)) ∙ ap (λ (w : BlockTable). with_entities w (entities_of_instance i)) c.in_ok-number.ensures.walked)
    c.in_ok-number.ensures.number (c.new.ensures ∙ own_single (length (table_so_far c.args.self.now).functions) (length (table_so_far c.args.self.now).modules) i) (single_blocks i)

pub braces-end-requires : goal.braces-end-requires
braces-end-requires t c =
    let w = table_so_far c.args.self.now in
    let s = statements_from (statements_of c.args.statements.now) in
    let told : table_so_far c.statements.new.self ≡ with_entities (with_block_begun w s) (entities_in s) =
    c.in_ok-statements.ensures.walked ∙ ap (λ (w : BlockTable). with_entities w (entities_in s)) c.in_ok-number.ensures.walked in
    record {
      begun = begun_there w (table_so_far c.statements.new.self) c.in_ok-number.number s (entities_in s) told c.in_ok-number.ensures.number;
      few = omega (arith, ap count_numbered told, numbered_after (with_block_begun w s) (entities_in s), numbered_begun w s, c.requires);
    }

pub braces-returns : goal.braces-returns
braces-returns t c =
    let s = statements_from (statements_of c.args.statements.now) in
    ending (table_so_far c.args.self.now) (table_so_far c.statements.new.self) (table_so_far c.end.new.self) c.in_ok-number.number
    (locals_of c.in_ok-local.local) s (entities_in s) c.end.ensures
    (c.in_ok-statements.ensures.walked ∙ ap (λ (w : BlockTable). with_entities w (entities_in s)) c.in_ok-number.ensures.walked)
    c.in_ok-number.ensures.number
    (c.in_ok-local.ensures ∙ c.in_ok-statements.ensures.local
    ∙ ap (λ (o : LocalTerms). locals_with o (length (table_so_far c.begin.new.self).functions) (length (table_so_far c.begin.new.self).modules) s) c.new-so_far.ensures
    ∙ ap (λ (w : BlockTable). locals_of_block (length w.functions) (length w.modules) s) c.in_ok-number.ensures.walked) refl

pub statements-statement-requires : goal.statements-statement-requires
statements-statement-requires t c =
    let ss = c.args.statements.now in
    let i = c.each.statement-index in
    let s = c.statement-item.result in
    let same = c.deref-statement-items.ensures.value in
    let h : i < length ss.items.items = omega (arith, c.each-test.true, ap length same) in
    let here : s ≡ get_or ss.items.items i s = c.statement-item.is ∙ ap (λ (l : List Statement). get_or l i s) same in
    let least : size-Statement s ≤ most size-Statement ss.items.items = omega (arith, at_most size-Statement ss.items.items i s h, ap size-Statement here) in
    let small : size-Statement s < size-Statements ss = omega (arith, least, size_is-Statements ss) in (
      omega (arith, small, c.decreases),
      room_here (table_so_far c.args.self.now) (table_so_far c.each.self) c.args.statements.now.items.items c.deref-statement-items.result.now
          (statements_from (statements_of c.args.statements.now)) c.each.statement-index c.statement-item.result
          c.each.invariant.walked_on c.requires c.deref-statement-items.ensures.value c.each-test.true c.statement-item.is,
    )

pub two-body-requires-2 : goal.two-body-requires-2
two-body-requires-2 t c =
    omega (arith, ap count_numbered c.in_ok-body.ensures, numbered_after (table_so_far c.args.self.now) (entities_of_body (body_of c.args.body.now)), c.requires)

pub statements-each-preserved : goal.statements-each-preserved
statements-each-preserved t c =
    let ss = c.args.statements.now.items.items in
    let i = c.each.statement-index in
    let h : i < length ss = omega (arith, c.each-test.true, ap length c.deref-statement-items.ensures.value) in
    let here : c.statement-item.result ≡ get_or ss i c.statement-item.result = c.statement-item.is ∙
    ap (λ (l : List Statement). get_or l i c.statement-item.result) c.deref-statement-items.ensures.value in
    record {
      walked_on = walked_more (table_so_far c.each.self) (table_so_far c.statement.new.self) _ ss i c.statement-item.result h here
          c.in_ok-statement.ensures.walked c.each.invariant.walked_on;
      owned = own_more (locals_under_way c.each.so_far.local) (locals_under_way c.statement.new.so_far.local) _ (table_so_far c.each.self) (table_so_far c.statement.new.self) ss i
          c.statement-item.result h here c.in_ok-statement.ensures.walked c.in_ok-statement.ensures.local c.each.invariant.owned;
    }

pub two-returns : goal.two-returns
two-returns t c = joined_told c.body-2.result (table_so_far c.args.self.now) (table_so_far c.body.new.self) (table_so_far c.body-2.new.self)
    (entities_of_body (body_of c.args.body.now)) (entities_of_body (body_of c.args.other.now)) c.body-2.ensures c.in_ok-body.ensures
