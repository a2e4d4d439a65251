use Rattle.std.proofs.Common.{◌≡◌, Ok, Err, arith, refl, ap, ◌∙◌}
use Rattle.link_forest.specs.Forests.{node_id}
use Rattle.bsp_tree.specs.Ranges.{link_shifted_by}
use Rattle.bsp_tree.proofs.PassedRanges.{spans_up, range_below, range_shifts, behind_passed, ahead_passed, next_shifts, next_link, adding_same, passed_none, passed_more, passed_whole, range_stops}
use Rattle.bsp_tree.proofs.moved_nodes.add_range.Goals as goal

pub loop-index-init : goal.loop-index-init
loop-index-init c = record { table = c.requires.table; passed = passed_none _ _ _ _ refl }

pub node-requires : goal.node-requires
node-requires c = range_below _ _ _ _ _ c.requires.range c.loop-index.auto.index c.loop-index-test.true

pub link_shifted_by-requires : goal.link_shifted_by-requires
link_shifted_by-requires c =
    next_shifts _ _ _ _ _ _ _ _ c.loop-index.invariant.passed (behind_passed _ _ _ _ (node_id c.loop-index.index) _ _ _ c.requires.range c.loop-index.auto.index c.loop-index-test.true c.in_ok-face.ensures.node) c.len-next.ensures

pub link_shifted_by-requires-in-loop-index : goal.link_shifted_by-requires-in-loop-index
link_shifted_by-requires-in-loop-index c =
    next_shifts _ _ _ _ _ _ _ _ c.loop-index.invariant.passed (ahead_passed _ _ _ _ (node_id c.loop-index.index) _ _ _ c.requires.range c.loop-index.auto.index c.loop-index-test.true c.in_ok-face.ensures.node) c.len-next.ensures

pub add-requires-clause-behind : goal.add-requires-clause-behind
add-requires-clause-behind c =
    rw (c.link_shifted_by.ensures, c.len-next.ensures) (next_link _ _ _ _ _ _ _ c.loop-index.invariant.passed (behind_passed _ _ _ _ (node_id c.loop-index.index) _ _ _ c.requires.range c.loop-index.auto.index c.loop-index-test.true c.in_ok-face.ensures.node))

pub add-requires-clause-ahead : goal.add-requires-clause-ahead
add-requires-clause-ahead c =
    rw (c.link_shifted_by-in-loop-index.ensures, c.len-next.ensures) (next_link _ _ _ _ _ _ _ c.loop-index.invariant.passed (ahead_passed _ _ _ _ (node_id c.loop-index.index) _ _ _ c.requires.range c.loop-index.auto.index c.loop-index-test.true c.in_ok-face.ensures.node))

pub returns-in_err-add : goal.returns-in_err-add
returns-in_err-add c =
    let passed = c.loop-index.invariant.passed in
    let behind = c.link_shifted_by.ensures ∙ ap (link_shifted_by c.in_ok-face.behind c.loop-index.index) c.len-next.ensures in
    let ahead = c.link_shifted_by-in-loop-index.ensures ∙ ap (link_shifted_by c.in_ok-face.ahead c.loop-index.index) c.len-next.ensures in
    let adding = adding_same c.loop-index.growing c.add.new.self c.in_ok-face.face _ _ _ _ (Err c.in_err-add.field-0.0) behind ahead c.in_err-add.ensures.grows in
    let stopped = range_stops c.args.from.now _ _ _ c.loop-index.growing c.add.new.self (node_id c.loop-index.index) c.in_ok-face.face _ _ c.in_err-add.field-0.0
    c.loop-index.invariant.table c.in_ok-face.ensures passed adding c.args.end c.args.at c.loop-index.auto.index c.loop-index-test.true c.requires.range in
    grind (arith, stopped)

pub loop-index-preserved : goal.loop-index-preserved
loop-index-preserved c =
    let behind = c.link_shifted_by.ensures ∙ ap (link_shifted_by c.in_ok-face.behind c.loop-index.index) c.len-next.ensures in
    let ahead = c.link_shifted_by-in-loop-index.ensures ∙ ap (link_shifted_by c.in_ok-face.ahead c.loop-index.index) c.len-next.ensures in
    let adding = adding_same c.loop-index.growing c.add.new.self c.in_ok-face.face _ _ _ _ (Ok c.in_ok-add.field-0) behind ahead c.in_ok-add.ensures.grows in
    record {
      table = c.in_ok-add.ensures.next.planes ∙ c.loop-index.invariant.table;
      passed = passed_more c.args.from.now _ _ _ c.loop-index.growing c.add.new.self (node_id c.loop-index.index) c.in_ok-face.face _ _ c.in_ok-add.field-0
          c.loop-index.auto.index c.loop-index.invariant.table c.in_ok-face.ensures c.loop-index.invariant.passed adding c.in_ok-add.ensures.next;
    }

pub link_shifted_by-requires-2 : goal.link_shifted_by-requires-2
link_shifted_by-requires-2 c =
    let up = spans_up _ _ _ _ c.requires.range in
    let done : c.loop-index.index ≡ c.args.end = omega arith in
    range_shifts _ _ _ _ _ _ _ _ (rw done at c.loop-index.invariant.passed) c.requires.range c.len.ensures

pub returns : goal.returns
returns c =
    let up = spans_up _ _ _ _ c.requires.range in
    let done : c.loop-index.index ≡ c.args.end = omega arith in
    rw (c.link_shifted_by-2.ensures, c.len.ensures) (passed_whole _ _ _ _ _ _ _ (rw done at c.loop-index.invariant.passed) c.requires.range)
