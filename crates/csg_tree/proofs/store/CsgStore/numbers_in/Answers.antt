use Rattle.std.proofs.Common.{◌≡◌, ◌+◌, length, sym, ap, subst, ◌∙◌, arith, Option, ℕ, List}
use Rattle.std.proofs.lemmas.List.{length_push}
use Rattle.csg_tree.specs.HalfSpaceTrees.{Tree}
use Rattle.csg_tree.specs.Numberings.{tree_numbered}
use Rattle.csg_tree.specs.Nodes.{node_of, tree_of_node, IsOver}
use Rattle.csg_tree.specs.Earlier.{AreNumbersIn, IsNumberOf}
use Rattle.csg_tree.proofs.EarlierNumbers.{node_has, node_over, numbers_more}
use Rattle.csg_tree.proofs.store.CsgStore.numbers_in.Goals as goal

pub number_in-requires : goal.number_in-requires
number_in-requires c =
    subst (λ (ns : List (Option ℕ)). IsOver ns (node_of c.node.result)) (sym c.deref.ensures.value)
    (node_over c.loop-before.numbers.items c.args.self.now (c.loop-before.before + 1) c.node.result
    (omega (arith, c.loop-before.invariant.count)) c.node.ensures.node)

pub loop-before-preserved : goal.loop-before-preserved
loop-before-preserved c =
    let trees = c.args.self.now in
    let earlier = c.args.earlier.now in
    let numbers = c.loop-before.numbers.items in
    let number = c.in_ok-number.number in
    let k = c.loop-before.before in
    let has = node_has trees (k + 1) c.node.result (omega arith, omega arith) c.node.ensures.node in
    let place : k + 1 ≡ length numbers + 1 = omega (arith, c.loop-before.invariant.count) in
    let same = subst (AreNumbersIn earlier trees) (sym c.deref.ensures.value) c.loop-before.invariant.same in
    let is : tree_of_node trees (node_of c.node.result) ≡ tree_numbered trees (length numbers + 1) =
    sym has.1 ∙ ap (tree_numbered trees) place in
    record {
      count = omega (arith, ap length c.in_ok-push.ensures.items, length_push numbers number, c.loop-before.invariant.count);
      same = numbers_more earlier trees numbers c.push.new.self.items number c.loop-before.invariant.same c.in_ok-push.ensures.items
          (subst (λ (t : Tree). IsNumberOf earlier t number) is (c.in_ok-number.ensures earlier trees c.in_ok-found.ensures same));
    }
