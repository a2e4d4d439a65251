use Rattle.std.proofs.Common.{◌≡◌, ◌+◌, length, ap, subst, ◌∙◌, arith, ℕ, List}
use Rattle.std.specs.Arc.{arc_value}
use Rattle.std.proofs.lemmas.List.{length_push}
use Rattle.std.proofs.lemmas.List.Sums.{sum_by_push}
use Rattle.csg_tree.specs.HalfSpaceTrees.{Tree}
use Rattle.csg_tree.specs.Earlier.{AreAllNumbersIn}
use Rattle.csg_tree.specs.Numberings.{tree_numbered}
use Rattle.parallel_eval.specs.Known.{IsKnown, known_size, known_sizes}
use Rattle.parallel_eval.proofs.Knowing.{known_more, number_at, number_within}
use Rattle.parallel_eval.proofs.known_store.KnownStore.over.Goals as goal

pub leaf_in-requires : goal.leaf_in-requires
leaf_in-requires c =
    let earlier = c.args.earlier.now in
    let trees = arc_value c.args.store in
    let k = c.loop-before.before in
    let numbers = c.in_ok-numbers.numbers.items in
    let all : AreAllNumbersIn earlier trees numbers =
    subst (λ (es : List Tree). AreAllNumbersIn es trees numbers) c.store.ensures
    (subst (λ (ts : List Tree). AreAllNumbersIn c.store.result.now ts numbers) c.deref.ensures c.in_ok-numbers.ensures) in
    let many = c.len-before-end.ensures.is ∙ ap length c.deref-2.ensures in
    number_within earlier (tree_numbered trees (k + 1)) c.index.result.now
    (number_at earlier trees numbers k c.index.result.now all (omega (arith, many)) c.index.ensures)

pub loop-before-preserved : goal.loop-before-preserved
loop-before-preserved c =
    let earlier = c.args.earlier.now in
    let trees = arc_value c.args.store in
    let k = c.loop-before.before in
    let numbers = c.in_ok-numbers.numbers.items in
    let old = c.loop-before.leaves.items in
    let leaf = c.with_room.result in
    let place : k + 1 ≡ length old + 1 = omega (arith, c.loop-before.invariant.count) in
    let all : AreAllNumbersIn earlier trees numbers =
    subst (λ (es : List Tree). AreAllNumbersIn es trees numbers) c.store.ensures
    (subst (λ (ts : List Tree). AreAllNumbersIn c.store.result.now ts numbers) c.deref.ensures c.in_ok-numbers.ensures) in
    let many = c.len-before-end.ensures.is ∙ ap length c.deref-2.ensures in
    let number = number_at earlier trees numbers k c.index.result.now all (omega (arith, many)) c.index.ensures in
    record {
      count = omega (arith, ap length c.in_ok-push.ensures.items, length_push old leaf, c.loop-before.invariant.count);
      known = known_more trees old c.push.new.self.items leaf c.loop-before.invariant.known c.in_ok-push.ensures.items
          (subst (λ (m : ℕ). IsKnown (tree_numbered trees m) leaf) place (c.with_room.ensures.known (tree_numbered trees (k + 1)) (c.in_ok-leaf.ensures (tree_numbered trees (k + 1)) number)));
      room = omega (arith, c.loop-before.invariant.room, c.with_room.ensures.room, ap known_sizes c.in_ok-push.ensures.items, sum_by_push known_size old leaf);
    }
