use Rattle.std.proofs.Common.{◌≡◌, ◌+◌, length, ap, sym, subst, arith, ℕ, Some}
use Rattle.std.proofs.lemmas.List.{length_push}
use Rattle.std.proofs.lemmas.List.Sums.{sum_by_push}
use Rattle.csg_tree.specs.Numberings.{tree_numbered}
use Rattle.parallel_eval.specs.Known.{IsKnown, known_size, known_sizes}
use Rattle.parallel_eval.proofs.Knowing.{known_more, known_at}
use Rattle.parallel_eval.proofs.known_store.leaves_of.Goals as goal

pub loop-before-preserved : goal.loop-before-preserved
loop-before-preserved c =
    let trees = c.args.store.now in
    let k = c.loop-before.before in
    let old = c.loop-before.leaves.items in
    let leaf = c.in_ok-leaf.leaf in
    let place : k + 1 ≡ length old + 1 = omega (arith, c.loop-before.invariant.count) in
    let known = known_at trees c.args.solids.now k c.index-solids-before.result c.requires.solids c.requires.within (omega arith) in
    record {
      count = omega (arith, ap length c.in_ok-push.ensures.items, length_push old leaf, c.loop-before.invariant.count);
      known = known_more trees old c.push.new.self.items leaf c.loop-before.invariant.known c.in_ok-push.ensures.items
          (subst (λ (m : ℕ). IsKnown (tree_numbered trees m) leaf) place
          (c.in_ok-leaf.ensures.known (tree_numbered trees (k + 1))
          (subst (λ s. IsKnown (tree_numbered trees (k + 1)) (Some s)) (sym c.index-solids-before.is) known)));
      room = omega (arith, c.loop-before.invariant.room, c.in_ok-leaf.ensures.room, ap known_sizes c.in_ok-push.ensures.items, sum_by_push known_size old leaf);
    }
