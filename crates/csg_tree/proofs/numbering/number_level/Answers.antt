use Rattle.std.proofs.Common.{◌≡◌, ℕ, ◌+◌, ◌-◌, ◌∷◌, ◌++◌, [], List, get_or, take, map, sym, ap, subst, ◌∙◌, inl, inr, arith, append_assoc}
use Rattle.std.proofs.lemmas.Bool.{cases_lt}
use Rattle.std.proofs.lemmas.List.{length-map, map-append, take_all, take_more}
use Rattle.csg_tree.specs.HalfSpaceTrees.{Tree}
use Rattle.csg_tree.specs.Numberings.{distinct_trees, tree_numbered}
use Rattle.csg_tree.specs.Nodes.{node_of, trees_of_nodes, trees_of_lent_nodes}
use Rattle.csg_tree.specs.Interned.{IsPartNumbered}
use Rattle.csg_tree.proofs.Linked.{length_lent}
use Rattle.csg_tree.proofs.Placing.{lent_number}
use Rattle.csg_tree.proofs.Heights.{ready_stay}
use Rattle.csg_tree.proofs.numbering.number_level.Goals as goal

pub number_part-requires-clause-ready : goal.number_part-requires-clause-ready
number_part-requires-clause-ready c =
    let parts = c.args.parts.now in
    let ready = c.requires.ready c.loop-number.number-index (omega arith) in
    let m = get_or c.args.level.now c.loop-number.number-index 0 in (
      ready.0,
      λ d.
          let node = node_of (get_or parts (m - 1) d) in
          ready_stay (trees_of_lent_nodes parts) (trees_of_nodes c.args.interner.now.nodes.items) (trees_of_nodes c.loop-number.interner.nodes.items)
          c.args.numbers.now.items c.loop-number.numbers.items node (lent_number parts m d c.requires.numbering.linked ready.0).0
          c.loop-number.invariant.stay (ready.1 d),
    )

pub loop-number-preserved : goal.loop-number-preserved
loop-number-preserved c =
    let parts = c.args.parts.now in
    let ps = trees_of_lent_nodes parts in
    let level = c.args.level.now in
    let i = c.loop-number.number-index in
    let now = c.in_ok-number_part.ensures in
    let before = c.loop-number.invariant in
    let us = trees_of_nodes c.number_part.new.interner.nodes.items in
    let count = length_lent parts in
    let taken : map (tree_numbered ps) (take (i + 1) level) ≡ map (tree_numbered ps) (take i level) ++ tree_numbered ps (get_or level i 0) ∷ [] =
    ap (map (tree_numbered ps)) (take_more level i 0 (omega arith)) ∙ map-append (tree_numbered ps) (take i level) (get_or level i 0 ∷ []) in
    record {
      room = c.number_part.ensures.room;
      interned = now.interned;
      few = omega (arith, now.grown.few, before.few);
      placed = λ j j_in.
          elim (cases_lt j i) as (λ _. IsPartNumbered ps us c.number_part.new.numbers.items (get_or level j 0)) [
            | inl h ↦
                let within = (c.requires.ready j (omega arith)).0 in
                now.stay (get_or level j 0) (within.0, omega (arith, within.1, count)) (before.placed j h)
            | inr h ↦
                let e : i ≡ j = omega arith in
                subst (λ (k : ℕ). IsPartNumbered ps us c.number_part.new.numbers.items (get_or level k 0)) e now.placed
          ];
      stay = λ m within placed. now.stay m within (before.stay m within placed);
      distinct = λ trees e.
          now.grown.distinct (trees ++ map (tree_numbered ps) (take i level)) (before.distinct trees e)
          ∙ ap distinct_trees (append_assoc trees (map (tree_numbered ps) (take i level)) (tree_numbered ps (get_or level i 0) ∷ [])
          ∙ ap (λ (xs : List Tree). trees ++ xs) (sym taken));
    }

pub returns-clause-grown : goal.returns-clause-grown
returns-clause-grown c =
    let level = c.args.level.now in
    let ps = trees_of_lent_nodes c.args.parts.now in
    let whole : take c.loop-number.number-index level ≡ level = take_all c.loop-number.number-index level (omega arith) in
    record {
      distinct = λ trees e.
          c.loop-number.invariant.distinct trees e
          ∙ ap (λ (ms : List ℕ). distinct_trees (trees ++ map (tree_numbered ps) ms)) whole;
      few = omega (arith, c.loop-number.invariant.few, length-map level (tree_numbered ps));
    }
