use Rattle.std.proofs.Common.{◌≡◌, ℕ, ◌+◌, ◌-◌, ◌<◌, ◌++◌, List, length, get_or, map, sym, ap, subst, ◌∙◌, inl, inr, arith, add-one}
use Rattle.std.proofs.lemmas.Bool.{cases_lt}
use Rattle.csg_tree.specs.declared.node.CsgNode.{CsgNode}
use Rattle.csg_tree.specs.HalfSpaceTrees.{Tree}
use Rattle.csg_tree.specs.Numberings.{by_height, distinct_trees, height, tree_numbered, IsNumberIn}
use Rattle.csg_tree.specs.Nodes.{node_of, trees_of_nodes, trees_of_lent_nodes, AreLentOverEarlier}
use Rattle.csg_tree.specs.Levels.{numbers_of_height}
use Rattle.csg_tree.specs.Interned.{IsLevelReady, IsPartNumbered}
use Rattle.csg_tree.proofs.Linked.{length_lent, length_trees}
use Rattle.csg_tree.proofs.ByHeight.{level_read}
use Rattle.csg_tree.proofs.Placing.{lent_number}
use Rattle.csg_tree.proofs.Heights.{level_less, level_member, level_has, map_level, ready_low}
use Rattle.csg_tree.proofs.numbering.nodes_of_levels.Goals as goal

-- the parts of a level are ready where all lower ones are placed
level_ready : (parts : List CsgNode) (ts : List Tree) (ns level : List ℕ) (h : ℕ) → AreLentOverEarlier parts →
    level ≡ numbers_of_height h (trees_of_lent_nodes parts) →
    ((m : ℕ) → IsNumberIn (trees_of_lent_nodes parts) m → height (tree_numbered (trees_of_lent_nodes parts) m) < h →
    IsPartNumbered (trees_of_lent_nodes parts) ts ns m) → IsLevelReady parts ts ns level
level_ready parts ts ns level h linked e placed = λ j j_in.
    let ps = trees_of_lent_nodes parts in
    let member = level_member h ps j (omega (arith, ap length e)) in
    let same : get_or (numbers_of_height h ps) j 0 ≡ get_or level j 0 = ap (λ (ms : List ℕ). get_or ms j 0) (sym e) in
    let within : IsNumberIn ps (get_or level j 0) = subst (IsNumberIn ps) same member.0 in
    let high : height (tree_numbered ps (get_or level j 0)) ≡ h = ap (λ (m : ℕ). height (tree_numbered ps m)) (sym same) ∙ member.1 in
    let inside : IsNumberIn parts (get_or level j 0) = (within.0, omega (arith, within.1, length_lent parts)) in (
      inside,
      λ d.
          let at = lent_number parts (get_or level j 0) d linked inside in
          ready_low ps ts ns (node_of (get_or parts (get_or level j 0 - 1) d)) h at.0 (ap height (sym at.1) ∙ high) placed,
    )

-- what is placed, with a level
level_placed : (ps ts : List Tree) (ns level : List ℕ) (h : ℕ) → level ≡ numbers_of_height h ps →
    ((m : ℕ) → IsNumberIn ps m → height (tree_numbered ps m) < h → IsPartNumbered ps ts ns m) →
    ((j : ℕ) → j < length level → IsPartNumbered ps ts ns (get_or level j 0)) →
    (m : ℕ) → IsNumberIn ps m → height (tree_numbered ps m) < h + 1 → IsPartNumbered ps ts ns m
level_placed ps ts ns level h e low placed m within lower =
    elim (cases_lt (height (tree_numbered ps m)) h) as (λ _. IsPartNumbered ps ts ns m) [
      | inl less ↦ low m within less
      | inr more ↦
          let at = level_has h ps m within (omega arith) in
          let is : get_or level at.0 0 ≡ m = ap (λ (ms : List ℕ). get_or ms at.0 0) e ∙ at.2 in
          subst (IsPartNumbered ps ts ns) is (placed at.0 (omega (arith, at.1, ap length e)))
    ]

pub number_level-requires-clause-ready : goal.number_level-requires-clause-ready
number_level-requires-clause-ready c =
    let h = c.loop-level.level-index in
    level_ready c.args.parts.now (trees_of_nodes c.loop-level.interner.nodes.items) c.loop-level.numbers.items c.deref.result.now h c.requires.linked
    (c.deref.ensures.value ∙ level_read c.args.levels.now h c.level-item.result (omega arith) c.level-item.is ∙ c.requires.levels h)
    c.loop-level.invariant.placed

pub number_level-requires-clause-few : goal.number_level-requires-clause-few
number_level-requires-clause-few c =
    let h = c.loop-level.level-index in
    let ps = trees_of_lent_nodes c.args.parts.now in
    let e : c.deref.result.now ≡ numbers_of_height h ps =
    c.deref.ensures.value ∙ level_read c.args.levels.now h c.level-item.result (omega arith) c.level-item.is ∙ c.requires.levels h in
    omega (
      arith,
      level_less h ps,
      ap length e,
      ap length c.loop-level.invariant.trees,
      length_trees c.loop-level.interner.nodes.items,
      length_lent c.args.parts.now,
    )

pub loop-level-preserved : goal.loop-level-preserved
loop-level-preserved c =
    let h = c.loop-level.level-index in
    let parts = c.args.parts.now in
    let ps = trees_of_lent_nodes parts in
    let level = c.deref.result.now in
    let now = c.in_ok-number_level.ensures in
    let us = trees_of_nodes c.number_level.new.interner.nodes.items in
    let ms = c.number_level.new.numbers.items in
    let e : level ≡ numbers_of_height h ps =
    c.deref.ensures.value ∙ level_read c.args.levels.now h c.level-item.result (omega arith) c.level-item.is ∙ c.requires.levels h in
    let grown : by_height h ps ++ map (tree_numbered ps) level ≡ by_height (h + 1) ps =
    ap (λ (xs : List Tree). by_height h ps ++ xs) (ap (map (tree_numbered ps)) e ∙ map_level h ps)
    ∙ ap (λ (n : ℕ). by_height n ps) (sym (add-one h)) in
    record {
      room = c.number_level.ensures.room;
      interned = now.interned;
      trees = now.grown.distinct (by_height h ps) c.loop-level.invariant.trees ∙ ap distinct_trees grown;
      placed = level_placed ps us ms level h e
          (λ m within less. now.stay m within (c.loop-level.invariant.placed m within less)) now.placed;
    }
