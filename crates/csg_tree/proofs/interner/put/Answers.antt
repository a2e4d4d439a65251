use Rattle.std.proofs.Common.{◌≡◌, refl, subst, cond, Some}
use Rattle.std.specs.declared.cmp.Ordering.{Ordering}
use Rattle.std.specs.BTreeMap.{get, is_at}
use Rattle.csg_tree.specs.declared.op.Op.TheVariants.{Union, Intersection, Difference}
use Rattle.csg_tree.specs.declared.interner.NodeKey.{NodeKey}
use Rattle.csg_tree.specs.declared.interner.NodeKey.TheVariants.{Leaf, Join}
use Rattle.csg_tree.specs.contracts.interner.NodeKeyOrd.TheImpl as derived
use Rattle.csg_tree.specs.Interned.{key_cmp}
use Rattle.csg_tree.proofs.interner.put.Goals as goal

-- the derived order is the order of keys
same_cmp : (a b : NodeKey) → derived.cmp-value.it a b ≡ key_cmp a b
same_cmp (Leaf ps) (Leaf qs) = refl
same_cmp (Leaf ps) (Join op l r) = refl
same_cmp (Join op l r) (Leaf ps) = refl
same_cmp (Join Union l r) (Join Union m n) = refl
same_cmp (Join Union l r) (Join Intersection m n) = refl
same_cmp (Join Union l r) (Join Difference m n) = refl
same_cmp (Join Intersection l r) (Join Union m n) = refl
same_cmp (Join Intersection l r) (Join Intersection m n) = refl
same_cmp (Join Intersection l r) (Join Difference m n) = refl
same_cmp (Join Difference l r) (Join Union m n) = refl
same_cmp (Join Difference l r) (Join Intersection m n) = refl
same_cmp (Join Difference l r) (Join Difference m n) = refl

pub returns : goal.returns
returns c =
    let order : derived.cmp-value.it ≡ key_cmp = λ i a b. same_cmp a b i in
    let P : (NodeKey → NodeKey → Ordering) → Type 0 =
    λ R. (other : NodeKey) → get R c.insert.new.self other ≡ cond (is_at (R c.args.key) other) (Some c.args.number) (get R c.args.found.now other) in
    subst P order c.in_ok-insert.ensures.updates.0
