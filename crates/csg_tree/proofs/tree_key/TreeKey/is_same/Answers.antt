use Rattle.std.proofs.Common.{◌≡◌, ℕ, List, Bool, true, false, refl, sym, ap, subst, ◌∙◌, true≢false, eqb}
use Rattle.std.specs.Cmp.Lexicographic.{pointwise}
use Rattle.std.proofs.lemmas.Cmp.{nat_list_eq_equiv}
use Rattle.csg_tree.specs.HalfSpaceTrees.{Tree}
use Rattle.csg_tree.specs.Numberings.{is_same_tree}
use Rattle.csg_tree.specs.TreeKeys.{name_of}
use Rattle.csg_tree.proofs.lemmas.Sameness.{tree_true}
use Rattle.csg_tree.proofs.tree_key.TreeKey.is_same.Goals as goal

-- trees with different names differ
names_differ : (a b : Tree) (m n : List ℕ) → m ≡ name_of a → n ≡ name_of b → pointwise eqb m n ≡ false → false ≡ is_same_tree a b
names_differ a b m n ea eb h = by_test (is_same_tree a b) refl
  where
    by_test : (c : Bool) → is_same_tree a b ≡ c → false ≡ is_same_tree a b
    by_test true e =
        let same : m ≡ n = ea ∙ ap name_of (tree_true a b e) ∙ sym eb in
        absurd (true≢false (sym (subst (λ (x : List ℕ). pointwise eqb m x ≡ true) same (nat_list_eq_equiv.refl m)) ∙ h))
    by_test false e = sym e

pub returns-else-eq : goal.returns-else-eq
returns-else-eq c =
    c.if-eq.false
    ∙ names_differ c.args.self.now c.args.other.now c.self.inside.name c.other.inside.name
    (c.self.invariant.name_is ∙ ap name_of c.self.view_is) (c.other.invariant.name_is ∙ ap name_of c.other.view_is)
    (sym c.eq.ensures ∙ c.if-eq.false)
