-- Tests that tell planes, nodes and trees apart.
use Rattle.std.proofs.Common.{◌≡◌, ℕ, ℤ, Bool, true, ◌&&◌, List, [], ◌∷◌, map, refl, sym, ap, ap₂, subst, ◌∙◌, true≢false, eqb}
use Rattle.std.specs.Bool.{Decides}
use Rattle.std.specs.Ordering.{is_eq, int_eq, int_cmp, nat_cmp, ordering_then}
use Rattle.std.specs.declared.cmp.Ordering.{Ordering}
use Rattle.std.specs.declared.cmp.Ordering.TheVariants.{Less, Equal, Greater}
use Rattle.std.specs.Cmp.Lexicographic.{pointwise, slice_cmp}
use Rattle.std.proofs.lemmas.Bool.{and_parts}
use Rattle.std.proofs.lemmas.Bool.Decides.{same_from_decides, Decides-eqb, Decides-int_eq}
use Rattle.std.proofs.lemmas.Cmp.{int_cmp_total, nat_cmp_total, eq_by_cmp_equiv}
use Rattle.std.proofs.lemmas.Map.Lookups.{exact_signed, exact_unsigned}
use Rattle.std.proofs.lemmas.Map.Views.{tells_apart}
use Rattle.std.proofs.lemmas.Slice.Eq.{slice_eq-Decides}
use Rattle.plane_predicate.specs.Space.{Coefficients, is_same}
use Rattle.csg_tree.specs.declared.op.Op.{Op}
use Rattle.csg_tree.specs.declared.op.Op.TheVariants.{Union, Intersection, Difference}
use Rattle.csg_tree.specs.declared.node.StoredNode.{StoredNode}
use Rattle.csg_tree.specs.declared.node.StoredNode.TheVariants.{Leaf, Join}
use Rattle.csg_tree.specs.declared.interner.PlaneNumbers.{PlaneNumbers}
use Rattle.csg_tree.specs.declared.interner.NodeKey.{NodeKey}
use Rattle.csg_tree.specs.declared.interner.NodeKey.TheVariants as keys
use Rattle.csg_tree.specs.HalfSpaceTrees.{Tree, nothing, leaf, tree_join}
use Rattle.csg_tree.specs.Numberings.{is_same_op, is_same_tree}
use Rattle.csg_tree.specs.Interned.{numbers_cmp, op_cmp, key_cmp, plane_of_numbers, node_of_key, is_same_node}

-- planes
plane_from : (m n : Coefficients) → m.a ≡ n.a → m.b ≡ n.b → m.c ≡ n.c → m.d ≡ n.d → m ≡ n
plane_from m n ha hb hc hd = λ i. record { a = ha i; b = hb i; c = hc i; d = hd i }

int_itself : (x : ℤ) → int_eq x x ≡ true
int_itself x = (Decides-int_eq x x).1 refl

same_plane : (m n : Coefficients) → Decides (is_same m n) (m ≡ n)
same_plane m n = (
  λ h.
      let x = and_parts (int_eq m.a n.a) (int_eq m.b n.b && (int_eq m.c n.c && int_eq m.d n.d)) h in
      let y = and_parts (int_eq m.b n.b) (int_eq m.c n.c && int_eq m.d n.d) x.1 in
      let z = and_parts (int_eq m.c n.c) (int_eq m.d n.d) y.1 in
      plane_from m n ((Decides-int_eq m.a n.a).0 x.0) ((Decides-int_eq m.b n.b).0 y.0) ((Decides-int_eq m.c n.c).0 z.0) ((Decides-int_eq m.d n.d).0 z.1),
  λ e. subst (λ (k : Coefficients). is_same m k ≡ true) e (rw (int_itself m.a, int_itself m.b, int_itself m.c, int_itself m.d) refl),
)

same_planes : (ps qs : List Coefficients) → Decides (pointwise is_same ps qs) (ps ≡ qs)
same_planes ps qs = slice_eq-Decides same_plane ps qs (pointwise is_same ps qs) refl

-- operations
op_true : (a b : Op) → is_same_op a b ≡ true → a ≡ b
op_true Union Union h = refl
op_true Union Intersection h = absurd (true≢false (sym h))
op_true Union Difference h = absurd (true≢false (sym h))
op_true Intersection Union h = absurd (true≢false (sym h))
op_true Intersection Intersection h = refl
op_true Intersection Difference h = absurd (true≢false (sym h))
op_true Difference Union h = absurd (true≢false (sym h))
op_true Difference Intersection h = absurd (true≢false (sym h))
op_true Difference Difference h = refl

op_itself : (a : Op) → is_same_op a a ≡ true
op_itself Union = refl
op_itself Intersection = refl
op_itself Difference = refl

all_three : (x y z : Bool) → x ≡ true → y ≡ true → z ≡ true → (x && (y && z)) ≡ true
all_three x y z hx hy hz = rw (hx, hy, hz) refl

-- nodes
pub node_true : (a b : StoredNode) → is_same_node a b ≡ true → a ≡ b
node_true (Leaf ps) (Leaf qs) h = ap Leaf ((same_planes ps qs).0 h)
node_true (Leaf ps) (Join op l r) h = absurd (true≢false (sym h))
node_true (Join op l r) (Leaf ps) h = absurd (true≢false (sym h))
node_true (Join op l r) (Join by m n) h =
    let x = and_parts (is_same_op op by) (eqb l m && eqb r n) h in
    let y = and_parts (eqb l m) (eqb r n) x.1 in
    let eo = op_true op by x.0 in
    let el = (Decides-eqb l m).0 y.0 in
    let er = (Decides-eqb r n).0 y.1 in
    λ i. Join (eo i) (el i) (er i)

pub node_itself : (a : StoredNode) → is_same_node a a ≡ true
node_itself (Leaf ps) = (same_planes ps ps).1 refl
node_itself (Join op l r) =
    all_three (is_same_op op op) (eqb l l) (eqb r r) (op_itself op) ((Decides-eqb l l).1 refl) ((Decides-eqb r r).1 refl)

-- trees
pub tree_true : (f g : Tree) → is_same_tree f g ≡ true → f ≡ g
tree_true nothing nothing h = refl
tree_true nothing (leaf qs) h = absurd (true≢false (sym h))
tree_true nothing (tree_join by m n) h = absurd (true≢false (sym h))
tree_true (leaf ps) nothing h = absurd (true≢false (sym h))
tree_true (leaf ps) (leaf qs) h = ap leaf ((same_planes ps qs).0 h)
tree_true (leaf ps) (tree_join by m n) h = absurd (true≢false (sym h))
tree_true (tree_join op l r) nothing h = absurd (true≢false (sym h))
tree_true (tree_join op l r) (leaf qs) h = absurd (true≢false (sym h))
tree_true (tree_join op l r) (tree_join by m n) h =
    let x = and_parts (is_same_op op by) (is_same_tree l m && is_same_tree r n) h in
    let y = and_parts (is_same_tree l m) (is_same_tree r n) x.1 in
    let eo = op_true op by x.0 in
    let el = tree_true l m y.0 in
    let er = tree_true r n y.1 in
    λ i. tree_join (eo i) (el i) (er i)

pub tree_itself : (f : Tree) → is_same_tree f f ≡ true
tree_itself nothing = refl
tree_itself (leaf ps) = (same_planes ps ps).1 refl
tree_itself (tree_join op l r) =
    all_three (is_same_op op op) (is_same_tree l l) (is_same_tree r r) (op_itself op) (tree_itself l) (tree_itself r)

-- the order of keys tells nodes apart
then_eq : (o p : Ordering) → is_eq (ordering_then o p) ≡ (is_eq o && is_eq p)
then_eq Less p = refl
then_eq Equal p = refl
then_eq Greater p = refl

eq_int : (x y : ℤ) → is_eq (int_cmp x y) ≡ int_eq x y
eq_int x y =
    same_from_decides (is_eq (int_cmp x y)) (int_eq x y)
    (tells_apart exact_signed x y, λ e. subst (λ (z : ℤ). is_eq (int_cmp x z) ≡ true) e ((eq_by_cmp_equiv int_cmp_total).refl x))
    (Decides-int_eq x y)

eq_nat : (x y : ℕ) → is_eq (nat_cmp x y) ≡ eqb x y
eq_nat x y =
    same_from_decides (is_eq (nat_cmp x y)) (eqb x y)
    (tells_apart exact_unsigned x y, λ e. subst (λ (z : ℕ). is_eq (nat_cmp x z) ≡ true) e ((eq_by_cmp_equiv nat_cmp_total).refl x))
    (Decides-eqb x y)

eq_op : (a b : Op) → is_eq (op_cmp a b) ≡ is_same_op a b
eq_op Union Union = refl
eq_op Union Intersection = refl
eq_op Union Difference = refl
eq_op Intersection Union = refl
eq_op Intersection Intersection = refl
eq_op Intersection Difference = refl
eq_op Difference Union = refl
eq_op Difference Intersection = refl
eq_op Difference Difference = refl

eq_numbers : (p q : PlaneNumbers) → is_eq (numbers_cmp p q) ≡ is_same (plane_of_numbers p) (plane_of_numbers q)
eq_numbers p q =
    let cd = ordering_then (int_cmp p.c q.c) (int_cmp p.d q.d) in
    then_eq (int_cmp p.a q.a) (ordering_then (int_cmp p.b q.b) cd)
    ∙ ap₂ ◌&&◌ (eq_int p.a q.a)
    (then_eq (int_cmp p.b q.b) cd
    ∙ ap₂ ◌&&◌ (eq_int p.b q.b)
    (then_eq (int_cmp p.c q.c) (int_cmp p.d q.d) ∙ ap₂ ◌&&◌ (eq_int p.c q.c) (eq_int p.d q.d)))

eq_lists : (ps qs : List PlaneNumbers) →
    is_eq (slice_cmp numbers_cmp ps qs) ≡ pointwise is_same (map plane_of_numbers ps) (map plane_of_numbers qs)
eq_lists [] [] = refl
eq_lists [] (q ∷ qs) = refl
eq_lists (p ∷ ps) [] = refl
eq_lists (p ∷ ps) (q ∷ qs) =
    then_eq (numbers_cmp p q) (slice_cmp numbers_cmp ps qs) ∙ ap₂ ◌&&◌ (eq_numbers p q) (eq_lists ps qs)

pub keys_tell : (a b : NodeKey) → is_eq (key_cmp a b) ≡ is_same_node (node_of_key a) (node_of_key b)
keys_tell (keys.Leaf ps) (keys.Leaf qs) = eq_lists ps.items qs.items
keys_tell (keys.Leaf ps) (keys.Join op l r) = refl
keys_tell (keys.Join op l r) (keys.Leaf ps) = refl
keys_tell (keys.Join op l r) (keys.Join by m n) =
    then_eq (op_cmp op by) (ordering_then (nat_cmp l m) (nat_cmp r n))
    ∙ ap₂ ◌&&◌ (eq_op op by) (then_eq (nat_cmp l m) (nat_cmp r n) ∙ ap₂ ◌&&◌ (eq_nat l m) (eq_nat r n))
