-- How trees are told apart as data.
use Rattle.std.specs.Prelude.{◌≡◌, ℕ, zero, suc, ℤ, List, [], ◌∷◌, ◌++◌, ◌⊎◌, refl}
use Rattle.std.specs.Coded.{Coded, code_by, coded×, coded_ℕ, coded_ℤ, coded_list, coded⊎}
use Rattle.std.proofs.Common.{sym, ap, ◌∙◌, inl, inr, append-nil, append_assoc}
use Rattle.plane_predicate.specs.Space.{Coefficients}
use Rattle.csg_tree.specs.declared.op.Op.{Op}
use Rattle.csg_tree.specs.declared.op.Op.TheVariants.{Union, Intersection, Difference}
use Rattle.csg_tree.specs.HalfSpaceTrees.{Tree, nothing, leaf, tree_join}

-- a plane is stored as its four numbers
abbrev pub coded_plane : Coded Coefficients
coded_plane =
    code_by (ℤ × (ℤ × (ℤ × ℤ))) (coded× coded_ℤ (coded× coded_ℤ (coded× coded_ℤ coded_ℤ)))
    (λ m. (m.a, (m.b, (m.c, m.d)))) (λ p. record { a = p.0; b = p.1.0; c = p.1.1.0; d = p.1.1.1 }) (λ _. refl)

-- an operation is stored as a number above 0
abbrev op_number : Op → ℕ
op_number Union = 1
op_number Intersection = 2
op_number Difference = 3

-- the operation that a number stands for
abbrev op_numbered : ℕ → Op
op_numbered (suc zero) = Union
op_numbered (suc (suc zero)) = Intersection
op_numbered _ = Difference

-- an operation is the one that its number stands for
pub op_back : (op : Op) → op_numbered (op_number op) ≡ op
op_back Union = refl
op_back Intersection = refl
op_back Difference = refl

-- a tree is stored as a list of its leaves and joins, a join behind its two trees, and 0 for Nothing
abbrev Cell : Type 0
Cell = List Coefficients ⊎ ℕ

-- a tree as a list of cells, each behind the cells of its sides
abbrev cells : Tree → List Cell
cells nothing = inr 0 ∷ []
cells (leaf planes) = inl planes ∷ []
cells (tree_join op left right) = cells left ++ (cells right ++ inr (op_number op) ∷ [])

-- the trees on top of a stack put together by an operation
abbrev stack_after_join : ℕ → List Tree → List Tree
stack_after_join zero stack = nothing ∷ stack
stack_after_join (suc n) (right ∷ left ∷ stack) = tree_join (op_numbered (suc n)) left right ∷ stack
stack_after_join (suc n) stack = stack

-- the stack of trees after some cells were read
abbrev stack_after : List Cell → List Tree → List Tree
stack_after [] stack = stack
stack_after (inl planes ∷ cs) stack = stack_after cs (leaf planes ∷ stack)
stack_after (inr n ∷ cs) stack = stack_after cs (stack_after_join n stack)

-- the tree on top of a stack
abbrev top_tree : List Tree → Tree
top_tree [] = nothing
top_tree (t ∷ ts) = t

put_joined : (op : Op) (left right : Tree) (stack : List Tree) → stack_after_join (op_number op) (right ∷ left ∷ stack) ≡ tree_join op left right ∷ stack
put_joined Union left right stack = refl
put_joined Intersection left right stack = refl
put_joined Difference left right stack = refl

built-cells : (t : Tree) (cs : List Cell) (stack : List Tree) → stack_after (cells t ++ cs) stack ≡ stack_after cs (t ∷ stack)
built-cells nothing cs stack = refl
built-cells (leaf planes) cs stack = refl
built-cells (tree_join op left right) cs stack =
    ap (λ x. stack_after x stack) (append_assoc (cells left) (cells right ++ inr (op_number op) ∷ []) cs)
    ∙ built-cells left ((cells right ++ inr (op_number op) ∷ []) ++ cs) stack
    ∙ ap (λ x. stack_after x (left ∷ stack)) (append_assoc (cells right) (inr (op_number op) ∷ []) cs)
    ∙ built-cells right (inr (op_number op) ∷ cs) (left ∷ stack)
    ∙ ap (stack_after cs) (put_joined op left right stack)

-- a tree is what its cells build
pub tree_back : (t : Tree) → top_tree (stack_after (cells t) []) ≡ t
tree_back t = ap (λ x. top_tree (stack_after x [])) (sym (append-nil (cells t))) ∙ ap top_tree (built-cells t [] [])

-- trees are told apart by their cells
abbrev pub coded_tree : Coded Tree
coded_tree = code_by (List Cell) (coded_list (coded⊎ (coded_list coded_plane) coded_ℕ)) cells (λ cs. top_tree (stack_after cs [])) tree_back
