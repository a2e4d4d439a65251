-- A forest of three nodes that is written out: its trees, what is reached, and what stays once it is cut back.
use Rattle.std.proofs.Common.{◌≡◌, ℕ, zero, suc, ◌<◌, true, false, List, [], ◌∷◌, take, refl, arith}
use Rattle.link_forest.specs.declared.link.Link.TheVariants.{End, To}
use Rattle.link_forest.specs.declared.forest.Entry.{Entry}
use Rattle.link_forest.specs.Forests.{Branch, end, fork, entry, node_id, tree_at, AddsNode, IsReached, itself, by_behind, by_ahead, AreReached}
use Rattle.link_forest.proofs.lemmas.Longer.{linked_none, added}
use Rattle.link_forest.proofs.lemmas.Reaching.{reached_same, reached_is_node}

abbrev low : Entry ℕ
low = entry 10 (End true) (End false)

abbrev middle : Entry ℕ
middle = entry 20 (End true) (To (node_id 0))

-- its branches share the first node
abbrev high : Entry ℕ
high = entry 30 (To (node_id 0)) (To (node_id 1))

abbrev three : List (Entry ℕ)
three = low ∷ middle ∷ high ∷ []

abbrev low_tree : Branch ℕ
low_tree = fork 10 (end true) (end false)

abbrev middle_tree : Branch ℕ
middle_tree = fork 20 (end true) low_tree

first_tree : tree_at three (To (node_id 0)) ≡ low_tree
unfolding tree_at
first_tree = refl

second_tree : tree_at three (To (node_id 1)) ≡ middle_tree
unfolding tree_at
second_tree = refl

third_tree : tree_at three (To (node_id 2)) ≡ fork 30 low_tree middle_tree
unfolding tree_at
third_tree = refl

no_fourth : tree_at three (To (node_id 3)) ≡ end false
unfolding tree_at
no_fourth = refl

cut_back : tree_at (take 2 three) (To (node_id 1)) ≡ middle_tree
unfolding tree_at
cut_back = refl

-- a link that does not stand before its node is none of the nodes so far
forward : tree_at (entry 10 (To (node_id 1)) (End true) ∷ low ∷ []) (To (node_id 0)) ≡ fork 10 (end false) (end true)
unfolding tree_at
forward = refl

-- each is added behind those before it
one : AddsNode [] (low ∷ []) 10 (End true) (End false) (node_id 0)
one = added [] 10 (End true) (End false) linked_none (omega arith) (omega arith)

two : AddsNode (low ∷ []) (low ∷ middle ∷ []) 20 (End true) (To (node_id 0)) (node_id 1)
two = added (low ∷ []) 20 (End true) (To (node_id 0)) one.linked (omega arith) (omega arith)

all : AddsNode (low ∷ middle ∷ []) three 30 (To (node_id 0)) (To (node_id 1)) (node_id 2)
all = added (low ∷ middle ∷ []) 30 (To (node_id 0)) (To (node_id 1)) two.linked (omega arith) (omega arith)

-- all three are reached from the last
by_number : (index : ℕ) → index < 3 → IsReached three (To (node_id 2)) (node_id index)
by_number zero below = by_behind (node_id 2) (node_id 0) high refl (itself (node_id 0))
by_number (suc zero) below = by_ahead (node_id 2) (node_id 1) high refl (itself (node_id 1))
by_number (suc (suc zero)) below = itself (node_id 2)
by_number (suc (suc (suc index))) below = absurd (omega arith)

from_last : AreReached three (To (node_id 2))
from_last id from below = by_number id.index below

-- and the last from none before it
not_from_middle : IsReached three (To (node_id 1)) (node_id 2) → ⊥
not_from_middle r =
    let before : IsReached (low ∷ middle ∷ []) (To (node_id 1)) (node_id 2) = (reached_same (low ∷ middle ∷ []) three (To (node_id 1)) (node_id 2) all.extends two.linked two.link).1 r in
    let node : 2 < 2 = reached_is_node (low ∷ middle ∷ []) (To (node_id 1)) (node_id 2) two.linked two.link before in
    omega arith
