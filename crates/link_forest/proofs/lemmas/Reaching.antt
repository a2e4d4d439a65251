-- Nodes that are reached from a link.
use Rattle.std.proofs.Common.{◌≡◌, ℕ, ◌+◌, ◌<◌, ◌⊎◌, ◌↔◌, inl, inr, Bool, List, [], ◌++◌, length, Some, slice_get, refl, sym, subst, arith}
use Rattle.std.proofs.lemmas.List.{length_push}
use Rattle.std.proofs.lemmas.Bool.{cases_lt}
use Rattle.link_forest.specs.declared.link.NodeId.{NodeId}
use Rattle.link_forest.specs.declared.link.Link.{Link}
use Rattle.link_forest.specs.declared.link.Link.TheVariants.{End, To}
use Rattle.link_forest.specs.declared.forest.Entry.{Entry}
use Rattle.link_forest.specs.Forests.{IsLinkOf, entry, node_id, AreLinked, Extends, AddsNode, IsReached, itself, by_behind, by_ahead, AreReachedFrom}
use Rattle.link_forest.proofs.lemmas.Numbers.{stays, stood, behind_all}

module _ {A : Type 0} where
  reached_longer : (nodes more : List (Entry A)) (link : Link) (id : NodeId) → IsReached nodes link id → IsReached (nodes ++ more) link id
  reached_longer nodes more _ _ (itself id) = itself id
  reached_longer nodes more _ _ (by_behind from id node h r) = by_behind from id node (stays nodes more from.index node h) (reached_longer nodes more node.behind id r)
  reached_longer nodes more _ _ (by_ahead from id node h r) = by_ahead from id node (stays nodes more from.index node h) (reached_longer nodes more node.ahead id r)

  pub reached_grows : (old new : List (Entry A)) (link : Link) (id : NodeId) → Extends old new → IsReached old link id → IsReached new link id
  reached_grows old new link id e r = rw e.nodes (reached_longer old e.more link id r)

  reached_shorter : (nodes more : List (Entry A)) (link : Link) (id : NodeId) → AreLinked nodes → IsLinkOf nodes link → IsReached (nodes ++ more) link id → IsReached nodes link id
  reached_shorter nodes more _ _ l k (itself id) = itself id
  reached_shorter nodes more _ _ l k (by_behind from id node h r) =
      let there : slice_get nodes from.index ≡ Some node = stood nodes more from.index node (omega arith) h in
      by_behind from id node there (reached_shorter nodes more node.behind id l (omega (arith, l.behind from.index node there)) r)
  reached_shorter nodes more _ _ l k (by_ahead from id node h r) =
      let there : slice_get nodes from.index ≡ Some node = stood nodes more from.index node (omega arith) h in
      by_ahead from id node there (reached_shorter nodes more node.ahead id l (omega (arith, l.ahead from.index node there)) r)

  -- links of the shorter list reach the same nodes
  pub reached_same : (old new : List (Entry A)) (link : Link) (id : NodeId) → Extends old new → AreLinked old → IsLinkOf old link → IsReached old link id ↔ IsReached new link id
  reached_same old new link id e l k =
      (reached_grows old new link id e, λ r. reached_shorter old e.more link id l k (rw e.nodes at r))

  -- what an end reaches
  Beyond : List (Entry A) → Link → NodeId → Type 0
  Beyond nodes (End side) id = ⊥
  Beyond nodes (To from) id = (node : Entry A) → slice_get nodes from.index ≡ Some node → (id ≡ from) ⊎ (IsReached nodes node.behind id ⊎ IsReached nodes node.ahead id)

  beyond : (nodes : List (Entry A)) (link : Link) (id : NodeId) → IsReached nodes link id → Beyond nodes link id
  unfolding Beyond
  beyond nodes _ _ (itself id) = λ node h. inl refl
  beyond nodes _ _ (by_behind from id node h r) = λ other o. let same : node ≡ other = cc in inr (inl (rw (← same) r))
  beyond nodes _ _ (by_ahead from id node h r) = λ other o. let same : node ≡ other = cc in inr (inr (rw (← same) r))

  pub ends_reach_none : (nodes : List (Entry A)) (side : Bool) (id : NodeId) → IsReached nodes (End side) id → ⊥
  unfolding Beyond
  ends_reach_none nodes side id r = beyond nodes (End side) id r

  -- a node reaches itself and what its links reach, and nothing else
  pub reached_by_node : (nodes : List (Entry A)) (from id : NodeId) (payload : A) (behind ahead : Link) → slice_get nodes from.index ≡ Some (entry payload behind ahead) → IsReached nodes (To from) id ↔ ((id ≡ from) ⊎ (IsReached nodes behind id ⊎ IsReached nodes ahead id))
  unfolding Beyond
  reached_by_node nodes from id payload behind ahead h =
      let node = entry payload behind ahead in (
        λ r. beyond nodes (To from) id r node h,
        elim [
          | inl same ↦ rw same (itself from)
          | inr (inl r) ↦ by_behind from id node h r
          | inr (inr r) ↦ by_ahead from id node h r
        ],
      )

  -- what a link reaches is a node
  pub reached_is_node : (nodes : List (Entry A)) (link : Link) (id : NodeId) → AreLinked nodes → IsLinkOf nodes link → IsReached nodes link id → id.index < length nodes
  reached_is_node nodes _ _ l k (itself id) = omega arith
  reached_is_node nodes _ _ l k (by_behind from id node h r) = reached_is_node nodes node.behind id l (omega (arith, l.behind from.index node h)) r
  reached_is_node nodes _ _ l k (by_ahead from id node h r) = reached_is_node nodes node.ahead id l (omega (arith, l.ahead from.index node h)) r

  -- nodes that were added for one link, nodes that were added for another behind them, and a node over both links
  pub reached_by_added : (start : ℕ) (first second new : List (Entry A)) (payload : A) (behind ahead : Link) (id : NodeId) → Extends first second → AreReachedFrom start first behind → AreReachedFrom (length first) second ahead → AddsNode second new payload behind ahead id → AreReachedFrom start new (To id)
  reached_by_added start first second new payload behind ahead id e b a d other from below =
      let node = entry payload behind ahead in
      let there : slice_get new id.index ≡ Some node = rw (d.nodes, d.number) (behind_all second [] node) in
      let more : length new ≡ length second + 1 = rw d.nodes (length_push second node) in
      elim (cases_lt other.index (length second)) [
        | inl low ↦ elim (cases_lt other.index (length first)) [
          | inl lower ↦ by_behind id other node there ((reached_grows second new behind other d.extends) ((reached_grows first second behind other e) (b other from lower)))
          | inr higher ↦ by_ahead id other node there ((reached_grows second new ahead other d.extends) (a other higher low))
        ]
        | inr high ↦ let same : other.index ≡ id.index = omega (arith, d.number) in subst (λ (index : ℕ). IsReached new (To id) (node_id index)) (sym same) (itself id)
      ]
