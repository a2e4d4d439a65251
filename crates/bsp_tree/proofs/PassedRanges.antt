-- Trees whose nodes are a range, and ranges that are added to what grows.
use Rattle.std.proofs.Common.{◌≡◌, inl, inr, ℕ, ◌+◌, ◌-◌, ◌<◌, ◌≤◌, Bool, List, [], ◌∷◌, ◌++◌, Option, None, length, slice_get, Some, Ok, Err, Result, refl, sym, ap, ◌∙◌, subst, arith}
use Rattle.std.specs.Prelude.{nat_lt, if◌then◌else◌, IfSome}
use Rattle.std.proofs.lemmas.Bool.{cases_lt}
use Rattle.std.proofs.lemmas.Option.{slice_get_within}
use Rattle.link_forest.proofs.lemmas.Numbers.{which}
use Rattle.std.proofs.lemmas.Bool.Decides.{nat_tests}
use Rattle.plane_predicate.specs.Space.{Coefficients}
use Rattle.link_forest.specs.declared.link.Link.{Link}
use Rattle.link_forest.specs.declared.link.NodeId.{NodeId}
use Rattle.link_forest.specs.declared.link.Link.TheVariants.{End, To}
use Rattle.link_forest.specs.declared.forest.Entry.{Entry}
use Rattle.link_forest.specs.Forests.{entry, node_id, IsLinkOf, IsNode}
use Rattle.plane_table.specs.declared.faces.Face.{Face}
use Rattle.plane_table.specs.Faces.{outline_of}
use Rattle.bsp_tree.specs.Trees.{BspTree, node, size}
use Rattle.bsp_tree.specs.Shapes.{tree_of_branch}
use Rattle.bsp_tree.specs.Growths.{Sheet, SolidGrowth, tree_on, HasGrown, GrowsBy}
use Rattle.bsp_tree.specs.Moves.{MovedSheet, IsMovedNode}
use Rattle.bsp_tree.specs.Ranges.{Spans, none, all, link_shifted_by, AreFirsts, CanShift, HasOneNodeMore}
use Rattle.bsp_tree.specs.declared.growing.GrowStop.{GrowStop}
use Rattle.bsp_tree.proofs.lemmas.Growths.{leaf_grows, stops, stops_after}
use Rattle.bsp_tree.proofs.lemmas.Wholes.{leaf_tree, node_same, same_id}

-- a tree's nodes stand from the first number on, and its own is the last of them
abbrev Within : ℕ → Link → ℕ → Type 0
Within first (End side) end = first ≡ end
Within first (To id) end = (first ≤ id.index) × (end ≡ id.index + 1)

pub spans_up : {A : Type 0} (nodes : List (Entry A)) (first : ℕ) (link : Link) (end : ℕ) → Spans nodes first link end → first ≤ end
spans_up nodes _ _ _ (none at side) = omega arith
spans_up nodes _ _ _ (all first middle id payload behind ahead n b a) =
    omega (arith, spans_up nodes first behind middle b, spans_up nodes middle ahead id.index a)

spans_within : {A : Type 0} (nodes : List (Entry A)) (first : ℕ) (link : Link) (end : ℕ) → Spans nodes first link end → Within first link end
spans_within nodes _ _ _ (none at side) = refl
spans_within nodes _ _ _ (all first middle id payload behind ahead n b a) =
    (omega (arith, spans_up nodes first behind middle b, spans_up nodes middle ahead id.index a), refl)

-- the trees of a node's links, whose nodes are ranges one behind the other, before the node
record IsOver {A : Type 0} (nodes : List (Entry A)) (begin : ℕ) (behind ahead : Link) (at : ℕ) : Type 0 where
  pub middle : ℕ
  pub of_behind : Spans nodes begin behind middle
  pub of_ahead : Spans nodes middle ahead at

same_parts : {A : Type 0} (nodes : List (Entry A)) (id other : NodeId) (p q : A) (b a c d : Link) → id.index ≡ other.index →
    IsNode nodes id p b a → IsNode nodes other q c d → entry p b a ≡ entry q c d
same_parts nodes id other p q b a c d e n m =
    let both : Some (entry p b a) ≡ Some (entry q c d) = sym n.node ∙ ap (slice_get nodes) e ∙ m.node in cc

over_same : {A : Type 0} (nodes : List (Entry A)) (first middle : ℕ) (id at : NodeId) (p payload : A) (b a behind ahead : Link) →
    id.index ≡ at.index → IsNode nodes id p b a → IsNode nodes at payload behind ahead → Spans nodes first b middle → Spans nodes middle a id.index →
    IsOver nodes first behind ahead at.index
over_same {A} nodes first middle id at p payload b a behind ahead here n m sb sa =
    let same = same_parts nodes id at p payload b a behind ahead here n m in
    record {
      middle = middle;
      of_behind = subst (λ (e : Entry A). Spans nodes first e.behind middle) same sb;
      of_ahead = subst (λ (k : ℕ). Spans nodes middle ahead k) here (subst (λ (e : Entry A). Spans nodes middle e.ahead id.index) same sa);
    }

-- the node of a number of a range that is a tree's: where its own tree's nodes begin
record IsInside {A : Type 0} (nodes : List (Entry A)) (first : ℕ) (behind ahead : Link) (at : ℕ) : Type 0 where
  pub begin : ℕ
  pub late : first ≤ begin
  pub over : IsOver nodes begin behind ahead at

inside : {A : Type 0} (nodes : List (Entry A)) (first : ℕ) (link : Link) (end : ℕ) (at : NodeId) (payload : A) (behind ahead : Link) →
    Spans nodes first link end → first ≤ at.index → at.index < end → IsNode nodes at payload behind ahead →
    IsInside nodes first behind ahead at.index
inside nodes _ _ _ at payload behind ahead (none place side) low high n = absurd (omega arith)
inside nodes _ _ _ at payload behind ahead (all first middle id p b a m sb sa) low high n =
    elim (cases_lt at.index middle) [
      | inl before ↦ inside nodes first b middle at payload behind ahead sb low before n
      | inr after ↦ elim (cases_lt at.index id.index) [
        | inl earlier ↦
            let r = inside nodes middle a id.index at payload behind ahead sa after earlier n in
            record { begin = r.begin; late = omega (arith, r.late, spans_up nodes first b middle sb); over = r.over }
        | inr last ↦ record {
          begin = first;
          late = omega arith;
          over = over_same nodes first middle id at p payload b a behind ahead (omega arith) m n sb sa;
        }
      ]
    ]

-- ---- ranges that are added to what grows
-- What was added of a range up to a number: the solid in the making as it was at each number of it. The tree of each range
-- within that is a tree's has grown between the two numbers, and its node stands last.
pub record HasPassed (own : Sheet) (first start : ℕ) (old now : SolidGrowth) (at : ℕ) : Type 0 where
  pub history : ℕ → SolidGrowth
  pub began : history first ≡ old
  pub present : history at ≡ now
  pub count : length now.sheet.nodes ≡ start + (at - first)
  pub grown : (s e : ℕ) (link : Link) → first ≤ s → e ≤ at → Spans own.nodes s link e →
      HasGrown (history s) (history e) (link_shifted_by link e (start + (e - first))) (tree_on own link)

end_grows : (own : Sheet) (growth : SolidGrowth) (side : Bool) → HasGrown growth growth (End side) (tree_on own (End side))
end_grows own growth side = rw (leaf_tree own.planes own.nodes side) (leaf_grows growth side)

pub passed_none : (own : Sheet) (first start : ℕ) (old : SolidGrowth) → length old.sheet.nodes ≡ start → HasPassed own first start old old first
passed_none own first start old count = record {
  history = λ k. old;
  began = refl;
  present = refl;
  count = omega arith;
  grown = nothing;
}
  where
    nothing : (s e : ℕ) (link : Link) → first ≤ s → e ≤ first → Spans own.nodes s link e → HasGrown old old (link_shifted_by link e (start + (e - first))) (tree_on own link)
    nothing _ _ _ low high (none at side) = end_grows own old side
    nothing _ _ _ low high (all s middle id payload b a n sb sa) =
        absurd (omega (arith, spans_up own.nodes s b middle sb, spans_up own.nodes middle a id.index sa))

-- what is said of the answer where a node is added over two trees
abbrev pub Adding : SolidGrowth → SolidGrowth → Face → Link → Link → Result Link GrowStop → Type 0
Adding old new face behind ahead result = (start middle : SolidGrowth) (b a : BspTree) → HasGrown start middle behind b → HasGrown middle old ahead a →
    GrowsBy start new (node (outline_of old.sheet.planes face) b a) result

-- a link is moved by the same offset from each number
shifted_same : (first start at s : ℕ) (link : Link) (e : ℕ) → Within s link e → first ≤ s → e ≤ at →
    link_shifted_by link e (start + (e - first)) ≡ link_shifted_by link at (start + (at - first))
shifted_same first start at s (End side) e w low high = refl
shifted_same first start at s (To id) e w low high = ap (λ (k : ℕ). To (node_id k)) (omega (arith, w.0, w.1))

-- the tree of the next node
next_grows : (moved : MovedSheet) (first start : ℕ) (old now new : SolidGrowth) (at : NodeId) (face : Face) (behind ahead : Link) (result : Result Link GrowStop) (begin : ℕ) →
    now.sheet.planes ≡ moved.planes → IsMovedNode moved at face behind ahead → (p : HasPassed moved.own first start old now at.index) →
    Adding now new face (link_shifted_by behind at.index (length now.sheet.nodes)) (link_shifted_by ahead at.index (length now.sheet.nodes)) result →
    first ≤ begin → IsOver moved.own.nodes begin behind ahead at.index →
    GrowsBy (p.history begin) new (tree_on moved.own (To at)) result
next_grows moved first start old now new at face behind ahead result begin planes m p adding low over =
    let own = moved.own in
    let up : begin ≤ over.middle = spans_up own.nodes begin behind over.middle over.of_behind in
    let below : over.middle ≤ at.index = spans_up own.nodes over.middle ahead at.index over.of_ahead in
    let late : first ≤ over.middle = omega arith in
    let eb : link_shifted_by behind over.middle (start + (over.middle - first)) ≡ link_shifted_by behind at.index (length now.sheet.nodes) =
    shifted_same first start at.index begin behind over.middle (spans_within own.nodes begin behind over.middle over.of_behind) low below
    ∙ ap (link_shifted_by behind at.index) (sym p.count) in
    let ea : link_shifted_by ahead at.index (start + (at.index - first)) ≡ link_shifted_by ahead at.index (length now.sheet.nodes) = ap (link_shifted_by ahead at.index) (sym p.count) in
    let hb = subst (λ (l : Link). HasGrown (p.history begin) (p.history over.middle) l (tree_on own behind)) eb
    (p.grown begin over.middle behind low below over.of_behind) in
    let ha = subst (λ (l : Link). HasGrown (p.history over.middle) now l (tree_on own ahead)) ea
    (subst (λ (g : SolidGrowth). HasGrown (p.history over.middle) g (link_shifted_by ahead at.index (start + (at.index - first))) (tree_on own ahead)) p.present
    (p.grown over.middle at.index ahead late (omega arith) over.of_ahead)) in
    let outline : outline_of now.sheet.planes face ≡ outline_of own.planes m.own = ap (λ (ps : List Coefficients). outline_of ps face) planes ∙ m.outline in
    let whole : node (outline_of now.sheet.planes face) (tree_on own behind) (tree_on own ahead) ≡ tree_on own (To at) =
    node_same outline refl refl ∙ sym (ap (tree_of_branch own.planes) m.node.tree) in
    subst (λ (t : BspTree). GrowsBy (p.history begin) new t result) whole
    (adding (p.history begin) (p.history over.middle) (tree_on own behind) (tree_on own ahead) hb ha)

-- the history with one number more
abbrev later : (ℕ → SolidGrowth) → ℕ → SolidGrowth → ℕ → SolidGrowth
later history at new k = if nat_lt at k then new else history k

later_old : (history : ℕ → SolidGrowth) (at : ℕ) (new : SolidGrowth) (k : ℕ) → k ≤ at → later history at new k ≡ history k
later_old history at new k below = grind (arith, nat_tests)

later_new : (history : ℕ → SolidGrowth) (at : ℕ) (new : SolidGrowth) (k : ℕ) → at < k → later history at new k ≡ new
later_new history at new k above = grind (arith, nat_tests)

pub passed_more : (moved : MovedSheet) (first start : ℕ) (old now new : SolidGrowth) (at : NodeId) (face : Face) (behind ahead link : Link) →
    first ≤ at.index → now.sheet.planes ≡ moved.planes → IsMovedNode moved at face behind ahead → HasPassed moved.own first start old now at.index →
    Adding now new face (link_shifted_by behind at.index (length now.sheet.nodes)) (link_shifted_by ahead at.index (length now.sheet.nodes)) (Ok link) →
    HasOneNodeMore now new link → HasPassed moved.own first start old new (at.index + 1)
passed_more moved first start old now new at face behind ahead link low planes m p adding next = record {
  history = later p.history at.index new;
  began = later_old p.history at.index new first low ∙ p.began;
  present = later_new p.history at.index new (at.index + 1) (omega arith);
  count = omega (arith, p.count, next.count);
  grown = λ s e l from to d. elim (cases_lt at.index e) [
    | inl last ↦ grown_last s e l from to last d
    | inr before ↦
        let es = later_old p.history at.index new s (omega (arith, spans_up moved.own.nodes s l e d)) in
        let ee = later_old p.history at.index new e before in
        rw (es, ee) (p.grown s e l from before d)
  ];
}
  where
    grown_last : (s e : ℕ) (l : Link) → first ≤ s → e ≤ at.index + 1 → at.index < e → Spans moved.own.nodes s l e →
        HasGrown (later p.history at.index new s) (later p.history at.index new e) (link_shifted_by l e (start + (e - first))) (tree_on moved.own l)
    grown_last _ _ _ from to last (none place side) = end_grows moved.own (later p.history at.index new place) side
    grown_last _ _ _ from to last (all s middle id payload b a n sb sa) =
        let here : id.index ≡ at.index = omega arith in
        let up = spans_up moved.own.nodes s b middle sb in
        let more = spans_up moved.own.nodes middle a id.index sa in
        let over = over_same moved.own.nodes s middle id at payload m.own b a behind ahead here n m.node sb sa in
        let g = next_grows moved first start old now new at face behind ahead (Ok link) s planes m p adding from over in
        let es = later_old p.history at.index new s (omega arith) in
        let ee = later_new p.history at.index new (id.index + 1) last in
        let leads : link ≡ link_shifted_by (To id) (id.index + 1) (start + (id.index + 1 - first)) =
        next.leads ∙ ap (λ (k : ℕ). To (node_id k)) (omega (arith, p.count)) in
        let same : at ≡ id = same_id at id (sym here) in
        rw (es, ee) (rw (← leads) (rw (← same) g))

-- a node has the trees of its links, and its own face
node_size : (own : Sheet) (id : NodeId) (face : Face) (behind ahead : Link) → IsNode own.nodes id face behind ahead →
    size (tree_on own behind) + size (tree_on own ahead) ≤ size (tree_on own (To id))
node_size own id face behind ahead n =
    let e : tree_on own (To id) ≡ node (outline_of own.planes face) (tree_on own behind) (tree_on own ahead) = ap (tree_of_branch own.planes) n.tree in
    omega (arith, ap size e)

-- what stops the next node stops each tree in whose range it stands
whole_stops : (moved : MovedSheet) (first start : ℕ) (old now new : SolidGrowth) (at : NodeId) (face : Face) (behind ahead : Link) (stop : GrowStop) →
    now.sheet.planes ≡ moved.planes → IsMovedNode moved at face behind ahead → (p : HasPassed moved.own first start old now at.index) →
    Adding now new face (link_shifted_by behind at.index (length now.sheet.nodes)) (link_shifted_by ahead at.index (length now.sheet.nodes)) (Err stop) →
    (s e : ℕ) (link : Link) → first ≤ s → s ≤ at.index → at.index < e → Spans moved.own.nodes s link e →
    GrowsBy (p.history s) new (tree_on moved.own link) (Err stop)
whole_stops moved first start old now new at face behind ahead stop planes m p adding _ _ _ from low high (none place side) = absurd (omega arith)
whole_stops moved first start old now new at face behind ahead stop planes m p adding _ _ _ from low high (all s middle id payload b a n sb sa) =
    let own = moved.own in
    let sizes = node_size own id payload b a n in
    let up = spans_up own.nodes s b middle sb in
    elim (cases_lt at.index middle) [
      | inl before ↦
          stops (p.history s) new new (tree_on own b) (tree_on own (To id)) stop (omega arith)
          (whole_stops moved first start old now new at face behind ahead stop planes m p adding s middle b from low before sb)
      | inr after ↦ elim (cases_lt at.index id.index) [
        | inl earlier ↦
            stops_after (p.history s) (p.history middle) new new (link_shifted_by b middle (start + (middle - first))) (tree_on own b) (tree_on own a) (tree_on own (To id)) stop sizes
            (p.grown s middle b from after sb)
            (whole_stops moved first start old now new at face behind ahead stop planes m p adding middle id.index a (omega arith) after earlier sa)
        | inr last ↦
            let here : id.index ≡ at.index = omega arith in
            let over = over_same own.nodes s middle id at payload m.own b a behind ahead here n m.node sb sa in
            let same : at ≡ id = same_id at id (sym here) in
            subst (λ (n : NodeId). GrowsBy (p.history s) new (tree_on own (To n)) (Err stop)) same
            (next_grows moved first start old now new at face behind ahead (Err stop) s planes m p adding from over)
      ]
    ]

pub range_stops : (moved : MovedSheet) (first start : ℕ) (old now new : SolidGrowth) (at : NodeId) (face : Face) (behind ahead : Link) (stop : GrowStop) →
    now.sheet.planes ≡ moved.planes → IsMovedNode moved at face behind ahead → HasPassed moved.own first start old now at.index →
    Adding now new face (link_shifted_by behind at.index (length now.sheet.nodes)) (link_shifted_by ahead at.index (length now.sheet.nodes)) (Err stop) →
    (end : ℕ) (link : Link) → first ≤ at.index → at.index < end → Spans moved.own.nodes first link end →
    GrowsBy old new (tree_on moved.own link) (Err stop)
range_stops moved first start old now new at face behind ahead stop planes m p adding end link low high d =
    subst (λ (g : SolidGrowth). GrowsBy g new (tree_on moved.own link) (Err stop)) p.began
    (whole_stops moved first start old now new at face behind ahead stop planes m p adding first end link (omega arith) low high d)

-- the whole range
pub passed_whole : (own : Sheet) (first start : ℕ) (old now : SolidGrowth) (link : Link) (end : ℕ) → HasPassed own first start old now end →
    Spans own.nodes first link end → HasGrown old now (link_shifted_by link end (length now.sheet.nodes)) (tree_on own link)
passed_whole own first start old now link end p d =
    let g = p.grown first end link (omega arith) (omega arith) d in
    rw (p.count, ← p.began, ← p.present) g

-- ---- what the next node asks for
-- a number of a range is a node's
pub range_below : {A : Type 0} (nodes : List (Entry A)) (first : ℕ) (link : Link) (end at : ℕ) → Spans nodes first link end → first ≤ at → at < end → at < length nodes
range_below nodes _ _ _ at (none place side) low high = absurd (omega arith)
range_below nodes _ _ _ at (all first middle id payload b a n sb sa) low high =
    omega (arith, slice_get_within nodes id.index (entry payload b a) n.node)

can_shift : (nodes : List (Entry Face)) (first start s e at next : ℕ) (link : Link) → Spans nodes s link e → first ≤ s → e ≤ at → next ≡ start + (at - first) →
    CanShift link at next
can_shift nodes first start s e at next (End side) d low high count = tt
can_shift nodes first start s e at next (To id) d low high count =
    let w = spans_within nodes s (To id) e d in (omega (arith, w.0, w.1), omega (arith, w.0, w.1))

shifted_link : (nodes more : List (Entry Face)) (first start s e at : ℕ) (link : Link) → Spans nodes s link e → first ≤ s → e ≤ at →
    length more ≡ start + (at - first) → IsLinkOf more (link_shifted_by link at (length more))
shifted_link nodes more first start s e at (End side) d low high count = omega arith
shifted_link nodes more first start s e at (To id) d low high count =
    let w = spans_within nodes s (To id) e d in omega (arith, w.0, w.1)

-- a link of the next node, and a range within what was passed that is its tree's
pub record IsPassed (nodes : List (Entry Face)) (first at : ℕ) (link : Link) : Type 0 where
  pub begin : ℕ
  pub end : ℕ
  pub late : first ≤ begin
  pub early : end ≤ at
  pub range : Spans nodes begin link end

pub behind_passed : (nodes : List (Entry Face)) (first : ℕ) (link : Link) (end : ℕ) (at : NodeId) (face : Face) (behind ahead : Link) →
    Spans nodes first link end → first ≤ at.index → at.index < end → IsNode nodes at face behind ahead → IsPassed nodes first at.index behind
behind_passed nodes first link end at face behind ahead d low high n =
    let i = inside nodes first link end at face behind ahead d low high n in
    record {
      begin = i.begin;
      end = i.over.middle;
      late = i.late;
      early = spans_up nodes i.over.middle ahead at.index i.over.of_ahead;
      range = i.over.of_behind;
    }

pub ahead_passed : (nodes : List (Entry Face)) (first : ℕ) (link : Link) (end : ℕ) (at : NodeId) (face : Face) (behind ahead : Link) →
    Spans nodes first link end → first ≤ at.index → at.index < end → IsNode nodes at face behind ahead → IsPassed nodes first at.index ahead
ahead_passed nodes first link end at face behind ahead d low high n =
    let i = inside nodes first link end at face behind ahead d low high n in
    record {
      begin = i.over.middle;
      end = at.index;
      late = omega (arith, i.late, spans_up nodes i.begin behind i.over.middle i.over.of_behind);
      early = omega arith;
      range = i.over.of_ahead;
    }

pub next_shifts : (own : Sheet) (first start : ℕ) (old now : SolidGrowth) (at next : ℕ) (link : Link) → HasPassed own first start old now at →
    IsPassed own.nodes first at link → next ≡ length now.sheet.nodes → CanShift link at next
next_shifts own first start old now at next link p i same =
    can_shift own.nodes first start i.begin i.end at next link i.range i.late i.early (same ∙ p.count)

pub range_shifts : (own : Sheet) (first start : ℕ) (old now : SolidGrowth) (end next : ℕ) (link : Link) → HasPassed own first start old now end →
    Spans own.nodes first link end → next ≡ length now.sheet.nodes → CanShift link end next
range_shifts own first start old now end next link p d same =
    can_shift own.nodes first start first end end next link d (omega arith) (omega arith) (same ∙ p.count)

pub next_link : (own : Sheet) (first start : ℕ) (old now : SolidGrowth) (at : ℕ) (link : Link) → HasPassed own first start old now at →
    IsPassed own.nodes first at link → IsLinkOf now.sheet.nodes (link_shifted_by link at (length now.sheet.nodes))
next_link own first start old now at link p i =
    shifted_link own.nodes now.sheet.nodes first start i.begin i.end at link i.range i.late i.early p.count

pub adding_same : (old new : SolidGrowth) (face : Face) (b a behind ahead : Link) (result : Result Link GrowStop) → b ≡ behind → a ≡ ahead →
    Adding old new face b a result → Adding old new face behind ahead result
adding_same old new face b a behind ahead result eb ea h =
    subst (λ (l : Link). Adding old new face l ahead result) eb (subst (λ (l : Link). Adding old new face b l result) ea h)

-- ---- the numbers at which the ranges of nodes begin
pub no_firsts : {A : Type 0} (nodes : List (Entry A)) → AreFirsts nodes []
no_firsts nodes = record { each = λ id first there. absurd (omega (arith, slice_get_within [] id.index first there)) }

pub firsts_more : {A : Type 0} (nodes : List (Entry A)) (firsts : List ℕ) (first : ℕ) → AreFirsts nodes firsts →
    Spans nodes first (To (node_id (length firsts))) (length firsts + 1) → AreFirsts nodes (firsts ++ first ∷ [])
firsts_more nodes firsts first h d = record {
  each = λ id other there. elim (which firsts first id.index other there) [
    | inl earlier ↦ h.each id other earlier
    | inr last ↦
        let same : node_id (length firsts) ≡ id = ap node_id (sym last.0) in
        subst (λ (k : ℕ). Spans nodes k (To id) (id.index + 1)) last.1
        (subst (λ (n : NodeId). Spans nodes first (To n) (n.index + 1)) same d)
  ];
}

pub first_known : (firsts : List ℕ) (id : NodeId) (end : ℕ) (found : Option ℕ) (nodes : List (Entry Face)) → found ≡ slice_get firsts id.index →
    end ≡ id.index + 1 → AreFirsts nodes firsts → IfSome found (λ first. Spans nodes first (To id) end)
first_known firsts id end None nodes same last h = tt
first_known firsts id end (Some first) nodes same last h = rw last (h.each id first (sym same))

pub first_whole : (nodes : List (Entry Face)) (index : ℕ) (face : Face) (behind ahead : Link) (middle : ℕ) (found : Option ℕ) →
    IsNode nodes (node_id index) face behind ahead → Spans nodes middle ahead index → IfSome found (λ first. Spans nodes first behind middle) →
    IfSome found (λ first. Spans nodes first (To (node_id index)) (index + 1))
first_whole nodes index face behind ahead middle None n a h = tt
first_whole nodes index face behind ahead middle (Some first) n a h = all first middle (node_id index) face behind ahead n h a
