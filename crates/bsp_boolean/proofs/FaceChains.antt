-- Solids of faces one behind another, and what is left of them behind one more face's plane.
use Rattle.std.proofs.lemmas.List.{take_rest}
use Rattle.std.proofs.Common.{◌<◌, ◌≤◌, ◌-◌, ap₂, arith, length, get_or, take, drop, true, false, Result, Vec, ◌≡◌, List, [], ◌∷◌, ◌++◌, All, Option, None, Some, refl, sym, ap, ◌∙◌, subst, append-nil}
use Rattle.std.proofs.lemmas.List.{map-append}
use Rattle.std.proofs.lemmas.List.Elements.{All-append, All-cons, All-nil}
use Rattle.plane_predicate.specs.Space.{Coefficients}
use Rattle.plane_polygon.specs.Polygons.{Outline}
use Rattle.plane_table.specs.declared.faces.Face.{Face}
use Rattle.plane_table.specs.Faces.{outline_of, IsFaceOver}
use Rattle.link_forest.specs.declared.link.Link.{Link}
use Rattle.link_forest.specs.declared.link.Link.TheVariants.{End}
use Rattle.bsp_tree.specs.declared.growing.GrowStop.{GrowStop}
use Rattle.bsp_tree.specs.Growths.{SolidGrowth, GrowsBy, HasGrown}
use Rattle.bsp_tree.proofs.lemmas.Growths.{leaf_grows}
use Rattle.bsp_tree.specs.Trees.{BspTree, inside, outside, node_or_leaf}
use Rattle.bsp_boolean.specs.Chains.{solid_behind_face, chain_of, kept_items, outlines_of, IsChainOf, IsKeptOver}

-- nothing behind the last face is nothing at all
pub chained_nothing : (xs : List Outline) → chain_of xs outside ≡ outside
chained_nothing [] = refl
chained_nothing (s ∷ xs) = ap (λ (t : BspTree). node_or_leaf s t outside) (chained_nothing xs)

chained_more : (xs ys : List Outline) (t : BspTree) → chain_of (xs ++ ys) t ≡ chain_of xs (chain_of ys t)
chained_more [] ys t = refl
chained_more (s ∷ xs) ys t = ap (λ (u : BspTree). node_or_leaf s u outside) (chained_more xs ys t)

kept_chain : (planes : List Coefficients) (kept : Option Face) (t : BspTree) → chain_of (outlines_of planes (kept_items kept)) t ≡ solid_behind_face planes kept t
kept_chain planes None t = refl
kept_chain planes (Some face) t = refl

-- a face that is kept goes behind those before it
pub chained_kept : (planes : List Coefficients) (low : List Face) (kept : Option Face) (t : BspTree) →
    chain_of (outlines_of planes low) (solid_behind_face planes kept t) ≡ chain_of (outlines_of planes (low ++ kept_items kept)) t
chained_kept planes low kept t = sym (
    ap (λ (xs : List Outline). chain_of xs t) (map-append (λ (face : Face). outline_of planes face) low (kept_items kept))
    ∙ chained_more (outlines_of planes low) (outlines_of planes (kept_items kept)) t
    ∙ ap (chain_of (outlines_of planes low)) (kept_chain planes kept t))

-- ---- a step
-- the whole where nothing is left
pub nothing_left : (planes : List Coefficients) (low : List Face) (whole t : BspTree) → whole ≡ chain_of (outlines_of planes low) t → t ≡ outside → whole ≡ outside
nothing_left planes low whole t e n = e ∙ ap (chain_of (outlines_of planes low)) n ∙ chained_nothing (outlines_of planes low)

-- the whole after a step
pub more_kept : (planes : List Coefficients) (low longer : List Face) (kept : Option Face) (whole t u : BspTree) →
    whole ≡ chain_of (outlines_of planes low) t → t ≡ solid_behind_face planes kept u → longer ≡ low ++ kept_items kept → whole ≡ chain_of (outlines_of planes longer) u
more_kept planes low longer kept whole t u e n m =
    e ∙ ap (chain_of (outlines_of planes low)) n ∙ chained_kept planes low kept u ∙ ap (λ (faces : List Face). chain_of (outlines_of planes faces) u) (sym m)

-- the faces that are kept are faces over the planes
pub all_kept : (planes : List Coefficients) (low longer : List Face) (kept : Option Face) → longer ≡ low ++ kept_items kept →
    All (IsFaceOver planes) low → IsKeptOver planes kept → All (IsFaceOver planes) longer
all_kept planes low longer None e h k = subst (All (IsFaceOver planes)) (sym (e ∙ append-nil low)) h
all_kept planes low longer (Some face) e h k =
    subst (All (IsFaceOver planes)) (sym e) (All-append (IsFaceOver planes) low (face ∷ []) h (All-cons (IsFaceOver planes) face [] k (All-nil (IsFaceOver planes))))

-- ---- chains that grow
pub nothing_grown : {Z : Type 0} (growth : SolidGrowth) (t : BspTree) (chain : Option (Vec Face Z)) → chain ≡ None → IsChainOf growth.sheet.planes t chain → HasGrown growth growth (End false) t
nothing_grown growth t None e h = subst (HasGrown growth growth (End false)) (sym h) (leaf_grows growth false)
nothing_grown growth t (Some chain) e h = cc

pub none_grown : (growth : SolidGrowth) (faces : List Face) → length faces < 1 →
    HasGrown growth growth (End true) (chain_of (outlines_of growth.sheet.planes faces) inside)
none_grown growth [] h = leaf_grows growth true
none_grown growth (face ∷ faces) h = absurd (omega arith)

one_more : (planes : List Coefficients) (faces : List Face) (first : Face) → 1 ≤ length faces → first ≡ get_or faces 0 first →
    chain_of (outlines_of planes faces) inside ≡ node_or_leaf (outline_of planes first) (chain_of (outlines_of planes (take (length faces - 1) (drop 1 faces))) inside) outside
one_more planes [] first h e = absurd (omega arith)
one_more planes (face ∷ faces) first h e =
    ap₂ (λ (s : Outline) (t : BspTree). node_or_leaf s t outside) (ap (outline_of planes) (sym e))
    (ap (λ (fs : List Face). chain_of (outlines_of planes fs) inside) (sym (take_rest (face ∷ faces) 1)))

pub more_grown : (old middle new : SolidGrowth) (faces : List Face) (first copy : Face) (behind : Link) (result : Result Link GrowStop) →
    1 ≤ length faces → first ≡ get_or faces 0 first → copy ≡ first →
    HasGrown old middle behind (chain_of (outlines_of old.sheet.planes (take (length faces - 1) (drop 1 faces))) inside) →
    GrowsBy old new (node_or_leaf (outline_of middle.sheet.planes copy) (chain_of (outlines_of old.sheet.planes (take (length faces - 1) (drop 1 faces))) inside) outside) result →
    GrowsBy old new (chain_of (outlines_of old.sheet.planes faces) inside) result
more_grown old middle new faces first copy behind result some e same h made =
    let own = ap₂ outline_of h.longer.planes same in
    subst (λ (t : BspTree). GrowsBy old new t result)
    (ap (λ (s : Outline). node_or_leaf s (chain_of (outlines_of old.sheet.planes (take (length faces - 1) (drop 1 faces))) inside) outside) own
    ∙ sym (one_more old.sheet.planes faces first some e))
    made
