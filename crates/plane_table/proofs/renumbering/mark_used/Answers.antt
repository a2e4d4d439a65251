use Rattle.std.proofs.Common.{◌≡◌, ◌<◌, ◌/◌, ◌∙◌, ℕ, true, false, length, get_or, set, inl, inr, ap, sym, subst, arith}
use Rattle.std.proofs.lemmas.Bool.{cases_lt}
use Rattle.std.proofs.lemmas.List.{length-set, get_or_default}
use Rattle.plane_table.proofs.Joins.{mark_here, mark_kept}
use Rattle.plane_table.proofs.renumbering.mark_used.Goals as goal

pub loop-edge-init : goal.loop-edge-init
loop-edge-init c =
    let used = c.args.used.now in
    let j = c.args.face.now.plane / 2 in
    let p = c.requires.plane in
    let h : j < length used = omega arith in
    record {
      count = length-set used j true;
      plane = mark_here used j h;
      marked = λ k l. absurd (omega arith);
      others = λ k e. mark_kept used j k h e;
    }

pub bounds-used-edge : goal.bounds-used-edge
bounds-used-edge c =
    let n = ap length c.items-edge-items.ensures in
    let t = c.loop-edge-test.true in
    let count = c.loop-edge.invariant.count in
    let h : c.loop-edge.edge-index < length c.args.face.now.edges = omega arith in
    let b = c.requires.edges c.loop-edge.edge-index 0 h in
    rw c.items-edge-items.ensures (omega arith)

pub loop-edge-preserved : goal.loop-edge-preserved
loop-edge-preserved c =
    let used = c.loop-edge.used in
    let edges = c.args.face.now.edges in
    let i = c.loop-edge.edge-index in
    let j = get_or edges i 0 / 2 in
    let n = ap length c.items-edge-items.ensures in
    let t = c.loop-edge-test.true in
    let count = c.loop-edge.invariant.count in
    let l : i < length edges = omega arith in
    let b = c.requires.edges i 0 l in
    let h : j < length used = omega arith in
    rw c.items-edge-items.ensures (record {
      count = length-set used j true ∙ count;
      plane = mark_kept used j (c.args.face.now.plane / 2) h c.loop-edge.invariant.plane;
      marked = λ k x. elim (cases_lt k i) [
        | inl y ↦ mark_kept used j (get_or edges k 0 / 2) h (c.loop-edge.invariant.marked k y)
        | inr y ↦ (let e : i ≡ k = omega arith in
            ap (λ (m : ℕ). get_or (set used j true) (get_or edges m 0 / 2) false) (sym e) ∙ mark_here used j h)
      ];
      others = λ k e. mark_kept used j k h (c.loop-edge.invariant.others k e);
    })

pub returns : goal.returns
returns c =
    let edges = c.args.face.now.edges in
    let n = ap length c.items-edge-items.ensures in
    let t = c.loop-edge-test.false in
    record {
      marked = record {
        plane = c.loop-edge.invariant.plane;
        edges = λ k d l.
            (let x = c.loop-edge.invariant.marked k (omega arith) in
            subst (λ (m : ℕ). get_or c.loop-edge.used (m / 2) false ≡ true) (get_or_default edges k 0 d l) x);
      };
      others = c.loop-edge.invariant.others;
    }
