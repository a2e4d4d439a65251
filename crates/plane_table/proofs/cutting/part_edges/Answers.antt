use Rattle.std.proofs.Common.{◌≡◌, Bool, ap, ◌∙◌, length, get_or, sym, add-one, arith, ℕ}
use Rattle.plane_polygon.specs.Parts.{index_before}
use Rattle.plane_table.specs.Cuts.{is_strictly_in_half, numbers_kept_at, kept_numbers, on_the_plane, side_number}
use Rattle.plane_table.proofs.Cuts.{flat_step}
use Rattle.plane_table.proofs.cutting.part_edges.Goals as goal

pub loop-i-preserved : goal.loop-i-preserved
loop-i-preserved c =
    let edges = c.args.edges.now in
    let corners = c.args.corners.now in
    let half = c.args.half in
    let m = c.args.number in
    let i = c.loop-i.i in
    let to : Bool = is_strictly_in_half half (get_or corners i on_the_plane) in
    record {
      kept = rw (c.side_number-number.ensures, c.is_strictly_in_half-to.ensures) at c.in_ok-push_kept.ensures
          ∙ flat_step (numbers_kept_at half edges m corners) i c.loop-i.kept (kept_numbers c.loop-i.from to (get_or edges i 0) (side_number half m)) c.loop-i.invariant.kept
          (ap (λ (b : Bool). kept_numbers b to (get_or edges i 0) (side_number half m)) c.loop-i.invariant.from);
      from = c.is_strictly_in_half-to.ensures ∙ ap (λ (k : ℕ). is_strictly_in_half half (get_or corners (index_before (length edges) k) on_the_plane)) (sym (add-one i));
    }

pub returns : goal.returns
returns c =
    let e : c.loop-i.i ≡ length c.args.edges.now = omega arith in
    rw e at c.loop-i.invariant.kept
