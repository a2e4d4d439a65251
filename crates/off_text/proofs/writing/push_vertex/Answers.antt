use Rattle.std.proofs.Common.{rules, FitsSigned, to_z-of_z}
use mir.Syntax.{w128}
use Rattle.off_text.proofs.Pieces.{vertex_line-written}
use Rattle.off_text.proofs.writing.push_vertex.Goals as goal

pub returns : goal.returns
returns c =
    let x : FitsSigned w128 c.vertex.inside.x = search rules in
    let y : FitsSigned w128 c.vertex.inside.y = search rules in
    let z : FitsSigned w128 c.vertex.inside.z = search rules in
    let w : FitsSigned w128 c.vertex.inside.w = search rules in
    rw (
      c.in_ok-push-4.ensures.items,
      c.in_ok-push_decimal-4.ensures.ok,
      c.in_ok-push-3.ensures.items,
      c.in_ok-push_decimal-3.ensures.ok,
      c.in_ok-push-2.ensures.items,
      c.in_ok-push_decimal-2.ensures.ok,
      c.in_ok-push.ensures.items,
      c.in_ok-push_decimal.ensures.ok,
      to_z-of_z x,
      to_z-of_z y,
      to_z-of_z z,
      to_z-of_z w,
      ← c.vertex.view_is,
    ) (vertex_line-written c.args.out.now.items (record { x = c.vertex.inside.x; y = c.vertex.inside.y; z = c.vertex.inside.z; w = c.vertex.inside.w }))
