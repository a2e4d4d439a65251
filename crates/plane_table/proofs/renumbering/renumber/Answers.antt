use Rattle.std.proofs.Common.{◌<◌, ◌∙◌, ap, map, length, arith}
use Rattle.std.proofs.lemmas.List.{take_all}
use Rattle.plane_table.specs.Joins.{number_among}
use Rattle.plane_table.proofs.Joins.{outline_among, face_among}
use Rattle.plane_table.proofs.renumbering.renumber.Goals as goal

pub number_among-requires : goal.number_among-requires
number_among-requires c =
    let n = ap length c.items-edges.ensures in
    let t = c.loop-edge-test.true in
    let h : c.loop-edge.edge-index < length c.args.face.now.edges = omega arith in
    rw c.items-edges.ensures (c.requires.edges c.loop-edge.edge-index 0 h)

pub returns-clause-outline : goal.returns-clause-outline
returns-clause-outline c =
    let face = c.args.face.now in
    let numbers = c.args.numbers.now in
    let n = ap length c.items-edges.ensures in
    let t = c.loop-edge-test.false in
    let e = c.of_numbers.ensures ∙ c.loop-edge.invariant.found ∙ ap (map (number_among numbers)) (take_all c.loop-edge.edge-index face.edges (omega arith)) in
    λ from planes h. outline_among planes numbers from face c.number_among-2.result c.of_numbers.result c.number_among-2.ensures e h

pub returns-clause-face : goal.returns-clause-face
returns-clause-face c =
    let face = c.args.face.now in
    let numbers = c.args.numbers.now in
    let n = ap length c.items-edges.ensures in
    let t = c.loop-edge-test.false in
    let e = c.of_numbers.ensures ∙ c.loop-edge.invariant.found ∙ ap (map (number_among numbers)) (take_all c.loop-edge.edge-index face.edges (omega arith)) in
    λ from planes h f. face_among planes numbers from face c.number_among-2.result c.of_numbers.result c.number_among-2.ensures e h f
