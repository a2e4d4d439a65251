use Rattle.std.proofs.Common.{rules, ◌≡◌, arith, w64, to_z-of_z, FitsSigned}
use Rattle.plane_predicate.specs.Space.{Coefficients, AreQuotients}
use Rattle.plane_predicate.proofs.lemmas.Sizes.{fits_by_size}
use Rattle.plane_predicate.proofs.lemmas.ThroughPoints.{same_quotients, reduced_is_plane, reduced_is_times}
use mir.Syntax.{w128}
use Rattle.plane_predicate.proofs.through.reduced_plane.Goals as goal

pub overflow_cast-result : goal.overflow_cast-result
overflow_cast-result c =
    let ra = c.ranges.a in let rb = c.ranges.b in let rc = c.ranges.c in let rd = c.ranges.d in
    let f1 : FitsSigned w128 c.from.result = search rules in
    let f2 : FitsSigned w128 c.from-2.result = search rules in
    let f3 : FitsSigned w128 c.from-3.result = search rules in
    let f4 : FitsSigned w128 c.from-4.result = search rules in
    let e1 : c.from.result ≡ c.args.a = simp to_z-of_z at c.from.ensures in
    let e2 : c.from-2.result ≡ c.args.b = simp to_z-of_z at c.from-2.ensures in
    let e3 : c.from-3.result ≡ c.args.c = simp to_z-of_z at c.from-3.ensures in
    let e4 : c.from-4.result ≡ c.args.d = simp to_z-of_z at c.from-4.ensures in
    let l = c.quotients-least.result in
    let q : AreQuotients c.from.result c.from-2.result c.from-3.result c.from-4.result l.x l.y l.z l.w = simp to_z-of_z at c.quotients-least.ensures in
    let d : AreQuotients c.args.a c.args.b c.args.c c.args.d l.x l.y l.z l.w = same_quotients _ _ _ _ _ _ _ _ _ _ _ _ e1 e2 e3 e4 q in
    let x1 : FitsSigned w128 l.x = search rules in
    let x2 : FitsSigned w128 l.y = search rules in
    let x3 : FitsSigned w128 l.z = search rules in
    let x4 : FitsSigned w128 l.w = search rules in
    let n : Coefficients = record { a = l.x; b = l.y; c = l.z; d = l.w } in
    let h = reduced_is_plane c.args.a c.args.b c.args.c c.args.d n c.requires.a_size c.requires.b_size c.requires.c_size c.requires.d_size c.requires.directed d in
    let y1 : FitsSigned w64 l.x = fits_by_size w64 l.x (omega (arith, h.a_size)) in
    let y2 : FitsSigned w64 l.y = fits_by_size w64 l.y (omega (arith, h.b_size)) in
    let y3 : FitsSigned w64 l.z = fits_by_size w64 l.z (omega (arith, h.c_size)) in
    let y4 : FitsSigned w64 l.w = fits_by_size w64 l.w (omega (arith, h.d_size)) in
    simp to_z-of_z y1

pub overflow_cast-result-2 : goal.overflow_cast-result-2
overflow_cast-result-2 c =
    let ra = c.ranges.a in let rb = c.ranges.b in let rc = c.ranges.c in let rd = c.ranges.d in
    let f1 : FitsSigned w128 c.from.result = search rules in
    let f2 : FitsSigned w128 c.from-2.result = search rules in
    let f3 : FitsSigned w128 c.from-3.result = search rules in
    let f4 : FitsSigned w128 c.from-4.result = search rules in
    let e1 : c.from.result ≡ c.args.a = simp to_z-of_z at c.from.ensures in
    let e2 : c.from-2.result ≡ c.args.b = simp to_z-of_z at c.from-2.ensures in
    let e3 : c.from-3.result ≡ c.args.c = simp to_z-of_z at c.from-3.ensures in
    let e4 : c.from-4.result ≡ c.args.d = simp to_z-of_z at c.from-4.ensures in
    let l = c.quotients-least.result in
    let q : AreQuotients c.from.result c.from-2.result c.from-3.result c.from-4.result l.x l.y l.z l.w = simp to_z-of_z at c.quotients-least.ensures in
    let d : AreQuotients c.args.a c.args.b c.args.c c.args.d l.x l.y l.z l.w = same_quotients _ _ _ _ _ _ _ _ _ _ _ _ e1 e2 e3 e4 q in
    let x1 : FitsSigned w128 l.x = search rules in
    let x2 : FitsSigned w128 l.y = search rules in
    let x3 : FitsSigned w128 l.z = search rules in
    let x4 : FitsSigned w128 l.w = search rules in
    let n : Coefficients = record { a = l.x; b = l.y; c = l.z; d = l.w } in
    let h = reduced_is_plane c.args.a c.args.b c.args.c c.args.d n c.requires.a_size c.requires.b_size c.requires.c_size c.requires.d_size c.requires.directed d in
    let y1 : FitsSigned w64 l.x = fits_by_size w64 l.x (omega (arith, h.a_size)) in
    let y2 : FitsSigned w64 l.y = fits_by_size w64 l.y (omega (arith, h.b_size)) in
    let y3 : FitsSigned w64 l.z = fits_by_size w64 l.z (omega (arith, h.c_size)) in
    let y4 : FitsSigned w64 l.w = fits_by_size w64 l.w (omega (arith, h.d_size)) in
    simp to_z-of_z y2

pub overflow_cast-result-3 : goal.overflow_cast-result-3
overflow_cast-result-3 c =
    let ra = c.ranges.a in let rb = c.ranges.b in let rc = c.ranges.c in let rd = c.ranges.d in
    let f1 : FitsSigned w128 c.from.result = search rules in
    let f2 : FitsSigned w128 c.from-2.result = search rules in
    let f3 : FitsSigned w128 c.from-3.result = search rules in
    let f4 : FitsSigned w128 c.from-4.result = search rules in
    let e1 : c.from.result ≡ c.args.a = simp to_z-of_z at c.from.ensures in
    let e2 : c.from-2.result ≡ c.args.b = simp to_z-of_z at c.from-2.ensures in
    let e3 : c.from-3.result ≡ c.args.c = simp to_z-of_z at c.from-3.ensures in
    let e4 : c.from-4.result ≡ c.args.d = simp to_z-of_z at c.from-4.ensures in
    let l = c.quotients-least.result in
    let q : AreQuotients c.from.result c.from-2.result c.from-3.result c.from-4.result l.x l.y l.z l.w = simp to_z-of_z at c.quotients-least.ensures in
    let d : AreQuotients c.args.a c.args.b c.args.c c.args.d l.x l.y l.z l.w = same_quotients _ _ _ _ _ _ _ _ _ _ _ _ e1 e2 e3 e4 q in
    let x1 : FitsSigned w128 l.x = search rules in
    let x2 : FitsSigned w128 l.y = search rules in
    let x3 : FitsSigned w128 l.z = search rules in
    let x4 : FitsSigned w128 l.w = search rules in
    let n : Coefficients = record { a = l.x; b = l.y; c = l.z; d = l.w } in
    let h = reduced_is_plane c.args.a c.args.b c.args.c c.args.d n c.requires.a_size c.requires.b_size c.requires.c_size c.requires.d_size c.requires.directed d in
    let y1 : FitsSigned w64 l.x = fits_by_size w64 l.x (omega (arith, h.a_size)) in
    let y2 : FitsSigned w64 l.y = fits_by_size w64 l.y (omega (arith, h.b_size)) in
    let y3 : FitsSigned w64 l.z = fits_by_size w64 l.z (omega (arith, h.c_size)) in
    let y4 : FitsSigned w64 l.w = fits_by_size w64 l.w (omega (arith, h.d_size)) in
    simp to_z-of_z y3

pub overflow_cast-result-4 : goal.overflow_cast-result-4
overflow_cast-result-4 c =
    let ra = c.ranges.a in let rb = c.ranges.b in let rc = c.ranges.c in let rd = c.ranges.d in
    let f1 : FitsSigned w128 c.from.result = search rules in
    let f2 : FitsSigned w128 c.from-2.result = search rules in
    let f3 : FitsSigned w128 c.from-3.result = search rules in
    let f4 : FitsSigned w128 c.from-4.result = search rules in
    let e1 : c.from.result ≡ c.args.a = simp to_z-of_z at c.from.ensures in
    let e2 : c.from-2.result ≡ c.args.b = simp to_z-of_z at c.from-2.ensures in
    let e3 : c.from-3.result ≡ c.args.c = simp to_z-of_z at c.from-3.ensures in
    let e4 : c.from-4.result ≡ c.args.d = simp to_z-of_z at c.from-4.ensures in
    let l = c.quotients-least.result in
    let q : AreQuotients c.from.result c.from-2.result c.from-3.result c.from-4.result l.x l.y l.z l.w = simp to_z-of_z at c.quotients-least.ensures in
    let d : AreQuotients c.args.a c.args.b c.args.c c.args.d l.x l.y l.z l.w = same_quotients _ _ _ _ _ _ _ _ _ _ _ _ e1 e2 e3 e4 q in
    let x1 : FitsSigned w128 l.x = search rules in
    let x2 : FitsSigned w128 l.y = search rules in
    let x3 : FitsSigned w128 l.z = search rules in
    let x4 : FitsSigned w128 l.w = search rules in
    let n : Coefficients = record { a = l.x; b = l.y; c = l.z; d = l.w } in
    let h = reduced_is_plane c.args.a c.args.b c.args.c c.args.d n c.requires.a_size c.requires.b_size c.requires.c_size c.requires.d_size c.requires.directed d in
    let y1 : FitsSigned w64 l.x = fits_by_size w64 l.x (omega (arith, h.a_size)) in
    let y2 : FitsSigned w64 l.y = fits_by_size w64 l.y (omega (arith, h.b_size)) in
    let y3 : FitsSigned w64 l.z = fits_by_size w64 l.z (omega (arith, h.c_size)) in
    let y4 : FitsSigned w64 l.w = fits_by_size w64 l.w (omega (arith, h.d_size)) in
    simp to_z-of_z y4

pub invariant_of-result : goal.invariant_of-result
invariant_of-result c =
    let ra = c.ranges.a in let rb = c.ranges.b in let rc = c.ranges.c in let rd = c.ranges.d in
    let f1 : FitsSigned w128 c.from.result = search rules in
    let f2 : FitsSigned w128 c.from-2.result = search rules in
    let f3 : FitsSigned w128 c.from-3.result = search rules in
    let f4 : FitsSigned w128 c.from-4.result = search rules in
    let e1 : c.from.result ≡ c.args.a = simp to_z-of_z at c.from.ensures in
    let e2 : c.from-2.result ≡ c.args.b = simp to_z-of_z at c.from-2.ensures in
    let e3 : c.from-3.result ≡ c.args.c = simp to_z-of_z at c.from-3.ensures in
    let e4 : c.from-4.result ≡ c.args.d = simp to_z-of_z at c.from-4.ensures in
    let l = c.quotients-least.result in
    let q : AreQuotients c.from.result c.from-2.result c.from-3.result c.from-4.result l.x l.y l.z l.w = simp to_z-of_z at c.quotients-least.ensures in
    let d : AreQuotients c.args.a c.args.b c.args.c c.args.d l.x l.y l.z l.w = same_quotients _ _ _ _ _ _ _ _ _ _ _ _ e1 e2 e3 e4 q in
    let x1 : FitsSigned w128 l.x = search rules in
    let x2 : FitsSigned w128 l.y = search rules in
    let x3 : FitsSigned w128 l.z = search rules in
    let x4 : FitsSigned w128 l.w = search rules in
    let n : Coefficients = record { a = l.x; b = l.y; c = l.z; d = l.w } in
    let h = reduced_is_plane c.args.a c.args.b c.args.c c.args.d n c.requires.a_size c.requires.b_size c.requires.c_size c.requires.d_size c.requires.directed d in
    let y1 : FitsSigned w64 l.x = fits_by_size w64 l.x (omega (arith, h.a_size)) in
    let y2 : FitsSigned w64 l.y = fits_by_size w64 l.y (omega (arith, h.b_size)) in
    let y3 : FitsSigned w64 l.z = fits_by_size w64 l.z (omega (arith, h.c_size)) in
    let y4 : FitsSigned w64 l.w = fits_by_size w64 l.w (omega (arith, h.d_size)) in
    simp to_z-of_z h

pub returns : goal.returns
returns c =
    let ra = c.ranges.a in let rb = c.ranges.b in let rc = c.ranges.c in let rd = c.ranges.d in
    let f1 : FitsSigned w128 c.from.result = search rules in
    let f2 : FitsSigned w128 c.from-2.result = search rules in
    let f3 : FitsSigned w128 c.from-3.result = search rules in
    let f4 : FitsSigned w128 c.from-4.result = search rules in
    let e1 : c.from.result ≡ c.args.a = simp to_z-of_z at c.from.ensures in
    let e2 : c.from-2.result ≡ c.args.b = simp to_z-of_z at c.from-2.ensures in
    let e3 : c.from-3.result ≡ c.args.c = simp to_z-of_z at c.from-3.ensures in
    let e4 : c.from-4.result ≡ c.args.d = simp to_z-of_z at c.from-4.ensures in
    let l = c.quotients-least.result in
    let q : AreQuotients c.from.result c.from-2.result c.from-3.result c.from-4.result l.x l.y l.z l.w = simp to_z-of_z at c.quotients-least.ensures in
    let d : AreQuotients c.args.a c.args.b c.args.c c.args.d l.x l.y l.z l.w = same_quotients _ _ _ _ _ _ _ _ _ _ _ _ e1 e2 e3 e4 q in
    let x1 : FitsSigned w128 l.x = search rules in
    let x2 : FitsSigned w128 l.y = search rules in
    let x3 : FitsSigned w128 l.z = search rules in
    let x4 : FitsSigned w128 l.w = search rules in
    let n : Coefficients = record { a = l.x; b = l.y; c = l.z; d = l.w } in
    let h = reduced_is_plane c.args.a c.args.b c.args.c c.args.d n c.requires.a_size c.requires.b_size c.requires.c_size c.requires.d_size c.requires.directed d in
    let y1 : FitsSigned w64 l.x = fits_by_size w64 l.x (omega (arith, h.a_size)) in
    let y2 : FitsSigned w64 l.y = fits_by_size w64 l.y (omega (arith, h.b_size)) in
    let y3 : FitsSigned w64 l.z = fits_by_size w64 l.z (omega (arith, h.c_size)) in
    let y4 : FitsSigned w64 l.w = fits_by_size w64 l.w (omega (arith, h.d_size)) in
    simp to_z-of_z (reduced_is_times (record { a = c.args.a; b = c.args.b; c = c.args.c; d = c.args.d }) n d)
