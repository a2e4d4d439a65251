use Rattle.std.proofs.Common.{◌≡◌, ◌∙◌, length, take, sym, ap, arith, Some, None}
use Rattle.std.specs.Prelude.{option_copied}
use Rattle.std.proofs.lemmas.List.{length-take-le}
use Rattle.scad_definitions.specs.Newest.{find_in, place_of_newest}
use Rattle.scad_definitions.specs.View.{pairs_in}
use Rattle.scad_definitions.proofs.Places.{pairs_length, no_place, place_within, at_place}
use Rattle.scad_definitions.proofs.list.NameList.find.Goals as goal

pub returns-in_err-place : goal.returns-in_err-place
returns-in_err-place g c =
    let names = c.args.self.now in
    let xs = names.items.items in
    let m : c.newest.n ≡ length names.hidden.items =
    omega (arith, c.newest-test.false, c.newest.invariant.covered, c.newest.invariant.above) in
    let none : place_of_newest (pairs_in (take (length names.hidden.items) xs)) c.args.name.now ≡ None =
    sym (names.indexed c.args.name.now) ∙ sym (c.in_err-place.ensures) in
    ap option_copied c.from_residual.ensures ∙ sym (c.newest.invariant.same
    ∙ ap (λ n. find_in (pairs_in (take n xs)) c.args.name.now) m
    ∙ no_place (pairs_in (take (length names.hidden.items) xs)) c.args.name.now none)

pub index-requires : goal.index-requires
index-requires g c =
    let names = c.args.self.now in
    let xs = names.items.items in
    let m = length names.hidden.items in
    let told : place_of_newest (pairs_in (take m xs)) c.args.name.now ≡ Some c.in_ok-place.place =
    sym (names.indexed c.args.name.now) ∙ sym (c.in_ok-place.ensures) in
    omega (
      arith,
      place_within (pairs_in (take m xs)) c.args.name.now c.in_ok-place.place told,
      pairs_length (take m xs),
      length-take-le m xs names.covered,
      names.covered,
    )

pub returns : goal.returns
returns g c =
    let names = c.args.self.now in
    let xs = names.items.items in
    let m : c.newest.n ≡ length names.hidden.items =
    omega (arith, c.newest-test.false, c.newest.invariant.covered, c.newest.invariant.above) in
    let told : place_of_newest (pairs_in (take (length names.hidden.items) xs)) c.args.name.now ≡ Some c.in_ok-place.place =
    sym (names.indexed c.args.name.now) ∙ sym (c.in_ok-place.ensures) in
    ap (λ named. Some named.item) c.index.ensures
    ∙ sym (c.newest.invariant.same
    ∙ ap (λ n. find_in (pairs_in (take n xs)) c.args.name.now) m
    ∙ (at_place xs (length names.hidden.items) c.args.name.now c.in_ok-place.place c.index.result.now names.covered told))
