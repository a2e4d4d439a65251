use Rattle.std.proofs.Common.{◌≡◌, ◌∙◌, ◌<◌, ◌≤◌, ◌+◌, [], ◌∷◌, ◌++◌, cond, length, take, reverse, get_or, sym, ap, subst, arith, rules}
use Rattle.std.specs.Prelude.{IsTrue, is_some}
use Rattle.std.specs.Str.{bytes_eq}
use Rattle.std.proofs.lemmas.List.{reverse-append}
use Rattle.scad_definitions.specs.Newest.{place_of_newest, hidden_places}
use Rattle.scad_definitions.specs.View.{pairs_in}
use Rattle.scad_definitions.specs.Index.{place_of_name}
use Rattle.scad_definitions.proofs.Places.{has_place, uncovered, placed_back}
use Rattle.scad_definitions.proofs.list.NameList.uncover_one.Goals as goal

pub put_back-requires : goal.put_back-requires
put_back-requires g c =
    let names = c.args.self.now in
    let k = length c.pop.new.self.items in
    let left : c.len.result ≡ length c.pop.new.self.items = search rules in
    let n : length names.hidden.items ≡ k + 1 = omega (arith, c.in-Some.ensures.cases) in
    let h : k < length names.items.items = omega (arith, names.covered, n) in
    let there : c.index.result.now ≡ get_or names.items.items k c.index.result.now =
    c.index.ensures ∙ ap (λ j. get_or names.items.items j c.index.result.now) left in
    subst (λ o. IsTrue (is_some o)) (sym (names.indexed c.items-name.result.now))
    (subst (λ name. IsTrue (is_some (place_of_newest (pairs_in (take (length names.hidden.items) names.items.items)) name))) (sym c.items-name.ensures)
    (subst (λ m. IsTrue (is_some (place_of_newest (pairs_in (take m names.items.items)) c.index.result.now.name))) (sym n)
    (has_place names.items.items k c.index.result.now h there)))

pub invariant_of-self : goal.invariant_of-self
invariant_of-self g c =
    let names = c.args.self.now in
    let xs = names.items.items in
    let k = length c.pop.new.self.items in
    let left : c.len.result ≡ length c.pop.new.self.items = search rules in
    let x = c.index.result.now in
    let n : length names.hidden.items ≡ k + 1 = omega (arith, c.in-Some.ensures.cases) in
    let h : k < length names.items.items = omega (arith, names.covered, n) in
    let there : x ≡ get_or xs k x = c.index.ensures ∙ ap (λ j. get_or xs j x) left in
    let popped : names.hidden.items ≡ c.pop.new.self.items ++ c.in-Some.before ∷ [] = c.in-Some.ensures.items in
    let all : c.in-Some.before ∷ reverse c.pop.new.self.items ≡ hidden_places (pairs_in (take (k + 1) xs)) =
    sym (reverse-append c.pop.new.self.items (c.in-Some.before ∷ [])) ∙ ap reverse (sym popped) ∙ names.hides ∙ ap (λ m. hidden_places (pairs_in (take m xs))) n in
    let told = uncovered xs k x h there c.in-Some.before (reverse c.pop.new.self.items) all in
    let short : k ≤ length xs = omega (arith, h) in
    record {
      covered = short;
      hides = told.1;
      indexed = λ other.
          c.put_back.ensures other
          ∙ ap (λ name. cond (bytes_eq name other) c.in-Some.before (place_of_name names.index other)) c.items-name.ensures
          ∙ ap (λ o. cond (bytes_eq x.name other) c.in-Some.before o)
          (names.indexed other ∙ ap (λ m. place_of_newest (pairs_in (take m xs)) other) n)
          ∙ placed_back xs k x h there c.in-Some.before other told.0;
    }
