use Rattle.std.proofs.Common.{◌≡◌, ◌<◌, ◌∙◌, ℕ, List, length, ap, sym, subst}
use Rattle.std.specs.Prelude.{IfSome}
use Rattle.scad_definitions.specs.Names.{newest_first}
use Rattle.scad_definitions.specs.Newest.{find_in}
use Rattle.scad_definitions.specs.Arguments.{first_named}
use Rattle.scad_definitions.specs.Lookup.{numbered_from}
use Rattle.scad_definitions.proofs.Looking.{first_found, first_within}
use Rattle.scad_definitions.proofs.lookup.number_in.Goals as goal

found : (c : goal.After-copied) (names : List (List ℕ)) → newest_first c.args.index.now ≡ numbered_from 0 names
    → c.copied.result ≡ first_named names c.args.name.now
found c names is = c.copied.ensures ∙ c.find.ensures ∙ ap (λ ps. find_in ps c.args.name.now) is ∙ first_found names c.args.name.now

pub returns-clause-value : goal.returns-clause-value
returns-clause-value c = λ names is. found c names is

pub returns-clause-within : goal.returns-clause-within
returns-clause-within c = λ names is. subst (λ o. IfSome o (λ k. k < length names)) (sym (found c names is)) (first_within names c.args.name.now)
