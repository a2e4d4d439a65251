use Rattle.std.proofs.Common.{ℕ, Some, None, Option, cond, sym, ap, rules, ◌∙◌}
use Rattle.std.specs.Str.{bytes_eq}
use Rattle.scad_definitions.specs.Index.{place_of_name}
use Rattle.scad_definitions.proofs.Updates.{updated}
use Rattle.scad_definitions.proofs.index.put_back.Goals as goal

pub returns-in-Some-get_mut : goal.returns-in-Some-get_mut
returns-in-Some-get_mut c = λ other.
    updated c.args.name.now c.args.index.now (c.get_mut.follows.lender c.in-Some.place) (Some c.in-Some.place)
    ((c.get_mut.follows.holds c.in-Some.place).3 (search rules)) other
    ∙ ap (λ (w : Option ℕ). cond (bytes_eq c.args.name.now other) w (place_of_name c.args.index.now other)) (sym c.in-Some.is)

pub returns-in-None : goal.returns-in-None
returns-in-None c = λ other.
    updated c.args.name.now c.args.index.now c.remove.new.self None c.remove.ensures.updates other
    ∙ ap (λ (w : Option ℕ). cond (bytes_eq c.args.name.now other) w (place_of_name c.args.index.now other)) (sym c.in-None.is)
