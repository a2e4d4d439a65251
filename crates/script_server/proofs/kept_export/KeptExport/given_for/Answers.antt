use Rattle.std.proofs.Common.{rules, ◌≡◌, ◌∙◌, sym}
use Rattle.tree_export.specs.declared.export.TreeExport.TheVariants as exported
use Rattle.script_server.proofs.Kept.{same_export, same_bounds}
use Rattle.script_server.proofs.kept_export.KeptExport.given_for.Goals as goal

pub returns-then-is_same-clause-exported : goal.returns-then-is_same-clause-exported
returns-then-is_same-clause-exported c =
    let units : c.self.inside.unit ≡ c.args.unit = search rules in
    same_export c.self.inside.unit c.args.unit c.self.inside.key c.args.key.now (exported.Text c.self.inside.text) units
    (sym c.is_same.ensures ∙ c.if-is_same.true) c.self.invariant.0

pub returns-then-is_same-clause-boundary : goal.returns-then-is_same-clause-boundary
returns-then-is_same-clause-boundary c =
    let units : c.self.inside.unit ≡ c.args.unit = search rules in
    same_bounds c.self.inside.unit c.args.unit c.self.inside.key c.args.key.now (exported.Text c.self.inside.text) units
    (sym c.is_same.ensures ∙ c.if-is_same.true) c.self.invariant.1
