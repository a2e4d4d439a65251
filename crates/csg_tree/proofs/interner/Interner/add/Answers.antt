use Rattle.std.proofs.Common.{◌≡◌, ◌+◌, ◌∙◌, ap, cond, length, Some, rules, ℕ}
use Rattle.std.specs.BTreeMap.{get, is_at}
use Rattle.csg_tree.specs.Interned.{key_cmp}
use Rattle.csg_tree.proofs.interner.Interner.add.Goals as goal

pub returns-clause-found : goal.returns-clause-found
returns-clause-found c =
    let count : c.len-number.result ≡ length c.args.self.now.nodes.items + 1 = search rules in
    λ other.
    c.in_ok-put.ensures other
    ∙ ap (λ (n : ℕ). cond (is_at (key_cmp c.args.key) other) (Some n) (get key_cmp c.args.self.now.found other)) count
