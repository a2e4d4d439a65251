use Rattle.std.proofs.Common.{◌≡◌, ◌∙◌, ◌∷◌, [], ◌++◌, ℕ, List, length, take, reverse, Some, cond, ap, rules}
use Rattle.std.specs.Str.{bytes_eq}
use Rattle.scad_definitions.specs.Expected.{newest_place}
use Rattle.scad_definitions.specs.Index.{place_of_name}
use Rattle.scad_definitions.proofs.Expected.{placed_more}
use Rattle.scad_definitions.proofs.name_table.NameTable.with_new_name.Goals as goal

pub invariant_of-result : goal.invariant_of-result
invariant_of-result c =
    let xs = c.args.self.names.items in
    let name = c.args.name.now in
    let behind : c.len-place.result ≡ length xs = search rules in
    record {
      placed = λ k other.
          ap (λ (l : List (List ℕ)). newest_place (reverse (take k l)) other)
          (c.in_ok-push.ensures.items ∙ ap (λ (x : List ℕ). xs ++ x ∷ []) c.in_ok-copy.ensures)
          ∙ placed_more xs name (place_of_name c.args.self.index) c.args.self.placed c.requires (place_of_name c.put.new.index)
          (λ n. c.in_ok-put.ensures.put n
          ∙ ap (λ (p : ℕ). cond (bytes_eq name n) (Some p) (place_of_name c.args.self.index n)) behind) k other;
    }
