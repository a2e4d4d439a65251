-- The blocks of bodies.
use Rattle.std.proofs.Common.{◌≡◌, ℕ, zero, suc, ◌<◌, List, [], ◌∷◌, length, map, get_or, refl, sym, ap, subst, ◌∙◌, arith}
use Rattle.std.specs.List.{Contains}
use Rattle.std.proofs.lemmas.List.{length-map}
use Rattle.scad_ast.specs.Terms.{BodyTerm, EmptyBody, BlockBody, InstanceBody}
use Rattle.scad_ast.specs.StatementView.{body_of}
use Rattle.scad_definitions.specs.Blocks.{BlockTable, StandAt, entities_of_body}
use Rattle.scad_definitions.specs.TextView.{module_of, block_of_module}
use Rattle.scad_definitions.specs.Tables.{block_table_in}
use Rattle.scad_definitions.specs.declared.blocks.Blocks.{Blocks}
use Rattle.scad_definitions.specs.declared.text.Module.{Module}
use Rattle.scad_func.specs.Definitions.{IsBlockOf, IsWholeTable}

body_there : (table : BlockTable) (n : ℕ) (b : BodyTerm) → StandAt table n (entities_of_body b) → IsBlockOf table n b
body_there table n (EmptyBody at) h = h.1
body_there table n (BlockBody at inner) h = h.1
body_there table n (InstanceBody instance) h = h.1

mapped : {A B : Type 0} (f : A → B) (xs : List A) (k : ℕ) (x : A) (d : B) → k < length xs → get_or (map f xs) k d ≡ f (get_or xs k x)
mapped f [] k x d h = absurd (omega (arith, h))
mapped f (y ∷ ys) zero x d h = refl
mapped f (y ∷ ys) (suc k) x d h = mapped f ys k x d (omega (arith, h))

-- a module's body begins at its number
pub module_block : (blocks : Blocks) (m : Module) → IsWholeTable (block_table_in blocks) → Contains blocks.modules.items m
    → IsBlockOf (block_table_in blocks) m.block (body_of m.body.now)
module_block blocks m whole h =
    let t = block_table_in blocks in
    let ms = blocks.modules.items in
    let there : h.0 < length (map module_of ms) = omega (arith, h.1, length-map ms module_of) in
    let same = sym (mapped module_of ms h.0 m (module_of m) h.1 ∙ ap module_of h.2) in
    let number = mapped block_of_module ms h.0 m 0 h.1 ∙ ap block_of_module h.2 in
    body_there t m.block (body_of m.body.now)
    (subst (λ (n : ℕ). StandAt t n (entities_of_body (body_of m.body.now))) number (whole.order.bodies h.0 (module_of m) there same))
