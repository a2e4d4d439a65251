-- The children among the instances of a block.
use Rattle.std.proofs.Common.{◌≡◌, ℕ, Bool, true, false, List, [], ◌∷◌, length, map, ℤ, refl, sym, ap, subst, ◌∙◌, cond}
use Rattle.std.specs.Prelude.{All, IfOk, Result, Ok, Err}
use Rattle.std.specs.declared.vec.Vec.{Vec}
use Rattle.std.specs.declared.alloc.Global.{Global}
use Rattle.std.specs.List.{filter}
use Rattle.std.proofs.lemmas.List.{length-map}
use Rattle.scad_ast.specs.Terms.{InstanceTerm}
use Rattle.scad_modules.specs.Effects.{ChosenCall}
use Rattle.scad_value.specs.declared.value.Value.{Number}
use Rattle.scad_value.specs.declared.value.Value.TheVariants.{rolls-Number}
use Rattle.scad_value.specs.declared.value.Value.TheOpen.{Number as NumberIn}
use Rattle.scad_value.specs.declared.value.Value.TheFolds.{fold-roll-Value}
use Rattle.scad_value.specs.Values.{Val, NumberVal}
use Rattle.scad_value.specs.View.{val_of, value_step, values_step}
use Rattle.scad_definitions.specs.Blocks.{BlockTable}
use Rattle.scad_func.specs.Meaning.{Env, no_activation, entered_scope}
use Rattle.scad_func.specs.View.{table_in}
use Rattle.scad_func.specs.Definitions.{statements_at, block_scope, IsWholeTable}
use Rattle.scad_func.specs.declared.source.Source.{Source}
use Rattle.scad_instance_rules.specs.declared.numbered.NumberedInstance.{NumberedInstance}
use Rattle.scad_meaning.specs.Bodies.{children_in}
use Rattle.scad_instance_rules.specs.Positions.{term_of_numbered, HasBlocks, HaveBodyBlocks}
use Rattle.scad_meaning.specs.Loops.{chosen_among}
use Rattle.scad_meaning.proofs.lemmas.Choosing.{map_chosen, all_chosen}

pub map_filtered : {A B : Type 0} (f : A → B) (p : B → Bool) (xs : List A) → map f (filter (λ x. p (f x)) xs) ≡ filter p (map f xs)
map_filtered f p [] = refl
map_filtered f p (x ∷ xs) = by_test (p (f x)) ∙ ap (λ ys. cond (p (f x)) (f x ∷ ys) ys) (map_filtered f p xs)
  where
    by_test : (b : Bool) → map f (cond b (x ∷ filter (λ x. p (f x)) xs) (filter (λ x. p (f x)) xs))
        ≡ cond b (f x ∷ map f (filter (λ x. p (f x)) xs)) (map f (filter (λ x. p (f x)) xs))
    by_test true = refl
    by_test false = refl

-- the chosen ones of some children
module _ {E : Type 0} (r : Result (Vec NumberedInstance Global) E) (children : List NumberedInstance) (call : ChosenCall)
    (h : IfOk r (λ found. found.items ≡ chosen_among children call)) where
  pub chosen_numbered : (table : BlockTable) (xs : List InstanceTerm) → HaveBodyBlocks table xs children
      → IfOk r (λ found. HaveBodyBlocks table (chosen_among xs call) found.items)
  chosen_numbered table xs all = go r h
    where
      go : (r : Result (Vec NumberedInstance Global) E) → IfOk r (λ found. found.items ≡ chosen_among children call)
          → IfOk r (λ found. HaveBodyBlocks table (chosen_among xs call) found.items)
      go (Ok found) h = record {
        found = ap (map term_of_numbered) h ∙ map_chosen term_of_numbered children call ∙ ap (λ l. chosen_among l call) all.found;
        blocks = subst (All (HasBlocks table)) (sym h) (all_chosen (HasBlocks table) children call all.blocks);
      }
      go (Err stop) h = tt

-- how many children there are
pub children_counted : (old new : Source) (block : ℕ) (env inner : Env) (found : List NumberedInstance) → IsWholeTable (table_in old) → new ≡ old
    → inner ≡ block_scope (table_in old) block no_activation env → map term_of_numbered found ≡ children_in inner (statements_at (table_in new) block)
    → length found ≡ length (children_in (entered_scope (statements_at (table_in old) block) no_activation env) (statements_at (table_in old) block))
children_counted old new block env inner found whole same is e =
    sym (length-map found term_of_numbered) ∙ ap length e
    ∙ ap (λ (x : Source). length (children_in inner (statements_at (table_in x) block))) same
    ∙ ap (λ (x : Env). length (children_in x (statements_at (table_in old) block))) (is ∙ whole.scopes block no_activation env)

-- a number in memory
pub number_form : (n : ℤ) → val_of (Number n) ≡ NumberVal n
number_form n = ap val_of (sym (rolls-Number n)) ∙ fold-roll-Value Val (List Val) value_step values_step (NumberIn n)
