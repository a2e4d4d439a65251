-- A table keeps that the numbers of its scopes' definitions are below the program's counts.
use Rattle.std.proofs.Common.{◌≡◌, ℕ, zero, suc, List, [], ◌∷◌, ◌++◌, take, reverse, length, Bool, refl, ap, sym, subst, ◌&&◌, ◌∙◌, Result, Ok, Err}
use Rattle.std.specs.Prelude.{IsTrue, OnOk, OnErr}
use Rattle.std.proofs.lemmas.Bool.{and_parts, and_from}
use Rattle.std.proofs.lemmas.List.{reverse-append}
use Rattle.scad_value.specs.Values.{Val}
use Rattle.scad_definitions.specs.declared.blocks.Blocks.{Blocks}
use Rattle.scad_definitions.specs.Tables.{block_table_in, source_functions_in, source_modules_in}
use Rattle.scad_definitions.specs.Numbered.{are_numbers_below}
use Rattle.scad_definitions.proofs.lemmas.Numbered.{below_joined, own_below}
use Rattle.scad_scope.specs.Names.{Pairs, ScopeRow, with_variable, rows_with_variable}
use Rattle.scad_scope.specs.Rows.{row_of_block}
use Rattle.scad_scope.specs.Numbered.{each_row, StaysBelow}

below_reversed : (n : ℕ) (ps : Pairs ℕ) → IsTrue (are_numbers_below n ps) → IsTrue (are_numbers_below n (reverse ps))
below_reversed n [] h = h
below_reversed n (p ∷ ps) h =
    let parts = and_parts _ _ h in
    subst (λ qs. IsTrue (are_numbers_below n qs)) (sym (reverse-append (p ∷ []) ps))
    (below_joined n (reverse ps) (p ∷ []) (below_reversed n ps parts.1) (and_from _ _ parts.0 refl))

-- a new scope of a block has no function and no module beyond those that are held
entered_below : (outer : ℕ) (b : Blocks) (number : ℕ)
    → IsTrue (are_numbers_below (length (source_functions_in b)) (row_of_block outer (block_table_in b) number).functions)
    × IsTrue (are_numbers_below (length (source_modules_in b)) (row_of_block outer (block_table_in b) number).modules)
entered_below outer b number =
    let below = own_below b number in (
      below_reversed (length (source_functions_in b)) _ below.0,
      below_reversed (length (source_modules_in b)) _ below.1,
    )

each_push : (test : ScopeRow → Bool) (rs : List ScopeRow) (r : ScopeRow) → IsTrue (each_row test rs) → IsTrue (test r)
    → IsTrue (each_row test (rs ++ r ∷ []))
each_push test [] r h g = and_from _ _ g refl
each_push test (q ∷ rs) r h g = let p = and_parts _ _ h in and_from _ _ p.0 (each_push test rs r p.1 g)

-- a new scope that passes, and a new variable of which the test doesn't speak
module _ {A E : Type 0} (test : ScopeRow → Bool) (old new : List ScopeRow) where
  pub entering_passes : (row : ScopeRow) (r : Result A E) → OnOk r (new ≡ old ++ row ∷ []) → OnErr r (new ≡ old)
      → IsTrue (test row) → IsTrue (each_row test old) → IsTrue (each_row test new)
  entering_passes row (Ok x) f g t h = subst (λ rs. IsTrue (each_row test rs)) (sym f)
      (each_push test old row h t)
  entering_passes row (Err e) f g t h = subst (λ rs. IsTrue (each_row test rs)) (sym g) h

-- a new scope with the functions and modules of a block
pub block_stays_below : {E : Type 0} (old new : List ScopeRow) (outer : ℕ) (b : Blocks) (block : ℕ) (row : ScopeRow) (r : Result ℕ E)
    → row.functions ≡ (row_of_block outer (block_table_in b) block).functions
    → row.modules ≡ (row_of_block outer (block_table_in b) block).modules
    → OnOk r (new ≡ old ++ row ∷ []) → OnErr r (new ≡ old)
    → StaysBelow (length (source_functions_in b)) (length (source_modules_in b)) old new
block_stays_below old new outer b block row r f m added refused =
    let below = entered_below outer b block in
    record {
      functions = entering_passes (λ r. are_numbers_below (length (source_functions_in b)) r.functions) old new row r added refused
          (subst (λ ps. IsTrue (are_numbers_below (length (source_functions_in b)) ps)) (sym f) below.0);
      modules = entering_passes (λ r. are_numbers_below (length (source_modules_in b)) r.modules) old new row r added refused
          (subst (λ ps. IsTrue (are_numbers_below (length (source_modules_in b)) ps)) (sym m) below.1);
    }

each_bound : (test : ScopeRow → Bool) (name : List ℕ) (value : Val)
    → ((r : ScopeRow) → test (with_variable name value r) ≡ test r)
    → (rs : List ScopeRow) (k : ℕ) → each_row test (rows_with_variable rs k name value) ≡ each_row test rs
each_bound test name value same [] k = refl
each_bound test name value same (r ∷ rs) zero = ap (λ b. b && each_row test rs) (same r)
each_bound test name value same (r ∷ rs) (suc k) = ap (λ b. test r && b)
    (each_bound test name value same rs k)

module _ {A E : Type 0} (test : ScopeRow → Bool) (old new : List ScopeRow) (k : ℕ) (name : List ℕ) (value : Val)
    (same : (r : ScopeRow) → test (with_variable name value r) ≡ test r) where
  pub binding_passes : (r : Result A E) → OnOk r (new ≡ rows_with_variable old k name value) → OnErr r (new ≡ old)
      → IsTrue (each_row test old) → IsTrue (each_row test new)
  binding_passes (Ok x) f g h = subst (λ b. IsTrue b)
      (sym (each_bound test name value same old k) ∙ ap (each_row test) (sym f)) h
  binding_passes (Err e) f g h = subst (λ rs. IsTrue (each_row test rs)) (sym g) h

-- a cut leaves what passes
pub cut_passes : (test : ScopeRow → Bool) (n : ℕ) (rs : List ScopeRow) → IsTrue (each_row test rs) → IsTrue (each_row test (take n rs))
cut_passes test zero rs h = refl
cut_passes test (suc n) [] h = refl
cut_passes test (suc n) (r ∷ rs) h = let p = and_parts _ _ h in and_from _ _ p.0 (cut_passes test n rs p.1)
