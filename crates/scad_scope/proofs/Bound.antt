-- A table with one more variable.
use Rattle.std.proofs.Common.{◌≡◌, ℕ, zero, suc, ◌<◌, List, [], ◌∷◌, length, ap, ◌∙◌, arith, get_or, set, Result, Ok, Err}
use Rattle.std.specs.Prelude.{OnOk, OnErr}
use Rattle.scad_value.specs.Values.{Val}
use Rattle.scad_scope.specs.declared.table.Scope.{Scope}
use Rattle.scad_scope.specs.Names.{with_variable, rows_with_variable}
use Rattle.scad_scope.specs.View.{row_of_scope, rows_in}

pub rows_set : (ss : List Scope) (k : ℕ) (s : Scope) (name : List ℕ) (value : Val) (old : Scope) →
    k < length ss → old ≡ get_or ss k old
    → row_of_scope s ≡ with_variable name value (row_of_scope old) → rows_in (set ss k s) ≡ rows_with_variable (rows_in ss) k name
    value
rows_set [] k s name value old h e r = absurd (omega arith)
rows_set (t ∷ ss) zero s name value old h e r = ap (λ x. x ∷ rows_in ss) (r ∙
    ap (λ (u : Scope). with_variable name value (row_of_scope u)) e)
rows_set (t ∷ ss) (suc k) s name value old h e r = ap (λ l. row_of_scope t ∷ l) (rows_set ss k s name value old
    (omega arith) e r)

pub rows_same : (ss : List Scope) (k : ℕ) (s old : Scope) → k < length ss → old ≡ get_or ss k old
    → row_of_scope s ≡ row_of_scope old → rows_in (set ss k s) ≡ rows_in ss
rows_same [] k s old h e r = absurd (omega arith)
rows_same (t ∷ ss) zero s old h e r = ap (λ x. x ∷ rows_in ss) (r ∙ ap row_of_scope e)
rows_same (t ∷ ss) (suc k) s old h e r = ap (λ l. row_of_scope t ∷ l) (rows_same ss k s old (omega arith) e r)

-- what a scope's own binding leaves of the table
module _ {A E : Type 0} (ss : List Scope) (k : ℕ) (s old : Scope) (name : List ℕ) (value : Val)
    (h : k < length ss) (e : old ≡ get_or ss k old) where
  pub binding_told : (r : Result A E) → OnOk r (row_of_scope s ≡ with_variable name value (row_of_scope old)) →
      OnOk r (rows_in (set ss k s) ≡ rows_with_variable (rows_in ss) k name value)
  binding_told (Ok x) f = rows_set ss k s name value old h e f
  binding_told (Err x) f = tt

  pub binding_refused : (r : Result A E) → OnErr r (row_of_scope s ≡ row_of_scope old) →
      OnErr r (rows_in (set ss k s) ≡ rows_in ss)
  binding_refused (Ok x) g = tt
  binding_refused (Err x) g = rows_same ss k s old h e g
