-- The scope of a module's body, once it is entered.
use Rattle.std.proofs.Common.{◌≡◌, ℕ, pos, List, [], ◌∷◌, length, ap, ◌∙◌}
use Rattle.std.specs.Prelude.{codes}
use Rattle.scad_ast.specs.Terms.{StatementTerms, BodyTerm}
use Rattle.scad_value.specs.Values.{Val, NumberVal, Vals}
use Rattle.scad_definitions.specs.Arguments.{parameter_names}
use Rattle.scad_scope.specs.Names.{ScopeRow}
use Rattle.scad_scope.specs.Table.{rows_of}
use Rattle.scad_definitions.specs.Blocks.{SourceModule, BlockTable, statements_of_body}
use Rattle.scad_func.specs.Meaning.{Env, InnerScope, no_activation, activation, functions_standing_in, modules_standing_in, entered_scope, with_value, with_values, with_pairs}
use Rattle.scad_func.specs.View.{env_seen, table_in}
use Rattle.scad_func.specs.Definitions.{statements_at, block_scope, IsBlockOf, IsWholeTable}
use Rattle.scad_func.specs.Evaluations.{KeepsEvaluation, OneScopeMore, env_here}
use Rattle.scad_func.specs.declared.evaluation.Evaluation.{Evaluation}
use Rattle.scad_func.specs.declared.source.Source.{Source}
use Rattle.scad_meaning.specs.Bodies.{children_in}
use Rattle.scad_meaning.specs.Meaning.{module_scope}

-- the scope of a module's body, by what it depends on
abbrev scope_by : Val → List (List ℕ) → Vals → StatementTerms → StatementTerms → Env → Env → Env
scope_by n names vs inner children caller defining_scope = InnerScope ((codes "$children", n) ∷ with_pairs names vs [])
    (functions_standing_in inner) (modules_standing_in inner) (activation children caller) defining_scope

pub module_inside : (table : BlockTable) (block children : ℕ) (m : SourceModule) (call : BodyTerm) (vs : Vals) (caller defining_scope a b c : Env) (n : Val)
    → IsWholeTable table → IsBlockOf table block m.body → IsBlockOf table children call
    → a ≡ block_scope table block (activation (statements_at table children) caller) defining_scope
    → b ≡ with_values (parameter_names m.params) vs a
    → c ≡ with_value (codes "$children") n b
    → n ≡ NumberVal (pos (length (children_in (entered_scope (statements_at table children) no_activation caller) (statements_at table children))))
    → c ≡ module_scope defining_scope m vs (statements_of_body call) caller
module_inside table block children m call vs caller defining_scope a b c n whole inner outer is_a is_b is_c count =
    is_c ∙ ap (λ (x : Env). with_value (codes "$children") n x) (is_b ∙ ap (λ (x : Env). with_values (parameter_names m.params) vs x)
    (is_a ∙ whole.scopes block (activation (statements_at table children) caller) defining_scope))
    ∙ ap (λ (st : StatementTerms). scope_by n (parameter_names m.params) vs st (statements_at table children) caller defining_scope) inner
    ∙ ap (λ (k : Val). scope_by k (parameter_names m.params) vs (statements_of_body m.body) (statements_at table children) caller defining_scope) count
    ∙ ap (λ (st : StatementTerms). scope_by (NumberVal (pos (length (children_in (entered_scope st no_activation caller) st)))) (parameter_names m.params) vs (statements_of_body m.body) st caller defining_scope) outer

-- the scope of a call, where what it depends on stays
abbrev scope_by_rows : Source → List ScopeRow → ℕ → ℕ → ℕ → ℕ → Env
scope_by_rows source rows scope block children defining_scope =
    block_scope (table_in source) block (activation (statements_at (table_in source) children) (env_seen source rows scope)) (env_seen source rows defining_scope)

pub call_scope_same : (old new : Evaluation) (block children defining_scope : ℕ) → KeepsEvaluation old new
    → block_scope (table_in new.source.now) block (activation (statements_at (table_in new.source.now) children) (env_here new))
    (env_seen new.source.now (rows_of new.scopes.now) defining_scope)
    ≡ block_scope (table_in old.source.now) block (activation (statements_at (table_in old.source.now) children) (env_here old))
    (env_seen old.source.now (rows_of old.scopes.now) defining_scope)
call_scope_same old new block children defining_scope k =
    ap (λ (x : Source). scope_by_rows x (rows_of new.scopes.now) new.scope block children defining_scope) k.source
    ∙ ap (λ (l : List ScopeRow). scope_by_rows old.source.now l new.scope block children defining_scope) k.rows
    ∙ ap (λ n. scope_by_rows old.source.now (rows_of old.scopes.now) n block children defining_scope) k.stands

-- a scope that is entered behind what keeps all
pub entered_behind : {first old new : Evaluation} {before : ℕ} → KeepsEvaluation first old → OneScopeMore old new before → OneScopeMore first new before
entered_behind k e = record {
  source = e.source ∙ k.source;
  lent = e.lent ∙ k.lent;
  from = e.from ∙ k.stands;
  front = e.front ∙ k.rows;
  number = e.number ∙ ap length k.rows;
  there = e.there;
  bindings = e.bindings ∙ k.bindings;
  calls = e.calls ∙ k.calls;
  depth = e.depth ∙ k.depth;
}
