-- The laws of tallies, from what evaluations cost.
use Rattle.std.proofs.Common.{◌≡◌, ◌≤◌, ◌*◌, refl, subst, ℕ, ◌+◌, Bool, List, length, arith, le_trans}
use Rattle.plane_predicate.specs.declared.unit.Unit.{Unit as LengthUnit}
use Rattle.scad_lexer.specs.declared.token.Token.{Token}
use Rattle.scad_ast.specs.Terms.{Term, StatementTerm, StatementTerms, statements_from}
use Rattle.scad_grammar.specs.Grammar.{WholeProgram}
use Rattle.scad_value.specs.Values.{Val}
use Rattle.scad_scope.specs.Names.{Pairs}
use Rattle.scad_func.specs.Limits.{most_calls, most_turns}
use Rattle.scad_func.specs.Meaning.{Outcome, Gives, Faults, then_with, Env, value_within}
use Rattle.scad_meaning.specs.Verdicts.{Judge}
use Rattle.scad_meaning.specs.Meaning.{MemberDesigns, most_leaves, root_or_union, design_of}
use Rattle.source_laws.specs.Sizes.{size_of_term, size_of_statements, HoldsTextsUpTo}
use Rattle.source_laws.specs.EvaluationCosts.{Cost}
use Rattle.source_laws.specs.CostsOfExpressions.{cost_within}
use Rattle.source_laws.specs.CostsOfInstances.{cost_of_program, members_of_program}
use Rattle.source_laws.proofs.Costs.{nothing, Rate, Costs, listed}
use Rattle.source_laws.proofs.ExpressionCosts.{expressions_cost}
use Rattle.source_laws.proofs.Payments.{more_product, product_up_to, paid, paid_all}
use Rattle.source_laws.proofs.Runs.{Runs, member_leaves}
use Rattle.source_laws.proofs.InstanceCosts.{program_cost}
use Rattle.source_laws.proofs.WrittenSizes.{written_size}

-- expressions
abbrev plain_rate : ℕ → Rate
plain_rate size = record {
  largest = size;
  paid = λ turns. size * turns;
  pays = λ turns more. more_product size turns more;
  grows = λ turns all h. product_up_to size turns all h;
}

module _ (size turns own : ℕ) (taken : Cost) (counts : Bool) where
  value_bounded : (out : Outcome Val) → Costs (plain_rate size) (listed (plain_rate size) counts) turns own taken out
      → taken.evaluations ≤ own + size * taken.counted
  value_bounded (Gives after v) h =
      let cost = h.2 in by after h.3 cost
    where
      by : (after : ℕ) → after ≡ turns + taken.counted → taken.evaluations + size * turns + listed
          (plain_rate size) counts v ≤ own + size * after
          → taken.evaluations ≤ own + size * taken.counted
      by after e cost =
          let all = subst (λ n. taken.evaluations + size * turns + listed (plain_rate size) counts v ≤ own + size * n) e cost in
          omega arith
  value_bounded (Faults kind at) h = let cost = h.1 (turns + taken.counted) (omega arith) in omega arith

  value_counted : (out : Outcome Val) → Costs (plain_rate size) (listed (plain_rate size) counts) turns own taken out
      → (after : ℕ) (v : Val) → out ≡ Gives after v → after ≡ turns + taken.counted
  value_counted out h after v e =
      (subst (Costs (plain_rate size) (listed (plain_rate size) counts) turns own taken) e h).3

module _ (size n calls : ℕ) (env : Env) (bindings : Pairs Val) (counts : Bool) (expression : Term) (turns : ℕ)
    (held : HoldsTextsUpTo size env) (below : turns ≤ most_turns) where
  expression_costs : Costs (plain_rate size) (listed (plain_rate size) counts) turns (size_of_term expression)
      (cost_within n counts calls env bindings expression turns)
      (value_within n counts calls env bindings expression turns)
  expression_costs = expressions_cost (plain_rate size) n counts calls env bindings expression turns held below

  pub expression_bounded : (cost_within n counts calls env bindings expression turns).evaluations
      ≤ size_of_term expression + size * (cost_within n counts calls env bindings expression turns).counted
  expression_bounded =
      value_bounded size turns (size_of_term expression) (cost_within n counts calls env bindings expression turns) counts
      (value_within n counts calls env bindings expression turns) expression_costs

  pub expression_counted : (after : ℕ) (v : Val) → value_within n counts calls env bindings expression turns ≡ Gives after v
      → after ≡ turns + (cost_within n counts calls env bindings expression turns).counted
  expression_counted =
      value_counted size turns (size_of_term expression) (cost_within n counts calls env bindings expression turns) counts
      (value_within n counts calls env bindings expression turns) expression_costs

-- programs
run_bounded : (size : ℕ) (taken : Cost) (out : Outcome MemberDesigns)
    → Runs size member_leaves nothing most_calls 0 0 size taken out
    → (taken.evaluations ≤ size * ((most_calls + 2) * (taken.counted + 1))) × (taken.counted ≤ most_turns + most_leaves)
run_bounded size taken (Gives turns members) h =
    let same : turns + members.leaves ≡ taken.counted = let e = h.5 in omega arith in
    let paid_for = paid_all size most_calls taken.counted in
    let second = h.1 in let fourth = h.3 in
    let cost : taken.evaluations + paid size most_calls (0 + 0) + 0 ≤ size + paid size most_calls taken.counted =
    subst (λ n. taken.evaluations + paid size most_calls (0 + 0) + 0 ≤ size + paid size most_calls n) same h.4 in
    (omega arith, omega arith)
run_bounded size taken (Faults kind at) h =
    let paid_for = paid_all size most_calls (taken.counted + 1) in
    let within = h.0 in
    let cost = h.1 (taken.counted + 1) (omega arith) in
    (omega arith, omega arith)

run_counted : (size : ℕ) (taken : Cost) (out : Outcome MemberDesigns)
    → Runs size member_leaves nothing most_calls 0 0 size taken out
    → (turns : ℕ) (members : MemberDesigns) → out ≡ Gives turns members → taken.counted ≡ turns + members.leaves
run_counted size taken out h turns members e =
    let same = (subst (Runs size member_leaves nothing most_calls 0 0 size taken) e h).5 in omega arith

module _ (unit : LengthUnit) (judge : Judge) (bindings : Pairs Val) (statements : StatementTerms) where
  program_costs : Runs (size_of_statements statements) member_leaves nothing most_calls 0 0 (size_of_statements statements)
      (cost_of_program unit judge bindings statements) (members_of_program unit judge bindings statements)
  program_costs = program_cost (size_of_statements statements) unit judge bindings statements (omega arith)

  pub run_is_design : design_of unit judge bindings statements
      ≡ then_with (members_of_program unit judge bindings statements) (λ turns members. Gives turns
      (root_or_union members.root members.designs))
  unfolding design_of members_of_program
  run_is_design = refl

  pub cost_bounded : (cost_of_program unit judge bindings statements).evaluations
      ≤ size_of_statements statements * ((most_calls + 2) * ((cost_of_program unit judge bindings statements).counted + 1))
  cost_bounded =
      (run_bounded (size_of_statements statements) (cost_of_program unit judge bindings statements)
      (members_of_program unit judge bindings statements) program_costs).0

  pub counted_bounded : (cost_of_program unit judge bindings statements).counted ≤ most_turns + most_leaves
  counted_bounded =
      (run_bounded (size_of_statements statements) (cost_of_program unit judge bindings statements)
      (members_of_program unit judge bindings statements) program_costs).1

  pub cost_counted : (turns : ℕ) (members : MemberDesigns) → members_of_program unit judge bindings statements ≡ Gives turns members
      → (cost_of_program unit judge bindings statements).counted ≡ turns + members.leaves
  cost_counted =
      run_counted (size_of_statements statements) (cost_of_program unit judge bindings statements)
      (members_of_program unit judge bindings statements) program_costs

-- programs by their tokens
scaled : (a b n : ℕ) → a ≤ b → a * n ≤ b * n
scaled a b n h = grind arith

pub tokens_bounded : (depth : ℕ) (unit : LengthUnit) (judge : Judge) (bindings : Pairs Val) (program : List StatementTerm)
    (tokens : List Token) → WholeProgram depth program tokens
    → (cost_of_program unit judge bindings (statements_from program)).evaluations
    ≤ length tokens * ((most_calls + 2) * ((cost_of_program unit judge bindings (statements_from program)).counted + 1))
tokens_bounded depth unit judge bindings program tokens h =
    let written = written_size depth program tokens h in
    let all = cost_bounded unit judge bindings (statements_from program) in
    let more = scaled (size_of_statements (statements_from program)) (length tokens)
    ((most_calls + 2) * ((cost_of_program unit judge bindings (statements_from program)).counted + 1)) (omega arith) in
    le_trans all more
