-- The scope of a number, and what it holds.
use Rattle.std.proofs.Common.{◌≡◌, ℕ, zero, suc, ◌+◌, ◌<◌, ◌≤◌, List, [], ◌∷◌, ◌++◌, length, take, drop, Bool, true, false, cond, Option, Some, None, refl, sym, ap, subst, ◌∙◌, arith, length-append, get_or, nat_lt}
use Rattle.std.proofs.lemmas.Bool.{ltb-true, ltb-false, lt-ltb, le-ltb}
use Rattle.std.proofs.lemmas.List.{get_or_past, take-append-drop, length-take-le}
use Rattle.std.proofs.Math.Seq.{get_or-append_seam}
use Rattle.scad_value.specs.Values.{Val}
use Rattle.scad_scope.specs.declared.table.Scope.{Scope}
use Rattle.scad_scope.specs.declared.table.NameSpace.{NameSpace}
use Rattle.scad_scope.specs.declared.table.NameSpace.TheVariants.{Functions, Modules}
use Rattle.scad_scope.specs.Names.{with_variable, with_pair, rows_with_variable}
use Rattle.std.specs.Prelude.{IfOk, OnOk, OnErr}
use Rattle.std.proofs.Common.{Result, Ok, Err}
use Rattle.scad_scope.specs.Names.{ScopeRow, NumberedEnv, NoNumberedScope, NumberedScope, NumberedActivation, no_numbered_activation, numbered_activation, activation_from, env_of_row, or_outer_numbered, enclosing_activation, envs_from, env_of, find_in, or_found_outside, with_numbered_scope, variable_in}
use Rattle.scad_scope.specs.declared.table.ModuleActivation.{ModuleActivation}
use Rattle.scad_scope.specs.Table.{numbered_activation_of}
use Rattle.scad_scope.specs.View.{row_of_scope, rows_in, pairs_of, definition_in}

pub envs_length : (before : List NumberedEnv) (rs : List ScopeRow) → length (envs_from before rs) ≡ length before + length
    rs
envs_length before [] = omega arith
envs_length before (r ∷ rs) = envs_length (before ++ env_of_row before r ∷ []) rs ∙
    omega (arith, length-append before (env_of_row before r ∷ []))

get_front : {A : Type 0} (xs ys : List A) (k : ℕ) (d : A) → k < length xs → get_or (xs ++ ys) k d ≡ get_or xs
    k d
get_front [] ys k d h = absurd (omega arith)
get_front (x ∷ xs) ys zero d h = refl
get_front (x ∷ xs) ys (suc k) d h = get_front xs ys k d (omega arith)

envs_keep : (before : List NumberedEnv) (rs : List ScopeRow) (k : ℕ) (d : NumberedEnv) → k < length before →
    get_or (envs_from before rs) k d ≡ get_or before k d
envs_keep before [] k d h = refl
envs_keep before (r ∷ rs) k d h =
    envs_keep (before ++ env_of_row before r ∷ []) rs k d
    (omega (arith, length-append before (env_of_row before r ∷ [])))
    ∙ get_front before (env_of_row before r ∷ []) k d h

outer_same : (before : List NumberedEnv) (x : NumberedEnv) (rs : List ScopeRow) (o : ℕ) (b : Bool) → nat_lt o (length before) ≡ b
    → get_or before o NoNumberedScope ≡ cond b (get_or (envs_from (before ++ x ∷ []) rs) o NoNumberedScope) NoNumberedScope
outer_same before x rs o true e =
    let less : o < length before = ltb-true o (length before) e in
    sym (envs_keep (before ++ x ∷ []) rs o NoNumberedScope (omega (arith, length-append before (x ∷ []))) ∙
    get_front before (x ∷ []) o NoNumberedScope less)
outer_same before x rs o false e = get_or_past before o NoNumberedScope (ltb-false o (length before) e)

call_test : (before : List NumberedEnv) (x : NumberedEnv) (rs : List ScopeRow) (children caller : ℕ) (b : Bool)
    → nat_lt caller (length before) ≡ b
    → cond b (numbered_activation children (get_or before caller NoNumberedScope)) no_numbered_activation
    ≡ cond b (numbered_activation children (get_or (envs_from (before ++ x ∷ []) rs) caller NoNumberedScope)) no_numbered_activation
call_test before x rs children caller true e =
    let less : caller < length before = ltb-true caller (length before) e in
    ap (numbered_activation children) (sym (envs_keep (before ++ x ∷ []) rs caller NoNumberedScope (omega (arith, length-append before (x ∷ []))) ∙
    get_front before (x ∷ []) caller NoNumberedScope less))
call_test before x rs children caller false e = refl

-- the scope of a number among these
abbrev among : List NumberedEnv → ℕ → NumberedEnv
among all k = get_or all k NoNumberedScope

call_same : (before : List NumberedEnv) (x : NumberedEnv) (rs : List ScopeRow) (call : Option (ℕ × ℕ))
    → activation_from (among before) (length before) call ≡ activation_from (among (envs_from (before ++ x ∷ []) rs)) (length before) call
call_same before x rs None = refl
call_same before x rs (Some call) = call_test before x rs call.0 call.1 (nat_lt call.1 (length before)) refl

-- what stands at a number: its row, inside the scope that the row names where that one comes before
abbrev Stands : List NumberedEnv → ℕ → ScopeRow → NumberedEnv → Type 0
Stands all n r env = env ≡ NumberedScope n r (activation_from (among all) n r.call)
    (cond (nat_lt r.outer n) (get_or all r.outer NoNumberedScope) NoNumberedScope)

envs_at : (before : List NumberedEnv) (rs : List ScopeRow) (j : ℕ) (r : ScopeRow) → j < length rs → r ≡ get_or rs j r
    → Stands (envs_from before rs) (length before + j) r (get_or (envs_from before rs) (length before + j)
    NoNumberedScope)
envs_at before [] j r h e = absurd (omega arith)
envs_at before (q ∷ rs) zero r h e =
    let x = env_of_row before q in
    let all = envs_from (before ++ x ∷ []) rs in
    let n : length before ≡ length before + 0 = omega arith in
    let len : length before < length (before ++ x ∷ []) = omega (arith, length-append before (x ∷ [])) in
    let is_x : x ≡ NumberedScope (length before) q (activation_from (among all) (length before) q.call)
    (cond (nat_lt q.outer (length before)) (get_or all q.outer NoNumberedScope) NoNumberedScope)
    = ap (NumberedScope (length before) q (activation_from (among before) (length before) q.call))
    (outer_same before x rs q.outer (nat_lt q.outer (length before)) refl)
    ∙ ap (λ call. NumberedScope (length before) q call
    (cond (nat_lt q.outer (length before)) (get_or all q.outer NoNumberedScope) NoNumberedScope)) (call_same before x rs q.call) in
    subst (λ n. Stands all n r (get_or all n NoNumberedScope)) n
    (envs_keep (before ++ x ∷ []) rs (length before) NoNumberedScope len ∙ get_or-append_seam before x [] NoNumberedScope
    ∙ subst (λ (u : ScopeRow). Stands all (length before) u x) (sym e) is_x)
envs_at before (q ∷ rs) (suc j) r h e =
    let next = before ++ env_of_row before q ∷ [] in
    let len : length next + j ≡ length before + suc j =
    omega (arith, length-append before (env_of_row before q ∷ [])) in
    subst (λ n. Stands (envs_from next rs) n r (get_or (envs_from next rs) n NoNumberedScope)) len
    (envs_at next rs j r (omega arith) e)

pub rows_length : (ss : List Scope) → length (rows_in ss) ≡ length ss
rows_length [] = refl
rows_length (s ∷ ss) = ap suc (rows_length ss)

row_at : (ss : List Scope) (k : ℕ) (s : Scope) → k < length ss → s ≡ get_or ss k s →
    row_of_scope s ≡ get_or (rows_in ss) k (row_of_scope s)
row_at [] k s h e = absurd (omega arith)
row_at (t ∷ ss) zero s h e = ap row_of_scope e
row_at (t ∷ ss) (suc k) s h e = row_at ss k s (omega arith) e

pub env_at : (ss : List Scope) (k : ℕ) (s : Scope) → k < length ss → s ≡ get_or ss k s
    → env_of (rows_in ss) k ≡ NumberedScope k (row_of_scope s) (activation_from (env_of (rows_in ss)) k (row_of_scope s).call)
    (cond (nat_lt s.outer k) (env_of (rows_in ss) s.outer) NoNumberedScope)
unfolding env_of
env_at ss k s h e =
    let n : 0 + k ≡ k = omega arith in
    let less : k < length (rows_in ss) = omega (arith, rows_length ss) in
    subst (λ n. Stands (envs_from [] (rows_in ss)) n (row_of_scope s) (get_or (envs_from [] (rows_in ss)) n
    NoNumberedScope)) n
    (envs_at [] (rows_in ss) k (row_of_scope s) less (row_at ss k s h e))

module _ (ss : List Scope) (k : ℕ) (s : Scope) (name : List ℕ) (h : k < length ss) (e : s ≡ get_or ss k s)
  where
    outside : NumberedEnv
    outside = cond (nat_lt s.outer k) (env_of (rows_in ss) s.outer) NoNumberedScope

    no_outer : k ≤ s.outer → outside ≡ NoNumberedScope
    unfolding outside
    no_outer l = ap (λ b. cond b (env_of (rows_in ss) s.outer) NoNumberedScope) (le-ltb s.outer k l)

    an_outer : s.outer < k → outside ≡ env_of (rows_in ss) s.outer
    unfolding outside
    an_outer l = ap (λ b. cond b (env_of (rows_in ss) s.outer) NoNumberedScope) (lt-ltb s.outer k l)

    here : variable_in (env_of (rows_in ss) k) name ≡ or_found_outside (find_in (row_of_scope s).variables name)
        (variable_in outside name)
    unfolding outside
    here = ap (λ x. variable_in x name) (env_at ss k s h e)

    pub variable_found : (x : Val) → find_in (row_of_scope s).variables name ≡ Some x →
        variable_in (env_of (rows_in ss) k) name ≡ Some x
    variable_found x f = here ∙ ap (λ o. or_found_outside o (variable_in outside name)) f

    pub variable_none : find_in (row_of_scope s).variables name ≡ None → k ≤ s.outer →
        variable_in (env_of (rows_in ss) k) name ≡ None
    variable_none f l = here ∙ ap (λ o. or_found_outside o (variable_in outside name)) f ∙ ap (λ x. variable_in x name)
        (no_outer l)

    pub variable_outer : find_in (row_of_scope s).variables name ≡ None → s.outer < k
        → variable_in (env_of (rows_in ss) k) name ≡ variable_in (env_of (rows_in ss) s.outer) name
    variable_outer f l = here ∙ ap (λ o. or_found_outside o (variable_in outside name)) f
        ∙ ap (λ x. variable_in x name)
        (an_outer l)

    within : (name_space : NameSpace) (call : NumberedActivation) (env : NumberedEnv) → definition_in name_space (NumberedScope k (row_of_scope s) call env) name
        ≡ or_found_outside (with_numbered_scope (NumberedScope k (row_of_scope s) call env) (find_in (pairs_of name_space (row_of_scope s)) name))
        (definition_in name_space env name)
    within Functions call env = refl
    within Modules call env = refl

    standing : (name_space : NameSpace) → definition_in name_space (env_of (rows_in ss) k) name
        ≡ or_found_outside (with_numbered_scope (env_of (rows_in ss) k) (find_in (pairs_of name_space (row_of_scope s)) name))
        (definition_in name_space outside name)
    unfolding outside
    standing name_space = subst
        (λ x. definition_in name_space x name
        ≡ or_found_outside (with_numbered_scope x (find_in (pairs_of name_space (row_of_scope s)) name))
        (definition_in name_space outside name))
        (sym (env_at ss k s h e)) (within name_space (activation_from (env_of (rows_in ss)) k (row_of_scope s).call) outside)

    pub definition_found : (name_space : NameSpace) (d : ℕ) → find_in (pairs_of name_space (row_of_scope s)) name ≡ Some d
        → definition_in name_space (env_of (rows_in ss) k) name ≡ Some (env_of (rows_in ss) k, d)
    definition_found name_space d f = standing name_space ∙ ap (λ o. or_found_outside (with_numbered_scope (env_of (rows_in ss) k) o)
        (definition_in name_space outside name)) f

    enclosing_here : enclosing_activation (env_of (rows_in ss) k)
        ≡ or_outer_numbered (activation_from (env_of (rows_in ss)) k (row_of_scope s).call) (enclosing_activation outside)
    unfolding outside
    enclosing_here = ap enclosing_activation (env_at ss k s h e)

    pub call_found : (call : ModuleActivation) → activation_from (env_of (rows_in ss)) k (row_of_scope s).call ≡ numbered_activation_of (env_of (rows_in ss)) (Some call)
        → enclosing_activation (env_of (rows_in ss) k) ≡ numbered_activation_of (env_of (rows_in ss)) (Some call)
    call_found call f = enclosing_here ∙ ap (λ c. or_outer_numbered c (enclosing_activation outside)) f

    pub call_none : activation_from (env_of (rows_in ss)) k (row_of_scope s).call ≡ no_numbered_activation → k ≤ s.outer
        → enclosing_activation (env_of (rows_in ss) k) ≡ no_numbered_activation
    call_none f l = enclosing_here ∙ ap (λ c. or_outer_numbered c (enclosing_activation outside)) f ∙ ap enclosing_activation (no_outer l)

    pub call_outer : activation_from (env_of (rows_in ss)) k (row_of_scope s).call ≡ no_numbered_activation → s.outer < k
        → enclosing_activation (env_of (rows_in ss) k) ≡ enclosing_activation (env_of (rows_in ss) s.outer)
    call_outer f l = enclosing_here ∙ ap (λ c. or_outer_numbered c (enclosing_activation outside)) f ∙ ap enclosing_activation (an_outer l)

    nowhere : (name_space : NameSpace) → definition_in name_space NoNumberedScope name ≡ None
    nowhere Functions = refl
    nowhere Modules = refl

    passed : (name_space : NameSpace) → find_in (pairs_of name_space (row_of_scope s)) name ≡ None
        → definition_in name_space (env_of (rows_in ss) k) name ≡ definition_in name_space outside name
    passed name_space f = standing name_space ∙ ap (λ o. or_found_outside (with_numbered_scope (env_of (rows_in ss) k) o)
        (definition_in name_space outside name)) f

    pub definition_none : (name_space : NameSpace) → find_in (pairs_of name_space (row_of_scope s)) name ≡ None → k ≤ s.outer
        → definition_in name_space (env_of (rows_in ss) k) name ≡ None
    definition_none name_space f l = passed name_space f ∙ ap (λ x. definition_in name_space x name) (no_outer l) ∙
        nowhere name_space

    pub definition_outer : (name_space : NameSpace) → find_in (pairs_of name_space (row_of_scope s)) name ≡ None → s.outer < k
        → definition_in name_space (env_of (rows_in ss) k) name
        ≡ definition_in name_space (env_of (rows_in ss) s.outer)
        name
    definition_outer name_space f l = passed name_space f ∙ ap (λ x. definition_in name_space x name) (an_outer l)

envs-more : (before : List NumberedEnv) (rs : List ScopeRow) (r : ScopeRow) → envs_from before (rs ++ r ∷ [])
    ≡ envs_from before rs ++ env_of_row (envs_from before rs) r ∷ []
envs-more before [] r = refl
envs-more before (q ∷ rs) r = envs-more (before ++ env_of_row before q ∷ []) rs r

-- a new scope, and the scopes before it
pub env_new : (rs : List ScopeRow) (r : ScopeRow) (n : ℕ) → n ≡ length rs → env_of (rs ++ r ∷ []) n
    ≡ NumberedScope n r (activation_from (env_of rs) (length rs) r.call) (env_of rs r.outer)
unfolding env_of
env_new rs r n h =
    let len : length (envs_from [] rs) ≡ n = omega (arith, envs_length [] rs) in
    ap (λ es. get_or es n NoNumberedScope) (envs-more [] rs r)
    ∙ ap (λ k. get_or (envs_from [] rs ++ env_of_row (envs_from [] rs) r ∷ []) k NoNumberedScope) (sym len)
    ∙ get_or-append_seam (envs_from [] rs) (env_of_row (envs_from [] rs) r) [] NoNumberedScope
    ∙ ap (λ k. NumberedScope k r (activation_from (among (envs_from [] rs)) k r.call) (get_or (envs_from [] rs) r.outer NoNumberedScope)) len
    ∙ ap (λ k. NumberedScope n r (activation_from (among (envs_from [] rs)) k r.call) (get_or (envs_from [] rs) r.outer NoNumberedScope)) h

pub env_kept : (rs : List ScopeRow) (r : ScopeRow) (k : ℕ) → k < length rs → env_of (rs ++ r ∷ []) k ≡ env_of rs k
unfolding env_of
env_kept rs r k h = ap (λ es. get_or es k NoNumberedScope) (envs-more [] rs r)
    ∙ get_front (envs_from [] rs) (env_of_row (envs_from [] rs) r ∷ []) k NoNumberedScope
    (omega (arith, envs_length [] rs))

-- one more variable leaves the scopes before as they are
front_kept : (before : List NumberedEnv) (rs : List ScopeRow) (k : ℕ) (name : List ℕ) (value : Val) (j : ℕ)
    → j < length before + k
    → get_or (envs_from before (rows_with_variable rs k name value)) j NoNumberedScope
    ≡ get_or (envs_from before rs) j NoNumberedScope
front_kept before [] k name value j h = refl
front_kept before (r ∷ rs) zero name value j h =
    let one : j < length before = omega arith in
    let x = env_of_row before (with_variable name value r) in
    envs_keep (before ++ x ∷ []) rs j NoNumberedScope (omega (arith, length-append before (x ∷ [])))
    ∙ get_front before (x ∷ []) j NoNumberedScope one
    ∙ sym (get_front before (env_of_row before r ∷ []) j NoNumberedScope one)
    ∙ sym (envs_keep (before ++ env_of_row before r ∷ []) rs j NoNumberedScope
    (omega (arith, length-append before (env_of_row before r ∷ []))))
front_kept before (r ∷ rs) (suc k) name value j h =
    front_kept (before ++ env_of_row before r ∷ []) rs k name value j
    (omega (arith, length-append before (env_of_row before r ∷ [])))

pub binding_kept : (rs : List ScopeRow) (k : ℕ) (name : List ℕ) (value : Val) (j : ℕ) → j < k
    → env_of (rows_with_variable rs k name value) j ≡ env_of rs j
unfolding env_of
binding_kept rs k name value j h = front_kept [] rs k name value j (omega arith)

here_bound : (before : List NumberedEnv) (rs : List ScopeRow) (k : ℕ) (name : List ℕ) (value : Val) (n : ℕ)
    → k < length rs → n ≡ length before + k
    → get_or (envs_from before (rows_with_variable rs k name value)) n NoNumberedScope
    ≡ with_pair name value (get_or (envs_from before rs) n NoNumberedScope)
here_bound before [] k name value n h e = absurd (omega arith)
here_bound before (r ∷ rs) zero name value n h e =
    let x = env_of_row before (with_variable name value r) in
    let y = env_of_row before r in
    let len : n ≡ length before = omega arith in
    let left : get_or (envs_from (before ++ x ∷ []) rs) (length before) NoNumberedScope ≡ x
    = envs_keep (before ++ x ∷ []) rs (length before) NoNumberedScope
    (omega (arith, length-append before (x ∷ []))) ∙ get_or-append_seam before x [] NoNumberedScope in
    let right : get_or (envs_from (before ++ y ∷ []) rs) (length before) NoNumberedScope ≡ y
    = envs_keep (before ++ y ∷ []) rs (length before) NoNumberedScope
    (omega (arith, length-append before (y ∷ []))) ∙ get_or-append_seam before y [] NoNumberedScope in
    ap (λ m. get_or (envs_from (before ++ x ∷ []) rs) m NoNumberedScope) len ∙ left
    ∙ sym (ap (with_pair name value) right)
    ∙ ap (λ m. with_pair name value (get_or (envs_from (before ++ y ∷ []) rs) m NoNumberedScope)) (sym len)
here_bound before (r ∷ rs) (suc k) name value n h e =
    here_bound (before ++ env_of_row before r ∷ []) rs k name value n (omega arith)
    (omega (arith, length-append before (env_of_row before r ∷ [])))

-- and the scope itself has it
pub binding_here : (rs : List ScopeRow) (k : ℕ) (name : List ℕ) (value : Val) → k < length rs
    → env_of (rows_with_variable rs k name value) k ≡ with_pair name value (env_of rs k)
unfolding env_of
binding_here rs k name value h = here_bound [] rs k name value k h (omega arith)

-- the cut of a table leaves the scopes before as they are
envs_joined : (before : List NumberedEnv) (rs qs : List ScopeRow) → envs_from before (rs ++ qs) ≡ envs_from (envs_from before rs) qs
envs_joined before [] qs = refl
envs_joined before (r ∷ rs) qs = envs_joined (before ++ env_of_row before r ∷ []) rs qs

pub cut_kept : (rs : List ScopeRow) (n k : ℕ) → n ≤ length rs → k < n → env_of (take n rs) k ≡ env_of rs k
unfolding env_of
cut_kept rs n k few h =
    let len : k < length (envs_from [] (take n rs)) = omega (arith, envs_length [] (take n rs), length-take-le n rs few, h) in
    sym (ap (λ es. get_or es k NoNumberedScope) (ap (envs_from []) (sym (take-append-drop n rs)) ∙ envs_joined [] (take n rs) (drop n rs))
    ∙ envs_keep (envs_from [] (take n rs)) (drop n rs) k NoNumberedScope len)

-- a call from a scope that is there
pub called_from : (look : ℕ → NumberedEnv) (count children caller : ℕ) → caller < count
    → activation_from look count (Some (children, caller)) ≡ numbered_activation children (look caller)
called_from look count children caller h = ap (λ b. cond b (numbered_activation children (look caller)) no_numbered_activation) (lt-ltb caller count h)

-- what entering and binding leave of the scopes
module _ {E : Type 0} (old new : List ScopeRow) (outer : ℕ) (row : ScopeRow) where
  pub entering_told : (r : Result ℕ E) (call : NumberedActivation) → row.outer ≡ outer
      → activation_from (env_of old) (length old) row.call ≡ call → IfOk r (λ n. n ≡ length old)
      → OnOk r (new ≡ old ++ row ∷ []) → IfOk r (λ n. env_of new n ≡ NumberedScope n row call (env_of old outer))
  entering_told (Ok n) call e c f g = ap (λ rs. env_of rs n) g ∙ env_new old row n f
      ∙ ap (λ o. NumberedScope n row (activation_from (env_of old) (length old) row.call) (env_of old o)) e
      ∙ ap (λ c. NumberedScope n row c (env_of old outer)) c
  entering_told (Err x) call e c f g = tt

  pub entering_kept : (r : Result ℕ E) → OnOk r (new ≡ old ++ row ∷ []) → OnErr r (new ≡ old)
      → (k : ℕ) → k < length old → env_of new k ≡ env_of old k
  entering_kept (Ok n) f g k h = ap (λ rs. env_of rs k) f ∙ env_kept old row k h
  entering_kept (Err e) f g k h = ap (λ rs. env_of rs k) g

module _ {A E : Type 0} (old new : List ScopeRow) (scope : ℕ) (name : List ℕ) (value : Val) where
  pub binding_shown : (r : Result A E) → scope < length old → OnOk r (new ≡ rows_with_variable old scope name value)
      → OnOk r (env_of new scope ≡ with_pair name value (env_of old scope))
  binding_shown (Ok x) h f = ap (λ rs. env_of rs scope) f ∙ binding_here old scope name value h
  binding_shown (Err e) h f = tt

  pub binding_keeps : (r : Result A E) → OnOk r (new ≡ rows_with_variable old scope name value) → OnErr r (new ≡ old)
      → (k : ℕ) → k < scope → env_of new k ≡ env_of old k
  binding_keeps (Ok x) f g k h = ap (λ rs. env_of rs k) f ∙ binding_kept old scope name value k h
  binding_keeps (Err e) f g k h = ap (λ rs. env_of rs k) g
