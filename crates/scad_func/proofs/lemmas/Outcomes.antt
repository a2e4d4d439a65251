-- Laws of outcomes and of evaluations.
use Rattle.std.proofs.Common.{◌≡◌, ℕ, zero, suc, ◌+◌, ◌-◌, ◌<◌, ◌≤◌, List, [], ◌∷◌, ◌++◌, length, map, drop, get_or, true, false, Option, Some, None, Result, Ok, Err, refl, sym, ap, subst, ◌∙◌, arith, cond, ℤ}
use Rattle.std.proofs.lemmas.List.{at_drop_more, at_drop_all}
use Rattle.plain_text.specs.declared.place.Place.{Place}
use Rattle.text_place.specs.declared.fault.Stop.{Stop}
use Rattle.text_place.specs.declared.fault.Stop.TheVariants.{Fault, NoMemory}
use Rattle.text_place.specs.declared.fault.FaultKind.{FaultKind}
use Rattle.text_place.specs.declared.fault.FaultKind.TheVariants.{TooDeep, UnknownName, NotInProfile}
use Rattle.scad_ast.specs.declared.expression.Expr.{Expr}
use Rattle.scad_ast.specs.declared.expression.Arg.{Arg}
use Rattle.scad_ast.specs.declared.expression.Suffix.{Suffix}
use Rattle.scad_ast.specs.declared.expression.Link.{Link}
use Rattle.scad_ast.specs.ExprView.{term_of, arg_of, suffix_of, link_of}
use Rattle.scad_ast.specs.Terms.{Term, Terms, no_terms, and_term, ArgTerms, no_args, and_named, and_special, and_positional, ArgTerm, NamedTerm, SpecialArgTerm, PositionalTerm, SuffixTerms, and_index, and_member, SuffixTerm, IndexTerm, MemberTerm, NameTerm, and_link, LinkTerm, place_of_term, terms_from, args_from, suffixes_from, links_from}
use Rattle.scad_value.specs.declared.bounded_value.BoundedValue.{BoundedValue}
use Rattle.scad_value.specs.BoundedView.{bounded_val}
use Rattle.scad_value.specs.Values.{Val, NumberVal, Vals, no_vals, and_val, vals_from, TruthVal, truth_of}
use Rattle.scad_value.specs.Operators.{AnswerOrFault, index_of, binary_of}
use Rattle.scad_scope.specs.Names.{Pairs}
use Rattle.scad_func.specs.Limits.{most_evaluations}
use Rattle.scad_func.specs.Meaning.{Outcome, Gives, Faults, then_with, or_fault, outcome_of_answer, count_elements, Env, ExpressionContext, value_at_next_depth, value_within, value_here, each_value, each_suffix, visible_variable}
use Rattle.scad_value.specs.Answers.{member_of, wants_right}
use Rattle.scad_func.specs.Steps.{all_values, argument_of, suffix_value, link_value}
use Rattle.scad_definitions.specs.ArgumentsView.{IsFaultAt}
use Rattle.scad_func.specs.View.{MeetsOutcome}
use Rattle.scad_value.specs.AnswerView.{MeetsAnswerAt}
use Rattle.scad_func.proofs.Calls.{before, in_front}

-- what was said about an outcome holds for an equal one
pub meets_along : (r : Result BoundedValue Stop) (n : ℕ) (a b : Outcome Val) → a ≡ b → MeetsOutcome bounded_val r n b → MeetsOutcome bounded_val r n a
meets_along r n a b e h = subst (λ o. MeetsOutcome bounded_val r n o) (sym e) h

-- an operator's answer is an outcome
pub meets_answer : (r : Result BoundedValue Stop) (n : ℕ) (answer : AnswerOrFault Val) (at : Place) → MeetsAnswerAt r answer
    at → MeetsOutcome bounded_val r n (outcome_of_answer answer at n)
meets_answer (Ok v) n answer at h = ap (λ a. outcome_of_answer a at n) h
meets_answer (Err (Fault fault)) n answer at h = ap (λ a. outcome_of_answer a at n) h.0 ∙ ap (λ p. Faults fault.kind p)
    (sym h.1)
meets_answer (Err NoMemory) n answer at h = tt

-- a step's fault is that of all steps, and what it gives goes on
module _ {A B C D : Type 0} (see : A → B) (all : C → D) (out : Outcome B) (go : ℕ → B → Outcome D) where
  pub fault_goes : (s : Stop) (m n : ℕ) → MeetsOutcome see (Err s) m out → MeetsOutcome all (Err s) n (then_with out go)
  fault_goes (Fault fault) m n h = ap (λ o. then_with o go) h
  fault_goes NoMemory m n h = tt

  pub value_goes : (r : Result C Stop) (n turns : ℕ) (x : B) → out ≡ Gives turns x → MeetsOutcome all r n (go turns x)
      → MeetsOutcome all r n (then_with out go)
  value_goes r n turns x e h = subst (λ o. MeetsOutcome all r n (then_with o go)) (sym e) h

-- evaluations
pub evaluated_deeper : (d calls : ℕ) (env : Env) (bindings : Pairs Val) (e : Term) (turns : ℕ) → d < most_evaluations
    → value_within (most_evaluations - d) false calls env bindings e turns
    ≡ value_here (record { at_next_depth = value_within (most_evaluations - (d + 1)); calls_left = calls; env = env; bindings = bindings }) e turns
unfolding value_within
evaluated_deeper d calls env bindings e turns h =
    let k : most_evaluations - d ≡ suc (most_evaluations - (d + 1)) = omega arith in ap (λ n. value_within n false calls env bindings e turns) k

pub evaluated_too_deep : (d calls : ℕ) (env : Env) (bindings : Pairs Val) (e : Term) (turns : ℕ) → d ≡ most_evaluations
    → value_within (most_evaluations - d) false calls env bindings e turns ≡ Faults TooDeep (place_of_term e)
unfolding value_within
evaluated_too_deep d calls env bindings e turns h =
    let k : most_evaluations - d ≡ 0 = omega arith in ap (λ n. value_within n false calls env bindings e turns) k

evaluated_counted : (n calls : ℕ) (env : Env) (bindings : Pairs Val) (e : Term) (turns : ℕ)
    → value_within n true calls env bindings e turns ≡ count_elements (place_of_term e) (value_within n false calls env bindings e turns)
unfolding value_within
evaluated_counted zero calls env bindings e turns = refl
evaluated_counted (suc n) calls env bindings e turns = refl

pub value_counted : (r : Result BoundedValue Stop) (n k t m calls : ℕ) (env : Env) (bindings : Pairs Val) (e : Term) (v : Val) (at : Place)
    → at ≡ place_of_term e
    → value_within n false calls env bindings e t ≡ Gives m v → MeetsOutcome bounded_val r k (count_elements at (Gives m v)) → MeetsOutcome bounded_val r k
    (value_within n true calls env bindings e t)
value_counted r n k t m calls env bindings e v at p h told =
    meets_along r k _ _ (evaluated_counted n calls env bindings e t ∙ ap (count_elements (place_of_term e)) h)
    (subst (λ at. MeetsOutcome bounded_val r k (count_elements at (Gives m v))) p told)

pub fault_counted : (s : Stop) (n k m t calls : ℕ) (env : Env) (bindings : Pairs Val) (e : Term) → MeetsOutcome bounded_val (Err s) m
    (value_within n false calls env bindings e t)
    → MeetsOutcome bounded_val (Err s) k (value_within n true calls env bindings e t)
fault_counted (Fault fault) n k m t calls env bindings e h = evaluated_counted n calls env bindings e t ∙ ap
    (count_elements (place_of_term e)) h
fault_counted NoMemory n k m t calls env bindings e h = tt

-- lists of values
before_more : (front : List Val) (v : Val) (vs : Vals) → before front (and_val v vs) ≡ before
    (front ++ v ∷ []) vs
before_more [] v vs = refl
before_more (x ∷ front) v vs = ap (and_val x) (before_more front v vs)

pub before_none : (front : List Val) → before front no_vals ≡ vals_from front
before_none [] = refl
before_none (x ∷ front) = ap (and_val x) (before_none front)

pub front_more : (front : List Val) (v : Val) (out : Outcome Vals)
    → in_front front (then_with out (λ turns vs. Gives turns (and_val v vs))) ≡ in_front (front ++ v ∷ []) out
front_more front v (Gives turns vs) = ap (Gives turns) (before_more front v vs)
front_more front v (Faults kind at) = refl

-- one value more of a list of expressions
module _ (here : ExpressionContext) (start : Outcome Vals) (front after : List Val)
    (es : Terms) where
  pub values_more : (e : Term) (rest : Terms) (turns then : ℕ) (v : Val) → start ≡ in_front front
      (each_value here es turns)
      → es ≡ and_term e rest → value_at_next_depth here true e turns ≡ Gives then v → after ≡ front ++ v ∷ []
      → start ≡ in_front after (each_value here rest then)
  values_more e rest turns then v s same h a =
      s ∙ ap (λ t. in_front front (each_value here t turns)) same
      ∙ ap (λ o. in_front front (then_with o (λ turns v. then_with (each_value here rest turns)
      (λ turns vs. Gives turns (and_val v vs))))) h
      ∙ front_more front v (each_value here rest then)
      ∙ ap (λ l. in_front l (each_value here rest then)) (sym a)

  pub values_end : (turns : ℕ) → start ≡ in_front front (each_value here es turns) → es ≡ no_terms
      → start ≡ Gives turns (vals_from front)
  values_end turns s same =
      s ∙ ap (λ t. in_front front (each_value here t turns)) same ∙ ap (Gives turns)
      (before_none front)

-- what stands at a place in a list, and the list's end
pub terms_here : (xs : List Expr) (i : ℕ) (x : Expr) → i < length xs → x ≡ get_or xs i x
    → terms_from (map term_of (drop i xs)) ≡ and_term (term_of x) (terms_from (map term_of (drop (i + 1) xs)))
terms_here xs i x h e = at_drop_more (λ l. terms_from (map term_of l)) xs i x h
    ∙ ap (λ y. and_term (term_of y) (terms_from (map term_of (drop (i + 1) xs)))) (sym e)

pub terms_end : (xs : List Expr) (i : ℕ) → length xs ≤ i → terms_from (map term_of (drop i xs)) ≡ no_terms
terms_end xs i h = at_drop_all (λ l. terms_from (map term_of l)) xs i h

-- an argument and those behind it
abbrev pub and_arg : ArgTerm → ArgTerms → ArgTerms
and_arg (NamedTerm at name value) rest = and_named at name value rest
and_arg (SpecialArgTerm at name value) rest = and_special at name value rest
and_arg (PositionalTerm value) rest = and_positional value rest

args_cons : (a : ArgTerm) (as_ : List ArgTerm) → args_from (a ∷ as_) ≡ and_arg a (args_from as_)
args_cons (NamedTerm at name value) as_ = refl
args_cons (SpecialArgTerm at name value) as_ = refl
args_cons (PositionalTerm value) as_ = refl

pub args_here : (xs : List Arg) (i : ℕ) (x : Arg) → i < length xs → x ≡ get_or xs i x
    → args_from (map arg_of (drop i xs)) ≡ and_arg (arg_of x) (args_from (map arg_of (drop (i + 1) xs)))
args_here xs i x h e = at_drop_more (λ l. args_from (map arg_of l)) xs i x h
    ∙ ap (λ y. args_from (arg_of y ∷ map arg_of (drop (i + 1) xs))) (sym e)
    ∙ args_cons (arg_of x) (map arg_of (drop (i + 1) xs))

pub args_end : (xs : List Arg) (i : ℕ) → length xs ≤ i → args_from (map arg_of (drop i xs)) ≡ no_args
args_end xs i h = at_drop_all (λ l. args_from (map arg_of l)) xs i h

values_of_arg : (a : ArgTerm) (rest : ArgTerms) → all_values (and_arg a rest) ≡ and_term (argument_of a)
    (all_values rest)
values_of_arg (NamedTerm at name value) rest = refl
values_of_arg (SpecialArgTerm at name value) rest = refl
values_of_arg (PositionalTerm value) rest = refl

-- the values of arguments, of which the first one is given
pub values_here : (xs : List Arg) (i : ℕ) (x : Arg) → i < length xs → x ≡ get_or xs i x → (e : Term) → e ≡ argument_of (arg_of x)
    → all_values (args_from (map arg_of (drop i xs))) ≡ and_term e (all_values (args_from (map arg_of (drop (i + 1) xs))))
values_here xs i x h is e same =
    ap all_values (args_here xs i x h is) ∙ values_of_arg (arg_of x) (args_from (map arg_of (drop (i + 1) xs)))
    ∙ ap (λ e. and_term e (all_values (args_from (map arg_of (drop (i + 1) xs))))) (sym same)

-- a suffix and those behind it
abbrev pub and_suffix : SuffixTerm → SuffixTerms → SuffixTerms
and_suffix (IndexTerm at index) rest = and_index at index rest
and_suffix (MemberTerm at name name_at) rest = and_member at name name_at rest

pub suffixes_cons : (s : SuffixTerm) (ss : List SuffixTerm) → suffixes_from (s ∷ ss) ≡ and_suffix s
    (suffixes_from ss)
suffixes_cons (IndexTerm at index) ss = refl
suffixes_cons (MemberTerm at name name_at) ss = refl

pub suffixes_here : (xs : List Suffix) (i : ℕ) (x : Suffix) → i < length xs → x ≡ get_or xs i x
    → suffixes_from (map suffix_of (drop i xs)) ≡ and_suffix (suffix_of x)
    (suffixes_from (map suffix_of (drop (i + 1) xs)))
suffixes_here xs i x h e = at_drop_more (λ l. suffixes_from (map suffix_of l)) xs i x h
    ∙ ap (λ y. suffixes_from (suffix_of y ∷ map suffix_of (drop (i + 1) xs))) (sym e)
    ∙ suffixes_cons (suffix_of x) (map suffix_of (drop (i + 1) xs))

then_assoc : {A B C : Type 0} (out : Outcome A) (f : ℕ → A → Outcome B) (g : ℕ → B → Outcome C)
    → then_with out (λ turns a. then_with (f turns a) g) ≡ then_with (then_with out f) g
then_assoc (Gives turns a) f g = refl
then_assoc (Faults kind at) f g = refl

fault_assoc : {A B C : Type 0} (o : Option A) (kind : FaultKind) (at : Place) (f : A → Outcome B)
    (g : ℕ → B → Outcome C)
    → or_fault o kind at (λ a. then_with (f a) g) ≡ then_with (or_fault o kind at f) g
fault_assoc None kind at f g = refl
fault_assoc (Some a) kind at f g = refl

pub suffix_step : (here : ExpressionContext) (v : Val) (s : SuffixTerm) (rest : SuffixTerms)
    (turns : ℕ)
    → each_suffix here v (and_suffix s rest) turns
    ≡ then_with (suffix_value here v s turns) (λ turns x. each_suffix here x rest turns)
suffix_step here v (IndexTerm at index) rest turns = then_assoc
    (value_at_next_depth here true index turns) _ _
suffix_step here v (MemberTerm at name name_at) rest turns = fault_assoc {A = ℤ} {B = Val}
    (member_of name) NotInProfile name_at
    (λ n. outcome_of_answer (index_of v (NumberVal n)) at turns) (λ turns x. each_suffix here x rest turns)

-- an operator and those behind it
pub links_here : (xs : List Link) (i : ℕ) (x : Link) → i < length xs → x ≡ get_or xs i x
    → links_from (map link_of (drop i xs)) ≡ and_link (link_of x).op (link_of x).at (link_of x).right
    (links_from (map link_of (drop (i + 1) xs)))
links_here xs i x h e = at_drop_more (λ l. links_from (map link_of l)) xs i x h
    ∙ ap (λ y. links_from (link_of y ∷ map link_of (drop (i + 1) xs))) (sym e)

-- one step of dynamic bindings of suffixes or of operators
module _ (start : Outcome Val) (go : ℕ → Val → Outcome Val) (now : Outcome Val) (step : Outcome Val)
    (s : start ≡ now) (h : now ≡ then_with step go) where
  pub step_more : (then : ℕ) (x : Val) → step ≡ Gives then x → start ≡ go then x
  step_more then x e = s ∙ h ∙ ap (λ o. then_with o go) e

  pub step_fault : (stop : Stop) (m n : ℕ) → MeetsOutcome bounded_val (Err stop) m step → MeetsOutcome bounded_val (Err stop) n start
  step_fault (Fault fault) m n t = s ∙ h ∙ ap (λ o. then_with o go) t
  step_fault NoMemory m n t = tt

-- a variable as an operand
pub name_then : (here : ExpressionContext) (e : Term) (place : Place) (name : List ℕ) (turns : ℕ) (found : Option Val)
    (go : ℕ → Val → Outcome Val) → e ≡ NameTerm place name → visible_variable here.env name ≡ found
    → then_with (value_here here e turns) go ≡ or_fault found UnknownName place (go turns)
name_then here e place name turns found go s v =
    ap (λ t. then_with (value_here here t turns) go) s
    ∙ ap (λ o. then_with (or_fault o UnknownName place (λ x. Gives turns x)) go) v ∙ by_found found
  where
    by_found : (o : Option Val) → then_with (or_fault o UnknownName place (λ x. Gives turns x)) go
        ≡ or_fault o UnknownName place (go turns)
    by_found None = refl
    by_found (Some x) = refl

-- a fault at a place
pub fault_at : {A B : Type 0} (see : A → B) (stop : Stop) (n : ℕ) (kind : FaultKind) (at : Place) (out : Outcome B) → out ≡ Faults kind at
    → IsFaultAt stop kind at → MeetsOutcome see (Err stop) n out
fault_at see (Fault fault) n kind at out e h = e ∙ ap (λ k. Faults k at) (sym h.0) ∙ ap (Faults fault.kind) (sym h.1)
fault_at see NoMemory n kind at out e h = absurd h

-- an operator that wants its right side
pub link_wants : (here : ExpressionContext) (v : Val) (l : LinkTerm) (turns : ℕ) →
    wants_right l.op v ≡ true
    → link_value here v l turns ≡ then_with (value_here here l.right turns)
    (λ turns w. outcome_of_answer (binary_of l.op v w) l.at turns)
link_wants here v l turns w = ap (λ b. cond b
    (then_with (value_here here l.right turns) (λ turns w. outcome_of_answer (binary_of l.op v w) l.at turns))
    (Gives turns (TruthVal (truth_of v)))) w
