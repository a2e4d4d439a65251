-- A chain is an operand, and then the operators behind it level by level.
use Rattle.std.proofs.Common.{◌≡◌, ℕ, zero, suc, ◌+◌, ◌-◌, ◌<◌, List, [], ◌∷◌, ◌++◌, Bool, true, false, cond, Ok, Err, refl, ap, ◌∙◌, nat_eq, arith}
use Rattle.scad_lexer.specs.declared.token.Token.{Token}
use Rattle.scad_ast.specs.Terms.{Term, LinkTerm}
use Rattle.scad_grammar.specs.declared.SyntaxFault.{SyntaxFault}
use Rattle.scad_grammar.specs.Classes.{has_class_in, is_class_among, token_class}
use Rattle.scad_grammar.specs.Faults.{TokenReader, token_read}
use Rattle.scad_grammar.specs.Grammar.{levels, chain_term, link_term}
use Rattle.scad_grammar.specs.Reading.{Read, then_read, next_is, image_read, sequence_read, repeated_times, repeated_read}
use Rattle.scad_grammar.specs.Reads.{chain_read}
use Rattle.scad_expressions.specs.declared.class.Level.{Level}
use Rattle.scad_expressions.specs.declared.class.Level.TheVariants.{Or, And, Equal, Order, Sum, Product}
use Rattle.scad_expressions.specs.Climbing.{climb_read}
use Rattle.scad_expressions.specs.TokenClasses.{classes_of_levels, binary_signs, operators_at, next_looser_level, levels_below, levels_at, tighter_levels}
use Rattle.scad_expressions.proofs.Levels.{same_level, looser_step}

one_by_one : {A B C : Type 0} (q : Read Token SyntaxFault A) (f : A → TokenReader B) (g : B → TokenReader C)
    → then_read (then_read q f) g ≡ then_read q (λ x us. then_read (f x us) g)
one_by_one (Ok p) f g = refl
one_by_one (Err e) f g = refl

as_it_is : {A : Type 0} (q : Read Token SyntaxFault A) → q ≡ then_read q (λ x us. Ok (x, us))
as_it_is (Ok p) = refl
as_it_is (Err e) = refl

-- an operand, and what is climbed behind it
pub chain_climbs : (levels : List (List ℕ)) (u : TokenReader Term) (ts : List Token)
    → chain_read levels u ts ≡ then_read (u ts) (climb_read levels u)
chain_climbs [] u ts = as_it_is (u ts)
chain_climbs (ops ∷ levels) u ts =
    ap (λ q. then_read q (λ a us. then_read (repeated_read (has_class_in ops) (sequence_read link_term (token_read (has_class_in ops)) (chain_read levels u)) us) (λ b vs. Ok (chain_term a b, vs)))) (chain_climbs levels u ts)
    ∙ one_by_one (u ts) (climb_read levels u) (λ a us. then_read (repeated_read (has_class_in ops) (sequence_read link_term (token_read (has_class_in ops)) (chain_read levels u)) us) (λ b vs. Ok (chain_term a b, vs)))

pub chain_stops : (levels : List (List ℕ)) (u : TokenReader Term) (ts : List Token) (x : SyntaxFault × List Token)
    → u ts ≡ Err x → chain_read levels u ts ≡ Err x
chain_stops levels u ts x e = chain_climbs levels u ts ∙ ap (λ q. then_read q (climb_read levels u)) e

-- no item stands here
pub many_none : {A : Type 0} (test : Token → Bool) (r : TokenReader A) (ts : List Token) → next_is test ts ≡ false
    → repeated_read test r ts ≡ Ok ([], ts)
unfolding repeated_read repeated_times
many_none test r [] e = refl
many_none test r (t ∷ ts) e = rw e refl

-- a class of none of two lists
not_either : (b : Bool) (xs ys : List ℕ) (k : ℕ)
    → (is_class_among (xs ++ ys) k ≡ false → (is_class_among xs k ≡ false) × (is_class_among ys k ≡ false))
    → cond b true (is_class_among (xs ++ ys) k) ≡ false → (cond b true (is_class_among xs k) ≡ false) × (is_class_among ys k ≡ false)
not_either true xs ys k ih e = absurd (cc)
not_either false xs ys k ih e = ih e

listed_apart : (xs ys : List ℕ) (k : ℕ) → is_class_among (xs ++ ys) k ≡ false
    → (is_class_among xs k ≡ false) × (is_class_among ys k ≡ false)
listed_apart [] ys k e = (refl, e)
listed_apart (c ∷ xs) ys k e = not_either (nat_eq k c) xs ys k (listed_apart xs ys k) e

pub starts_apart : (xs ys : List ℕ) (ts : List Token) → next_is (has_class_in (xs ++ ys)) ts ≡ false
    → (next_is (has_class_in xs) ts ≡ false) × (next_is (has_class_in ys) ts ≡ false)
starts_apart xs ys [] e = (refl, refl)
starts_apart xs ys (t ∷ ts) e = listed_apart xs ys (token_class t.kind) e

-- no operator of these levels stands here
pub climbs_none : (ls : List (List ℕ)) (u : TokenReader Term) (x : Term) (ts : List Token)
    → next_is (has_class_in (classes_of_levels ls)) ts ≡ false → climb_read ls u x ts ≡ Ok (x, ts)
climbs_none [] u x ts e = refl
climbs_none (ops ∷ ls) u x ts e =
    let p = starts_apart ops (classes_of_levels ls) ts e in
    rw (climbs_none ls u x ts p.1, many_none (has_class_in ops) (sequence_read link_term (token_read (has_class_in ops)) (chain_read ls u)) ts p.0) refl

-- no operator of a level and of those that bind more tightly, where there is none at all
pub none_below : (ops : List ℕ) (ls : List (List ℕ)) (ts : List Token)
    → next_is (has_class_in (classes_of_levels (ops ∷ ls))) ts ≡ false → next_is (has_class_in (classes_of_levels ls)) ts ≡ false
none_below ops ls ts e = (starts_apart ops (classes_of_levels ls) ts e).1

pub none_at : (level : Level) (ts : List Token) → next_is (has_class_in binary_signs) ts ≡ false
    → next_is (has_class_in (classes_of_levels (levels_at level))) ts ≡ false
none_at Or ts e = e
none_at And ts e = none_below (operators_at Or) (levels_at And) ts e
none_at Equal ts e = none_below (operators_at And) (levels_at Equal) ts (none_below (operators_at Or) (levels_at And) ts e)
none_at Order ts e =
    none_below (operators_at Equal) (levels_at Order) ts (none_below (operators_at And) (levels_at Equal) ts (none_below (operators_at Or) (levels_at And) ts e))
none_at Sum ts e =
    none_below (operators_at Order) (levels_at Sum) ts (none_below (operators_at Equal) (levels_at Order) ts
    (none_below (operators_at And) (levels_at Equal) ts (none_below (operators_at Or) (levels_at And) ts e)))
none_at Product ts e =
    none_below (operators_at Sum) (levels_at Product) ts (none_below (operators_at Order) (levels_at Sum) ts
    (none_below (operators_at Equal) (levels_at Order) ts (none_below (operators_at And) (levels_at Equal) ts
    (none_below (operators_at Or) (levels_at And) ts e))))

-- no operator stands here
pub climb_none : (u : TokenReader Term) (x : Term) (ts : List Token) → next_is (has_class_in binary_signs) ts ≡ false → climb_read levels u x ts ≡ Ok (x, ts)
climb_none u x ts e = climbs_none levels u x ts e

-- the operators of a level behind those that bind more tightly
pub climb_step : (at : Level) (u : TokenReader Term) (x first : Term) (ts rest : List Token) → climb_read (levels_below at) u x ts ≡ Ok (first, rest)
    → climb_read (levels_at at) u x ts ≡ image_read (chain_term first) (repeated_read (has_class_in (operators_at at)) (sequence_read link_term (token_read (has_class_in (operators_at at))) (chain_read (levels_below at) u))) rest
climb_step at u x first ts rest e =
    ap (λ q. then_read q (λ a us. then_read (repeated_read (has_class_in (operators_at at)) (sequence_read link_term (token_read (has_class_in (operators_at at))) (chain_read (levels_below at) u)) us) (λ b vs. Ok (chain_term a b, vs)))) e

pub climb_step_none : (at : Level) (u : TokenReader Term) (x first : Term) (ts rest : List Token) → climb_read (levels_below at) u x ts ≡ Ok (first, rest)
    → next_is (has_class_in (operators_at at)) rest ≡ false → climb_read (levels_at at) u x ts ≡ Ok (first, rest)
climb_step_none at u x first ts rest e none =
    climb_step at u x first ts rest e
    ∙ ap (λ (q : Read Token SyntaxFault (List LinkTerm)). then_read q (λ b vs. Ok (chain_term first b, vs))) (many_none (has_class_in (operators_at at)) _ rest none)

-- a fault among the operators of a level is one of all levels that bind less tightly
climb_stops_over : (n : ℕ) (at level : Level) (u : TokenReader Term) (x : Term) (ts : List Token) (y : SyntaxFault × List Token)
    → tighter_levels level ≡ suc (n + tighter_levels at) → climb_read (levels_at at) u x ts ≡ Err y → climb_read (levels_below level) u x ts ≡ Err y
climb_stops_over zero at level u x ts y g e =
    let next = looser_step at level (omega (arith, g)) in
    let same : level ≡ next_looser_level at = same_level level (next_looser_level at) (omega (arith, g, next.1)) in
    ap (λ (ls : List (List ℕ)). climb_read ls u x ts) (ap levels_below same ∙ next.0) ∙ e
climb_stops_over (suc n) at level u x ts y g e =
    let next = looser_step at level (omega (arith, g)) in
    climb_stops_over n (next_looser_level at) level u x ts y (omega (arith, g, next.1))
    (ap (λ q. then_read q (λ a us. then_read (repeated_read (has_class_in (operators_at (next_looser_level at))) (sequence_read link_term (token_read (has_class_in (operators_at (next_looser_level at)))) (chain_read (levels_below (next_looser_level at)) u)) us) (λ b vs. Ok (chain_term a b, vs))))
    (ap (λ (ls : List (List ℕ)). climb_read ls u x ts) next.0 ∙ e))

pub climb_stops : (at level : Level) (u : TokenReader Term) (x : Term) (ts : List Token) (y : SyntaxFault × List Token)
    → tighter_levels at < tighter_levels level → climb_read (levels_at at) u x ts ≡ Err y → climb_read (levels_below level) u x ts ≡ Err y
climb_stops at level u x ts y less e = climb_stops_over (tighter_levels level - suc (tighter_levels at)) at level u x ts y (omega (arith, less)) e
