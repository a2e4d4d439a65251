-- An argument that is given by a name is read behind the `=`, and any other is read as an expression.
use Rattle.std.proofs.Common.{◌≡◌, ◌≢◌, ℕ, zero, suc, List, [], ◌∷◌, Bool, true, false, cond, Ok, Some, None, Option, refl, ap, ◌&&◌}
use Rattle.scad_lexer.specs.declared.token.Token.{Token}
use Rattle.scad_ast.specs.Terms.{PositionalTerm}
use Rattle.scad_grammar.specs.declared.SyntaxFault.{SyntaxFault}
use Rattle.scad_grammar.specs.Classes.{argument_names, assign_sign, has_class_in, has_class}
use Rattle.scad_grammar.specs.Faults.{TokenReader}
use Rattle.scad_grammar.specs.Grammar.{named_argument_term}
use Rattle.scad_grammar.specs.Reading.{Read, then_read, image_read, two_ahead}
use Rattle.scad_grammar.specs.Reads.{arg_in, expr_read}
use Rattle.scad_expressions.specs.Views.{value_assigned}

pub both_hold : (b c : Bool) → (b && c) ≡ true → (b ≡ true) × (c ≡ true)
both_hold true true e = (refl, refl)
both_hold true false e = absurd (cc)
both_hold false c e = absurd (cc)

-- what is read where a token of these classes and a `=` stand, and where they don't
module _ {X Y : Type 0} (make : Token → X → Y) (classes : List ℕ) (r : TokenReader X) (q : TokenReader Y) where
  assigned_here : (y : Token) (l : List Token) (other : Read Token SyntaxFault Y) (t : Token) (us : List Token) (b : Bool) → cond {A = Option (Token × List Token)} b (Some (y, l)) None ≡ Some (t, us)
      → cond b (then_read (r l) (λ x vs. Ok (make y x, vs))) other ≡ then_read (r us) (λ x vs. Ok (make t x, vs))
  assigned_here y l other t us true e =
      let pair : ◌≡◌ {A = Token × List Token} (y, l) (t, us) = cc in
      ap (λ (p : Token × List Token). then_read (r p.1) (λ x vs. Ok (make p.0 x, vs))) pair
  assigned_here y l other t us false e = absurd (cc)

  pub assigned_ahead : (ts : List Token) (t : Token) (us : List Token) → value_assigned classes ts ≡ Some (t, us)
      → two_ahead (λ t u x. make t x) (has_class_in classes) (has_class assign_sign) r q ts ≡ then_read (r us) (λ x vs. Ok (make t x, vs))
  assigned_ahead [] t us e = absurd (cc)
  assigned_ahead (y ∷ []) t us e = absurd (cc)
  assigned_ahead (y ∷ z ∷ l) t us e = assigned_here y l (q (y ∷ z ∷ l)) t us (has_class_in classes y && has_class assign_sign z) e

  none_here : (y : Token) (l : List Token) (one other : Read Token SyntaxFault Y) (b : Bool) → cond {A = Option (Token × List Token)} b (Some (y, l)) None ≡ None → cond b one other ≡ other
  none_here y l one other true e = absurd (cc)
  none_here y l one other false e = refl

  pub none_ahead : (ts : List Token) → value_assigned classes ts ≡ None → two_ahead (λ t u x. make t x) (has_class_in classes) (has_class assign_sign) r q ts ≡ q ts
  none_ahead [] e = refl
  none_ahead (y ∷ []) e = refl
  none_ahead (y ∷ z ∷ l) e = none_here y l (then_read (r l) (λ x vs. Ok (make y x, vs))) (q (y ∷ z ∷ l)) (has_class_in classes y && has_class assign_sign z) e

pub arg_given : (d : ℕ) (ts : List Token) (t : Token) (us : List Token) → d ≢ 0 → value_assigned argument_names ts ≡ Some (t, us)
    → arg_in d (expr_read d) ts ≡ image_read (named_argument_term t) (expr_read d) us
arg_given zero ts t us n e = absurd (n refl)
arg_given (suc d) ts t us n e = assigned_ahead named_argument_term argument_names (expr_read (suc d)) (image_read PositionalTerm (expr_read (suc d))) ts t us e

pub arg_positional : (d : ℕ) (ts : List Token) → d ≢ 0 → value_assigned argument_names ts ≡ None → arg_in d (expr_read d) ts ≡ image_read PositionalTerm (expr_read d) ts
arg_positional zero ts n e = absurd (n refl)
arg_positional (suc d) ts n e = none_ahead named_argument_term argument_names (expr_read (suc d)) (image_read PositionalTerm (expr_read (suc d))) ts e
