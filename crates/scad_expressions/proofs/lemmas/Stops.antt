-- A fault of a part goes on to what holds it, and what is read of a part is made into what holds it.
use Rattle.std.proofs.Common.{◌≡◌, List, ◌∷◌, map, Result, Ok, Err, IsErrAnd, IfOk, IfErr, Vec, Global, Bool, refl, sym, ap, ◌∙◌, subst}
use Rattle.std.specs.Borrow.{Bor}
use Rattle.std.specs.Global.{Box}
use Rattle.scad_lexer.specs.declared.token.Token.{Token}
use Rattle.scad_ast.specs.declared.expression.Expr.{Expr}
use Rattle.scad_ast.specs.declared.expression.Link.{Link}
use Rattle.scad_ast.specs.declared.expression.Suffix.{Suffix}
use Rattle.scad_ast.specs.Terms.{Term, LinkTerm, SuffixTerm}
use Rattle.scad_ast.specs.ExprView.{term_of, terms_of, link_of, suffix_of, arg_of, args_of}
use Rattle.scad_ast.specs.StatementView.{param_of, params_of, binder_of, binders_of, statement_of, statements_of}
use Rattle.scad_grammar.specs.declared.SyntaxFault.{SyntaxFault}
use Rattle.scad_grammar.specs.Classes.{open_parenthesis_sign, close_parenthesis_sign, has_class}
use Rattle.scad_grammar.specs.Faults.{TokenReader, token_read}
use Rattle.scad_grammar.specs.Reading.{Read, then_read}
use Rattle.scad_grammar.specs.Reads.{in_parentheses}
use Rattle.scad_expressions.specs.declared.next.Stopped.{Stopped}
use Rattle.scad_expressions.specs.declared.next.Stopped.TheVariants.{Fault, NoMemory}
use Rattle.scad_expressions.specs.Views.{GivesRead, plain_read, closed_read, IsClosedRead, IsBoxed}

-- a fault of a part is one of the whole
abbrev GoesOn : {A X : Type 0} → (A → X) → {B Y : Type 0} → (B → Y) → Type 0
GoesOn {A} {X} item {B} {Y} list =
    (s : Stopped) (q : Read Token SyntaxFault X) (r : Read Token SyntaxFault Y) → ((x : SyntaxFault × List Token) → q ≡ Err x → r ≡ Err x)
    → GivesRead (λ (p : A × Bor (List Token)). (item p.0, p.1.now)) (Err s) q → GivesRead (λ (p : B × Bor (List Token)). (list p.0, p.1.now)) (Err s) r

goes_on : {A X B Y : Type 0} (item : A → X) (list : B → Y) → GoesOn item list
goes_on item list (Fault fault at) q r h e = h (fault, at.now) e
goes_on item list NoMemory q r h e = tt

-- the same of what a `?` returns
pub stops : {A X B Y : Type 0} (item : A → X) (whole : B → Y) (given : Result (B × Bor (List Token)) Stopped) (s : Stopped) (q : Read Token SyntaxFault X) (r : Read Token SyntaxFault Y)
    → ((x : SyntaxFault × List Token) → q ≡ Err x → r ≡ Err x) → GivesRead (λ (p : A × Bor (List Token)). (item p.0, p.1.now)) (Err s) q → IsErrAnd given (λ y. y ≡ s)
    → GivesRead (λ (p : B × Bor (List Token)). (whole p.0, p.1.now)) given r
stops item whole (Ok p) s q r h g e = absurd e
stops item whole (Err y) s q r h g e = rw e (goes_on item whole s q r h g)

-- what is given by one reader is given by another that reads the same
pub same_read : {A X : Type 0} (item : A → X) (given : Result (A × Bor (List Token)) Stopped) (q r : Read Token SyntaxFault X) → q ≡ r
    → GivesRead (λ (p : A × Bor (List Token)). (item p.0, p.1.now)) given r → GivesRead (λ (p : A × Bor (List Token)). (item p.0, p.1.now)) given q
same_read item given q r e g = rw e g

-- the same where the whole is made of that part alone
pub made_stops : {A X B Y : Type 0} (item : A → X) (whole : B → Y) (make : X → Y) (given : Result (B × Bor (List Token)) Stopped) (s : Stopped) (q : Read Token SyntaxFault X)
    → GivesRead (λ (p : A × Bor (List Token)). (item p.0, p.1.now)) (Err s) q → IsErrAnd given (λ y. y ≡ s)
    → GivesRead (λ (p : B × Bor (List Token)). (whole p.0, p.1.now)) given (then_read q (λ x us. Ok (make x, us)))
made_stops {A} {X} item whole make given s q g e = stops item whole given s q (then_read q (λ x us. Ok (make x, us))) (λ x h. ap (λ (p : Read Token SyntaxFault X). then_read p (λ y us. Ok (make y, us))) h) g e

-- what is read with something that was read before it
pub with_gives : {A B X Y : Type 0} (item : B → X) (whole : A → B → Y) (before : A) (read : Result (B × Bor (List Token)) Stopped) (given : Result ((A × B) × Bor (List Token)) Stopped)
    (q : Read Token SyntaxFault X) (r : Read Token SyntaxFault Y)
    → ((x : B) (us : List Token) → q ≡ Ok (item x, us) → r ≡ Ok (whole before x, us)) → ((e : SyntaxFault × List Token) → q ≡ Err e → r ≡ Err e)
    → GivesRead (λ (p : B × Bor (List Token)). (item p.0, p.1.now)) read q
    → IfOk given (λ p. (p.0.0 ≡ before) × (read ≡ Ok (p.0.1, p.1))) → IfErr given (λ s. read ≡ Err s)
    → GivesRead (λ (p : (A × B) × Bor (List Token)). (whole p.0.0 p.0.1, p.1.now)) given r
with_gives {A} {B} {X} {Y} item whole before read (Ok p) q r more stop g ok err =
    let told = subst (λ (s : Result (B × Bor (List Token)) Stopped). GivesRead (λ (p : B × Bor (List Token)). (item p.0, p.1.now)) s q) ok.1 g in
    more p.0.1 p.1.now told ∙ ap (λ (a : A). Ok (whole a p.0.1, p.1.now)) (sym ok.0)
with_gives {A} {B} {X} {Y} item whole before read (Err (Fault fault at)) q r more stop g ok err =
    stop (fault, at.now) (subst (λ (s : Result (B × Bor (List Token)) Stopped). GivesRead (λ (p : B × Bor (List Token)). (item p.0, p.1.now)) s q) err g)
with_gives item whole before read (Err NoMemory) q r more stop g ok err = tt

-- what is read in a box
pub boxed_gives : {A X : Type 0} (item : A → X) (read : Result (A × Bor (List Token)) Stopped) (given : Result (Box A × Bor (List Token)) Stopped) (q : Read Token SyntaxFault X)
    → GivesRead (λ (p : A × Bor (List Token)). (item p.0, p.1.now)) read q → IsBoxed read given
    → GivesRead (λ (p : Box A × Bor (List Token)). (item p.0.value, p.1.now)) given q
boxed_gives {A} {X} item read (Ok p) q g h = subst (λ (s : Result (A × Bor (List Token)) Stopped). GivesRead (λ (p : A × Bor (List Token)). (item p.0, p.1.now)) s q) h g
boxed_gives {A} {X} item read (Err (Fault fault at)) q g h = subst (λ (s : Result (A × Bor (List Token)) Stopped). GivesRead (λ (p : A × Bor (List Token)). (item p.0, p.1.now)) s q) h g
boxed_gives item read (Err NoMemory) q g h = tt

-- what is read with a sign behind it
kept : {A X : Type 0} (item : A → X) (x : A) (q : Read Token SyntaxFault Token) (given : Result (A × Bor (List Token)) Stopped)
    → GivesRead plain_read given (then_read q (λ close us. Ok (x, us))) → GivesRead (λ (p : A × Bor (List Token)). (item p.0, p.1.now)) given (then_read q (λ close us. Ok (item x, us)))
kept {A} {X} item x (Ok c) (Ok p) g = ap (λ (r : Read Token SyntaxFault A). then_read r (λ y us. Ok (item y, us))) g
kept {A} {X} item x (Ok c) (Err (Fault fault at)) g = ap (λ (r : Read Token SyntaxFault A). then_read r (λ y us. Ok (item y, us))) g
kept {A} {X} item x (Err e) (Ok p) g = ap (λ (r : Read Token SyntaxFault A). then_read r (λ y us. Ok (item y, us))) g
kept {A} {X} item x (Err e) (Err (Fault fault at)) g = ap (λ (r : Read Token SyntaxFault A). then_read r (λ y us. Ok (item y, us))) g
kept item x q (Err NoMemory) g = tt

pub closed_gives : {A X : Type 0} (item : A → X) (test : Token → Bool) (read given : Result (A × Bor (List Token)) Stopped) (q : Read Token SyntaxFault X)
    → GivesRead (λ (p : A × Bor (List Token)). (item p.0, p.1.now)) read q → IsClosedRead test read given
    → GivesRead (λ (p : A × Bor (List Token)). (item p.0, p.1.now)) given (closed_read test q)
closed_gives item test (Ok p) given q g h = rw g (kept item p.0 (token_read test p.1.now) given h)
closed_gives item test (Err (Fault fault at)) given q g h = rw (h, g) refl
closed_gives item test (Err NoMemory) given q g h = rw h tt

-- the sign stands behind a part and behind what is made of it alike
pub closed_made : {X Y : Type 0} (test : Token → Bool) (make : X → Y) (q : Read Token SyntaxFault X)
    → closed_read test (then_read q (λ x us. Ok (make x, us))) ≡ then_read (closed_read test q) (λ x us. Ok (make x, us))
closed_made {X} {Y} test make (Ok p) = go (token_read test p.1)
  where
    go : (q : Read Token SyntaxFault Token) → then_read {B = Y} q (λ close us. Ok (make p.0, us)) ≡ then_read (then_read {B = X} q (λ close us. Ok (p.0, us))) (λ x us. Ok (make x, us))
    go (Ok c) = refl
    go (Err e) = refl
closed_made test make (Err e) = refl

as_it_is : {X : Type 0} (q : Read Token SyntaxFault X) → then_read q (λ x us. Ok (x, us)) ≡ q
as_it_is (Ok p) = refl
as_it_is (Err e) = refl

-- what stands behind an opening parenthesis
pub parenthesized : {X : Type 0} (r : TokenReader X) (ts : List Token) (t : Token) (us : List Token) → token_read (has_class open_parenthesis_sign) ts ≡ Ok (t, us)
    → in_parentheses r ts ≡ closed_read (has_class close_parenthesis_sign) (r us)
parenthesized {X} r ts t us e =
    ap (λ (q : Read Token SyntaxFault Token). then_read {B = X} q (λ mark vs. then_read (closed_read (has_class close_parenthesis_sign) (r vs)) (λ x ws. Ok (x, ws)))) e
    ∙ as_it_is (closed_read (has_class close_parenthesis_sign) (r us))

-- where memory ran out, nothing is said of what was to be read
pub memory_ran_out : {A X : Type 0} (item : A → X) (given : Result (A × Bor (List Token)) Stopped) (q : Read Token SyntaxFault X) → IsErrAnd given (λ s. s ≡ NoMemory)
    → GivesRead (λ (p : A × Bor (List Token)). (item p.0, p.1.now)) given q
memory_ran_out item (Ok p) q h = absurd h
memory_ran_out item (Err (Fault fault at)) q h = absurd (cc)
memory_ran_out item (Err NoMemory) q h = tt

-- what a token that is held, and the mark and the sides of a choice stand for
abbrev pub token_of : Bor Token → Token
token_of t = t.now

abbrev pub sides_in : (Bor Token × Expr) × Expr → Token × (Term × Term)
sides_in sides = (sides.0.0.now, (term_of sides.0.1, term_of sides.1))

-- what a list in memory stands for
abbrev pub links_in : Vec Link Global → List LinkTerm
links_in links = map link_of links.items

abbrev pub suffixes_in : Vec Suffix Global → List SuffixTerm
suffixes_in suffixes = map suffix_of suffixes.items

-- and a first one with more of them
abbrev pub some_links_in : Link × Vec Link Global → List LinkTerm
some_links_in links = link_of links.0 ∷ links_in links.1

abbrev pub some_suffixes_in : Suffix × Vec Suffix Global → List SuffixTerm
some_suffixes_in suffixes = suffix_of suffixes.0 ∷ suffixes_in suffixes.1

pub operand_goes : GoesOn term_of term_of
operand_goes = goes_on term_of term_of

pub item_goes : GoesOn term_of terms_of
item_goes = goes_on term_of terms_of

pub link_goes : GoesOn link_of links_in
link_goes = goes_on link_of links_in

pub first_link_goes : GoesOn link_of some_links_in
first_link_goes = goes_on link_of some_links_in

pub suffix_goes : GoesOn suffix_of suffixes_in
suffix_goes = goes_on suffix_of suffixes_in

pub first_suffix_goes : GoesOn suffix_of some_suffixes_in
first_suffix_goes = goes_on suffix_of some_suffixes_in

pub arg_goes : GoesOn arg_of args_of
arg_goes = goes_on arg_of args_of

pub param_goes : GoesOn param_of params_of
param_goes = goes_on param_of params_of

pub binder_goes : GoesOn binder_of binders_of
binder_goes = goes_on binder_of binders_of

pub statement_goes : GoesOn statement_of statements_of
statement_goes = goes_on statement_of statements_of
