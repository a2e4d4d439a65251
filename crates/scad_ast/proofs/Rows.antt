-- Programs that are written out, with the places that they hold.
use Rattle.std.proofs.Common.{◌≡◌, ℕ, List, [], ◌∷◌, refl, arith, codes}
use Rattle.plain_text.specs.declared.place.Place.{Place}
use Rattle.scad_ast.specs.declared.operator.BinaryOp.TheVariants.{Divide}
use Rattle.scad_ast.specs.declared.operator.UnaryOp.TheVariants.{Negate}
use Rattle.scad_ast.specs.declared.operator.Modifier.TheVariants.{Root}
use Rattle.scad_ast.specs.Terms.{StatementTerm, AssignmentTerm, FunctionTerm, InstanceStatement, AnInstance, ForTerm, ModuleCallTerm, EmptyBody, InstanceBody, PlainTerm, DefaultTerm, NumberTerm, NameTerm, RangeTerm, UnaryTerm, ChainTerm, PostfixTerm, ChoiceTerm, NamedTerm, no_suffixes, and_index, and_member, no_links, and_link}
use Rattle.scad_ast.specs.Places.{places_of_program, HoldsPlace}

-- a place on the first line
abbrev on : ℕ → Place
on column = record { line = 1; column = column }

-- `x=-a/0;`: of the name, the quotient's first token, the sign, its operand, the `/` and the `0`
abbrev quotient : List StatementTerm
quotient =
    AssignmentTerm (on 1) (codes "x")
    (ChainTerm (on 3) (UnaryTerm (on 3) Negate (NameTerm (on 4) (codes "a"))) (and_link Divide (on 5) (NumberTerm (on 6) 0) no_links))
    ∷ []

quotient_places : places_of_program quotient ≡ on 1 ∷ on 3 ∷ on 3 ∷ on 4 ∷ on 5 ∷ on 6 ∷ []
quotient_places = refl

-- a division by zero stands at the operator; nothing stands at the `;`
quotient_holds_operator : HoldsPlace quotient (on 5)
quotient_holds_operator = (4, omega arith, refl)

-- `!for(i=[0:v[1].z])cube(size=i?1:2);`
abbrev loop : List StatementTerm
loop =
    InstanceStatement (AnInstance (on 1) (record { at = on 1; modifier = Root } ∷ [])
    (ForTerm (on 2)
    (record {
      at = on 6;
      name = codes "i";
      values = RangeTerm (on 8) (NumberTerm (on 9) 0) (PostfixTerm (on 11) (NameTerm (on 11) (codes "v")) (and_index (on 12) (NumberTerm (on 13) 1) (and_member (on 15) (codes "z") (on 16) no_suffixes)));
    } ∷ [])
    (InstanceBody (AnInstance (on 19) [] (ModuleCallTerm (on 19) (codes "cube") (NamedTerm (on 24) (codes "size") (ChoiceTerm (on 29) (NameTerm (on 29) (codes "i")) (on 30) (NumberTerm (on 31) 1) (NumberTerm (on 33) 2)) ∷ []) (EmptyBody (on 35)))))))
    ∷ []

loop_places : places_of_program loop ≡ on 1 ∷ on 1 ∷ on 2 ∷ on 6 ∷ on 8 ∷ on 9 ∷ on 11 ∷ on 11 ∷ on 12 ∷ on 13 ∷ on 15 ∷ on 16 ∷ on 19 ∷ on 19 ∷ on 24 ∷ on 29 ∷ on 29 ∷ on 30 ∷ on 31 ∷ on 33 ∷ on 35 ∷ []
loop_places = refl

-- `function f(a,b=2)=a;`
abbrev doubled : List StatementTerm
doubled =
    FunctionTerm (on 1) (codes "f") (on 10) (PlainTerm (on 12) (codes "a") ∷ DefaultTerm (on 14) (codes "b") (NumberTerm (on 16) 2) ∷ []) (NameTerm (on 19) (codes "a"))
    ∷ []

doubled_places : places_of_program doubled ≡ on 1 ∷ on 10 ∷ on 12 ∷ on 14 ∷ on 16 ∷ on 19 ∷ []
doubled_places = refl
