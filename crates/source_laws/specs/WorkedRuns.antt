-- A worked run: the program `for (i = [0 : 2]);`.
use Rattle.std.specs.Prelude.{List, [], ◌∷◌, codes}
use Rattle.plain_text.specs.declared.place.Place.{Place}
use Rattle.scad_ast.specs.Terms.{NumberTerm, RangeTerm, InstanceStatement, StatementTerms, no_statements, and_statement, AnInstance, ForTerm, EmptyBody}

-- somewhere: no cost depends on a place
abbrev pub some_place : Place
some_place = record { line = 1; column = 1 }

-- the one statement of the program
abbrev pub loop_of_three : StatementTerms
loop_of_three =
    and_statement (InstanceStatement (AnInstance some_place []
    (ForTerm some_place (record { at = some_place; name = codes "i"; values = RangeTerm some_place (NumberTerm some_place 0) (NumberTerm some_place 2) } ∷ [])
    (EmptyBody some_place)))) no_statements
