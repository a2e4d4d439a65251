-- The script of a demonstration: eight clients, each with one module and a loop over it.
use Rattle.std.specs.Prelude.{ℕ, ◌+◌, ◌%◌, List, [], ◌∷◌, ◌++◌, flat_map, codes}
use Rattle.plain_text.specs.Decimals.{numeral}

-- `c` and the client's number, from 1 to 8
abbrev pub client_name : ℕ → List ℕ
client_name client = codes "c" ++ numeral client

-- the module of a client: a cube with a pocket, whose depth goes by the client's number
abbrev pub module_line : ℕ → List ℕ
module_line client =
    client_name client
    ++ codes " put 1 module part(i) { translate([7*i, 0, 0]) difference() { cube(4); translate([1, 1, 0]) cube([2, 2, "
    ++ numeral (1 + client % 3)
    ++ codes "]); } }\n"

-- the loop that makes n parts
abbrev pub loop_line : ℕ → ℕ → List ℕ
loop_line n client = client_name client ++ codes " put 2 for (i = [1 : " ++ numeral n ++ codes "]) part(i);\n"

-- the three lines of a client: two lines of source, and its export
abbrev pub client_lines : ℕ → ℕ → List ℕ
client_lines n client = module_line client ++ loop_line n client ++ client_name client ++ codes " export\n"

-- the lines of all clients, of n parts each
abbrev pub demo_script : ℕ → List ℕ
demo_script n = flat_map (client_lines n) (1 ∷ 2 ∷ 3 ∷ 4 ∷ 5 ∷ 6 ∷ 7 ∷ 8 ∷ [])
