-- A worked export: a box, and its text.
use Rattle.std.specs.Prelude.{ℕ, List, [], ◌∷◌, ◌++◌, pos, negsuc, codes}
use Rattle.csg_tree.specs.HalfSpaceTrees.{Tree, leaf}
use Rattle.plain_text.specs.Separators.{newline}

-- the box with x from 0 to 1, y from 0 to 2 and z from 0 to 3, by its planes: low x, high x, low y, high y, low z and high z
abbrev pub worked_box : Tree
worked_box = leaf (
    record { a = negsuc 0; b = pos 0; c = pos 0; d = pos 0 } ∷ record { a = pos 1; b = pos 0; c = pos 0; d = pos 1 }
    ∷ record { a = pos 0; b = negsuc 0; c = pos 0; d = pos 0 } ∷ record { a = pos 0; b = pos 1; c = pos 0; d = pos 2 }
    ∷ record { a = pos 0; b = pos 0; c = negsuc 0; d = pos 0 } ∷ record { a = pos 0; b = pos 0; c = pos 1; d = pos 3 } ∷ [])

-- its text: 8 vertices, and 6 faces of 4 corners each
abbrev pub worked_box_text : List ℕ
worked_box_text =
    codes "4OFF" ++ newline ++ codes "8 6 0" ++ newline
    ++ codes "0 0 0 1" ++ newline ++ codes "0 0 3 1" ++ newline ++ codes "0 2 3 1" ++ newline ++ codes "0 2 0 1" ++ newline
    ++ codes "1 0 0 1" ++ newline ++ codes "1 2 0 1" ++ newline ++ codes "1 2 3 1" ++ newline ++ codes "1 0 3 1" ++ newline
    ++ codes "4 0 1 2 3" ++ newline ++ codes "4 4 5 6 7" ++ newline ++ codes "4 0 4 7 1" ++ newline
    ++ codes "4 3 2 6 5" ++ newline ++ codes "4 0 3 5 4" ++ newline ++ codes "4 1 7 6 2" ++ newline
