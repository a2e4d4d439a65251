-- Sessions that are written out.
use Rattle.std.proofs.Common.{◌≡◌, List, [], ◌∷◌, replicate, refl, codes, Some, None}
use Rattle.script_reader.specs.declared.script.Command.{Command}
use Rattle.script_reader.specs.declared.script.Command.TheVariants.{Put, Set, Cut, Show, Export, Bad}
use Rattle.edit_session.specs.declared.fault.SessionFault.TheVariants.{NoSuchLine, TooManyLines, TooManyShows, TooManyExports, BadCommand}
use Rattle.edit_session.specs.Sessions.{State, start_state, source_of, refusal, state_after_command}

-- the state after these commands
abbrev after : State → List Command → State
after s [] = s
after s (c ∷ cs) = after (state_after_command s c) cs

abbrev edits : List Command
edits =
    Put 1 (codes "cube(1);") ∷ Put 1 (codes "// one") ∷ Put 3 (codes "cube(2);")
    ∷ Set 2 (codes "cube(3);") ∷ Cut 9 9 ∷ []

edited : after start_state edits ≡ record { lines = codes "// one" ∷ codes "cube(3);" ∷ codes "cube(2);" ∷ []; shows = 0; exports = 0 }
edited = refl

no_such_lines : refusal (after start_state edits) (Cut 9 9) ≡ Some NoSuchLine
no_such_lines = refl

-- a show, a cut, an export and a line that is no command
booked : after (after start_state edits) (Show ∷ Cut 1 1 ∷ Export ∷ Bad ∷ []) ≡ record { lines = codes "cube(3);" ∷ codes "cube(2);" ∷ []; shows = 1; exports = 1 }
booked = refl

source_is : source_of (after (after start_state edits) (Cut 1 1 ∷ [])) ≡ codes "cube(3);\ncube(2);\n"
source_is = refl

empty_source_is : source_of start_state ≡ []
empty_source_is = refl

bad_is_refused : refusal start_state Bad ≡ Some BadCommand
bad_is_refused = refl

-- ---- an empty source
no_second_line : refusal start_state (Put 2 (codes "x")) ≡ Some NoSuchLine
no_second_line = refl

no_line_zero : refusal start_state (Put 0 (codes "x")) ≡ Some NoSuchLine
no_line_zero = refl

nothing_to_set : refusal start_state (Set 1 (codes "x")) ≡ Some NoSuchLine
nothing_to_set = refl

nothing_to_cut : refusal start_state (Cut 1 1) ≡ Some NoSuchLine
nothing_to_cut = refl

-- ---- limits
abbrev full : State
full = record { lines = replicate 4096 []; shows = 16; exports = 15 }

abbrev nearly_full : State
nearly_full = record { lines = replicate 4095 []; shows = 15; exports = 16 }

no_more_lines : refusal full (Put 4097 []) ≡ Some TooManyLines
no_more_lines = refl

-- the number goes before the limit
no_such_line_first : refusal full (Put 4098 []) ≡ Some NoSuchLine
no_such_line_first = refl

one_more_line : refusal nearly_full (Put 4096 []) ≡ None
one_more_line = refl

last_line_is_set : refusal full (Set 4096 []) ≡ None
last_line_is_set = refl

all_lines_are_cut : state_after_command full (Cut 1 4096) ≡ record { lines = []; shows = 16; exports = 15 }
all_lines_are_cut = refl

turned_range : refusal full (Cut 2 1) ≡ Some NoSuchLine
turned_range = refl

range_past_the_end : refusal full (Cut 1 4097) ≡ Some NoSuchLine
range_past_the_end = refl

no_more_shows : refusal full Show ≡ Some TooManyShows
no_more_shows = refl

one_more_show : refusal nearly_full Show ≡ None
one_more_show = refl

no_more_exports : refusal nearly_full Export ≡ Some TooManyExports
no_more_exports = refl

one_more_export : refusal full Export ≡ None
one_more_export = refl

-- a refused command changes nothing
refused_stays : state_after_command full (Put 1 (codes "x")) ≡ full
refused_stays = refl
