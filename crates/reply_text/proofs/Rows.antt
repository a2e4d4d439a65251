-- Replies and outputs that are written out.
use Rattle.std.proofs.Common.{◌≡◌, ℕ, List, [], ◌∷◌, length, refl, codes, inl, inr}
use Rattle.text_place.specs.declared.fault.FaultKind.TheVariants.{UnknownName}
use Rattle.plain_text.specs.Decimals.{numeral}
use Rattle.script_reader.specs.declared.script.Command.{Command}
use Rattle.script_reader.specs.declared.script.Command.TheVariants.{Put, Set, Cut, Show, Export, Bad}
use Rattle.script_reader.specs.declared.script.ClientScript.{ClientScript}
use Rattle.edit_session.specs.declared.fault.SessionFault.TheVariants.{NoSuchLine, TooManyExports, BadCommand}
use Rattle.edit_session.specs.Sessions.{State, start_state}
use Rattle.export_limits.specs.declared.passed.PassedLimit.TheVariants as limit
use Rattle.reply_text.specs.declared.reply.Reply.{Reply}
use Rattle.reply_text.specs.declared.reply.Reply.TheVariants as reply
use Rattle.reply_text.specs.Texts.{replies_text, output}
use Rattle.reply_text.specs.Answers.{Fits}
use Rattle.reply_text.specs.Sums.{AreSolvedReplies, CountsWhereSolved, SumTo, AllSumTo}

-- an export gives its source back
abbrev GivesBack : List ℕ → Reply → Type 0
GivesBack source r = r ≡ reply.Solid source

abbrev commands : List Command
commands =
    Put 1 (codes "cube(1);") ∷ Put 1 (codes "// one") ∷ Put 3 (codes "cube(2);") ∷ Set 2 (codes "cube(3);")
    ∷ Cut 9 9 ∷ Show ∷ Cut 1 1 ∷ Export ∷ Bad ∷ []

abbrev replies : List Reply
replies =
    reply.Lines 1 ∷ reply.Lines 2 ∷ reply.Lines 3 ∷ reply.Lines 3 ∷ reply.Refused NoSuchLine
    ∷ reply.Text (codes "// one" ∷ codes "cube(3);" ∷ codes "cube(2);" ∷ [])
    ∷ reply.Lines 2 ∷ reply.Solid (codes "cube(3);\ncube(2);\n") ∷ reply.Refused BadCommand ∷ []

replies_fit : Fits GivesBack start_state commands replies
replies_fit = inr (refl, inr (refl, inr (refl, inr (refl, inr (refl, inr (refl, inr (refl, inr (refl, inr (refl, tt)))))))))

abbrev client : ClientScript
client = record { name = codes "a"; commands = commands }

output_is : output (client ∷ []) (replies ∷ []) ≡ codes "== a\n1 ok 1\n2 ok 2\n3 ok 3\n4 ok 3\n5 refused NoSuchLine\n6 text 3\n// one\ncube(3);\ncube(2);\n7 ok 2\n8 solid 2\ncube(3);\ncube(2);\n9 refused BadCommand\n"
unfolding numeral
output_is = refl

no_clients : output [] [] ≡ []
no_clients = refl

-- the export of an empty source is the empty text
abbrev GivesNothing : List ℕ → Reply → Type 0
GivesNothing source r = (source ≡ []) × (r ≡ reply.Solid (codes "4OFF\n0 0 0\n"))

empty_export_fits : Fits GivesNothing start_state (Export ∷ []) (reply.Solid (codes "4OFF\n0 0 0\n") ∷ [])
empty_export_fits = inr ((refl, refl), tt)

abbrev exporting : ClientScript
exporting = record { name = codes "a"; commands = Export ∷ [] }

empty_output_is : output (exporting ∷ []) ((reply.Solid (codes "4OFF\n0 0 0\n") ∷ []) ∷ []) ≡ codes "== a\n1 solid 2\n4OFF\n0 0 0\n"
unfolding numeral
empty_output_is = refl

-- ---- memory ran out
-- a command that is answered so counts as not given
not_given_fits : Fits GivesBack start_state (Put 1 (codes "x") ∷ Put 2 (codes "y") ∷ Put 1 (codes "z") ∷ []) (reply.NoMem ∷ reply.Refused NoSuchLine ∷ reply.Lines 1 ∷ [])
not_given_fits = inl (refl, refl, inr (refl, inr (refl, tt)))

abbrev nearly_exported : State
nearly_exported = record { lines = []; shows = 0; exports = 15 }

-- it raises no number of exports
exports_fit : Fits GivesBack nearly_exported (Export ∷ Export ∷ Export ∷ []) (reply.NoMem ∷ reply.Solid [] ∷ reply.Refused TooManyExports ∷ [])
exports_fit = inl (refl, refl, inr (refl, inr (refl, tt)))

-- a command that the session refuses lacks no memory, and nor does a cut
refused_is_told : Fits GivesBack start_state (Set 1 (codes "x") ∷ []) (reply.NoMem ∷ []) → ⊥
refused_is_told (inl (e, may, rest)) = cc may
refused_is_told (inr (answer, rest)) = cc answer

cut_takes_no_memory : Fits GivesBack (record { lines = codes "x" ∷ []; shows = 0; exports = 0 }) (Cut 1 1 ∷ []) (reply.NoMem ∷ []) → ⊥
cut_takes_no_memory (inl (e, may, rest)) = may
cut_takes_no_memory (inr (answer, rest)) = cc answer

-- ---- lines
lines_are : replies_text 9 (reply.Faulted (record { kind = UnknownName; place = record { line = 1; column = 23 } }) ∷ reply.NoMem ∷ reply.PassedLimit (limit.Solid 7) ∷ reply.PassedLimit (limit.Sum 12) ∷ reply.PassedLimit limit.Facets ∷ reply.PassedLimit limit.Corners ∷ reply.PassedLimit limit.Vertices ∷ reply.Text [] ∷ []) ≡ codes "9 fault 1:23 UnknownName\n10 nomem\n11 complex solid 7\n12 complex sum 12\n13 complex facets\n14 complex corners\n15 complex vertices\n16 text 0\n"
unfolding numeral
lines_are = refl

-- ---- sums over exports
abbrev HasLength : List ℕ → Reply → ℕ → Type 0
HasLength source r n = n ≡ length source

-- the same where the export lacks no solid
abbrev HasSolidLength : List ℕ → Reply → ℕ → Type 0
HasSolidLength = CountsWhereSolved (λ source n. n ≡ length source)

-- two lines of nine bytes, exported once
sum_is : SumTo HasLength start_state commands replies 18
sum_is = (
  0,
  18,
  refl,
  (
    0,
    18,
    refl,
    (
      0,
      18,
      refl,
      (
        0,
        18,
        refl,
        (
          0,
          18,
          refl,
          (
            0,
            18,
            refl,
            (
              0,
              18,
              refl,
              (18, 0, refl, (0, 0, refl, refl, refl), refl),
              refl,
            ),
            refl,
          ),
          refl,
        ),
        refl,
      ),
      refl,
    ),
    refl,
  ),
  refl,
)

-- a line that had no memory is not exported, and an export that the session refuses comes to nothing
wanting_sum_is : SumTo HasLength nearly_exported (Put 1 (codes "x") ∷ Put 1 (codes "yz") ∷ Export ∷ Export ∷ []) (reply.NoMem ∷ reply.Lines 1 ∷ reply.Solid [] ∷ reply.Refused TooManyExports ∷ []) 3
wanting_sum_is = (0, 3, refl, (0, 3, refl, (3, 0, refl, (0, 0, refl, refl, refl), refl), refl), refl)

all_sum_is : AllSumTo HasLength (client ∷ exporting ∷ client ∷ []) (replies ∷ (reply.Solid [] ∷ []) ∷ replies ∷ []) 36
all_sum_is = (18, 18, sum_is, (0, 18, (0, 0, refl, refl, refl), (18, 0, sum_is, refl, refl), refl), refl)

-- an export for which memory ran out comes to its source's number among all, and to nothing among those that lack no solid
abbrev one_source : State
one_source = record { lines = codes "x" ∷ []; shows = 0; exports = 0 }

both_count : SumTo HasLength one_source (Export ∷ Export ∷ []) (reply.NoMem ∷ reply.Solid [] ∷ []) 4
both_count = (2, 2, refl, (2, 0, refl, refl, refl), refl)

one_counts : SumTo HasSolidLength one_source (Export ∷ Export ∷ []) (reply.NoMem ∷ reply.Solid [] ∷ []) 2
one_counts = (0, 2, inr ((λ has. has), refl), (2, 0, inl (tt, refl), refl, refl), refl)

-- a fault, a limit of the boundary and a refusal lack no solid, and a line that had no memory is no export
none_lacks : AreSolvedReplies (Put 1 (codes "x") ∷ Export ∷ Export ∷ Export ∷ []) (reply.NoMem ∷ reply.Faulted (record { kind = UnknownName; place = record { line = 1; column = 1 } }) ∷ reply.PassedLimit limit.Facets ∷ reply.Refused TooManyExports ∷ [])
none_lacks = (tt, ((λ size. size), (tt, tt)))

one_wants : AreSolvedReplies (Export ∷ []) (reply.NoMem ∷ []) → ⊥
one_wants h = h.0

one_is_large : AreSolvedReplies (Export ∷ []) (reply.PassedLimit (limit.Sum 3) ∷ []) → ⊥
one_is_large h = h.0 tt
