-- The whole output of a run has one reading.
use Rattle.std.proofs.Common.{◌≡◌, ℕ, ◌<◌, Bool, true, false, List, [], ◌++◌, length, refl, ◌∙◌}
use Rattle.plane_predicate.specs.declared.unit.Unit.{Unit as LengthUnit}
use Rattle.run_words.specs.declared.settings.Settings.{Settings}
use Rattle.run_words.specs.declared.settings.Settings.TheVariants.{Run, Demo}
use Rattle.subtree_memo.specs.declared.tally.Tally.{Tally}
use Rattle.script_reader.specs.declared.script.ClientScript.{ClientScript}
use Rattle.reply_text.specs.declared.reply.Reply.{Reply}
use Rattle.reply_text.specs.Texts.{output}
use Rattle.reply_text.specs.Answers.{AllFit}
use Rattle.script_service.specs.Units.{unit_of}
use Rattle.script_service.specs.Endings.{ending}
use Rattle.script_service.specs.Serving.{IsRun, printed_text}
use Rattle.script_server.specs.Meaning.Exports.{AnswersExport}
use Rattle.script_server.specs.Serving.{TellsAlike}

abbrev pub OneOutput : Type 0
OneOutput = (unit : LengthUnit) (clients : List ClientScript) (rs qs : List (List Reply)) (x y : List ℕ) → AllFit (AnswersExport unit) clients rs → AllFit (AnswersExport unit) clients qs →
    output clients rs ++ x ≡ output clients qs ++ y → (rs ≡ qs) × (x ≡ y)

abbrev pub OneTally : Type 0
OneTally = (share : ℕ) (clients : List ClientScript) (s t : Tally) (v w : List ℕ) → ending true share clients s v ≡ ending true share clients t w → s ≡ t

abbrev pub OneShares : Type 0
OneShares = (share : ℕ) (clients : List ClientScript) (s t : Tally) (v w : List ℕ) → 0 < share → length v ≡ length clients → length w ≡ length clients →
    ending true share clients s v ≡ ending true share clients t w → v ≡ w

pub whole_output : OneOutput → OneTally → OneShares → (settings : Settings) (clients : List ClientScript) (rs qs : List (List Reply)) (s t : Tally) (v w : List ℕ) → IsRun settings →
    AllFit (AnswersExport (unit_of settings)) clients rs → AllFit (AnswersExport (unit_of settings)) clients qs → length v ≡ length clients → length w ≡ length clients →
    printed_text settings clients rs s v ≡ printed_text settings clients qs t w → (rs ≡ qs) × TellsAlike settings s t v w
whole_output one tallied shared (Run workers memo share half true) clients rs qs s t v w run f g a b e =
    let (same, rest) = one (unit_of (Run workers memo share half true)) clients rs qs (ending true share clients s v) (ending true share clients t w) f g e in
    (same, (tallied share clients s t v w rest, λ some. shared share clients s t v w some a b rest))
whole_output one tallied shared (Run workers memo share half false) clients rs qs s t v w run f g a b e =
    ((one (unit_of (Run workers memo share half false)) clients rs qs [] [] f g e).0, tt)
whole_output one tallied shared (Demo n) clients rs qs s t v w run f g a b e = absurd run
