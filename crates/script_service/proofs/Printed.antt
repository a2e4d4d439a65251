-- What is printed does not depend on weights that are not printed.
use Rattle.std.proofs.Common.{◌≡◌, ℕ, ◌<◌, zero, suc, Bool, true, false, List, ◌++◌, refl, ap, arith}
use Rattle.run_words.specs.declared.settings.Settings.{Settings}
use Rattle.run_words.specs.declared.settings.Settings.TheVariants.{Run, Demo}
use Rattle.subtree_memo.specs.declared.tally.Tally.{Tally}
use Rattle.script_reader.specs.declared.script.ClientScript.{ClientScript}
use Rattle.reply_text.specs.declared.reply.Reply.{Reply}
use Rattle.reply_text.specs.Texts.{output}
use Rattle.script_service.specs.Endings.{ending}
use Rattle.script_service.specs.Serving.{PrintsWeights, printed_text}

same_ending : (tally : Bool) (share : ℕ) (clients : List ClientScript) (counts : Tally) (v w : List ℕ) → ((tally ≡ true) × (0 < share) → v ≡ w) →
    ending tally share clients counts v ≡ ending tally share clients counts w
same_ending false share clients counts v w same = refl
same_ending true zero clients counts v w same = refl
same_ending true (suc share) clients counts v w same = ap (ending true (suc share) clients counts) (same (refl, omega arith))

pub same_printed : (settings : Settings) (clients : List ClientScript) (replies : List (List Reply)) (counts : Tally) (v w : List ℕ) → (PrintsWeights settings → v ≡ w) →
    printed_text settings clients replies counts v ≡ printed_text settings clients replies counts w
same_printed (Run workers memo share half tally) clients replies counts v w same =
    ap (λ lines. output clients replies ++ lines) (same_ending tally share clients counts v w same)
same_printed (Demo n) clients replies counts v w same = refl
