use Rattle.std.proofs.Common.{◌≡◌, ◌++◌, drop, flat_map}
use Rattle.plain_text.specs.Separators.{newline}
use Rattle.reply_text.specs.Parts.{Grows}
use Rattle.reply_text.proofs.text.push_lines.Given as goal

abbrev pub invariant-loop-line : goal.invariant-loop-line
invariant-loop-line l = record {
  written : l.out.items ++ flat_map (λ line. line ++ newline) (drop l.line-index l.lines) ≡ l.initial.out.items ++ flat_map (λ line. line ++ newline) l.lines;
  grown : Grows l.initial.out.items l.out.items;
}
