use Rattle.std.proofs.Common.{◌≡◌, ◌++◌, drop, flat_map}
use Rattle.plain_text.specs.Separators.{newline}
use Rattle.edit_session.proofs.session.Session.source.Given as goal

abbrev pub invariant-loop-line : goal.invariant-loop-line
invariant-loop-line l =
    l.source.items ++ flat_map (λ line. line ++ newline) (drop l.line-index l.line-items) ≡ flat_map (λ line. line ++ newline) l.line-items
