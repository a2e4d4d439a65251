use Rattle.std.proofs.lemmas.Result.{IfOk-weaker}
use Rattle.script_reader.specs.Reading.{IsPutOrBad, IsSetOrBad, IsKnownOrBad}
use Rattle.script_reader.proofs.KnownCommands.{put_known, set_known, cut_known}
use Rattle.script_reader.proofs.cuts.known_command.Goals as goal

pub returns-in-Some : goal.returns-in-Some
returns-in-Some c =
    IfOk-weaker c.put_command.result (IsPutOrBad c.in-Some.edit.now) (IsKnownOrBad c.args.words.now)
    (λ command h. put_known c.args.words.now c.in-Some.edit.now command c.in-Some.ensures h) c.put_command.ensures

pub returns-in-Some-behind : goal.returns-in-Some-behind
returns-in-Some-behind c =
    IfOk-weaker c.set_command.result (IsSetOrBad c.in-Some-behind.edit.now) (IsKnownOrBad c.args.words.now)
    (λ command h. set_known c.args.words.now c.in-Some-behind.edit.now command c.in-Some-behind.ensures h) c.set_command.ensures

pub returns-in-Some-behind-2 : goal.returns-in-Some-behind-2
returns-in-Some-behind-2 c =
    cut_known c.args.words.now c.in-Some-behind-2.range.now c.cut_command.result c.in-Some-behind-2.ensures c.cut_command.ensures
