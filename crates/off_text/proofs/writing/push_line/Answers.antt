use Rattle.off_text.specs.Numbering.{number_word}
use Rattle.off_text.proofs.Pieces.{all_written, line_written}
use Rattle.off_text.proofs.writing.push_line.Goals as goal

pub returns : goal.returns
returns c =
    line_written c.args.face.now c.args.out.now.items c.push_count.new.out.items c.loop-number.out.items c.push-2.new.self.items
    c.in_ok-push_count.ensures
    (all_written number_word c.args.face.now c.loop-number.number-index _ _ c.loop-number-test.false c.loop-number.invariant)
    c.in_ok-push-2.ensures.items
