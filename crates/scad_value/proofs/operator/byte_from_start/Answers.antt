use Rattle.std.proofs.Common.{◌∙◌, sym, ap, arith}
use Rattle.scad_value.specs.Values.{TextVal}
use Rattle.scad_value.proofs.lemmas.Lists.{byte_here, byte_past}
use Rattle.scad_value.proofs.operator.byte_from_start.Goals as goal

pub returns-then-n-bytes : goal.returns-then-n-bytes
returns-then-n-bytes c = c.undef.ensures ∙ sym (byte_past c.args.bytes.now c.args.n (omega arith))

pub returns : goal.returns
returns c = c.text.ensures ∙ ap TextVal c.in_ok-vec.ensures.items
    ∙ sym (byte_here c.args.bytes.now c.args.n (omega arith))
