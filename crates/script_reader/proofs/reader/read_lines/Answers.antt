use Rattle.std.proofs.Common.{arith}
use Rattle.std.proofs.lemmas.Result.{err_from_is_err_and}
use Rattle.script_reader.proofs.OneLine.{first_shorter}
use Rattle.script_reader.proofs.WithinLimits.{within_more}
use Rattle.script_reader.proofs.Told.{told_more, told_fault}
use Rattle.script_reader.proofs.reader.read_lines.Goals as goal

pub returns-in_err-read_line-clause-fault : goal.returns-in_err-read_line-clause-fault
returns-in_err-read_line-clause-fault c =
    let p = err_from_is_err_and c.from_residual.result c.from_residual.ensures.1 in
    rw (p.1, p.2)
    (told_fault c.args.bytes.now c.loop-rest.number c.loop-rest.rest.now c.first_line.result.0.now c.first_line.result.1.now c.loop-rest.clients.scripts.items _
    c.loop-rest.invariant.told c.first_line.ensures c.in_err-read_line.ensures.err)

pub loop-rest-smaller : goal.loop-rest-smaller
loop-rest-smaller c = first_shorter c.loop-rest.rest.now c.first_line.result.0.now c.first_line.result.1.now c.first_line.ensures

pub loop-rest-preserved : goal.loop-rest-preserved
loop-rest-preserved c =
    let less = first_shorter c.loop-rest.rest.now c.first_line.result.0.now c.first_line.result.1.now c.first_line.ensures in
    record {
      known = c.in_ok-read_line.ensures.known;
      counted = omega (arith, less, c.loop-rest.invariant.counted);
      within = within_more c.loop-rest.rest.now c.first_line.result.0.now c.first_line.result.1.now c.loop-rest.clients.scripts.items c.read_line.new.clients.scripts.items c.first_line.ensures c.in_ok-read_line.ensures.ok c.loop-rest.invariant.within;
      told = told_more c.args.bytes.now c.loop-rest.number c.loop-rest.rest.now c.first_line.result.0.now c.first_line.result.1.now c.loop-rest.clients.scripts.items c.read_line.new.clients.scripts.items
          c.loop-rest.invariant.told c.first_line.ensures c.in_ok-read_line.ensures.ok;
    }
