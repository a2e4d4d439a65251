use Rattle.std.proofs.Common.{List, subst}
use Rattle.script_reader.specs.declared.script.ClientScript.{ClientScript}
use Rattle.script_service.specs.Streams.{stream_change, stream_changes}
use Rattle.script_server.specs.Serving.{WritesOutput}
use Rattle.script_server.proofs.Told.{input_refused, input_caused, read_caused, script_served, script_kept, fault_told}
use Rattle.script_server.proofs.server.serve.Goals as goal

pub returns-in-Err-read_input-clause-told : goal.returns-in-Err-read_input-clause-told
returns-in-Err-read_input-clause-told g c =
    input_refused _ c.in-Ok.settings (stream_changes g.S.Source.left g.S.Source.faults g.K.Sink.held g.K.Sink.faults c.args.source.now c.read_input.new.source c.args.sink.now c.refuse_input.new.sink)
    c.in-Err-read_input.end c.refuse_input.result (c.in-Ok.ensures.found, c.in-Ok.ensures.only) c.in-Err-read_input.ensures.lacks c.refuse_input.ensures.told

pub returns-in-Err-read_input-clause-script : goal.returns-in-Err-read_input-clause-script
returns-in-Err-read_input-clause-script g c =
    script_kept c.bytes_are_one_script.ensures.not_both _ (stream_changes g.S.Source.left g.S.Source.faults g.K.Sink.held g.K.Sink.faults c.args.source.now c.read_input.new.source c.args.sink.now c.refuse_input.new.sink)
    c.refuse_input.result
    (input_refused _ c.in-Ok.settings (stream_changes g.S.Source.left g.S.Source.faults g.K.Sink.held g.K.Sink.faults c.args.source.now c.read_input.new.source c.args.sink.now c.refuse_input.new.sink)
    c.in-Err-read_input.end c.refuse_input.result (c.in-Ok.ensures.found, c.in-Ok.ensures.only) c.in-Err-read_input.ensures.lacks c.refuse_input.ensures.told)

pub returns-in-Ok-run_clients-clause-told : goal.returns-in-Ok-run_clients-clause-told
returns-in-Ok-run_clients-clause-told g c =
    script_served _ c.in-Ok.settings (stream_changes g.S.Source.left g.S.Source.faults g.K.Sink.held g.K.Sink.faults c.args.source.now c.read_input.new.source c.args.sink.now c.write_ran.new.sink)
    c.in-Ok-read_input.script c.write_ran.result (c.in-Ok.ensures.found, c.in-Ok.ensures.only) c.in-Ok-read_input.ensures.script
    (subst (λ (clients : List ClientScript). WritesOutput c.in-Ok.settings clients (stream_change g.K.Sink.held g.K.Sink.faults c.args.sink.now c.write_ran.new.sink) c.write_ran.result) c.items.ensures c.write_ran.ensures.told)

pub returns-in-Ok-run_clients-clause-no_script : goal.returns-in-Ok-run_clients-clause-no_script
returns-in-Ok-run_clients-clause-no_script g c =
    fault_told c.bytes_are_one_script.ensures.not_both _ (stream_changes g.S.Source.left g.S.Source.faults g.K.Sink.held g.K.Sink.faults c.args.source.now c.read_input.new.source c.args.sink.now c.write_ran.new.sink)
    c.write_ran.result
    (script_served _ c.in-Ok.settings (stream_changes g.S.Source.left g.S.Source.faults g.K.Sink.held g.K.Sink.faults c.args.source.now c.read_input.new.source c.args.sink.now c.write_ran.new.sink)
    c.in-Ok-read_input.script c.write_ran.result (c.in-Ok.ensures.found, c.in-Ok.ensures.only) c.in-Ok-read_input.ensures.script
    (subst (λ (clients : List ClientScript). WritesOutput c.in-Ok.settings clients (stream_change g.K.Sink.held g.K.Sink.faults c.args.sink.now c.write_ran.new.sink) c.write_ran.result) c.items.ensures c.write_ran.ensures.told))

pub returns-in-Err-read_input-clause-causes : goal.returns-in-Err-read_input-clause-causes
returns-in-Err-read_input-clause-causes g c = record {
  read = record {
    later = c.in-Err-read_input.ensures.cause.later;
    quiet = input_caused _ _ c.in-Err-read_input.end (stream_change g.K.Sink.held g.K.Sink.faults c.args.sink.now c.refuse_input.new.sink) c.refuse_input.result
        c.in-Err-read_input.ensures.cause.quiet c.refuse_input.ensures.told;
  };
  written = c.refuse_input.ensures.cause;
}

pub returns-in-Ok-run_clients-clause-causes : goal.returns-in-Ok-run_clients-clause-causes
returns-in-Ok-run_clients-clause-causes g c = record {
  read = read_caused _ _ c.in-Ok-read_input.script c.write_ran.result c.in-Ok-read_input.ensures.cause.later c.in-Ok-read_input.ensures.cause.quiet;
  written = c.write_ran.ensures.cause;
}
