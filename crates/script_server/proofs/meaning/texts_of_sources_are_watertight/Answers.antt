use Rattle.script_server.proofs.meaning.texts_of_sources_are_watertight.Goals as goal

pub returns : goal.returns
returns c = λ unit source tree bytes means text.
    (let proper = c.programs_mean_proper_trees.ensures unit means.0 tree means.2 in
    let keeps = c.programs_keep_within_reach.ensures unit means.0 tree means.2 in
    record {
      text = text;
      reach = c.texts_keep_within_reach.ensures.vertices unit bytes tree proper keeps text;
      closed = c.texts_keep_within_reach.ensures.watertight unit bytes tree proper keeps text;
    })
