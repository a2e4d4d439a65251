use Rattle.std.proofs.Common.{◌≡◌, ◌+◌, List, [], ◌∷◌, ◌++◌, drop, get_or, inl, refl, sym, ap, subst, ◌∙◌, append-nil, append_assoc, arith, rules}
use Rattle.std.proofs.lemmas.List.{drop_all, drop_more}
use Rattle.script_reader.specs.declared.script.Command.{Command}
use Rattle.edit_session.specs.Sessions.{start_state}
use Rattle.reply_text.specs.declared.reply.Reply.{Reply}
use Rattle.reply_text.specs.Answers.{Fits}
use Rattle.script_run.specs.Asking.{MayServe}
use Rattle.script_run.specs.Moves.{MovesAlong}
use Rattle.script_run.proofs.Moving.{fits_on, moves_on, served_on}
use Rattle.script_run.proofs.client.serve_client.Goals as goal

pub returns-clause-fits : goal.returns-clause-fits
returns-clause-fits g c =
    let ended = drop_all c.loop-command.command-index c.args.commands.now c.loop-command-test.false in
    subst (λ (rs : List Reply). Fits (g.E.Exporting.exports c.args.unit) start_state c.args.commands.now rs) (append-nil c.loop-command.replies.items)
    (c.loop-command.invariant.fits [] (subst (λ (cs : List Command). Fits (g.E.Exporting.exports c.args.unit) c.loop-command.session cs []) (sym ended) tt))

pub returns-clause-moved : goal.returns-clause-moved
returns-clause-moved g c =
    let moves = g.E.Exporter.moves c.args.unit in
    let ended = drop_all c.loop-command.command-index c.args.commands.now c.loop-command-test.false in
    subst (λ (rs : List Reply). MovesAlong moves start_state c.args.commands.now rs c.args.exporter.now c.loop-command.exporter) (append-nil c.loop-command.replies.items)
    (c.loop-command.invariant.moved [] c.loop-command.exporter (subst (λ (cs : List Command). MovesAlong moves c.loop-command.session cs [] c.loop-command.exporter c.loop-command.exporter) (sym ended) refl))

pub reply_to-reply-requires-clause-can_export : goal.reply_to-reply-requires-clause-can_export
reply_to-reply-requires-clause-can_export g c = λ source exports.
    let cs = c.args.commands.now in
    let here = c.loop-command.command-index in
    let item = c.command-item.result in
    let at : get_or cs here item ≡ item = cc c.command-item.is in
    let more : drop here cs ≡ item ∷ drop (here + 1) cs = drop_more cs here item (omega (arith, c.loop-command-test.true)) ∙ ap (λ d. d ∷ drop (here + 1) cs) at in
    (subst (λ left. MayServe (λ s. g.E.Exporter.can_export c.args.unit s c.loop-command.exporter) c.loop-command.session left) more c.loop-command.invariant.can_export).each source (inl exports)

pub loop-command-preserved : goal.loop-command-preserved
loop-command-preserved g c =
    let exports = g.E.Exporting.exports c.args.unit in
    let moves = g.E.Exporter.moves c.args.unit in
    let can = g.E.Exporter.can_export c.args.unit in
    let cs = c.args.commands.now in
    let here = c.loop-command.command-index in
    let r = c.reply_to-reply.result in
    let item = c.command-item.result in
    let at : get_or cs here item ≡ item = cc c.command-item.is in
    let more : drop here cs ≡ item ∷ drop (here + 1) cs = drop_more cs here item (omega (arith, c.loop-command-test.true)) ∙ ap (λ d. d ∷ drop (here + 1) cs) at in
    let added = λ (rest : List Reply). sym (ap (λ rs. rs ++ rest) c.push_reserved.ensures.items ∙ append_assoc c.loop-command.replies.items (r ∷ []) rest) in record {
      room = search rules;
      count = search rules;
      asked = search rules;
      can_export = served_on exports can c.reply_to-reply.new.exporter c.loop-command.exporter c.reply_to-reply.ensures.goes_on.keeps c.loop-command.session c.reply_to-reply.new.session item r (drop (here + 1) cs)
          c.reply_to-reply.ensures.steps (subst (λ left. MayServe (λ source. can source c.loop-command.exporter) c.loop-command.session left) more c.loop-command.invariant.can_export);
      fits = λ rest fit.
          subst (λ rs. Fits exports start_state cs rs) (added rest)
          (c.loop-command.invariant.fits (r ∷ rest)
          (subst (λ left. Fits exports c.loop-command.session left (r ∷ rest)) (sym more)
          (fits_on exports c.loop-command.session c.reply_to-reply.new.session item r (drop (here + 1) cs) rest c.reply_to-reply.ensures.steps fit)));
      moved = λ rest after along.
          subst (λ rs. MovesAlong moves start_state cs rs c.args.exporter.now after) (added rest)
          (c.loop-command.invariant.moved (r ∷ rest) after
          (subst (λ left. MovesAlong moves c.loop-command.session left (r ∷ rest) c.loop-command.exporter after) (sym more)
          (moves_on moves c.loop-command.session c.reply_to-reply.new.session item r (drop (here + 1) cs) rest
          c.loop-command.exporter c.reply_to-reply.new.exporter after c.reply_to-reply.ensures.moved c.reply_to-reply.ensures.state along)));
    }
