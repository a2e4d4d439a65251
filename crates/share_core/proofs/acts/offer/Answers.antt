use Rattle.std.proofs.Common.{rules, ap, ◌∙◌, ◌≢◌}
use Rattle.std.specs.Arc.{arc_value}
use Rattle.memo_core.specs.Views.{after_fill}
use Rattle.memo_core.specs.declared.memo.Fill.TheVariants.{NoMemory}
use Rattle.share_core.specs.Views.{settled_memo}
use Rattle.share_core.proofs.Settled.{settled_is, filled_found}
use Rattle.share_core.proofs.acts.offer.Goals as goal

pub returns-in-Kept : goal.returns-in-Kept
returns-in-Kept g c =
    let found : c.fill.result ≢ NoMemory = search rules in
    record {
      ok =
          ap settled_memo c.take_dropped-dropped.ensures.rest
          ∙ ap settled_memo (filled_found g.F.Fit.same_key g.N.Namer.name_of c.args.client (arc_value c.args.key.now) (arc_value c.args.value) c.args.weight c.room.new.self c.fill.new.self c.fill.result found c.fill.ensures.core)
          ∙ ap (after_fill g.F.Fit.same_key g.N.Namer.name_of c.args.client (arc_value c.args.key.now) (arc_value c.args.value) c.args.weight)
          (settled_is c.room.new.self c.args.memo.now c.room.ensures.entries c.room.ensures.budget c.room.ensures.share c.room.ensures.journal);
      err = tt;
    }
