use Rattle.std.proofs.Common.{ap, ◌∙◌, ◌++◌}
use Rattle.memo_core.proofs.Shelves.{put_is}
use Rattle.memo_core.proofs.Drops.{drops_replaced}
use Rattle.memo_core.specs.Plans.{pair_if_there}
use Rattle.memo_core.proofs.slots.stack.Goals as goal

pub returns-in-Ok-clause-entries : goal.returns-in-Ok-clause-entries
returns-in-Ok-clause-entries g c =
    ap (λ x. x.entries) c.in-Ok.ensures.entries ∙ put_is c.args.cache.now.entries c.args.cache.now.cap c.args.name c.args.slot c.requires.unbounded c.requires.few

pub returns-in-Ok-clause-dropped : goal.returns-in-Ok-clause-dropped
returns-in-Ok-clause-dropped g c =
    drops_replaced c.args.name c.args.slot c.args.cache.now.entries c.args.gone.now.items _ _
    (c.hand_out.ensures.items ∙ ap (λ o. c.args.gone.now.items ++ pair_if_there c.args.name o) c.in-Ok.ensures.old)
    (ap (λ x. x.entries) c.in-Ok.ensures.entries ∙ put_is c.args.cache.now.entries c.args.cache.now.cap c.args.name c.args.slot c.requires.unbounded c.requires.few)
