use Rattle.link_forest.proofs.lemmas.Longer.{cut_extends, cut_is, linked_before}
use Rattle.link_forest.proofs.forest.Forest.cut_back.Goals as goal

pub returns-clause-kept : goal.returns-clause-kept
returns-clause-kept g c = rw c.truncate.ensures.items (rw (← c.self.view_is) (cut_extends c.args.len c.self.inside.entries.items))

pub returns-clause-linked : goal.returns-clause-linked
returns-clause-linked g c = rw c.truncate.ensures.items (linked_before _ _ (cut_extends c.args.len c.self.inside.entries.items) c.self.invariant)

pub returns-clause-again : goal.returns-clause-again
returns-clause-again g c =
    rw (← c.self.view_is) (λ nodes extends count. cut_is c.args.len nodes c.self.inside.entries.items c.truncate.new.self.items c.truncate.ensures.items extends count)
