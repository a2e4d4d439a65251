use Rattle.std.proofs.Common.{arith, ◌≡◌, ◌∙◌, ◌≤◌, ap, sym, subst, length, option_map, take}
use Rattle.std.proofs.lemmas.Option.{same_Some}
use Rattle.share_core.proofs.Whole.{same_from}
use Rattle.share_core.proofs.world.clients_are_isolated.Goals as goal

pub returns : goal.returns
returns g c p q ep eq n l m =
    let ra : p.replies ≡ c.replies-first.result.now = same_Some _ _ (ap (option_map (λ x. x.replies)) (sym ep) ∙ c.replies-first.ensures.is) in
    let rb : q.replies ≡ c.replies-second.result.now = same_Some _ _ (ap (option_map (λ x. x.replies)) (sym eq) ∙ c.replies-second.ensures.is) in
    let la : n ≤ length c.replies-first.result.now = subst (λ rs. n ≤ length rs) ra l in
    let lb : n ≤ length c.replies-second.result.now = subst (λ rs. n ≤ length rs) rb m in
    ap (take n) ra
    ∙ same_from ((g.W.Work.tasks c.args.first.now.0).reply c.args.client) ((g.U.Work.tasks c.args.second.now.0).reply c.args.client) 0 c.replies-first.result.now c.replies-second.result.now n c.replies-first.ensures.answered c.replies-second.ensures.answered
    (λ i x y. c.requires.agree i (omega (arith, x, c.replies-first.ensures.within)) (omega (arith, y, c.replies-second.ensures.within))) la lb
    ∙ sym (ap (take n) rb)
