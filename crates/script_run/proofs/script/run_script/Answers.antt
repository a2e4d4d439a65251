use Rattle.std.proofs.Common.{◌≡◌, ◌++◌, length, length-append, ap, sym, subst, arith}
use Rattle.script_run.specs.Asking.{AreFresh}
use Rattle.script_run.specs.Moves.{AllMove}
use Rattle.script_run.specs.Serving.{AreWaiting}
use Rattle.script_run.proofs.Together.{AllServed, waiting_many, waiting_ready, fresh_front, all_served, exporters_many}
use Rattle.script_run.proofs.script.run_script.Goals as goal

pub split_at_mut-busy-requires : goal.split_at_mut-busy-requires
split_at_mut-busy-requires g c =
    let many = waiting_many c.items.result.now c.in_ok-clients.clients.items c.in_ok-clients.ensures in
    omega (arith, many, ap length c.items.ensures, c.requires.many, c.len-2.ensures, c.in_ok-clients.clients.ok.0)

pub work_each-requires-after_bounds : goal.work_each-requires-after_bounds
work_each-requires-after_bounds g c κs within =
    let asked = g.E.Exporter.asked in
    let can = g.E.Exporter.can_export c.args.unit in
    let clients = c.args.script.now.clients in
    let items = c.in_ok-clients.clients.items in
    let all = c.deref_mut.result.now in
    let busy = c.split_at_mut-busy.result.0.now in
    let same : all ≡ items = cc c.deref_mut.ensures.value in
    let waiting : AreWaiting clients items = subst (λ cs. AreWaiting cs items) c.items.ensures c.in_ok-clients.ensures in
    let many = waiting_many clients items waiting in
    let long : c.len-2.result ≡ length clients = omega (arith, many, c.len-2.ensures, c.in_ok-clients.clients.ok.0) in
    let fresh : AreFresh asked can clients busy =
    subst (AreFresh asked can clients) (sym c.split_at_mut-busy.ensures.front) (fresh_front asked can clients c.args.exporters.now c.len-2.result long c.requires.fresh) in
    waiting_ready asked can clients all busy (subst (AreWaiting clients) (sym same) waiting) c.requires.within.each fresh
    (omega (arith, c.split_at_mut-busy.ensures.front_len, c.len-2.ensures, c.in_ok-clients.clients.ok.0, ap length same))

-- what is told at the end
served : (g : Rattle.script_run.proofs.script.run_script.Given.Over) (c : goal.After-taken g) →
    AllServed (g.E.Exporting.exports c.args.unit) (g.E.Exporter.moves c.args.unit) c.args.script.now.clients c.taken.result.items
    c.split_at_mut-busy.result.0.now c.split_at_mut-busy.result.1.now c.work_each.new.second
served g c =
    let clients = c.args.script.now.clients in
    let items = c.in_ok-clients.clients.items in
    all_served (g.E.Exporting.exports c.args.unit) (g.E.Exporter.moves c.args.unit) clients items c.deref_mut.result.now
    c.split_at_mut-busy.result.0.now c.split_at_mut-busy.result.1.now c.work_each.new.first c.work_each.new.second
    c.in_ok-clients.clients.len c.taken.result.items
    (subst (λ cs. AreWaiting cs items) c.items.ensures c.in_ok-clients.ensures) c.requires.within.each
    (cc c.deref_mut.ensures.value) c.in_ok-clients.clients.ok.0 c.work_each.ensures c.taken.ensures

pub returns-clause-fits : goal.returns-clause-fits
returns-clause-fits g c = (served g c).fits

pub returns-clause-few : goal.returns-clause-few
returns-clause-few g c = (served g c).few

pub returns-clause-moved : goal.returns-clause-moved
returns-clause-moved g c =
    subst (λ es. AllMove (g.E.Exporter.moves c.args.unit) c.args.script.now.clients c.taken.result.items es (c.work_each.new.second ++ c.split_at_mut-busy.result.1.now))
    (sym c.split_at_mut-busy.ensures.value) (served g c).moved

pub returns-clause-many : goal.returns-clause-many
returns-clause-many g c =
    let exports = g.E.Exporting.exports c.args.unit in
    let moves = g.E.Exporter.moves c.args.unit in
    let busy = c.split_at_mut-busy.result.0.now in
    let idle = c.split_at_mut-busy.result.1.now in
    let all = c.deref_mut.result.now in
    let new = c.work_each.new.second in
    omega (
      arith,
      length-append new idle,
      length-append busy idle,
      ap length c.split_at_mut-busy.ensures.value,
      exporters_many exports moves all busy c.work_each.new.first new c.work_each.ensures,
    )
