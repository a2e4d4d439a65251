use Rattle.std.proofs.Common.{◌≡◌, ◌+◌, ◌-◌, get_or, subst, arith}
use Rattle.parallel_eval.specs.Runs.{IsRunNode}
use Rattle.parallel_eval.proofs.Running.{run_at}
use Rattle.parallel_eval.proofs.lanes.RunWork.node.Goals as goal

pub returns : goal.returns
returns g c =
    let trees = c.args.self.now.store.now in
    let start = c.args.self.now.start in
    let nodes = c.args.self.now.nodes.now in
    let node = c.index-self-number.result in
    let place = c.args.number - 1 - start in
    let number : start + place + 1 ≡ c.args.number = omega arith in
    subst (λ n. IsRunNode trees start n (get_or nodes place node)) number
    (run_at trees start start place nodes node c.requires.run.run (omega arith))
