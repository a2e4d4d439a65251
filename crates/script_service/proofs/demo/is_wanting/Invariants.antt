use Rattle.std.proofs.Common.{◌≡◌, drop}
use Rattle.script_service.specs.Demos.{wants_memory}
use Rattle.script_service.proofs.demo.is_wanting.Given as goal

abbrev pub invariant-loop-reply : goal.invariant-loop-reply
invariant-loop-reply l = wants_memory (drop l.reply-index l.replies) ≡ wants_memory l.replies
