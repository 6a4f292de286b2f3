use Rattle.std.proofs.Common.{◌≤◌, ◌*◌}
use Rattle.pipes.proofs.count_rest.Given as goal

abbrev pub invariant-loop : goal.invariant-loop
invariant-loop g l = l.bytes ≤ 4096 * l.counter
