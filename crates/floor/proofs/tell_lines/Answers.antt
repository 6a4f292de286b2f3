use Rattle.std.proofs.Common.{rules, arith}
use Rattle.columns.proofs.Lines.{line_within}
use Rattle.floor.proofs.tell_lines.Goals as goal

pub slice_bounds-tell_line-end : goal.slice_bounds-tell_line-end
slice_bounds-tell_line-end g c = search (rules, line_within c.loop-rest.rest.now 0 (omega arith))
