use Rattle.std.proofs.Common.{rules, arith}
use Rattle.columns.proofs.Lines.{line_within}
use Rattle.feeding.proofs.feed_lines.Goals as goal

pub slice_bounds-feed_line-end : goal.slice_bounds-feed_line-end
slice_bounds-feed_line-end g c = search (rules, line_within c.loop-rest.rest.now 0 (omega arith))
