use Rattle.std.proofs.Common.{rules, tests}
use Rattle.causes.specs.Refusal.{answered}
use Rattle.pool.specs.Pool.{share_refusal}
use Rattle.pool.proofs.share_refusal.Goals as goal
use Rattle.pool.proofs.share_refusal.Goals.{then-wins-room-via-then-wins-room, then-wins-room-via-else-wins-room+then-wins-gt7, then-not-wins_fit-via-then-not-wins_fit, then-not-wins_fit-via-else-not-wins_fit+then-maximum-gt75000}

pub returns-then-wins-room : goal.returns-then-wins-room
unfolding share_refusal answered
returns-then-wins-room c =
    elim c.then-wins-room.branch [
      | then-wins-room-via-then-wins-room w ↦ search (rules, tests)
      | then-wins-room-via-else-wins-room+then-wins-gt7 w ↦ search (rules, tests)
    ]

pub returns-then-not-wins_fit : goal.returns-then-not-wins_fit
unfolding share_refusal answered
returns-then-not-wins_fit c =
    elim c.then-not-wins_fit.branch [
      | then-not-wins_fit-via-then-not-wins_fit w ↦ search (rules, tests)
      | then-not-wins_fit-via-else-not-wins_fit+then-maximum-gt75000 w ↦ search (rules, tests)
    ]

pub returns : goal.returns
unfolding share_refusal answered
returns c = search (rules, tests)
