-- Who holds which cards. A seat is told by its place, 0 to 6; whether All-Six is offered by the number of its pay table, 0 where it isn't.
-- Assumes nothing.
use Rattle.std.specs.Prelude.{ℕ, ◌+◌, ◌*◌, List, [], ◌∷◌, ◌++◌, eqb, get_or, if◌then◌else◌}
use Rattle.counting.specs.Count.{tally}
use Rattle.records.specs.Seats.{plays}

-- how many seats play before place k
unfoldable pub playing_before : List ℕ → ℕ → ℕ
playing_before antes k = tally k (plays antes)

-- When All-Six is offered the first four cards go to the dealer, three community cards, then the All-Six card, then the seats: how many lie before those of the
-- seats
unfoldable pub dealers_first : ℕ → ℕ
dealers_first offer = if eqb offer 0 then 0 else 4

-- From the top of the deck, or behind the dealer's four, each playing seat, lowest first, takes two cards together: where the first of them lies
abbrev pub hole_at : ℕ → List ℕ → ℕ → ℕ
hole_at offer antes k = dealers_first offer + 2 * playing_before antes k

-- The next three are the community cards; when All-Six is offered, the dealer's first three: where the first of them lies
unfoldable pub community_at : ℕ → List ℕ → ℕ
community_at offer antes = if eqb offer 0 then 2 * playing_before antes 7 else 0

-- the two cards of the seat at place k
unfoldable pub hole : ℕ → List ℕ → List ℕ → ℕ → List ℕ
hole offer antes cards k = get_or cards (hole_at offer antes k) 0 ∷ get_or cards (hole_at offer antes k + 1) 0 ∷ []

unfoldable pub community : ℕ → List ℕ → List ℕ → List ℕ
community offer antes cards =
    get_or cards (community_at offer antes) 0 ∷ get_or cards (community_at offer antes + 1) 0 ∷ get_or cards (community_at offer antes + 2) 0 ∷ []

-- then the All-Six card, behind the community cards
unfoldable pub six_card : ℕ → List ℕ → List ℕ → ℕ
six_card offer antes cards = get_or cards (community_at offer antes + 3) 0

-- the five that its hand is named by
unfoldable pub five : ℕ → List ℕ → List ℕ → ℕ → List ℕ
five offer antes cards k = community offer antes cards ++ hole offer antes cards k

-- the six of its All-Six hand: community, All-Six card, the seat's two
unfoldable pub six_hand : ℕ → List ℕ → List ℕ → ℕ → List ℕ
six_hand offer antes cards k = community offer antes cards ++ six_card offer antes cards ∷ hole offer antes cards k
