-- A round that passes the test is led to by its own records: table, seats, deck parts, choices by street and rising seat.
-- Assumes nothing.
use Prim.Native.Nat.{ℕ, ◌+◌, ◌*◌, ◌<◌}
use mathlib.Core.Path.{◌≡◌, refl, sym, ap, subst, subst₂, ◌∙◌}
use mathlib.Core.Bool.{Bool, true, false}
use mathlib.Core.List.{[], ◌∷◌}
use native.Mathlib.Omega.{arith}
use native.Mathlib.Nat.{add_assoc}
use lib.Dec.{eqb}
use borrow.Author.Tests.{eqb-true, ne_eqb}
use Rattle.counting.proofs.Tests.{other_holds}
use Rattle.records.specs.Seats.{plays, any_plays}
use Rattle.seating.specs.Table.{has_table, table_record}
use Rattle.seating.specs.Seat.{seat_record}
use Rattle.seating.specs.declared.Wagers.{Wagers}
use Rattle.seating.proofs.Tables.{no_table_lem, own_table, own_table_is, own_table_bytes}
use Rattle.seating.proofs.Seats.{wagered}
use Rattle.seating.proofs.Own.{first_seats, seats_none, seats_all, own_absent, own_seat, own_seat_next, own_seat_bytes}
use Rattle.dealing.specs.Part.{part_record}
use Rattle.dealing.specs.declared.Deck.{Deck}
use Rattle.dealing.proofs.Parts.{parts_le}
use Rattle.dealing.proofs.Own as deal
use Rattle.choosing.specs.Streets.{raise_on, has_chosen, streets_over}
use Rattle.choosing.specs.Choice.{choice_record}
use Rattle.choosing.specs.declared.Play.{Play}
use Rattle.choosing.specs.Slots.{play_fits}
use Rattle.choosing.proofs.Own as choose
use Rattle.round.specs.declared.Round.{Round}
use Rattle.round.specs.Order.{fresh_round}
use Rattle.round.specs.Feed.{with_table, with_wagers, with_deck, with_play}
use Rattle.led.specs.Led.{Leads}
use Rattle.led.specs.Held.{opened}
use Rattle.led.specs.Records.{only, seat_records, part_records, choice_in, street_records, choice_records, records_of}
use Rattle.led.proofs.Took.{table_none, table_next, seat_none, seat_next, part_none, part_next, choice_none, choice_next}
use Rattle.led.proofs.Leading.{join, stay, one, places}
use Rattle.led.proofs.Kept.{Long, Fits, now_opened}

module _ (r : Round) (long : Long r) (fits : Fits r) where
  -- ---- the table

  abbrev tabled : Round
  tabled = with_table fresh_round r.table

  table_by : (t : Bool) → has_table r.table ≡ t → Leads fresh_round (only t (table_record r.table)) tabled
  unfolding table_record
  table_by true h =
      let b = table_record r.table in
      one fresh_round tabled b (own_table_bytes r.table fits.table) (table_none fresh_round b refl refl refl (own_table r.table fits.table h))
      (table_next fresh_round b refl refl ∙ ap (with_table fresh_round) (own_table_is r.table))
  table_by false h = stay (ap (with_table fresh_round) (sym (no_table_lem r.table fits.table h)))

  -- ---- the seats, place by place

  abbrev seated_to : ℕ → Round
  seated_to n = with_wagers tabled (first_seats n r.wagers)

  seat_by : (n : ℕ) → n < 7 → (t : Bool) → plays r.wagers.antes n ≡ t → Leads (seated_to n) (only t (seat_record r.wagers n)) (seated_to (n + 1))
  unfolding seat_record
  seat_by n h true p =
      let b = seat_record r.wagers n in
      let read = (wagered r.table r.wagers n h fits.seats p).table in
      one (seated_to n) (seated_to (n + 1)) b (own_seat_bytes r.table r.wagers n h fits.table fits.seats p)
      (seat_none (seated_to n) b refl refl read refl (own_seat r.table r.wagers n h fits.seats p))
      (seat_next (seated_to n) b refl refl ∙ ap (with_wagers tabled) (own_seat_next r.wagers n h))
  seat_by n h false p = stay (ap (with_wagers tabled) (sym (own_absent r.table r.wagers n h fits.seats p)))

  abbrev seated : Round
  seated = with_wagers tabled r.wagers

  seats : Leads tabled (seat_records r) seated
  seats =
      subst₂ (λ (v w : Wagers). Leads (with_wagers tabled v) (seat_records r) (with_wagers tabled w))
      (seats_none r.wagers long.wagers) (seats_all r.wagers long.wagers)
      (places seated_to (λ k. only (plays r.wagers.antes k) (seat_record r.wagers k)) 7 (λ n h. seat_by n h (plays r.wagers.antes n) refl))

  -- ---- the deck, part by part

  abbrev dealt_to : ℕ → Round
  dealt_to n = with_deck seated (deal.first_parts n r.deck)

  -- a part that was read came after a seat
  someone : (n : ℕ) → n < r.deck.parts → any_plays r.wagers.antes ≡ true
  someone n h =
      let some : (r.deck.parts ≡ 0 → ⊥) = λ z. omega arith in
      other_holds (eqb r.deck.parts 0) (any_plays r.wagers.antes) fits.seated (ne_eqb r.deck.parts 0 some)

  part_by : (n : ℕ) → n < r.deck.parts → Leads (dealt_to n) (part_record r.deck n ∷ []) (dealt_to (n + 1))
  unfolding deal.first_parts
  part_by n h =
      let b = part_record r.deck n in
      let d = r.deck in
      let room : n < 4 = omega (arith, parts_le d fits.deck) in
      let sixteen = deal.own_long d n long.cards room in
      let kind = deal.own_kind d n in
      one (dealt_to n) (dealt_to (n + 1)) b (deal.own_bytes d n long.cards fits.deck h)
      (part_none (dealt_to n) b sixteen kind (someone n h) room (deal.own_part d n long.cards fits.deck h))
      (part_next (dealt_to n) b sixteen kind ∙ ap (with_deck seated) (deal.own_next d n long.cards fits.deck h))

  abbrev dealt : Round
  dealt = with_deck seated r.deck

  parts : Leads seated (part_records r) dealt
  parts =
      subst₂ (λ (c d : Deck). Leads (with_deck seated c) (part_records r) (with_deck seated d))
      (deal.parts_none r.deck long.cards) (deal.parts_all r.deck long.cards fits.deck)
      (places dealt_to (λ n. part_record r.deck n ∷ []) r.deck.parts part_by)

  -- ---- the choices, slot by slot

  abbrev played_to : ℕ → Round
  played_to i = with_play dealt (choose.first_choices i r.play)

  -- a choice was made on a street that has opened, so the deck is whole
  whole : (s k : ℕ) → s < 3 → k < 7 → has_chosen r.play s k ≡ true → r.deck.parts ≡ 4
  whole s k ls lk c = go (eqb r.deck.parts 4) refl
    where
      go : (t : Bool) → eqb r.deck.parts 4 ≡ t → r.deck.parts ≡ 4
      go true e = eqb-true r.deck.parts 4 e
      go false e =
          let none : opened r ≡ 0 = simp e in
          absurd (omega (arith, choose.chosen-opened r.wagers.antes r.play (opened r) s k ls lk fits.play c))

  choice_by : (s k : ℕ) → s < 3 → k < 7 → (t : Bool) → has_chosen r.play s k ≡ t
      → Leads (played_to (s * 7 + k)) (only t (choice_record k (raise_on r.play s k))) (played_to (s * 7 + k + 1))
  unfolding choice_record
  choice_by s k ls lk true c =
      let p = r.play in
      let antes = r.wagers.antes in
      let b = choice_record k (raise_on p s k) in
      let d = whole s k ls lk c in
      let f : play_fits antes p (streets_over antes p + 1) ≡ true = ap (play_fits antes p) (sym (now_opened r d)) ∙ fits.play in
      let street = choose.own_street antes p s k long.play ls lk f c in
      one (played_to (s * 7 + k)) (played_to (s * 7 + k + 1)) b (choose.own_bytes antes p (opened r) s k ls lk fits.play)
      (choice_none (played_to (s * 7 + k)) b refl refl d (omega (arith, street)) (choose.own_choice antes p s k long.play ls lk f c))
      (choice_next (played_to (s * 7 + k)) b refl refl ∙ ap (with_play dealt) (choose.own_next antes p s k long.play ls lk f c))
  choice_by s k ls lk false c = stay (ap (with_play dealt) (sym (choose.slot_empty r.play s k long.play lk c)))

  street_by : (s : ℕ) → s < 3 → Leads (played_to (s * 7)) (street_records r s) (played_to ((s + 1) * 7))
  street_by s h =
      let from : s * 7 + 0 ≡ s * 7 = omega arith in
      let to : s * 7 + 7 ≡ (s + 1) * 7 = omega arith in
      subst₂ (λ (i j : ℕ). Leads (played_to i) (street_records r s) (played_to j)) from to
      (places (λ k. played_to (s * 7 + k)) (choice_in r.play s) 7
      (λ k l. subst (λ (j : ℕ). Leads (played_to (s * 7 + k)) (choice_in r.play s k) (played_to j))
      (add_assoc (s * 7) k 1) (choice_by s k h l (has_chosen r.play s k) refl)))

  choices : Leads dealt (choice_records r) r
  choices =
      subst₂ (λ (p q : Play). Leads (with_play dealt p) (choice_records r) (with_play dealt q))
      (choose.choices_none r.play long.play) (choose.choices_all r.wagers.antes r.play (opened r) long.play fits.play)
      (places (λ s. played_to (s * 7)) (street_records r) 3 street_by)

  -- the round's own records, all accepted, lead from the fresh round to it
  pub written : Leads fresh_round (records_of r) r
  unfolding records_of
  written = join (table_by (has_table r.table) refl) (join seats (join parts choices))
