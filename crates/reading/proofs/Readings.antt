-- Reading records one at a time, and a file of them: its place, the round that is then held, and that accepted records lead to it.
-- Assumes nothing.
use Prim.Native.Nat.{ℕ, ◌+◌, ◌*◌, ◌/◌, ◌%◌, ◌≤◌, ◌<◌}
use mathlib.Core.Path.{◌≡◌, refl, ap, sym, ◌∙◌}
use mathlib.Core.Bool.{Bool, true, false, not}
use mathlib.Core.List.{List, [], ◌∷◌, ◌++◌}
use native.Mathlib.Omega.{arith}
use lib.Dec.{eqb, ltb}
use lib.ListN.{length, length-append}
use borrow.Author.Tests.{ne_eqb, eqb-true, eqb-false}
use Rattle.std.specs.Prelude.{if◌then◌else◌}
use Rattle.counting.proofs.Lists.{every_of_left, every_of_right}
use Rattle.records.specs.Bytes.{are_bytes}
use Rattle.round.specs.declared.Round.{Round}
use Rattle.round.specs.declared.Step.{Step}
use Rattle.round.specs.Order.{fresh_round}
use Rattle.round.specs.Feed.{refusal, next, feed, number_of}
use Rattle.round.proofs.Numbers.{feed_number, feed-next, refusal-most}
use Rattle.led.specs.Led.{is_taken, Leads}
use Rattle.led.specs.Led.Leads.{done, then as accepts}
use Rattle.led.specs.Held.{is_held}
use Rattle.led.proofs.Took.{none_taken, took}
use Rattle.led.proofs.Kept.{Long, Fits, fits_held, fresh_long, fresh_fits, taken_fits}
use denote.Ref.{Bor}
use Rattle.std.specs.Prelude.{None, Some}
use Rattle.std.specs.declared.iter.Enumerate.{Enumerate}
use Rattle.std.specs.declared.slice.ChunksExact.{ChunksExact}
use Rattle.std.specs.Iterator.Adapters.{enumerate_source, enumerate_count, enumerate_steps}
use Rattle.std.specs.Slice.Iter.{chunks_exact_rest, chunks_exact_size, chunks_exact_steps}
use Rattle.causes.specs.declared.Refusal.{Refusal}
use Rattle.causes.specs.Refusal.{number, cause}
use Rattle.causes.proofs.Numbers.{cause-number}
use Rattle.reading.specs.declared.Reading.{Reading}
use Rattle.reading.specs.File.{file_records, stop, read_by, read_records, read_file}
use Rattle.reading.specs.Joined.{joined, Whole}
use Rattle.reading.proofs.Records.{records_end, records_count, records_bytes, records_joined, records_behind, records_app, joined_length}

-- ---- one record

module _ (by : Round → List ℕ → Step) (r : Round) (p : ℕ) (b : List ℕ) (bs : List (List ℕ)) where
  pub read_on : is_taken (by r b).answer ≡ true → read_by by r p (b ∷ bs) ≡ read_by by (by r b).round (p + 1) bs
  unfolding read_by
  read_on e = simp e

  pub read_stops : is_taken (by r b).answer ≡ false → read_by by r p (b ∷ bs) ≡ stop r (number_of (by r b).answer) p
  unfolding read_by
  read_stops e = simp e

-- no refusal has the number 0
some_number : (refusal : Refusal) → number refusal ≡ 0 → ⊥
some_number refusal z = let e : number refusal ≡ 20 = ap number (sym (cause-number refusal) ∙ ap cause z) in absurd (omega arith)

-- ---- a file, as the library cuts it

-- the records of l that are still to be read are those that `it` has left, from round r on
abbrev pub Going : List ℕ → Round → Enumerate (ChunksExact ℕ) → Type 0
Going l r it =
    (chunks_exact_size (enumerate_source it) ≡ 16)
    × (16 * enumerate_count it + length (chunks_exact_rest (enumerate_source it)) ≡ length l)
    × (read_records (file_records l) ≡ read_by feed r (enumerate_count it) (file_records (chunks_exact_rest (enumerate_source it))))

pub going_first : (l : List ℕ) (r : Round) (it : Enumerate (ChunksExact ℕ)) → r ≡ fresh_round → enumerate_count it ≡ 0
    → chunks_exact_size (enumerate_source it) ≡ 16 → chunks_exact_rest (enumerate_source it) ≡ l → Going l r it
going_first l r it f n size rest = rw (f, n, rest) (size, omega arith, refl)

module _ (l : List ℕ) (r : Round) (it after : Enumerate (ChunksExact ℕ)) (g : Going l r it) where
  pub going_ends : enumerate_steps chunks_exact_steps it None after → read_records (file_records l) ≡ stop r 0 (length l / 16)
  unfolding read_by
  going_ends s =
      let few : length (chunks_exact_rest (enumerate_source it)) < 16 = omega (arith, s.0.1.0, g.0) in
      let n : enumerate_count it ≡ length l / 16 = omega (arith, g.1) in
      g.2 ∙ rw (records_end (chunks_exact_rest (enumerate_source it)) few, n)

  module _ (place : ℕ) (b : Bor (List ℕ)) (s : enumerate_steps chunks_exact_steps it (Some (place, b)) after) where
    long : length b.now ≡ 16
    long = s.0.1.1 ∙ g.0

    here : read_records (file_records l) ≡ read_by feed r place (b.now ∷ file_records (chunks_exact_rest (enumerate_source after)))
    here = g.2 ∙ rw (s.0.1.0, records_app b.now (chunks_exact_rest (enumerate_source after)) long, s.1)

    pub going_stops : (refused : Refusal) → number refused ≡ refusal r b.now → read_records (file_records l) ≡ stop r (number refused) place
    going_stops refused a =
        let e : number refused ≡ number_of (feed r b.now).answer = a ∙ sym (feed_number r b.now) in
        here ∙ rw e (read_stops feed r place b.now (file_records (chunks_exact_rest (enumerate_source after))) (rw (← e) (ne_eqb (number refused) 0 (some_number refused))))

    pub going_on : refusal r b.now ≡ 0 → Going l (next r b.now) after
    going_on none = (
      s.0.0 ∙ g.0,
      omega (arith, s.2, g.1, long, ap length s.0.1.0, length-append b.now (chunks_exact_rest (enumerate_source after))),
      here
          ∙ rw (← (feed-next r b.now none), s.2, s.1)
          (read_on feed r (enumerate_count it) b.now (file_records (chunks_exact_rest (enumerate_source after))) (none_taken r b.now none)),
    )

-- ---- the records one after the other

-- what holds at the end and at a refusal, and in front of an accepted record where it holds after it, holds of every reading
module _ (by : Round → List ℕ → Step) (P : Round → ℕ → List (List ℕ) → Reading → Type 0)
    (ends : (r : Round) (p : ℕ) → P r p [] (stop r 0 p))
    (on : (r : Round) (p : ℕ) (b : List ℕ) (bs : List (List ℕ)) (w : Reading)
    → is_taken (by r b).answer ≡ true → P (by r b).round (p + 1) bs w → P r p (b ∷ bs) w)
    (stops : (r : Round) (p : ℕ) (b : List ℕ) (bs : List (List ℕ))
    → is_taken (by r b).answer ≡ false → P r p (b ∷ bs) (stop r (number_of (by r b).answer) p))
  where
    along : (bs : List (List ℕ)) (r : Round) (p : ℕ) → P r p bs (read_by by r p bs)
    unfolding read_by
    along [] r p = ends r p
    along (b ∷ bs) r p = go (is_taken (by r b).answer) refl _ (along bs (by r b).round (p + 1))
      where
        go : (t : Bool) → is_taken (by r b).answer ≡ t → (w : Reading) → P (by r b).round (p + 1) bs w
            → P r p (b ∷ bs) (if t then w else stop r (number_of (by r b).answer) p)
        go true a w h = on r p b bs w a h
        go false a w h = stops r p b bs a

-- the place is at most the count of the records, and that where none is refused
place_from : (bs : List (List ℕ)) (r : Round) (p : ℕ) → (read_by feed r p bs).place ≤ p + length bs
place_from =
    along feed (λ r p bs w. w.place ≤ p + length bs)
    (λ r p. omega arith)
    (λ r p b bs w a h. omega arith)
    (λ r p b bs a. omega arith)

count_from : (bs : List (List ℕ)) (r : Round) (p : ℕ) → (read_by feed r p bs).number ≡ 0 → (read_by feed r p bs).place ≡ p + length bs
count_from =
    along feed (λ r p bs w. w.number ≡ 0 → w.place ≡ p + length bs)
    (λ r p z. omega arith)
    (λ r p b bs w a h z. omega (arith, h z))
    (λ r p b bs a z. absurd (eqb-false (number_of (feed r b).answer) 0 a z))

pub records_place : (bs : List (List ℕ)) → (read_records bs).place ≤ length bs
records_place bs = omega (arith, place_from bs fresh_round 0)

pub records_read : (bs : List (List ℕ)) → (read_records bs).number ≡ 0 → (read_records bs).place ≡ length bs
records_read bs z = omega (arith, count_from bs fresh_round 0 z)

-- the number is a record's refusal or 0
pub records_number : (bs : List (List ℕ)) → (read_records bs).number ≤ 15
records_number bs =
    along feed (λ r p bs w. w.number ≤ 15)
    (λ r p. omega arith)
    (λ r p b bs w a h. h)
    (λ r p b bs a. omega (arith, feed_number r b, refusal-most r b))
    bs fresh_round 0

-- the round that is then held passes the test
pub records_fit : (bs : List (List ℕ)) → Fits (read_records bs).round
records_fit bs =
    along feed (λ r p bs w. Long r → Fits r → Fits w.round)
    (λ r p l f. f)
    (λ r p b bs w a h l f. let k = taken_fits r b l f a in h k.0 k.1)
    (λ r p b bs a l f. f)
    bs fresh_round 0 fresh_long fresh_fits

-- records that are refused are refused likewise where more come after
pub records_refused : (bs cs : List (List ℕ)) → ((read_records bs).number ≡ 0 → ⊥) → read_records (bs ++ cs) ≡ read_records bs
records_refused bs cs =
    along feed (λ r p bs w. (w.number ≡ 0 → ⊥) → read_by feed r p (bs ++ cs) ≡ w)
    (λ r p n. absurd (n refl))
    (λ r p b bs w a h n. read_on feed r p b (bs ++ cs) a ∙ h n)
    (λ r p b bs a n. read_stops feed r p b (bs ++ cs) a)
    bs fresh_round 0

-- and where none is refused reading goes on with them
pub records_on : (bs cs : List (List ℕ)) → (read_records bs).number ≡ 0 → read_records (bs ++ cs) ≡ read_by feed (read_records bs).round (read_records bs).place cs
records_on bs cs =
    along feed (λ r p bs w. w.number ≡ 0 → read_by feed r p (bs ++ cs) ≡ read_by feed w.round w.place cs)
    (λ r p z. refl)
    (λ r p b bs w a h z. read_on feed r p b (bs ++ cs) a ∙ h z)
    (λ r p b bs a z. absurd (eqb-false (number_of (feed r b).answer) 0 a z))
    bs fresh_round 0

-- records of which none is refused lead to the round
pub records_lead : (bs : List (List ℕ)) → are_bytes (joined bs) ≡ true → (read_records bs).number ≡ 0 → Leads fresh_round bs (read_records bs).round
unfolding joined are_bytes
records_lead bs =
    along feed (λ r p bs w. are_bytes (joined bs) ≡ true → w.number ≡ 0 → Leads r bs w.round)
    (λ r p e z. done)
    (λ r p b bs w a h e z.
    accepts b (every_of_left (λ x. ltb x 256) b (joined bs) e) a (h (every_of_right (λ x. ltb x 256) b (joined bs) e) z))
    (λ r p b bs a e z. absurd (eqb-false (number_of (feed r b).answer) 0 a z))
    bs fresh_round 0

-- and the other way round
leads_on : {r s : Round} {bs : List (List ℕ)} → Leads r bs s → (p : ℕ) → read_by feed r p bs ≡ stop s 0 (p + length bs)
unfolding read_by
leads_on (done {r}) p = ap (stop r 0) (omega arith)
leads_on (accepts {r} {s} {l} b h a k) p = read_on feed r p b l a ∙ leads_on k (p + 1) ∙ ap (stop s 0) (omega arith)

pub leads_read : (bs : List (List ℕ)) (r : Round) → Leads fresh_round bs r → read_records bs ≡ stop r 0 (length bs)
leads_read bs r k = leads_on k 0 ∙ ap (stop r 0) (omega arith)

-- each of them is as long as a record is
pub leads_whole : {r s : Round} {bs : List (List ℕ)} → Leads r bs s → Whole bs
unfolding Whole
leads_whole done = tt
leads_whole (accepts {r} b h a k) = ((took r b a).0, leads_whole k)

-- what answers a record to a held round as feeding does reads as feeding does
pub read_by_same : (by : Round → List ℕ → Step) → ((r : Round) (b : List ℕ) → is_held r ≡ true → by r b ≡ feed r b)
    → (bs : List (List ℕ)) → read_by by fresh_round 0 bs ≡ read_records bs
unfolding read_by
read_by_same by same bs =
    along feed (λ r p bs w. Long r → Fits r → read_by by r p bs ≡ w)
    (λ r p l f. refl)
    (λ r p b bs w a h l f. let k = taken_fits r b l f a in rw (same r b (fits_held r f)) (simp a (h k.0 k.1)))
    (λ r p b bs a l f. rw (same r b (fits_held r f)) (simp a))
    bs fresh_round 0 fresh_long fresh_fits

-- ---- a file

-- what holds where there is an odd tail, and of the records read, holds of the file
module _ (P : Reading → Type 0) (l : List ℕ) where
  file_either : P (stop fresh_round 2 (length l / 16)) → P (read_records (file_records l)) → P (read_file l)
  unfolding read_file
  file_either odd whole = go (eqb (length l % 16) 0)
    where
      go : (t : Bool) → P (if not t then stop fresh_round 2 (length l / 16) else read_records (file_records l))
      go true = whole
      go false = odd

pub read_place_lem : (l : List ℕ) → 16 * (read_file l).place ≤ length l
read_place_lem l =
    file_either (λ w. 16 * w.place ≤ length l) l (omega arith) (omega (arith, records_place (file_records l), records_count l))

pub read_count : (l : List ℕ) → (read_file l).number ≡ 0 → (read_file l).place ≡ length l / 16
read_count l =
    file_either (λ w. w.number ≡ 0 → w.place ≡ length l / 16) l
    (λ z. absurd (omega arith))
    (λ z. records_read (file_records l) z ∙ records_count l)

-- a file with an odd tail is refused
pub read_even : (l : List ℕ) → (read_file l).number ≡ 0 → length l % 16 ≡ 0
unfolding read_file
read_even l = go (eqb (length l % 16) 0) refl
  where
    go : (t : Bool) → eqb (length l % 16) 0 ≡ t → (if not t then stop fresh_round 2 (length l / 16) else read_records (file_records l)).number ≡ 0 → length l % 16 ≡ 0
    go true e z = eqb-true (length l % 16) 0 e
    go false e z = absurd (omega arith)

-- a record behind a file of accepted ones is the next to be read
pub read_behind : (l b : List ℕ) → (read_file l).number ≡ 0 → length b ≡ 16 → read_file (l ++ b) ≡ read_by feed (read_file l).round (read_file l).place (b ∷ [])
unfolding read_file
read_behind l b z long =
    let even = read_even l z in
    let more : length (l ++ b) % 16 ≡ 0 = omega (arith, length-append l b) in
    let is : read_file l ≡ read_records (file_records l) = simp even in
    simp (more, even, records_behind l b even long) (records_on (file_records l) (b ∷ []) (rw is at z))

pub read_number : (l : List ℕ) → (read_file l).number ≤ 15
read_number l = file_either (λ w. w.number ≤ 15) l (omega arith) (records_number (file_records l))

pub read_held : (l : List ℕ) → is_held (read_file l).round ≡ true
read_held l = fits_held (read_file l).round (file_either (λ w. Fits w.round) l fresh_fits (records_fit (file_records l)))

pub read_leads : (l : List ℕ) → are_bytes l ≡ true → (read_file l).number ≡ 0 → Leads fresh_round (file_records l) (read_file l).round
read_leads l e =
    file_either (λ w. w.number ≡ 0 → Leads fresh_round (file_records l) w.round) l
    (λ z. absurd (omega arith))
    (records_lead (file_records l) (records_bytes l e))

-- the file put together of accepted records
pub joined_read : (bs : List (List ℕ)) (r : Round) → Leads fresh_round bs r → read_file (joined bs) ≡ stop r 0 (length bs)
unfolding read_file
joined_read bs r k =
    let w = leads_whole k in
    let even : length (joined bs) % 16 ≡ 0 = omega (arith, joined_length bs w) in
    simp (even, records_joined bs w) (leads_read bs r k)
