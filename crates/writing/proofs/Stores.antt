-- Stores into a room: one run of bytes after the other, and the records of several places.
-- Assumes nothing.
use Prim.Native.Nat.{ℕ, zero, suc, ◌+◌, ◌-◌, ◌/◌, ◌%◌, ◌≤◌, ◌<◌}
use mathlib.Core.Path.{◌≡◌, refl, ap, sym, ◌∙◌}
use mathlib.Core.Bool.{Bool, true, false}
use mathlib.Core.List.{List, ◌++◌, append-nil, append_assoc}
use native.Mathlib.Numerals.{add-one}
use native.Mathlib.Omega.{arith}
use lib.ListN.{length, take, drop, length-append}
use lib.Seq.{sets, sets-eq, length-sets}
use borrow.Rule.Slice.PartMut.{put_mid}
use Rattle.std.specs.Prelude.{Option, None, Some, option_to_list}
use Rattle.std.specs.Bool.{then_some}
use Rattle.std.proofs.lemmas.Slice.{put_mid-paste}
use Rattle.std.proofs.lemmas.List.Edits.{paste_all}
use Rattle.counting.specs.Count.{gather}
use Rattle.counting.proofs.Gathers.{gather_rows}
use Rattle.counting.proofs.Stores.{sets_append}
use Rattle.choosing.specs.declared.Play.{Play}
use Rattle.round.specs.declared.Round.{Round}
use Rattle.led.specs.Records.{only, choice_in, choice_records}
use Rattle.reading.specs.Joined.{joined}
use Rattle.reading.proofs.Records.{joined-append}

-- these bytes were stored into a room from byte `at` on: the room now, and the byte after them
abbrev pub Stored : List ℕ → ℕ → List ℕ → List ℕ → ℕ → Type 0
Stored lent at bytes room end = record { list : room ≡ sets lent at bytes; end : end ≡ at + length bytes }

pub stored_long : (lent : List ℕ) (at : ℕ) (xs room : List ℕ) (end : ℕ) → Stored lent at xs room end → length room ≡ length lent
stored_long lent at xs room end s = ap length s.list ∙ length-sets lent at xs

pub stored_then : (lent : List ℕ) (at : ℕ) (xs room : List ℕ) (end : ℕ) (ys new : List ℕ) (far : ℕ)
    → Stored lent at xs room end → Stored room end ys new far → Stored lent at (xs ++ ys) new far
stored_then lent at xs room end ys new far s t =
    record { list = t.list ∙ rw (s.list, s.end) (sym (sets_append xs ys lent at)); end = omega (arith, t.end, s.end, length-append xs ys) }

-- ---- one record, where there is one

pub only_some : (t : Bool) (b : List ℕ) → option_to_list (then_some t b) ≡ only t b
only_some true b = refl
only_some false b = refl

pub stored_none : (lent : List ℕ) (at : ℕ) (o : Option (List ℕ)) → o ≡ None → Stored lent at (joined (option_to_list o)) lent at
unfolding joined
stored_none lent at o e = rw e (record { list = refl; end = omega arith })

pub bytes_of : (o : Option (List ℕ)) (b : List ℕ) → o ≡ Some b → joined (option_to_list o) ≡ b
unfolding joined
bytes_of o b e = rw e (append-nil b)

-- n bytes from byte `at` on, stored as one part
pub sets_part : (lent : List ℕ) (at n : ℕ) (b new : List ℕ) → new ≡ b → n ≡ length b → at + n ≤ length lent → put_mid at n lent new ≡ sets lent at b
sets_part lent at n b new e p h =
    put_mid-paste at n lent new b n e refl p ∙ paste_all lent at b n p ∙ rw p (sym (sets-eq b lent at (rw (← p) h) ∙ append_assoc (take at lent) b (drop (at + length b) lent)))

-- ---- the records of several places

module _ (f : ℕ → List (List ℕ)) where
  -- those of the first k, as bytes
  abbrev pub bytes_to : ℕ → List ℕ
  bytes_to k = joined (gather k f)

  bytes_more : (k : ℕ) → bytes_to (k + 1) ≡ bytes_to k ++ joined (f k)
  unfolding gather
  bytes_more k = rw (add-one k) (joined-append (gather k f) (f k))

  bytes_le : (k d : ℕ) → length (bytes_to k) ≤ length (bytes_to (k + d))
  bytes_le k zero = let e : k + 0 ≡ k = omega arith in rw e (omega arith)
  bytes_le k (suc d) =
      let e : k + suc d ≡ k + d + 1 = omega arith in
      rw (e, bytes_more (k + d), length-append (bytes_to (k + d)) (joined (f (k + d)))) (omega (arith, bytes_le k d))

  module _ (lent : List ℕ) (at : ℕ) where
    -- the records of the first k of n places are stored
    abbrev pub Placed : ℕ → ℕ → List ℕ → ℕ → Type 0
    Placed n k room end = (k ≤ n) × (length room ≡ length lent) × Stored lent at (bytes_to k) room end

    pub placed-none : (n : ℕ) → Placed n 0 lent at
    unfolding gather joined
    placed-none n = (omega arith, refl, record { list = refl; end = omega arith })

    module _ (n k end : ℕ) (room : List ℕ) (p : Placed n k room end) where
      -- there is room for those of the next place where there is for all
      pub placed_room : k < n → at + length (bytes_to n) ≤ length lent → end + length (joined (f k)) ≤ length room
      placed_room h all =
          let e : k + 1 + (n - (k + 1)) ≡ n = omega arith in
          let more : length (bytes_to (k + 1)) ≤ length (bytes_to n) = rw e at (bytes_le (k + 1) (n - (k + 1))) in
          let long : length (bytes_to (k + 1)) ≡ length (bytes_to k) + length (joined (f k)) =
          ap length (bytes_more k) ∙ length-append (bytes_to k) (joined (f k)) in
          omega (arith, p.1, p.2.end)

      pub placed_more : k < n → (new : List ℕ) (far : ℕ) → Stored room end (joined (f k)) new far → Placed n (k + 1) new far
      placed_more h new far s =
          let all = stored_then lent at (bytes_to k) room end (joined (f k)) new far p.2 s in
          (omega arith, stored_long lent at (bytes_to k ++ joined (f k)) new far all, rw (bytes_more k) all)

      pub placed_all : n ≤ k → Stored lent at (bytes_to n) room end
      placed_all h = let e : k ≡ n = omega (arith, p.0) in rw e at p.2

-- ---- the choices, one place for each seat on each street

abbrev pub choice_at : Play → ℕ → List (List ℕ)
choice_at p i = choice_in p (i / 7) (i % 7)

pub choices_at : (r : Round) → bytes_to (choice_at r.play) 21 ≡ joined (choice_records r)
choices_at r = ap joined (gather_rows (choice_in r.play) 3)
