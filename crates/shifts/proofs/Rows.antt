-- What each round gives, m numbers each, written into a list from the front.
-- Assumes nothing.
use Prim.Native.Nat.{ℕ, ◌+◌, ◌-◌, ◌*◌, ◌≤◌}
use mathlib.Core.Path.{◌≡◌, ap, sym, ◌∙◌}
use mathlib.Core.List.{List, [], ◌++◌, map, append_assoc, append-nil}
use native.Mathlib.Nat.{mul-zero, mul-le-mul_left}
use native.Mathlib.Omega.{arith}
use lib.ListN.{length, take, drop, length-append, length-drop}
use lib.Seq.{take_all, take_at, length-take-le}
use Rattle.counting.proofs.Gathers.{one_more}
use Rattle.reading.specs.Joined.{joined}
use Rattle.cutting.specs.Rounds.{shift_rounds, round_count}
use Rattle.cutting.proofs.Cuts.{Ends}
use Rattle.shifts.specs.Shift.{in_turn}

module _ (m : ℕ) (give : List ℕ → List ℕ) (l : List ℕ) where
  -- those of the first k rounds are written, and those of the rest are still to come
  abbrev pub Row : List ℕ → List ℕ → ℕ → Type 0
  Row list rest k = (length list ≡ m * round_count l) × (take (m * k) list ++ in_turn give rest ≡ in_turn give l)

  pub row_none : (list : List ℕ) → length list ≡ m * round_count l → Row list l 0
  row_none list e = (e, rw (mul-zero m))

  -- there is room for those of the next
  pub row_room : (list rest : List ℕ) (k n : ℕ) → Row list rest k → k + round_count rest ≡ round_count l → Ends rest n → m * k + m ≤ length list
  row_room list rest k n s c e =
      let more : m * (k + 1) ≤ m * round_count l = mul-le-mul_left m (omega (arith, ap length e)) in omega (arith, s.0, one_more m k)

  -- they are written into their part of the list
  row_more : (list rest : List ℕ) (k n : ℕ) → Row list rest k → Ends rest n → length (give (take n rest)) ≡ m → m * k + m ≤ length list
      → Row (take (m * k) list ++ (give (take n rest) ++ drop m (drop (m * k) list))) (drop n rest) (k + 1)
  unfolding joined
  row_more list rest k n s e w h =
      let new : List ℕ = give (take n rest) in
      let before : List ℕ = take (m * k) list in
      let after : List ℕ = drop m (drop (m * k) list) in
      let far : length before ≡ m * k = length-take-le (m * k) list (omega arith) in
      let room : length after ≡ length list - (m * k) - m = length-drop m (drop (m * k) list) ∙ ap (λ (i : ℕ). i - m) (length-drop (m * k) list) in
      let long : length (before ++ (new ++ after)) ≡ length list =
      length-append before (new ++ after) ∙ omega (arith, length-append new after) in
      let seam : length (before ++ new) ≡ m * (k + 1) = length-append before new ∙ omega (arith, one_more m k) in
      let cut : take (m * (k + 1)) (before ++ (new ++ after)) ≡ before ++ new =
      rw (← (append_assoc before new after)) (take_at (before ++ new) after (m * (k + 1)) seam) in
      let here : in_turn give rest ≡ new ++ in_turn give (drop n rest) = ap (λ (rs : List (List ℕ)). joined (map give rs)) e in
      (long ∙ s.0, ap (λ (x : List ℕ). x ++ in_turn give (drop n rest)) cut ∙ append_assoc before new (in_turn give (drop n rest)) ∙ ap (λ (x : List ℕ). before ++ x) (sym here) ∙ s.1)

  -- and the list comes back with them
  pub row_back : (list rest new : List ℕ) (k n : ℕ) → Row list rest k → Ends rest n → new ≡ give (take n rest) → length (give (take n rest)) ≡ m
      → m * k + m ≤ length list → Row (take (m * k) list ++ (new ++ drop (m * k + m - m * k) (drop (m * k) list))) (drop n rest) (k + 1)
  row_back list rest new k n s e g w h =
      let wide : m * k + m - m * k ≡ m = omega arith in rw (wide, g) (row_more list rest k n s e w h)

  pub row_all : (list rest : List ℕ) (k : ℕ) → Row list rest k → shift_rounds rest ≡ [] → k ≡ round_count l → list ≡ in_turn give l
  unfolding joined
  row_all list rest k s n e =
      let none : in_turn give rest ≡ [] = ap (λ (rs : List (List ℕ)). joined (map give rs)) n in
      let all : take (m * k) list ≡ list = take_all (m * k) list (rw (s.0, e) (omega arith)) in
      sym (append-nil list) ∙ ap (λ (x : List ℕ). x ++ []) (sym all) ∙ ap (λ (x : List ℕ). take (m * k) list ++ x) (sym none) ∙ s.1
