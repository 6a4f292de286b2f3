-- Digits byte by byte, records one at a time, and a list without the zeros at its end, looked for from its front.
-- Assumes nothing.
use Prim.Native.Nat.{ℕ, ◌+◌, ◌≤◌, ◌<◌}
use mathlib.Core.Path.{◌≡◌, refl, ap, sym, ◌∙◌}
use mathlib.Core.Bool.{true, false}
use mathlib.Core.List.{List, [], ◌∷◌, ◌++◌, append_assoc, append-nil}
use native.Mathlib.Numerals.{add-one}
use lib.ListN.{length, get_or, take, drop, drop_of_length-le}
use lib.Seq.{take_all, take-suc, drop-cons}
use Rattle.records.specs.Bytes.{zero_from}
use Rattle.text.specs.Text.{hex_of}
use Rattle.reading.specs.File.{file_records}
use Rattle.reading.proofs.Records.{records_app, records_end}
use Rattle.digits.specs.Digits.{hexes, trimmed, spelled_one, spelled}

-- ---- digits

hexes_push : (xs : List ℕ) (x : ℕ) → hexes (xs ++ (x ∷ [])) ≡ hexes xs ++ hex_of x
unfolding hexes
hexes_push [] x = refl
hexes_push (y ∷ ys) x = ap (λ (l : List ℕ). hex_of y ++ l) (hexes_push ys x) ∙ sym (append_assoc (hex_of y) (hexes ys) (hex_of x))

pub hexes_more : (xs : List ℕ) (i : ℕ) → i < length xs → hexes (take (i + 1) xs) ≡ hexes (take i xs) ++ hex_of (get_or xs i 0)
hexes_more xs i h = rw (add-one, take-suc xs i 0 h) (hexes_push (take i xs) (get_or xs i 0))

pub hexes_all : (xs : List ℕ) (i : ℕ) → length xs ≤ i → hexes (take i xs) ≡ hexes xs
hexes_all xs i h = rw (take_all i xs h) refl

-- ---- records: those that were put, and those of the rest

pub spelled_push : (bs : List (List ℕ)) (b : List ℕ) → spelled (bs ++ (b ∷ [])) ≡ spelled bs ++ spelled_one b
unfolding spelled
spelled_push [] b = append-nil (spelled_one b)
spelled_push (c ∷ bs) b = ap (λ (l : List ℕ). spelled_one c ++ l) (spelled_push bs b) ∙ sym (append_assoc (spelled_one c) (spelled bs) (spelled_one b))

module _ (put : List (List ℕ)) (rest file : List ℕ) (all : put ++ file_records rest ≡ file_records file) where
  pub records_more : (b later : List ℕ) → rest ≡ b ++ later → length b ≡ 16 → (put ++ (b ∷ [])) ++ file_records later ≡ file_records file
  records_more b later e long =
      append_assoc put (b ∷ []) (file_records later) ∙ ap (λ (l : List (List ℕ)). put ++ l) (sym (records_app b later long) ∙ ap file_records (sym e)) ∙ all

  pub records_all : length rest < 16 → put ≡ file_records file
  records_all h = sym (append-nil put) ∙ ap (λ (l : List (List ℕ)). put ++ l) (sym (records_end rest h)) ∙ all

-- ---- without the zeros at the end: the first n are kept

-- the first of a list is kept, but where only zeros are left
trimmed_cons : (x : ℕ) (xs : List ℕ) → zero_from 0 (x ∷ xs) ≡ false → trimmed (x ∷ xs) ≡ x ∷ trimmed xs
unfolding trimmed
trimmed_cons x xs z = rw z

trimmed_zero : (l : List ℕ) → zero_from 0 l ≡ true → trimmed l ≡ []
unfolding trimmed
trimmed_zero [] z = refl
trimmed_zero (x ∷ xs) z = rw z

-- the first n, and what is kept of the rest, are what is kept
abbrev pub Kept : List ℕ → ℕ → Type 0
Kept l n = take n l ++ trimmed (drop n l) ≡ trimmed l

module _ (l : List ℕ) (n : ℕ) (k : Kept l n) where
  pub kept_more : n < length l → zero_from n l ≡ false → Kept l (n + 1)
  unfolding zero_from
  kept_more h z =
      let cut = drop-cons l n 0 h in
      let one = ap trimmed cut ∙ trimmed_cons _ _ (rw cut at z) in
      rw (add-one n, take-suc l n 0 h) (append_assoc (take n l) (get_or l n 0 ∷ []) _) ∙ ap (λ (r : List ℕ). take n l ++ r) (sym one) ∙ k

  pub kept_zero : zero_from n l ≡ true → take n l ≡ trimmed l
  unfolding zero_from
  kept_zero z = sym (append-nil (take n l)) ∙ ap (λ (r : List ℕ). take n l ++ r) (sym (trimmed_zero (drop n l) z)) ∙ k

  pub kept_all : length l ≤ n → l ≡ trimmed l
  unfolding trimmed
  kept_all h = rw (take_all n l h, drop_of_length-le l h, append-nil l) at k
