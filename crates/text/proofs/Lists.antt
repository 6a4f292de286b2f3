-- Numbers, each after a blank, one more at a time.
-- Assumes nothing.
use Prim.Native.Nat.{ℕ, ◌+◌, ◌≤◌, ◌<◌}
use mathlib.Core.Path.{◌≡◌, ap, sym, ◌∙◌}
use mathlib.Core.List.{List, [], ◌∷◌, ◌++◌, map, append_assoc, append-nil}
use native.Mathlib.Numerals.{add-one}
use lib.ListN.{length, get_or, take}
use lib.Seq.{take-suc, take_all}
use Rattle.text.specs.Text.{decimal, listed}

listed_push : {A : Type 0} (value : A → ℕ) (ns : List A) (n : A) → listed (map value (ns ++ (n ∷ []))) ≡ listed (map value ns) ++ (32 ∷ decimal (value n))
unfolding listed
listed_push value [] n = append-nil (32 ∷ decimal (value n))
listed_push value (m ∷ ns) n = ap (λ (l : List ℕ). (32 ∷ decimal (value m)) ++ l) (listed_push value ns n) ∙ sym (append_assoc (32 ∷ decimal (value m)) (listed (map value ns)) _)

module _ {A : Type 0} (value : A → ℕ) (ns : List A) (i : ℕ) where
  pub listed_more : (n : A) → n ≡ get_or ns i n → i < length ns
      → listed (map value (take (i + 1) ns)) ≡ listed (map value (take i ns)) ++ (32 ∷ decimal (value n))
  listed_more n e h = rw (add-one, take-suc ns i n h, sym e) (listed_push value (take i ns) n)

  pub listed_all : length ns ≤ i → listed (map value (take i ns)) ≡ listed (map value ns)
  listed_all h = rw (take_all i ns h)
