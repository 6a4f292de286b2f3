-- Bytes stored from a place on: past the end of the room, after others, and piece by piece.
-- Assumes nothing.
use Prim.Native.Nat.{ℕ, suc, ◌+◌, ◌-◌, ◌≤◌, ◌<◌, min}
use mathlib.Core.Path.{◌≡◌, refl, ap, ◌∙◌, sym}
use mathlib.Core.Bool.{Bool, true, false}
use mathlib.Core.List.{List, [], ◌∷◌, ◌++◌, append_assoc}
use native.Mathlib.Omega.{arith}
use lib.Dec.{leb}
use lib.ListN.{length, set, take, drop, length-set, length-append, length-take, take-append-drop, drop_of_length-le}
use lib.Seq.{sets, drop-drop, length-sets, set_out, sets-eq}
use borrow.Author.Tests.{leb-true, leb-false}
use Rattle.counting.proofs.Stores.{sets_append}
use Rattle.text.specs.declared.Page.{Page}
use Rattle.text.specs.Page.{Puts}
use Rattle.text.specs.Text.{behind, written}

pub write_past : (bytes room : List ℕ) (to : ℕ) → length room ≤ to → written room to bytes ≡ room
unfolding written
write_past [] room to h = refl
write_past (b ∷ bytes) room to h =
    let h' : length (set room to b) ≤ suc to = omega (arith, length-set room to b) in
    write_past bytes (set room to b) (suc to) h' ∙ set_out room to b h

-- As many of the bytes as fit stand between what was there before them and behind them.
pub write_part : (room bytes : List ℕ) (at many : ℕ) → at < length room → many ≡ min (length bytes) (length room - at)
    → take at room ++ (take many bytes ++ drop many (drop at room)) ≡ written room at bytes
unfolding written
write_part room bytes at many h e =
    let first = take many bytes in
    let l : length first ≡ many = omega (arith, length-take many bytes) in
    let end : at + many ≡ at + length first = omega arith in
    sym (append_assoc (take at room) first _)
    ∙ ap (λ (rest : List ℕ). (take at room ++ first) ++ rest) (drop-drop many at room ∙ ap (λ (n : ℕ). drop n room) end)
    ∙ sym (sets-eq first room at (omega arith))
    ∙ sym (over (leb (length bytes) many) refl) ∙ sym (sets_append first (drop many bytes) room at) ∙ ap (sets room at) (take-append-drop many bytes)
  where
    over : (t : Bool) → leb (length bytes) many ≡ t → sets (sets room at (take many bytes)) (at + length (take many bytes)) (drop many bytes) ≡ sets room at (take many bytes)
    over true q = rw (drop_of_length-le bytes (leb-true _ _ q))
    over false q =
        let p = leb-false _ _ q in
        write_past (drop many bytes) _ _ (omega (arith, length-take many bytes, length-sets room at (take many bytes)))

pub write_both : (room first second : List ℕ) (at : ℕ)
    → written (written room at first) (behind room at first) second ≡ written room at (first ++ second)
unfolding written behind
write_both room first second at = go _ refl
  where
    go : (t : Bool) → leb (at + length first) (length room) ≡ t
        → written (written room at first) (behind room at first) second ≡ written room at (first ++ second)
    go true e =
        let h : at + length first ≤ length room = leb-true _ _ e in
        ap (λ (n : ℕ). written (written room at first) n second) (omega arith) ∙ sym (sets_append first second room at)
    go false e =
        let h : length room < at + length first = leb-false _ _ e in
        let l = length-sets room at first in
        write_past second (written room at first) (behind room at first) (omega arith)
        ∙ sym (write_past second (written room at first) (at + length first) (omega arith))
        ∙ sym (sets_append first second room at)

pub behind_both : (room first second : List ℕ) (at : ℕ)
    → behind (written room at first) (behind room at first) second ≡ behind room at (first ++ second)
unfolding written behind
behind_both room first second at = omega (arith, length-sets room at first, length-append first second)

pub puts_both : {a b c : Page} {first second : List ℕ} → Puts a b first → Puts b c second → Puts a c (first ++ second)
puts_both {a} {first = first} {second = second} p q = record {
  same_room = q.same_room ∙ p.same_room;
  place = q.place ∙ rw (p.place, p.text) (behind_both a.room.now first second a.at);
  text = q.text ∙ rw (p.place, p.text) (write_both a.room.now first second a.at);
}

pub puts_none : (a : Page) → Puts a a []
unfolding behind written
puts_none a = record { same_room = refl; place = omega arith; text = refl }
