-- What is put into a page.
-- Assumes nothing.
use Rattle.std.specs.Prelude.{◌≡◌, ℕ, List}
use Rattle.text.specs.declared.Page.{Page}
use Rattle.text.specs.Text.{behind, written}

-- The page still has its room, in which the bytes are stored from its place on, and its place is then the one behind them.
pub record Puts (old new : Page) (bytes : List ℕ) : Type 0 where
  pub same_room : new.room.ghost_name ≡ old.room.ghost_name
  pub place : new.at ≡ behind old.room.now old.at bytes
  pub text : new.room.now ≡ written old.room.now old.at bytes
