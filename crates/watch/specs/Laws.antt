-- What is proved of where a scrub step begins, as a statement.
-- Assumes nothing.
use Rattle.std.specs.Prelude.{ℕ, ◌≡◌, true, List, Ok}
use Rattle.place.specs.Place.{is_carried}
use Rattle.watch.specs.declared.Watch.{Watch}
use Rattle.watch.specs.declared.Begun.{Begun}
use Rattle.watch.specs.Watch.{start_of}

-- a step that visits an entry visits a register that is carried
abbrev pub DueCarried : Type 0
DueCarried = (p : ℕ) (ws : List Watch) (b : Begun) → start_of p ws ≡ Ok b → is_carried b.address ≡ true

pub record Laws : Type 0 where
  pub due_carried : DueCarried
