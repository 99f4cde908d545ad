-- A register kind, as the data sheet lists it.
-- Assumes nothing.
use Rattle.std.specs.Prelude.{ℕ, ◌+◌, ◌-◌, ◌*◌, ◌<◌, ◌≤◌, ◌≡◌, List}
use Rattle.field.specs.Field.{Field}

pub record Register : Type 0 where
  -- where the register of this number stands; a kind that is there once has number 0
  pub address : ℕ → ℕ
  -- its word after RESET
  pub reset : ℕ
  pub fields : List Field

-- a kind's type in the code carries its reset word, as a value made and as a constant, and the address of its first register, number n
pub record Carries (kind : Register) (n made reset address : ℕ) : Type 0 where
  pub made_is : made ≡ kind.reset
  pub reset_is : reset ≡ kind.reset
  pub address_is : address ≡ kind.address n

-- a kind's registers stand `step` apart, that of number n at `address`; none lies near the end of what 16 bits count
pub record Steps (kind : Register) (n step address : ℕ) : Type 0 where
  pub step_is : (m : ℕ) → kind.address m ≡ address + step * m - step * n
  pub behind : step * n ≤ address
  pub low : address + step * 0xFF < 0x10000
