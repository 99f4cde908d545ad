-- The items of a plan.
-- Assumes nothing.
use Rattle.std.specs.Prelude.{ℕ, ◌-◌, ◌^◌, Bool, true, false, eqb}
use Rattle.field.specs.Field.{read, flag}
use Rattle.configuration.specs.CanControl.{CiCON, OPMOD}
use Rattle.chip.specs.OscillatorControl.{OSC, PLLRDY}
use Rattle.spi.specs.declared.refusal.Refusal.{Refusal}
use Rattle.plan.specs.declared.item.Poll.{Poll}
use Rattle.plan.specs.declared.item.Item.{Item}

-- the register that is polled
abbrev pub address_of : Poll → ℕ
address_of (Poll.Mode m late) = CiCON.address 0
address_of Poll.Pll = OSC.address 0

-- a word shows what is waited for
abbrev pub shown : Poll → ℕ → Bool
shown (Poll.Mode m late) w = eqb (read OPMOD w) m
shown Poll.Pll w = flag PLLRDY w

-- what the call is refused by where the last poll did not show it
abbrev pub late_of : Poll → Refusal
late_of (Poll.Mode m late) = late
late_of Poll.Pll = Refusal.PllNotReady

-- the words of the echo are 1, 2, 4, ..: the one after which so many bits are left
abbrev pub echo_word : ℕ → ℕ
echo_word left = 2 ^ (31 - left)

-- whether an item does anything
abbrev pub is_there : Item → Bool
is_there (Item.Change c) = true
is_there (Item.Poll p more) = true
is_there Item.Echo = true
is_there Item.Nothing = false
