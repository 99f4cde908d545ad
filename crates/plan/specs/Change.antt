-- A change of one register: read, and written with some fields set and every other bit as read.
-- Assumes nothing.
use Rattle.std.specs.Prelude.{ℕ, ◌-◌, ◌^◌, ◌<◌, ◌≡◌, List, [], ◌∷◌}
use Rattle.std.specs.Int.Bits.{bit_and, bit_or}
use Rattle.field.specs.Field.{Field, place, with_field, write}
use Rattle.field.specs.Settings.{Setting, ◌:=◌, fields_of, settings, AllFit}
use Rattle.plan.specs.declared.change.Change.{Change}

-- the word that is written for one that was read
unfoldable pub modified : Change → ℕ → ℕ
modified c w = bit_or (bit_and w c.keep) c.set

-- one field more is set
abbrev pub setting : Setting → Change → Change
setting (place p k := v) c = record { address = c.address; keep = with_field c.keep p k 0; set = with_field c.set p k v }

abbrev pub setting_all : List Setting → Change → Change
setting_all [] c = c
setting_all (s ∷ ss) c = setting_all ss (setting s c)

-- the change that sets these fields of the register at an address
abbrev pub change_of : ℕ → List Setting → Change
change_of address ss = setting_all ss (record { address = address; keep = 2 ^ 32 - 1; set = 0 })

-- it writes what the fields set one after the other make of the word read
abbrev pub ChangeSets : Type 0
ChangeSets = (address : ℕ) (ss : List Setting) (w : ℕ) → w < 2 ^ 32 → AllFit ss → modified (change_of address ss) w ≡ settings ss w

-- a word with these fields 0
abbrev pub cleared : List Field → ℕ → ℕ
cleared [] w = w
cleared (f ∷ fs) w = cleared fs (write f 0 w)

-- the change of these fields of the register at an address to these bits: every other bit is kept
abbrev pub change_to : ℕ → List Field → ℕ → Change
change_to address fields bits = record { address = address; keep = cleared fields (2 ^ 32 - 1); set = bits }

-- `change_of` is the change of its fields to the bits that it sets
abbrev pub ChangeIs : Type 0
ChangeIs = (address : ℕ) (ss : List Setting) → change_to address (fields_of ss) (change_of address ss).set ≡ change_of address ss

-- what is proved of changes
pub record Laws : Type 0 where
  pub change_sets : ChangeSets
  pub change_is : ChangeIs
