-- The registers that are carried, by address.
-- Assumes nothing.
use Rattle.std.specs.Prelude.{ℕ, zero, suc, ◌-◌, ◌/◌, ◌%◌, Bool, is_some, eqb, ltb, if◌then◌else◌, Option, Some, None}
use Rattle.place.specs.declared.Register.{Register}

-- in FIFO n's 12 bytes: control, status, user address
abbrev pub of_fifo : (n word : ℕ) → Register
of_fifo n zero = Register.Control n
of_fifo n (suc zero) = Register.Status n
of_fifo n (suc (suc k)) = Register.Address n

-- in filter m's 8 bytes: object, mask
abbrev pub of_filter : (m word : ℕ) → Register
of_filter m zero = Register.Object m
of_filter m (suc k) = Register.Mask m

-- CiCON, CiNBTCFG, CiDBTCFG, CiTDC, CiTSCON, CiINT, CiTXQCON, CiTXQSTA, CiTXQUA, OSC, IOCON: those that stand alone
unfoldable pub single : ℕ → Option Register
single a =
    if eqb a 0x000 then Some Register.Con
    else if eqb a 0x004 then Some (Register.Plain 0)
    else if eqb a 0x008 then Some (Register.Plain 1)
    else if eqb a 0x00C then Some (Register.Plain 2)
    else if eqb a 0x014 then Some (Register.Plain 3)
    else if eqb a 0x01C then Some (Register.Plain 4)
    else if eqb a 0x050 then Some Register.QueueControl
    else if eqb a 0x054 then Some Register.QueueStatus
    else if eqb a 0x058 then Some Register.QueueAddress
    else if eqb a 0xE00 then Some Register.Osc
    else if eqb a 0xE04 then Some (Register.Plain 5)
    else None

-- a register's address is a multiple of 4; FIFO n has 12 bytes at 0x050 + 12n, n from 1 to 31; eight filter controls are at 0x1D0, 32
-- filters' objects and masks at 0x1F0
unfoldable pub register_at : ℕ → Option Register
register_at a =
    if ltb 0 (a % 4) then None
    else if ltb a 0x05C then single a
    else if ltb a 0x1D0 then Some (of_fifo ((a - 0x050) / 12) ((a - 0x050) % 12 / 4))
    else if ltb a 0x1F0 then Some (Register.Filter ((a - 0x1D0) / 4))
    else if ltb a 0x2F0 then Some (of_filter ((a - 0x1F0) / 8) ((a - 0x1F0) % 8 / 4))
    else single a

-- an address is that of a register that is carried
unfoldable pub is_carried : ℕ → Bool
is_carried a = is_some (register_at a)
