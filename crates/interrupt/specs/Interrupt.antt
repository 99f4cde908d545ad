-- CiINT: for each cause an interrupt flag, and 16 bits higher its enable. Fields by the data sheet's names and bits.
-- Assumes nothing.
use Rattle.std.specs.Prelude.{ℕ, ◌+◌, List, [], ◌∷◌, ◌++◌, map}
use Rattle.field.specs.Field.{Field, bit}
use Rattle.field.specs.Register.{Register}
use Rattle.interrupt.specs.declared.Cause.{Cause}

-- where the flag of a cause stands: TXIF 0, RXIF 1, ..
abbrev pub cause_bit : Cause → ℕ
cause_bit Cause.Tx = 0
cause_bit Cause.Rx = 1
cause_bit Cause.Tbc = 2
cause_bit Cause.Mod = 3
cause_bit Cause.Tef = 4
cause_bit Cause.Ecc = 8
cause_bit Cause.SpiCrc = 9
cause_bit Cause.TxAt = 10
cause_bit Cause.RxOv = 11
cause_bit Cause.Serr = 12
cause_bit Cause.Cerr = 13
cause_bit Cause.Wak = 14
cause_bit Cause.Ivm = 15

-- TXIF, RXIF, ..
abbrev pub IF : Cause → Field
IF c = bit (cause_bit c)

-- TXIE, RXIE, ..
abbrev pub IE : Cause → Field
IE c = bit (cause_bit c + 16)

abbrev pub causes : List Cause
causes =
    Cause.Tx ∷ Cause.Rx ∷ Cause.Tbc ∷ Cause.Mod ∷ Cause.Tef ∷ Cause.Ecc ∷ Cause.SpiCrc ∷ Cause.TxAt ∷ Cause.RxOv ∷ Cause.Serr ∷ Cause.Cerr ∷ Cause.Wak ∷ Cause.Ivm ∷ []

abbrev pub CiINT : Register
CiINT = record { address = λ n. 0x01C; reset = 0x00000000; fields = map IF causes ++ map IE causes }
