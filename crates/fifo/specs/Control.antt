-- CiFIFOCONn: the control word of a FIFO. Fields by the data sheet's names and bits.
-- Assumes nothing.
use Rattle.std.specs.Prelude.{ℕ, ◌+◌, ◌-◌, ◌*◌, min, Bool, ◌&&◌, List, [], ◌∷◌, get_or, leb}
use Rattle.field.specs.Field.{Field, ◌‥◌, bit, read}
use Rattle.field.specs.Register.{Register}

abbrev pub TFNRFNIE : Field
TFNRFNIE = bit 0

abbrev pub TFHRFHIE : Field
TFHRFHIE = bit 1

abbrev pub TFERFFIE : Field
TFERFFIE = bit 2

abbrev pub RXOVIE : Field
RXOVIE = bit 3

abbrev pub TXATIE : Field
TXATIE = bit 4

abbrev pub RXTSEN : Field
RXTSEN = bit 5

abbrev pub RTREN : Field
RTREN = bit 6

abbrev pub TXEN : Field
TXEN = bit 7

abbrev pub UINC : Field
UINC = bit 8

abbrev pub TXREQ : Field
TXREQ = bit 9

abbrev pub FRESET : Field
FRESET = bit 10

abbrev pub TXPRI : Field
TXPRI = 20 ‥ 16

abbrev pub TXAT : Field
TXAT = 22 ‥ 21

abbrev pub FSIZE : Field
FSIZE = 28 ‥ 24

abbrev pub PLSIZE : Field
PLSIZE = 31 ‥ 29

-- FIFO n has its registers 12(n-1) above those of FIFO 1
abbrev pub CiFIFOCON : Register
CiFIFOCON = record {
  address = λ n. 0x05C + 12 * n - 12;
  reset = 0x00600400;
  fields = TFNRFNIE ∷ TFHRFHIE ∷ TFERFFIE ∷ RXOVIE ∷ TXATIE ∷ RXTSEN ∷ RTREN ∷ TXEN ∷ UINC ∷ TXREQ ∷ FRESET ∷ TXPRI ∷ TXAT ∷ FSIZE ∷ PLSIZE ∷ [];
}

-- PLSIZE 0 to 7 mean so many bytes
abbrev pub payloads : List ℕ
payloads = 8 ∷ 12 ∷ 16 ∷ 20 ∷ 24 ∷ 32 ∷ 48 ∷ 64 ∷ []

-- how many bytes of payload a control word allows
unfoldable pub payload_of : ℕ → ℕ
payload_of w = get_or payloads (read PLSIZE w) 0

-- FIFO size 1 to 32 stores size - 1, above 32 stores 31
abbrev pub stored_size : ℕ → ℕ
stored_size n = min (n - 1) 31

-- FIFOs are numbered from 1 to 31
unfoldable pub is_fifo : ℕ → Bool
is_fifo n = leb 1 n && leb n 31
