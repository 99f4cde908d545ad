-- Document 02, request 1: which filter takes a frame. The words are those of CiFLTCON, CiFLTOBJ and CiMASK.
-- Assumes nothing.
use Rattle.std.specs.Prelude.{ℕ, zero, suc, ◌+◌, ◌*◌, ◌/◌, ◌%◌, Bool, true, not, ◌&&◌, List, get_or, eqb, if◌then◌else◌}
use Rattle.std.specs.Int.Bits.{bit_and, bit_xor}
use Rattle.std.specs.Int.Count.{count_trailing_zeros}
use Rattle.field.specs.Field.{read, flag, digit}
use Rattle.filter.specs.Control.{FBP, FLTEN}
use Rattle.filter.specs.Object.{SID, EID, EXIDE}
use Rattle.filter.specs.Mask.{MSID, MEID, MIDE}

-- ---- one filter and one identifier

-- the bits of an identifier agree with those of an object where the mask is 1
unfoldable pub agrees : (id object mask : ℕ) → Bool
agrees id object mask = eqb (bit_and (bit_xor id object) mask) 0

-- where MIDE is 1, the frame kind equals EXIDE
unfoldable pub kind_agrees : (object mask : ℕ) → (extended : Bool) → Bool
kind_agrees object mask extended =
    if flag MIDE mask then if extended then flag EXIDE object else not (flag EXIDE object) else true

-- the identifier agrees; for a standard frame EID is not compared
unfoldable pub id_agrees : (object mask : ℕ) → (extended : Bool) → (sid eid : ℕ) → Bool
id_agrees object mask extended sid eid =
    agrees sid (read SID object) (read MSID mask) && (if extended then agrees eid (read EID object) (read MEID mask) else true)

-- an enabled filter matches if both do
unfoldable pub matches : (enabled : Bool) → (object mask : ℕ) → (extended : Bool) → (sid eid : ℕ) → Bool
matches enabled object mask extended sid eid = enabled && kind_agrees object mask extended && id_agrees object mask extended sid eid

-- ---- the filters: filter f is byte f % 4 of control word f / 4, object word f, mask word f

-- the control word that filter f has a byte of
abbrev pub control_at : List ℕ → ℕ → ℕ
control_at control f = get_or control (f / 4) 0

-- the FIFO that filter f gives its frames to
abbrev pub target_of : List ℕ → ℕ → ℕ
target_of control f = read (FBP (f % 4)) (control_at control f)

-- filter f matches; FLTEN enables it
abbrev pub hits : (control object mask : List ℕ) → (extended : Bool) → (sid eid f : ℕ) → Bool
hits control object mask extended sid eid f =
    matches (flag (FLTEN (f % 4)) (control_at control f)) (get_or object f 0) (get_or mask f 0) extended sid eid

-- ---- the match word

-- n tests from number k on: the test of k is bit 0
unfoldable pub tests : (ℕ → Bool) → (k n : ℕ) → ℕ
tests p k zero = 0
tests p k (suc n) = digit (p k) + 2 * tests p (suc k) n

-- the filters that there are
abbrev pub filter_count : ℕ
filter_count = 32

-- bit f is filter f
abbrev pub match_word : (control object mask : List ℕ) → (extended : Bool) → (sid eid : ℕ) → ℕ
match_word control object mask extended sid eid = tests (hits control object mask extended sid eid) 0 filter_count

-- the lowest-numbered filter that matches, 32 for none
abbrev pub filter_of : (control object mask : List ℕ) → (extended : Bool) → (sid eid : ℕ) → ℕ
filter_of control object mask extended sid eid = count_trailing_zeros filter_count (match_word control object mask extended sid eid)
