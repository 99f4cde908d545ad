-- From one exchange of has-next, peek and get to the next.
-- Assumes nothing.
use Rattle.std.specs.Prelude.{ℕ, ◌+◌, List, Bool, length, ltb, if◌then◌else◌, Some, None, Result}
use Rattle.field.specs.Field.{read, flag}
use Rattle.fifo.specs.Control.{TXEN, RXTSEN, payload_of}
use Rattle.fifo.specs.Status.{TFNRFNIF}
use Rattle.words.specs.Words.{round_up}
use Rattle.header.specs.Dlc.{received_length}
use Rattle.header.specs.Header.{DLC, FDF, FILHIT, header_of}
use Rattle.spi.specs.declared.refusal.Refusal.{Refusal}
use Rattle.spi.specs.declared.ask.Answer.{Answer}
use Rattle.spi.specs.Ram.{in_range}
use Rattle.spi.specs.Reply.{word_reply, pair_reply, done_reply}
use Rattle.spi.specs.Talk.{on_word, on_pair, on_done}
use Rattle.call.specs.declared.Found.{Found}
use Rattle.fetch.specs.declared.Want.{Want}
use Rattle.fetch.specs.FetchAt.{FetchAt}

-- ---- one definition for each transition

-- by the first control word: 9
unfoldable pub after_control : ℕ → FetchAt
after_control w = if flag TXEN w then FetchAt.Refused Refusal.FifoNotRx else FetchAt.Status

-- whether there is a next message
abbrev pub to_address : Bool → FetchAt
to_address next = if next then FetchAt.Address else FetchAt.Empty

abbrev pub by_status : Want → Bool → FetchAt
by_status Want.HasNext next = FetchAt.Told next
by_status Want.Peek next = to_address next
by_status Want.Get next = to_address next

-- by the status word: has-next is answered, peek and get end where there is none
unfoldable pub after_status : Want → ℕ → FetchAt
after_status want v = by_status want (flag TFNRFNIF v)

-- by the user address word: 25, 3 for the header
unfoldable pub after_address : ℕ → FetchAt
after_address u =
    if ltb 0xFBFF u then FetchAt.Refused Refusal.BadUserAddress
    else if in_range (u + 0x400) 8 then FetchAt.Header (u + 0x400)
    else FetchAt.Refused (Refusal.InvalidRamAddress (u + 0x400))

-- what the header's words say of the message
abbrev pub found_by : (a b : ℕ) → Found
found_by a b = record { header = header_of a b; dlc = read DLC b; filter = read FILHIT b; stamp = None; len = received_length (flag FDF b) (read DLC b) }

-- by the header's words
unfoldable pub after_header : ℕ → ℕ → ℕ → FetchAt
after_header m a b = FetchAt.Again m (found_by a b)

-- a timestamp at x: 3
unfoldable pub to_time : ℕ → Found → FetchAt
to_time x f = if in_range x 4 then FetchAt.Time x f else FetchAt.Refused (Refusal.InvalidRamAddress x)

-- a payload at x: 3
unfoldable pub to_body : ℕ → Found → FetchAt
to_body x f = if in_range x (round_up f.len) then FetchAt.Body x f else FetchAt.Refused (Refusal.InvalidRamAddress x)

-- timestamp or payload, the object being at m
abbrev pub to_rest : ℕ → Found → Bool → FetchAt
to_rest m f stamped = if stamped then to_time (m + 8) f else to_body (m + 8) f

-- by the second control word: 35 for a payload longer than its PLSIZE means
unfoldable pub after_again : ℕ → Found → ℕ → FetchAt
after_again m f w = if ltb (payload_of w) f.len then FetchAt.Refused Refusal.LengthBeyondSlot else to_rest m f (flag RXTSEN w)

abbrev pub stamped : Found → ℕ → Found
stamped f t = record { header = f.header; dlc = f.dlc; filter = f.filter; stamp = Some t; len = f.len }

-- by the timestamp word at x
unfoldable pub after_time : ℕ → Found → ℕ → FetchAt
after_time x f t = to_body (x + 4) (stamped f t)

-- after the payload: a get goes on
abbrev pub after_body : Want → Found → FetchAt
after_body Want.HasNext f = FetchAt.Done f
after_body Want.Peek f = FetchAt.Done f
after_body Want.Get f = FetchAt.Next f

-- ---- a step

-- where an answer leads, by what it says as a word, as two words, or by its kind and its n bytes
abbrev pub next_by : Want → FetchAt → Result ℕ Refusal → Result (ℕ × ℕ) Refusal → Answer → ℕ → FetchAt
next_by want FetchAt.Control word pair a n = on_word FetchAt.Refused word after_control
next_by want FetchAt.Status word pair a n = on_word FetchAt.Refused word (after_status want)
next_by want FetchAt.Address word pair a n = on_word FetchAt.Refused word after_address
next_by want (FetchAt.Header m) word pair a n = on_pair FetchAt.Refused pair (after_header m)
next_by want (FetchAt.Again m f) word pair a n = on_word FetchAt.Refused word (after_again m f)
next_by want (FetchAt.Time x f) word pair a n = on_word FetchAt.Refused word (after_time x f)
next_by want (FetchAt.Body x f) word pair a n = on_done FetchAt.Refused (done_reply Refusal.SpiRead a n (round_up f.len)) (after_body want f)
next_by want (FetchAt.Next f) word pair a n = on_word FetchAt.Refused word (λ w. FetchAt.Commit w f)
next_by want (FetchAt.Commit w f) word pair a n = on_done FetchAt.Refused (done_reply Refusal.SpiRead a n 0) (FetchAt.Done f)
next_by want (FetchAt.Done f) word pair a n = FetchAt.Refused Refusal.WrongAnswer
next_by want FetchAt.Empty word pair a n = FetchAt.Refused Refusal.WrongAnswer
next_by want (FetchAt.Told next) word pair a n = FetchAt.Refused Refusal.WrongAnswer
next_by want (FetchAt.Refused r) word pair a n = FetchAt.Refused Refusal.WrongAnswer

-- a failed exchange is 1
abbrev pub next_at : Want → FetchAt → Answer → List ℕ → FetchAt
next_at want at a rx = next_by want at (word_reply Refusal.SpiRead a rx) (pair_reply Refusal.SpiRead a rx) a (length rx)
