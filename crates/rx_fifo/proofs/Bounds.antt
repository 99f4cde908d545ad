-- How many exchanges has-next, peek and get take at most.
-- Assumes nothing.
use mathlib.Core.Bool.{Bool}
use mathlib.Core.List.{List}
use Prim.Native.Nat.{ℕ, suc, ◌+◌}
use native.Mathlib.Omega.{arith}
use lib.ListN.{length}
use lib.Dec.{ltb}
use Rattle.std.specs.Prelude.{if◌then◌else◌, Result}
use Rattle.field.specs.Field.{flag}
use Rattle.fifo.specs.Control.{TXEN, RXTSEN, payload_of, is_fifo}
use Rattle.fifo.specs.Status.{TFNRFNIF}
use Rattle.words.specs.Words.{round_up}
use Rattle.message.specs.Message.{Message}
use Rattle.spi.specs.Ram.{in_range}
use Rattle.spi.specs.declared.refusal.Refusal.{Refusal}
use Rattle.spi.specs.declared.ask.Answer.{Answer}
use Rattle.spi.specs.Reply.{word_reply, pair_reply, done_reply}
use Rattle.spi.specs.Talk.{done, refused, Within}
use Rattle.spi.proofs.Talks.{more, word_within, pair_within, done_within, if_within}
use Rattle.call.specs.declared.Found.{Found}
use Rattle.fetch.specs.declared.Want.{Want}
use Rattle.fetch.specs.Step.{found_by, stamped}
use Rattle.rx_fifo.specs.Outcome.{message_of}
use Rattle.rx_fifo.specs.Talk.{message, empty, commit_talk, next_talk, last_talk, body_talk, to_body_talk, time_talk, to_time_talk, rest_talk, slot_talk, again_talk, header_talk, to_header_talk, address_talk, held_talk, status_talk, control_talk, has_next_talk, lent_talk, peek_talk, get_talk}

abbrev word : Answer → List ℕ → Result ℕ Refusal
word = word_reply Refusal.SpiRead

pub next_within : (fifo : ℕ) (m : Message) → Within 2 (next_talk fifo m)
next_within fifo m = λ a rx.
    word_within 1 (word a rx) (λ w. commit_talk fifo w m)
    (λ w b ry. done_within 0 (done_reply Refusal.SpiRead b (length ry) 0) (done (message m)) tt)

-- where n exchanges follow the payload
module _ (want : Want) (fifo n : ℕ) (last : (m : Message) → Within n (last_talk want fifo m)) where
  pub body_within : (x : ℕ) (f : Found) → Within (suc n) (body_talk want fifo x f)
  body_within x f = λ a rx.
      done_within n (done_reply Refusal.SpiRead a (length rx) (round_up f.len)) (last_talk want fifo (message_of f rx)) (last (message_of f rx))

  to_body_within : (x : ℕ) (f : Found) → Within (suc n) (to_body_talk want fifo x f)
  to_body_within x f =
      if_within (suc n) (in_range x (round_up f.len)) (body_talk want fifo x f) (refused (Refusal.InvalidRamAddress x)) (body_within x f) tt

  pub time_within : (x : ℕ) (f : Found) → Within (suc (suc n)) (time_talk want fifo x f)
  time_within x f = λ a rx.
      word_within (suc n) (word a rx) (λ t. to_body_talk want fifo (x + 4) (stamped f t)) (λ t. to_body_within (x + 4) (stamped f t))

  to_time_within : (x : ℕ) (f : Found) → Within (suc (suc n)) (to_time_talk want fifo x f)
  to_time_within x f =
      if_within (suc (suc n)) (in_range x 4) (time_talk want fifo x f) (refused (Refusal.InvalidRamAddress x)) (time_within x f) tt

  rest_within : (m : ℕ) (f : Found) (stamped : Bool) → Within (suc (suc n)) (rest_talk want fifo m f stamped)
  rest_within m f stamped =
      if_within (suc (suc n)) stamped (to_time_talk want fifo (m + 8) f) (to_body_talk want fifo (m + 8) f) (to_time_within (m + 8) f)
      (more (suc n) (suc (suc n)) (to_body_talk want fifo (m + 8) f) (omega arith) (to_body_within (m + 8) f))

  pub again_within : (m : ℕ) (f : Found) → Within (suc (suc (suc n))) (again_talk want fifo m f)
  again_within m f = λ a rx.
      word_within (suc (suc n)) (word a rx) (slot_talk want fifo m f)
      (λ w.
      if_within (suc (suc n)) (ltb (payload_of w) f.len) (refused Refusal.LengthBeyondSlot) (rest_talk want fifo m f (flag RXTSEN w)) tt
      (rest_within m f (flag RXTSEN w)))

  pub header_within : (m : ℕ) → Within (suc (suc (suc (suc n)))) (header_talk want fifo m)
  header_within m = λ a rx.
      pair_within (suc (suc (suc n))) (pair_reply Refusal.SpiRead a rx) (λ c d. again_talk want fifo m (found_by c d)) (λ c d. again_within m (found_by c d))

  pub address_within : Within (suc (suc (suc (suc (suc n))))) (address_talk want fifo)
  address_within = λ a rx.
      word_within (suc (suc (suc (suc n)))) (word a rx) (to_header_talk want fifo)
      (λ u.
      let x = u + 0x400 in
      let t = if in_range x 8 then header_talk want fifo x else refused (Refusal.InvalidRamAddress x) in
      if_within (suc (suc (suc (suc n)))) (ltb 0xFBFF u) (refused Refusal.BadUserAddress) t tt
      (if_within (suc (suc (suc (suc n)))) (in_range x 8) (header_talk want fifo x) (refused (Refusal.InvalidRamAddress x)) (header_within x) tt))

-- where n exchanges follow the status
module _ (want : Want) (fifo n : ℕ) (next : (b : Bool) → Within n (held_talk want fifo b)) where
  pub status_within : Within (suc n) (status_talk want fifo)
  status_within = λ b ry. word_within n (word b ry) (λ v. held_talk want fifo (flag TFNRFNIF v)) (λ v. next (flag TFNRFNIF v))

  pub control_within : Within (suc (suc n)) (control_talk want fifo)
  control_within = λ a rx.
      word_within (suc n) (word a rx) (λ w. if flag TXEN w then refused Refusal.FifoNotRx else status_talk want fifo)
      (λ w. if_within (suc n) (flag TXEN w) (refused Refusal.FifoNotRx) (status_talk want fifo) tt status_within)

  lent_within : (room : ℕ) → Within (suc (suc n)) (lent_talk want fifo room)
  unfolding lent_talk
  lent_within room =
      let t = if ltb room 64 then refused Refusal.BufferTooSmall else control_talk want fifo in
      if_within (suc (suc n)) (is_fifo fifo) t (refused Refusal.BadNumber)
      (if_within (suc (suc n)) (ltb room 64) (refused Refusal.BufferTooSmall) (control_talk want fifo) tt control_within) tt

-- ---- the laws

pub has_next_bound : (fifo : ℕ) → Within 2 (has_next_talk fifo)
unfolding has_next_talk
has_next_bound fifo =
    if_within 2 (is_fifo fifo) (control_talk Want.HasNext fifo) (refused Refusal.BadNumber) (control_within Want.HasNext fifo 0 (λ b. tt)) tt

pub peek_bound : (fifo room : ℕ) → Within 7 (peek_talk fifo room)
peek_bound fifo =
    lent_within Want.Peek fifo 5
    (λ b. if_within 5 b (address_talk Want.Peek fifo) (done empty) (address_within Want.Peek fifo 0 (λ m. tt)) tt)

pub get_bound : (fifo room : ℕ) → Within 9 (get_talk fifo room)
get_bound fifo =
    lent_within Want.Get fifo 7
    (λ b. if_within 7 b (address_talk Want.Get fifo) (done empty) (address_within Want.Get fifo 2 (next_within fifo)) tt)
