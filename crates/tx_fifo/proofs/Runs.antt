-- The code's pushes follow their talks, whatever is answered, and what they write to RAM is the message's object.
-- Assumes nothing.
use Prim.Native.Nat.{ℕ, zero, suc, ◌+◌}
use mathlib.Core.Path.{◌≡◌, refl, ap, ◌∙◌}
use mathlib.Core.Bool.{Bool, true, false, not, false≢true}
use mathlib.Core.List.{List, [], ◌∷◌, ◌++◌}
use lib.ListN.{length}
use lib.Seq.{take-append_seam}
use lib.Dec.{eqb-suc-zero, ltb}
use Rattle.std.specs.Prelude.{if◌then◌else◌}
use Rattle.field.specs.Field.{flag}
use Rattle.configuration.specs.CanControl.{TXQEN}
use Rattle.fifo.specs.Control.{TXEN, payload_of, is_fifo}
use Rattle.fifo.specs.Status.{TFNRFNIF}
use Rattle.header.specs.declared.Header.{Header}
use Rattle.parts.specs.Parts.{zeroed}
use Rattle.message.specs.Message.{Encoding, encoding}
use Rattle.message.specs.Structs.{object_in, encoded_as}
use Rattle.spi.specs.Ask.{sent}
use Rattle.spi.specs.Instruction.{command_of}
use Rattle.spi.specs.Ram.{in_range}
use Rattle.spi.specs.Reply.{word_reply, done_reply}
use Rattle.spi.specs.Talk.{Talk, done, refused, ask, asks, answered, run, Within, Follows}
use Rattle.spi.specs.declared.refusal.Refusal.{Refusal}
use Rattle.spi.specs.declared.ask.Ask.{Ask}
use Rattle.spi.specs.declared.ask.Answer.{Answer}
use Rattle.spi.specs.declared.instruction.OpCode.{OpCode}
use Rattle.spi.proofs.Talks.{on_word_lem, on_done_lem, runs, word_within, done_within, if_within}
use Rattle.call.specs.Outcome.{ended}
use Rattle.call.specs.declared.Outcome.{Outcome}
use Rattle.tx_fifo.specs.Push.{Push}
use Rattle.tx_fifo.specs.PushAt.{PushAt}
use Rattle.tx_fifo.specs.Step.{to_send, encoding_for, begun, start_of, queue_start_at, queue_start, queue_unchecked_start, after_enabled, sends, after_control, after_status, after_address, next_at, step_of, ask_at, ask_of, outcome_at, outcome_of, done_at, is_done}
use Rattle.tx_fifo.specs.Talk.{commit_talk, write_talk, ram_talk, address_talk, status_talk, push_talk, with_encoding, push_call, enabled_talk, queue_push_call, bare_control_talk, bare_write_talk, bare_talk, queue_unchecked_call, talk_at, talk_of}

-- whether a talk is done
abbrev pub finished : {A : Type 0} → Talk A → Bool
finished (done x) = true
finished (refused r) = false
finished (ask q k) = false

-- ---- one step is one answer

module _ (fifo size len : ℕ) where
  abbrev rest : PushAt → Talk Outcome
  rest = talk_at fifo size len

  -- a test without which the call is refused
  only_if : (b : Bool) (at : PushAt) (r : Refusal) → rest (if b then at else PushAt.Refused r) ≡ (if not b then refused r else rest at)
  only_if true at r = refl
  only_if false at r = refl

  enabled_talk_lem : (w : ℕ) → rest (after_enabled w) ≡ (if not (flag TXQEN w) then refused Refusal.TxQueueDisabled else push_talk fifo size len)
  unfolding after_enabled
  enabled_talk_lem w = only_if (flag TXQEN w) PushAt.Control Refusal.TxQueueDisabled

  control_talk_lem : (w : ℕ)
      → rest (after_control fifo size w)
      ≡ (if not (sends fifo w) then refused Refusal.FifoNotTx else if ltb (payload_of w) size then refused Refusal.FifoTooSmall else status_talk fifo len w)
  unfolding after_control
  control_talk_lem w = go (sends fifo w) (ltb (payload_of w) size)
    where
      go : (a b : Bool)
          → rest (if a then if b then PushAt.Refused Refusal.FifoTooSmall else PushAt.Status w else PushAt.Refused Refusal.FifoNotTx)
          ≡ (if not a then refused Refusal.FifoNotTx else if b then refused Refusal.FifoTooSmall else status_talk fifo len w)
      go true true = refl
      go true false = refl
      go false b = refl

  status_talk_lem : (w v : ℕ) → rest (after_status w v) ≡ (if not (flag TFNRFNIF v) then refused Refusal.FifoFull else address_talk fifo len w)
  unfolding after_status
  status_talk_lem w v = only_if (flag TFNRFNIF v) (PushAt.Address w) Refusal.FifoFull

  address_talk_lem : (to : ℕ → PushAt) (u : ℕ)
      → rest (after_address len to u)
      ≡ (if ltb 0xFBFF u then refused Refusal.BadUserAddress else if not (in_range (u + 0x400) len) then refused (Refusal.InvalidRamAddress (u + 0x400)) else rest (to (u + 0x400)))
  unfolding after_address
  address_talk_lem to u = go (ltb 0xFBFF u)
    where
      go : (a : Bool)
          → rest (if a then PushAt.Refused Refusal.BadUserAddress else if in_range (u + 0x400) len then to (u + 0x400) else PushAt.Refused (Refusal.InvalidRamAddress (u + 0x400)))
          ≡ (if a then refused Refusal.BadUserAddress else if not (in_range (u + 0x400) len) then refused (Refusal.InvalidRamAddress (u + 0x400)) else rest (to (u + 0x400)))
      go true = refl
      go false = only_if (in_range (u + 0x400) len) (to (u + 0x400)) (Refusal.InvalidRamAddress (u + 0x400))

  step_at_lem : (at : PushAt) (a : Answer) (rx : List ℕ) → rest (next_at fifo size len at a rx) ≡ answered (rest at) a rx
  unfolding answered
  step_at_lem PushAt.Enabled a rx = on_word_lem rest PushAt.Refused refused (λ r. refl) (word_reply Refusal.SpiRead a rx) after_enabled _ enabled_talk_lem
  step_at_lem PushAt.Control a rx = on_word_lem rest PushAt.Refused refused (λ r. refl) (word_reply Refusal.SpiRead a rx) (after_control fifo size) _ control_talk_lem
  step_at_lem (PushAt.Status w) a rx = on_word_lem rest PushAt.Refused refused (λ r. refl) (word_reply Refusal.SpiRead a rx) (after_status w) _ (status_talk_lem w)
  step_at_lem (PushAt.Address w) a rx = on_word_lem rest PushAt.Refused refused (λ r. refl) (word_reply Refusal.SpiRead a rx) (after_address len (PushAt.Write w)) _ (address_talk_lem (PushAt.Write w))
  step_at_lem (PushAt.Write w m) a rx = on_done_lem rest PushAt.Refused refused (λ r. refl) (done_reply Refusal.SpiWrite a (length rx) 0) (PushAt.Commit w) _ refl
  step_at_lem (PushAt.Commit w) a rx = on_done_lem rest PushAt.Refused refused (λ r. refl) (done_reply Refusal.SpiRead a (length rx) 0) PushAt.Done _ refl
  step_at_lem PushAt.BareAddress a rx = on_word_lem rest PushAt.Refused refused (λ r. refl) (word_reply Refusal.SpiRead a rx) (after_address len PushAt.BareWrite) _ (address_talk_lem PushAt.BareWrite)
  step_at_lem (PushAt.BareWrite m) a rx = on_done_lem rest PushAt.Refused refused (λ r. refl) (done_reply Refusal.SpiWrite a (length rx) 0) PushAt.BareControl _ refl
  step_at_lem PushAt.BareControl a rx = on_word_lem rest PushAt.Refused refused (λ r. refl) (word_reply Refusal.SpiRead a rx) PushAt.Commit _ (λ w. refl)
  step_at_lem PushAt.Done a rx = refl
  step_at_lem (PushAt.Refused r) a rx = refl

  -- what is asked, how it ended and whether it is done are what the talk says
  says : (at : PushAt)
      → (ask_at fifo len at ≡ asks (rest at)) × (outcome_at at ≡ ended (λ (o : Outcome). o) (rest at)) × (done_at at ≡ finished (rest at))
  says PushAt.Enabled = (refl, refl, refl)
  says PushAt.Control = (refl, refl, refl)
  says (PushAt.Status w) = (refl, refl, refl)
  says (PushAt.Address w) = (refl, refl, refl)
  says (PushAt.Write w m) = (refl, refl, refl)
  says (PushAt.Commit w) = (refl, refl, refl)
  says PushAt.BareAddress = (refl, refl, refl)
  says (PushAt.BareWrite m) = (refl, refl, refl)
  says PushAt.BareControl = (refl, refl, refl)
  says PushAt.Done = (refl, refl, refl)
  says (PushAt.Refused r) = (refl, refl, refl)

-- ---- the whole call

pub follows : Follows step_of ask_of talk_of
unfolding step_of ask_of talk_of
follows = record {
  stepped = λ s a rx. step_at_lem s.fifo s.size s.object.len s.at a rx;
  asked = λ s. (says s.fifo s.size s.object.len s.at).0;
}

pub run_talk : (s : Push) (xs : List (Answer × List ℕ)) → talk_of (run step_of s xs) ≡ run answered (talk_of s) xs
run_talk = runs step_of ask_of talk_of follows

begun_talk : (fifo size : ℕ) (first : PushAt) (e : Encoding)
    → talk_of (begun fifo size first (encoded_as e)) ≡ with_encoding (λ len. talk_at fifo size len first) e
unfolding talk_of
begun_talk fifo size first (Encoding.refused r) = refl
begun_talk fifo size first (Encoding.object bs) = refl

pub start_talk : (fifo : ℕ) (h : Header) (seq : ℕ) (p : List ℕ) → talk_of (start_of fifo h seq p) ≡ push_call fifo h seq p
unfolding talk_of start_of encoding_for push_call
start_talk fifo h seq p = go (is_fifo fifo)
  where
    go : (b : Bool)
        → talk_of (begun fifo (length p) PushAt.Control (encoded_as (if b then encoding (to_send h seq p) else Encoding.refused Refusal.BadNumber)))
        ≡ (if not b then refused Refusal.BadNumber else with_encoding (push_talk fifo (length p)) (encoding (to_send h seq p)))
    go true = begun_talk fifo (length p) PushAt.Control (encoding (to_send h seq p))
    go false = refl

module _ (h : Header) (seq : ℕ) (p : List ℕ) where
  pub queue_start_talk : talk_of (queue_start h seq p) ≡ queue_push_call h seq p
  unfolding queue_start_at queue_push_call
  queue_start_talk = begun_talk 0 (length p) PushAt.Enabled (encoding (to_send h seq p))

  pub unchecked_start_talk : talk_of (queue_unchecked_start h seq p) ≡ queue_unchecked_call h seq p
  unfolding queue_start_at queue_unchecked_call
  unchecked_start_talk = begun_talk 0 (length p) PushAt.BareAddress (encoding (to_send h seq p))

pub outcome_talk : (s : Push) → outcome_of s ≡ ended (λ (o : Outcome). o) (talk_of s)
unfolding outcome_of talk_of
outcome_talk s = (says s.fifo s.size s.object.len s.at).1

pub done_exactly : (s : Push) → is_done s ≡ finished (talk_of s)
unfolding talk_of
done_exactly s = (says s.fifo s.size s.object.len s.at).2

-- the one that a FIFO is asked is TXEN
pub fifo_sends : (fifo w : ℕ) → is_fifo fifo ≡ true → sends fifo w ≡ flag TXEN w
unfolding is_fifo
fifo_sends zero w e = absurd (false≢true e)
fifo_sends (suc n) w e = ap (λ b. if b then true else flag TXEN w) (eqb-suc-zero n)

-- ---- five exchanges at most, to the queue six, unchecked four

-- with the user address before them
pub ram_within : (fifo len n : ℕ) (k : ℕ → Talk Outcome) → ((m : ℕ) → Within n (k m)) → Within (suc n) (ram_talk fifo len k)
ram_within fifo len n k h =
    λ a rx. word_within n (word_reply Refusal.SpiRead a rx) _ (λ u. if_within n (ltb 0xFBFF u) _ _ tt (if_within n (not (in_range (u + 0x400) len)) _ _ tt (h (u + 0x400))))

module _ (fifo len w : ℕ) where
  pub commit_within : Within 1 (commit_talk fifo w)
  commit_within = λ a rx. done_within 0 (done_reply Refusal.SpiRead a (length rx) 0) (done Outcome.Done) tt

  pub write_within : (m : ℕ) → Within 2 (write_talk fifo len w m)
  write_within m = λ a rx. done_within 1 (done_reply Refusal.SpiWrite a (length rx) 0) (commit_talk fifo w) commit_within

  pub address_within : Within 3 (address_talk fifo len w)
  address_within = ram_within fifo len 2 (write_talk fifo len w) write_within

  pub status_within : Within 4 (status_talk fifo len w)
  status_within = λ a rx. word_within 3 (word_reply Refusal.SpiRead a rx) _ (λ v. if_within 3 (not (flag TFNRFNIF v)) _ _ tt address_within)

pub push_within : (fifo size len : ℕ) → Within 5 (push_talk fifo size len)
push_within fifo size len =
    λ a rx. word_within 4 (word_reply Refusal.SpiRead a rx) _ (λ w. if_within 4 (not (sends fifo w)) _ _ tt (if_within 4 (ltb (payload_of w) size) _ _ tt (status_within fifo len w)))

pub enabled_within : (fifo size len : ℕ) → Within 6 (enabled_talk fifo size len)
enabled_within fifo size len =
    λ a rx. word_within 5 (word_reply Refusal.SpiRead a rx) _ (λ w. if_within 5 (not (flag TXQEN w)) _ _ tt (push_within fifo size len))

module _ (fifo len : ℕ) where
  pub bare_control_within : Within 2 (bare_control_talk fifo)
  bare_control_within = λ a rx. word_within 1 (word_reply Refusal.SpiRead a rx) _ (commit_within fifo len)

  pub bare_write_within : (m : ℕ) → Within 3 (bare_write_talk fifo len m)
  bare_write_within m = λ a rx. done_within 2 (done_reply Refusal.SpiWrite a (length rx) 0) (bare_control_talk fifo) bare_control_within

  pub bare_within : Within 4 (bare_talk fifo len)
  bare_within = ram_within fifo len 3 (bare_write_talk fifo len) bare_write_within

encoded_within : (n : ℕ) (k : ℕ → Talk Outcome) (e : Encoding) → ((len : ℕ) → Within n (k len)) → Within n (with_encoding k e)
encoded_within n k (Encoding.refused r) h = tt
encoded_within n k (Encoding.object bs) h = h (length bs)

pub bound : (fifo : ℕ) (h : Header) (seq : ℕ) (p : List ℕ) → Within 5 (push_call fifo h seq p)
unfolding push_call
bound fifo h seq p = if_within 5 (not (is_fifo fifo)) _ _ tt (encoded_within 5 (push_talk fifo (length p)) (encoding (to_send h seq p)) (push_within fifo (length p)))

module _ (h : Header) (seq : ℕ) (p : List ℕ) where
  pub queue_bound : Within 6 (queue_push_call h seq p)
  unfolding queue_push_call
  queue_bound = encoded_within 6 (enabled_talk 0 (length p)) (encoding (to_send h seq p)) (enabled_within 0 (length p))

  pub unchecked_bound : Within 4 (queue_unchecked_call h seq p)
  unfolding queue_unchecked_call
  unchecked_bound = encoded_within 4 (bare_talk 0) (encoding (to_send h seq p)) (bare_within 0)

-- ---- what is written to RAM

-- the bytes of the RAM write of an object
pub body_sent : (a : ℕ) (bs : List ℕ) → sent (Ask.Body a (length bs)) (object_in bs).bytes ≡ command_of OpCode.Write a ++ bs
unfolding sent zeroed
body_sent a bs = ap (λ (l : List ℕ). command_of OpCode.Write a ++ l) (take-append_seam bs _)

-- what no step changes is the same after all of them
pub kept : {S B : Type 0} (step : S → Answer → List ℕ → S) (part : S → B) → ((s : S) (a : Answer) (rx : List ℕ) → part (step s a rx) ≡ part s)
    → (s : S) (xs : List (Answer × List ℕ)) → part (run step s xs) ≡ part s
unfolding run
kept step part h s [] = refl
kept step part h s (x ∷ xs) = kept step part h (step s x.0 x.1) xs ∙ h s x.0 x.1

-- all the while the call has the object that its message is written as
pub object_kept : (s : Push) (xs : List (Answer × List ℕ)) → (run step_of s xs).object ≡ s.object
unfolding step_of
object_kept = kept step_of (λ s. s.object) (λ s a rx. refl)

pub object_carried : (fifo : ℕ) (h : Header) (seq : ℕ) (p bs : List ℕ) (xs : List (Answer × List ℕ))
    → is_fifo fifo ≡ true → encoding (to_send h seq p) ≡ Encoding.object bs → (run step_of (start_of fifo h seq p) xs).object ≡ object_in bs
unfolding start_of encoding_for
object_carried fifo h seq p bs xs f e = object_kept (start_of fifo h seq p) xs ∙ rw (f, e)

pub queue_carried : (first : PushAt) (h : Header) (seq : ℕ) (p bs : List ℕ) (xs : List (Answer × List ℕ))
    → encoding (to_send h seq p) ≡ Encoding.object bs → (run step_of (queue_start_at first h seq p) xs).object ≡ object_in bs
unfolding queue_start_at
queue_carried first h seq p bs xs e = object_kept (queue_start_at first h seq p) xs ∙ rw e
