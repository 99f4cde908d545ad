-- The register calls' machine follows their talks, and each call ends within so many exchanges.
-- Assumes nothing.
use Prim.Native.Nat.{ℕ, zero, suc, ◌+◌, ◌-◌, ◌^◌}
use mathlib.Core.Path.{◌≡◌, refl}
use mathlib.Core.List.{List}
use native.Mathlib.Omega.{arith}
use lib.ListN.{length}
use lib.Dec.{ltb}
use borrow.Author.Tests.{le-ltb}
use Rattle.field.specs.Field.{read}
use Rattle.configuration.specs.CanControl.{OPMOD}
use Rattle.spi.specs.Reply.{word_reply, done_reply, crc_reply}
use Rattle.spi.specs.declared.refusal.Refusal.{Refusal}
use Rattle.spi.specs.declared.ask.Ask.{Ask}
use Rattle.spi.specs.declared.ask.Answer.{Answer}
use Rattle.spi.specs.Talk.{Talk, done, refused, asks, answered, run, Within, Follows}
use Rattle.spi.proofs.Talks.{if_ap, on_word_lem, on_done_lem, on_checked_lem, runs, word_within, done_within, checked_within, if_within}
use Rattle.call.specs.declared.Outcome.{Outcome}
use Rattle.call.specs.Outcome.{ended}
use Rattle.register.specs.RegisterCall.{RegisterCall}
use Rattle.register.specs.Step.{addressed, read_start, write_start, checked_start, after_mismatch, step_of, ask_of, outcome_of}
use Rattle.register.specs.Talk.{reset_talk, read_talk, write_talk, checked_talk, op_mode_talk, at_address, read_call, write_call, checked_call, talk_of}

-- a mismatch: another try, or 10
last_mismatch : (address n : ℕ) → talk_of (after_mismatch address (suc (suc n))) ≡ refused Refusal.CrcMismatch
unfolding after_mismatch
last_mismatch address n = rw (le-ltb (suc (suc n)) 2 (omega arith))

stepped : (s : RegisterCall) (a : Answer) (rx : List ℕ) → talk_of (step_of s a rx) ≡ answered (talk_of s) a rx
unfolding step_of answered checked_talk after_mismatch
stepped RegisterCall.Reset a rx = on_done_lem talk_of RegisterCall.Refused refused (λ r. refl) (done_reply Refusal.SpiWrite a (length rx) 0) _ _ refl
stepped (RegisterCall.Read address) a rx =
    on_word_lem talk_of RegisterCall.Refused refused (λ r. refl) (word_reply Refusal.SpiRead a rx) _ _ (λ w. refl)
stepped (RegisterCall.Write address word) a rx =
    on_done_lem talk_of RegisterCall.Refused refused (λ r. refl) (done_reply Refusal.SpiRead a (length rx) 0) _ _ refl
stepped (RegisterCall.Checked address zero) a rx =
    on_checked_lem talk_of RegisterCall.Refused refused (λ r. refl) (crc_reply Refusal.SpiRead address a rx) _ _ _ _ refl (λ w. refl)
stepped (RegisterCall.Checked address (suc zero)) a rx =
    on_checked_lem talk_of RegisterCall.Refused refused (λ r. refl) (crc_reply Refusal.SpiRead address a rx) _ _ _ _ refl (λ w. refl)
stepped (RegisterCall.Checked address (suc (suc n))) a rx =
    let e : 2 - suc (suc n) ≡ 0 = omega arith in
    rw e
    (on_checked_lem talk_of RegisterCall.Refused refused (λ r. refl) (crc_reply Refusal.SpiRead address a rx) _ _ _ _ (last_mismatch address n) (λ w. refl))
stepped RegisterCall.Mode a rx = on_word_lem talk_of RegisterCall.Refused refused (λ r. refl) (word_reply Refusal.SpiRead a rx) _ _ (λ w. refl)
stepped RegisterCall.Done a rx = refl
stepped (RegisterCall.Word w) a rx = refl
stepped (RegisterCall.Matched w seen) a rx = refl
stepped (RegisterCall.OpMode m) a rx = refl
stepped (RegisterCall.Refused r) a rx = refl

-- what is asked, and how the call ended
checked_shown : (address seen left : ℕ)
    → (Ask.Checked address ≡ asks (checked_talk address seen left)) × (Outcome.Running ≡ ended (λ x. x) (checked_talk address seen left))
unfolding checked_talk
checked_shown address seen zero = (refl, refl)
checked_shown address seen (suc left) = (refl, refl)

shown : (s : RegisterCall) → (ask_of s ≡ asks (talk_of s)) × (outcome_of s ≡ ended (λ x. x) (talk_of s))
unfolding ask_of outcome_of
shown RegisterCall.Reset = (refl, refl)
shown (RegisterCall.Read address) = (refl, refl)
shown (RegisterCall.Write address word) = (refl, refl)
shown (RegisterCall.Checked address seen) = checked_shown address seen (2 - seen)
shown RegisterCall.Mode = (refl, refl)
shown RegisterCall.Done = (refl, refl)
shown (RegisterCall.Word w) = (refl, refl)
shown (RegisterCall.Matched w seen) = (refl, refl)
shown (RegisterCall.OpMode m) = (refl, refl)
shown (RegisterCall.Refused r) = (refl, refl)

pub follows : Follows step_of ask_of talk_of
follows = record { stepped = stepped; asked = λ s. (shown s).0 }

pub run_talk : (s : RegisterCall) (xs : List (Answer × List ℕ)) → talk_of (run step_of s xs) ≡ run answered (talk_of s) xs
run_talk = runs step_of ask_of talk_of follows

-- ---- starts

start : (address : ℕ) (s : RegisterCall) → talk_of (addressed address s) ≡ at_address address (talk_of s)
unfolding addressed
start address s = if_ap talk_of (ltb address (2 ^ 12)) s (RegisterCall.Refused Refusal.BadSetting)

pub reset_start_talk : talk_of RegisterCall.Reset ≡ reset_talk
reset_start_talk = refl

pub read_start_talk : (address : ℕ) → talk_of (read_start address) ≡ read_call address
unfolding read_call
read_start_talk address = start address (RegisterCall.Read address)

pub write_start_talk : (address word : ℕ) → talk_of (write_start address word) ≡ write_call address word
unfolding write_call
write_start_talk address word = start address (RegisterCall.Write address word)

pub checked_start_talk : (address : ℕ) → talk_of (checked_start address) ≡ checked_call address
unfolding checked_call
checked_start_talk address = start address (RegisterCall.Checked address 0)

pub get_op_mode_start_talk : talk_of RegisterCall.Mode ≡ op_mode_talk
get_op_mode_start_talk = refl

-- ---- ends

pub outcome_talk : (s : RegisterCall) → outcome_of s ≡ ended (λ x. x) (talk_of s)
outcome_talk s = (shown s).1

-- ---- how many exchanges

address_within : (n address : ℕ) (t : Talk Outcome) → Within n t → Within n (at_address address t)
address_within n address t h = if_within n (ltb address (2 ^ 12)) t (refused Refusal.BadSetting) h tt

pub reset_bound : Within 1 reset_talk
reset_bound = λ a rx. done_within 0 (done_reply Refusal.SpiWrite a (length rx) 0) (done Outcome.Done) tt

pub read_bound : (address : ℕ) → Within 1 (read_call address)
unfolding read_call
read_bound address =
    address_within 1 address (read_talk address)
    (λ a rx. word_within 0 (word_reply Refusal.SpiRead a rx) (λ w. done (Outcome.Word w)) (λ w. tt))

pub write_bound : (address word : ℕ) → Within 1 (write_call address word)
unfolding write_call
write_bound address word =
    address_within 1 address (write_talk address word)
    (λ a rx. done_within 0 (done_reply Refusal.SpiRead a (length rx) 0) (done Outcome.Done) tt)

-- one try more than mismatches that are followed by another
pub tries : (address seen left : ℕ) → Within (suc left) (checked_talk address seen left)
unfolding checked_talk
tries address seen zero =
    λ a rx. checked_within 0 (crc_reply Refusal.SpiRead address a rx) (refused Refusal.CrcMismatch) (λ w. done (Outcome.Checked w seen)) tt (λ w. tt)
tries address seen (suc left) =
    λ a rx.
    checked_within (suc left) (crc_reply Refusal.SpiRead address a rx) (checked_talk address (seen + 1) left) (λ w. done (Outcome.Checked w seen))
    (tries address (seen + 1) left) (λ w. tt)

pub checked_bound : (address : ℕ) → Within 3 (checked_call address)
unfolding checked_call
checked_bound address = address_within 3 address (checked_talk address 0 2) (tries address 0 2)

pub get_op_mode_bound : Within 1 op_mode_talk
get_op_mode_bound = λ a rx. word_within 0 (word_reply Refusal.SpiRead a rx) (λ w. done (Outcome.Mode (read OPMOD w))) (λ w. tt)
