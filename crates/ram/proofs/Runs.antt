-- The RAM calls' machine follows their talks, each call ends within so many exchanges, and a read fills its part.
-- Assumes nothing.
use Prim.Native.Nat.{ℕ, ◌+◌, ◌≤◌}
use mathlib.Core.Path.{◌≡◌, refl, ap, ◌∙◌}
use mathlib.Core.List.{List}
use lib.ListN.{length}
use borrow.Author.Tests.{le-leb, eq-eqb}
use Rattle.std.specs.Prelude.{if◌then◌else◌, Result}
use Rattle.parts.specs.Parts.{put}
use Rattle.spi.specs.declared.refusal.Refusal.{Refusal}
use Rattle.spi.specs.declared.ask.Answer.{Answer}
use Rattle.spi.specs.Ram.{access_of}
use Rattle.spi.specs.Reply.{done_reply}
use Rattle.spi.specs.Talk.{Talk, done, refused, on_done, asks, answered, run, Within, Follows}
use Rattle.spi.proofs.Talks.{if_ap, on_done_lem, runs, done_within, if_within}
use Rattle.call.specs.declared.Outcome.{Outcome}
use Rattle.call.specs.Outcome.{ended}
use Rattle.ram.specs.RamCall.{RamCall}
use Rattle.ram.specs.Echo.{echo_bytes, same}
use Rattle.ram.specs.Step.{inside, read_start, write_start, after_echo, step_of, ask_of, outcome_of, filled_part, filled_by}
use Rattle.ram.specs.Talk.{read_talk, write_talk, echo_talk, read_ram_talk, write_ram_talk, verify_long_talk, echoed, talk_of}

-- where an answer is good the machine goes on as the talk does
goes : (x : Result (Unit {0}) Refusal) (s : RamCall) (t : Talk Outcome) → talk_of s ≡ t → talk_of (on_done RamCall.Refused x s) ≡ on_done refused x t
goes = on_done_lem talk_of RamCall.Refused refused (λ r. refl)

echo_talk_lem : (rx : List ℕ) → talk_of (after_echo rx) ≡ echoed rx
unfolding after_echo
echo_talk_lem rx = if_ap talk_of (same rx echo_bytes) RamCall.Done (RamCall.Refused Refusal.SpiFailedRamEcho)

stepped : (s : RamCall) (a : Answer) (rx : List ℕ) → talk_of (step_of s a rx) ≡ answered (talk_of s) a rx
unfolding step_of answered verify_long_talk
stepped (RamCall.Read address place count) a rx = goes (done_reply Refusal.SpiRead a (length rx) count) _ _ refl
stepped (RamCall.Received place count) a rx = refl
stepped (RamCall.Write address count) a rx = goes (done_reply Refusal.SpiWrite a (length rx) 0) _ _ refl
stepped RamCall.EchoWrite a rx = goes (done_reply Refusal.ConfigurationModeTimeout a (length rx) 0) _ _ refl
stepped RamCall.EchoRead a rx = goes (done_reply Refusal.ConfigurationModeTimeout a (length rx) 128) _ _ (echo_talk_lem rx)
stepped RamCall.Done a rx = refl
stepped (RamCall.Refused r) a rx = refl

-- what is asked, and how the call ended
shown : (s : RamCall) → (ask_of s ≡ asks (talk_of s)) × (outcome_of s ≡ ended (λ x. x) (talk_of s))
unfolding ask_of outcome_of verify_long_talk
shown (RamCall.Read address place count) = (refl, refl)
shown (RamCall.Received place count) = (refl, refl)
shown (RamCall.Write address count) = (refl, refl)
shown RamCall.EchoWrite = (refl, refl)
shown RamCall.EchoRead = (refl, refl)
shown RamCall.Done = (refl, refl)
shown (RamCall.Refused r) = (refl, refl)

pub follows : Follows step_of ask_of talk_of
follows = record { stepped = stepped; asked = λ s. (shown s).0 }

pub run_talk : (s : RamCall) (xs : List (Answer × List ℕ)) → talk_of (run step_of s xs) ≡ run answered (talk_of s) xs
run_talk = runs step_of ask_of talk_of follows

-- ---- starts

pub read_ram_start_talk : (address room place count : ℕ) → talk_of (read_start address room place count) ≡ read_ram_talk address room place count
unfolding read_start read_ram_talk
read_ram_start_talk address room place count =
    if_ap talk_of (inside place count room) _ _
    ∙ ap (λ (t : Talk Outcome). if inside place count room then t else refused Refusal.BufferTooSmall)
    (goes (access_of address count (Refusal.InvalidReadLength count)) _ (read_talk address count) refl)

pub write_ram_start_talk : (address count : ℕ) → talk_of (write_start address count) ≡ write_ram_talk address count
unfolding write_start write_ram_talk
write_ram_start_talk address count = goes (access_of address count (Refusal.InvalidWriteLength count)) _ _ refl

pub verify_long_start_talk : talk_of RamCall.EchoWrite ≡ verify_long_talk
verify_long_start_talk = refl

-- ---- ends

pub outcome_talk : (s : RamCall) → outcome_of s ≡ ended (λ x. x) (talk_of s)
outcome_talk s = (shown s).1

-- ---- how many exchanges

pub read_ram_bound : (address room place count : ℕ) → Within 1 (read_ram_talk address room place count)
unfolding read_ram_talk
read_ram_bound address room place count =
    if_within 1 (inside place count room) (on_done refused (access_of address count (Refusal.InvalidReadLength count)) (read_talk address count)) (refused Refusal.BufferTooSmall)
    (done_within 1 (access_of address count (Refusal.InvalidReadLength count)) (read_talk address count) (λ a rx. done_within 0 (done_reply Refusal.SpiRead a (length rx) count) (done Outcome.Done) tt))
    tt

pub write_ram_bound : (address count : ℕ) → Within 1 (write_ram_talk address count)
unfolding write_ram_talk
write_ram_bound address count =
    done_within 1 (access_of address count (Refusal.InvalidWriteLength count)) (write_talk address count)
    (λ a rx. done_within 0 (done_reply Refusal.SpiWrite a (length rx) 0) (done Outcome.Done) tt)

pub verify_long_bound : Within 2 verify_long_talk
unfolding verify_long_talk
verify_long_bound =
    λ a rx.
    done_within 1 (done_reply Refusal.ConfigurationModeTimeout a (length rx) 0) echo_talk
    (λ b ry.
    done_within 0 (done_reply Refusal.ConfigurationModeTimeout b (length ry) 128) (echoed ry)
    (if_within 0 (same ry echo_bytes) (done Outcome.Done) (refused Refusal.SpiFailedRamEcho) tt tt))

-- ---- the lent buffer

-- what a read received is in its part, and all other bytes are as they were
pub fill_law : (address place count : ℕ) (rx buf : List ℕ) → length rx ≡ count → place + count ≤ length buf
    → filled_by (step_of (RamCall.Read address place count) Answer.Exchanged rx) rx buf ≡ put buf place rx
unfolding filled_by step_of filled_part
fill_law address place count rx buf e h = simp (eq-eqb (length rx) count e, le-leb (place + count) (length buf) h)

-- no other state changes a byte
pub fill_keeps : (s : RamCall) (rx buf : List ℕ) → ((place count : ℕ) → s ≡ RamCall.Received place count → ⊥) → filled_by s rx buf ≡ buf
unfolding filled_by
fill_keeps (RamCall.Read address place count) rx buf h = refl
fill_keeps (RamCall.Received place count) rx buf h = absurd (h place count refl)
fill_keeps (RamCall.Write address count) rx buf h = refl
fill_keeps RamCall.EchoWrite rx buf h = refl
fill_keeps RamCall.EchoRead rx buf h = refl
fill_keeps RamCall.Done rx buf h = refl
fill_keeps (RamCall.Refused r) rx buf h = refl
