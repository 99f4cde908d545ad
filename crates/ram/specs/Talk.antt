-- The calls on RAM as the line sees them.
-- Assumes nothing.
use Rattle.std.specs.Prelude.{ℕ, List, if◌then◌else◌}
use Rattle.spi.specs.Ram.{access_of}
use Rattle.spi.specs.Talk.{Talk, done, refused, on_done, read_bytes, write_body}
use Rattle.spi.specs.declared.refusal.Refusal.{Refusal}
use Rattle.call.specs.declared.Outcome.{Outcome}
use Rattle.ram.specs.RamCall.{RamCall}
use Rattle.ram.specs.Echo.{echo_bytes, same}
use Rattle.ram.specs.Step.{inside}

-- ---- exchanges

-- the bytes that are received go to the lent buffer when the call is done
abbrev pub read_talk : (address count : ℕ) → Talk Outcome
read_talk address count = read_bytes Refusal.SpiRead address count (λ rx. done Outcome.Done)

-- the lent bytes are the call's body
abbrev pub write_talk : (address count : ℕ) → Talk Outcome
write_talk address count = write_body Refusal.SpiWrite address count (done Outcome.Done)

-- what comes back is compared with what was written
abbrev pub echoed : List ℕ → Talk Outcome
echoed rx = if same rx echo_bytes then done Outcome.Done else refused Refusal.SpiFailedRamEcho

-- as many bytes are read back as were written
abbrev pub echo_talk : Talk Outcome
echo_talk = read_bytes Refusal.ConfigurationModeTimeout 0x400 128 echoed

-- ---- whole calls

-- 28, 3 and 4 before any exchange, in this order
unfoldable pub read_ram_talk : (address room place count : ℕ) → Talk Outcome
read_ram_talk address room place count =
    if inside place count room then on_done refused (access_of address count (Refusal.InvalidReadLength count)) (read_talk address count)
    else refused Refusal.BufferTooSmall

-- 3, then 5 before any exchange
unfoldable pub write_ram_talk : (address count : ℕ) → Talk Outcome
write_ram_talk address count = on_done refused (access_of address count (Refusal.InvalidWriteLength count)) (write_talk address count)

-- 32 words are written to the RAM's start and read back; a failed exchange is 11
unfoldable pub verify_long_talk : Talk Outcome
verify_long_talk = write_body Refusal.ConfigurationModeTimeout 0x400 128 echo_talk

-- ---- the rest of a call, from where it stands

abbrev pub talk_of : RamCall → Talk Outcome
talk_of (RamCall.Read address place count) = read_talk address count
talk_of (RamCall.Received place count) = done Outcome.Done
talk_of (RamCall.Write address count) = write_talk address count
talk_of RamCall.EchoWrite = verify_long_talk
talk_of RamCall.EchoRead = echo_talk
talk_of RamCall.Done = done Outcome.Done
talk_of (RamCall.Refused r) = refused r
