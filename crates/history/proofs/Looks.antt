-- The calls that only read: they stay such calls, and leave the chip as it is.
-- Assumes nothing.
use Rattle.std.specs.Prelude.{Result, Ok, Err}
use Prim.Native.Nat.{ℕ, ◌^◌}
use mathlib.Core.Path.{◌≡◌}
use mathlib.Core.Bool.{false, true≢false}
use mathlib.Core.List.{List}
use lib.Dec.{ltb}
use lib.ListN.{length}
use Rattle.laws.proofs.Choice.{by_if}
use Rattle.configuration.specs.CanControl.{CiCON}
use Rattle.spi.specs.declared.refusal.Refusal.{Refusal}
use Rattle.spi.specs.declared.ask.Answer.{Answer}
use Rattle.spi.specs.declared.reply.CheckedWord.{CheckedWord}
use Rattle.spi.specs.Ram.{access_of}
use Rattle.spi.specs.Reply.{word_reply, done_reply, crc_reply}
use Rattle.spi.specs.Talk.{on_word, on_done, on_checked}
use Rattle.register.specs.RegisterCall.{RegisterCall}
use Rattle.register.specs.Step as register
use Rattle.ram.specs.RamCall.{RamCall}
use Rattle.ram.specs.Step as ram
use Rattle.scrub.specs.Scrub.{Scrub, ScrubAt}
use Rattle.scrub.specs.Step as scrub
use Rattle.state.specs.declared.Model.{Model}
use Rattle.driver.specs.CallAt.{CallAt}
use Rattle.driver.specs.Call.{Call}
use Rattle.driver.specs.Step.{ask_at, ask_of, step_at, step_of}
use Rattle.driver.specs.Start.{of_register, of_ram, of_scrub}
use Rattle.history.specs.Command.{Look, looks}
use Rattle.history.specs.Demand.{at_write, asks_rewrite}
use Rattle.history.proofs.Line.{spoken}
use Rattle.history.proofs.Asks.{hear_keeps, check_keeps}
use Rattle.history.proofs.PlanAsks.{nothing_keeps}

-- ---- registers

abbrev pub Looks : RegisterCall → Type 0
Looks RegisterCall.Reset = ⊥
Looks (RegisterCall.Read a) = Unit {0}
Looks (RegisterCall.Write a w) = ⊥
Looks (RegisterCall.Checked a seen) = Unit {0}
Looks RegisterCall.Mode = Unit {0}
Looks RegisterCall.Done = Unit {0}
Looks (RegisterCall.Word w) = Unit {0}
Looks (RegisterCall.Matched w seen) = Unit {0}
Looks (RegisterCall.OpMode m) = Unit {0}
Looks (RegisterCall.Refused r) = Unit {0}

-- where a look starts
addressed_looks : (a : ℕ) (s : RegisterCall) → Looks s → Looks (register.addressed a s)
unfolding register.addressed
addressed_looks a s h = by_if Looks (ltb a (2 ^ 12)) (λ e. h) (λ e. tt)

pub read_looks : (a : ℕ) → Looks (register.read_start a)
read_looks a = addressed_looks a (RegisterCall.Read a) tt

pub checked_looks : (a : ℕ) → Looks (register.checked_start a)
checked_looks a = addressed_looks a (RegisterCall.Checked a 0) tt

-- steps
word_looks : (x : Result ℕ Refusal) (k : ℕ → RegisterCall) → ((w : ℕ) → Looks (k w)) → Looks (on_word RegisterCall.Refused x k)
word_looks (Ok w) k h = h w
word_looks (Err r) k h = tt

again_looks : (x : CheckedWord) (s : RegisterCall) (seen : ℕ) → Looks s → Looks (on_checked RegisterCall.Refused x s (λ w. RegisterCall.Matched w seen))
again_looks (CheckedWord.Word w) s seen h = tt
again_looks CheckedWord.Mismatch s seen h = h
again_looks (CheckedWord.Bad r) s seen h = tt

mismatch_looks : (a seen : ℕ) → Looks (register.after_mismatch a seen)
unfolding register.after_mismatch
mismatch_looks a seen = by_if Looks (ltb seen 2) (λ e. tt) (λ e. tt)

pub step_looks : (s : RegisterCall) (a : Answer) (rx : List ℕ) → Looks s → Looks (register.step_of s a rx)
unfolding register.step_of
step_looks RegisterCall.Reset a rx h = absurd h
step_looks (RegisterCall.Read x) a rx h = word_looks (word_reply Refusal.SpiRead a rx) RegisterCall.Word (λ w. tt)
step_looks (RegisterCall.Write x w) a rx h = absurd h
step_looks (RegisterCall.Checked x seen) a rx h = again_looks (crc_reply Refusal.SpiRead x a rx) (register.after_mismatch x seen) seen (mismatch_looks x seen)
step_looks RegisterCall.Mode a rx h = word_looks (word_reply Refusal.SpiRead a rx) register.after_mode (λ w. tt)
step_looks RegisterCall.Done a rx h = tt
step_looks (RegisterCall.Word w) a rx h = tt
step_looks (RegisterCall.Matched w seen) a rx h = tt
step_looks (RegisterCall.OpMode m) a rx h = tt
step_looks (RegisterCall.Refused r) a rx h = tt

-- the chip
pub looks_keeps : (s : RegisterCall) (b : List ℕ) (c : Model) → Looks s → (spoken (register.ask_of s) b c).chip ≡ c
unfolding register.ask_of
looks_keeps RegisterCall.Reset b c h = absurd h
looks_keeps (RegisterCall.Read a) b c h = hear_keeps b c a 4
looks_keeps (RegisterCall.Write a w) b c h = absurd h
looks_keeps (RegisterCall.Checked a seen) b c h = check_keeps b c a
looks_keeps RegisterCall.Mode b c h = hear_keeps b c (CiCON.address 0) 4
looks_keeps RegisterCall.Done b c h = nothing_keeps b c
looks_keeps (RegisterCall.Word w) b c h = nothing_keeps b c
looks_keeps (RegisterCall.Matched w seen) b c h = nothing_keeps b c
looks_keeps (RegisterCall.OpMode m) b c h = nothing_keeps b c
looks_keeps (RegisterCall.Refused r) b c h = nothing_keeps b c

-- ---- RAM

abbrev pub LooksRam : RamCall → Type 0
LooksRam (RamCall.Read a place count) = Unit {0}
LooksRam (RamCall.Received place count) = Unit {0}
LooksRam (RamCall.Write a count) = ⊥
LooksRam RamCall.EchoWrite = ⊥
LooksRam RamCall.EchoRead = ⊥
LooksRam RamCall.Done = Unit {0}
LooksRam (RamCall.Refused r) = Unit {0}

done_looks : (x : Result (Unit {0}) Refusal) (s : RamCall) → LooksRam s → LooksRam (on_done RamCall.Refused x s)
done_looks (Ok _) s h = h
done_looks (Err r) s h = tt

pub ram_looks : (a room place count : ℕ) → LooksRam (ram.read_start a room place count)
unfolding ram.read_start
ram_looks a room place count =
    by_if LooksRam (ram.inside place count room)
    (λ e. done_looks (access_of a count (Refusal.InvalidReadLength count)) (RamCall.Read a place count) tt) (λ e. tt)

pub step_looks_ram : (s : RamCall) (a : Answer) (rx : List ℕ) → LooksRam s → LooksRam (ram.step_of s a rx)
unfolding ram.step_of
step_looks_ram (RamCall.Read x place count) a rx h = done_looks (done_reply Refusal.SpiRead a (length rx) count) (RamCall.Received place count) tt
step_looks_ram (RamCall.Received place count) a rx h = tt
step_looks_ram (RamCall.Write x count) a rx h = absurd h
step_looks_ram RamCall.EchoWrite a rx h = absurd h
step_looks_ram RamCall.EchoRead a rx h = absurd h
step_looks_ram RamCall.Done a rx h = tt
step_looks_ram (RamCall.Refused r) a rx h = tt

pub looks_keeps_ram : (s : RamCall) (b : List ℕ) (c : Model) → LooksRam s → (spoken (ram.ask_of s) b c).chip ≡ c
unfolding ram.ask_of
looks_keeps_ram (RamCall.Read a place count) b c h = hear_keeps b c a count
looks_keeps_ram (RamCall.Received place count) b c h = nothing_keeps b c
looks_keeps_ram (RamCall.Write a count) b c h = absurd h
looks_keeps_ram RamCall.EchoWrite b c h = absurd h
looks_keeps_ram RamCall.EchoRead b c h = absurd h
looks_keeps_ram RamCall.Done b c h = nothing_keeps b c
looks_keeps_ram (RamCall.Refused r) b c h = nothing_keeps b c

-- ---- a scrub step that has not asked for its WRITE

scrub_keeps : (at : ScrubAt) (s : Scrub) (b : List ℕ) (c : Model) → at_write at ≡ false → (spoken (scrub.ask_at at s.entry) b c).chip ≡ c
scrub_keeps (ScrubAt.Visit count) s b c n = check_keeps b c s.entry.address
scrub_keeps (ScrubAt.Write read first) s b c n = absurd (true≢false n)
scrub_keeps (ScrubAt.Back read first count) s b c n = check_keeps b c s.entry.address
scrub_keeps (ScrubAt.Told r) s b c n = nothing_keeps b c
scrub_keeps (ScrubAt.Refused r) s b c n = nothing_keeps b c

-- ---- the same of the driver

abbrev pub LooksAt : CallAt → Type 0
LooksAt (CallAt.Register r) = Looks r
LooksAt (CallAt.Ram r) = LooksRam r
LooksAt CallAt.Plan = ⊥
LooksAt CallAt.Push = ⊥
LooksAt CallAt.Transmit = ⊥
LooksAt CallAt.Fetch = ⊥
LooksAt (CallAt.Scrub s) = Unit {0}

pub look_starts : (x : Look) → LooksAt (looks x).at
unfolding of_register of_ram of_scrub
look_starts (Look.Register a) = read_looks a
look_starts (Look.Checked a) = checked_looks a
look_starts Look.OpMode = tt
look_starts (Look.Ram a place count buf) = ram_looks a (length buf) place count
look_starts (Look.Scrub place list rewrite) = tt

-- it reads a register or RAM, or scrubs
by_look : (P : CallAt → Type 0) → ((r : RegisterCall) → Looks r → P (CallAt.Register r)) → ((r : RamCall) → LooksRam r → P (CallAt.Ram r))
    → ((s : Scrub) → P (CallAt.Scrub s)) → (at : CallAt) → LooksAt at → P at
by_look P f g k (CallAt.Register r) h = f r h
by_look P f g k (CallAt.Ram r) h = g r h
by_look P f g k CallAt.Plan h = absurd h
by_look P f g k CallAt.Push h = absurd h
by_look P f g k CallAt.Transmit h = absurd h
by_look P f g k CallAt.Fetch h = absurd h
by_look P f g k (CallAt.Scrub s) h = k s

pub look_steps : (s : Call) (a : Answer) (rx : List ℕ) → LooksAt s.at → LooksAt (step_of s a rx).at
unfolding step_of
look_steps s a rx = by_look (λ at. LooksAt (step_at at s a rx).at) (λ r. step_looks r a rx) (λ r. step_looks_ram r a rx) (λ x. tt) s.at

pub look_keeps : (s : Call) (b : List ℕ) (c : Model) → LooksAt s.at → asks_rewrite s.at ≡ false → (spoken (ask_of s) b c).chip ≡ c
unfolding ask_of scrub.ask_of
look_keeps s b c =
    by_look (λ at. asks_rewrite at ≡ false → (spoken (ask_at at s) b c).chip ≡ c) (λ r h n. looks_keeps r b c h) (λ r h n. looks_keeps_ram r b c h)
    (λ x. scrub_keeps x.at x b c) s.at
