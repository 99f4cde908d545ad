-- The answers by number: each refusal's number, followed by the value that it carries.
-- Assumes nothing.
use Rattle.std.specs.Prelude.{ℕ, List, [], ◌∷◌, Result, Ok, Err}
use Rattle.spi.specs.declared.refusal.Refusal.{Refusal}

abbrev pub numbered : Refusal → List ℕ
numbered Refusal.SpiRead = 1 ∷ []
numbered Refusal.SpiWrite = 2 ∷ []
numbered (Refusal.InvalidRamAddress a) = 3 ∷ a ∷ []
numbered (Refusal.InvalidReadLength n) = 4 ∷ n ∷ []
numbered (Refusal.InvalidWriteLength n) = 5 ∷ n ∷ []
numbered Refusal.FifoNotTx = 6 ∷ []
numbered Refusal.FifoTooSmall = 7 ∷ []
numbered Refusal.FifoFull = 8 ∷ []
numbered Refusal.FifoNotRx = 9 ∷ []
numbered Refusal.CrcMismatch = 10 ∷ []
numbered Refusal.ConfigurationModeTimeout = 11 ∷ []
numbered Refusal.ChangeOpModeTimeout = 12 ∷ []
numbered Refusal.SpiFailedRamEcho = 13 ∷ []
numbered Refusal.PllNotReady = 14 ∷ []
numbered Refusal.BadNumber = 20 ∷ []
numbered Refusal.BadIdentifier = 21 ∷ []
numbered Refusal.BadPayload = 22 ∷ []
numbered Refusal.BadSetting = 24 ∷ []
numbered Refusal.BadUserAddress = 25 ∷ []
numbered Refusal.WrongAnswer = 26 ∷ []
numbered Refusal.NoLayout = 27 ∷ []
numbered Refusal.BufferTooSmall = 28 ∷ []
numbered Refusal.NoMatch = 30 ∷ []
numbered Refusal.DeviceNet = 31 ∷ []
numbered Refusal.EmptyList = 32 ∷ []
numbered Refusal.NotCarried = 33 ∷ []
numbered Refusal.TxQueueDisabled = 34 ∷ []
numbered Refusal.LengthBeyondSlot = 35 ∷ []

-- nothing where all is well
abbrev pub done_numbers : Result (Unit {0}) Refusal → List ℕ
done_numbers (Ok _) = []
done_numbers (Err r) = numbered r
