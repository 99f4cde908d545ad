-- The bytes of an ask in a lent buffer.
-- Assumes nothing.
use Rattle.std.specs.Prelude.{ℕ, ◌+◌, Bool, ◌&&◌, List, length, leb, if◌then◌else◌}
use Rattle.parts.specs.Parts.{put}
use Rattle.spi.specs.declared.ask.Ask.{Ask}
use Rattle.spi.specs.Ask.{head_of, body_of as body_count, wanted, sent}
use Rattle.send.specs.declared.next.Next.{Next}

-- the body has the bytes that are asked for, and the buffer room for all that are sent
abbrev pub whole : Ask → (body tx : List ℕ) → Bool
whole q body tx = leb (body_count q) (length body) && leb (length (head_of q) + body_count q) (length tx)

-- the buffer with them at its front
unfoldable pub put_into : Ask → (body tx : List ℕ) → List ℕ
put_into q body tx = if whole q body tx then put tx 0 (sent q body) else tx

-- ---- what the caller's loop does now

-- the exchange of an ask: how many bytes are put, and how many wanted
unfoldable pub transfer_of : Ask → (body tx : List ℕ) → Next
transfer_of q body tx = if whole q body tx then Next.Transfer (length (head_of q) + body_count q) (wanted q) else Next.Short

-- what is to be done for an ask
abbrev pub next_of : Ask → (body tx : List ℕ) → Next
next_of (Ask.Read address count) body tx = transfer_of (Ask.Read address count) body tx
next_of (Ask.Checked address) body tx = transfer_of (Ask.Checked address) body tx
next_of (Ask.Word address word) body tx = transfer_of (Ask.Word address word) body tx
next_of (Ask.Body address count) body tx = transfer_of (Ask.Body address count) body tx
next_of Ask.Reset body tx = transfer_of Ask.Reset body tx
next_of Ask.Wait body tx = Next.Wait
next_of Ask.Nothing body tx = Next.Over
