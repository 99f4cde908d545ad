-- What is put for an ask, and what its caller's loop does.
-- Assumes nothing.
use Prim.Native.Nat.{ℕ, ◌+◌}
use native.Mathlib.Nat.{add-zero}
use mathlib.Core.Path.{◌≡◌}
use mathlib.Core.Bool.{true, false}
use mathlib.Core.List.{List, [], append-nil}
use lib.ListN.{length}
use lib.Dec.{leb, leb-zero}
use Rattle.std.specs.Prelude.{if◌then◌else◌}
use Rattle.parts.specs.Parts.{put}
use Rattle.spi.specs.declared.ask.Ask.{Ask}
use Rattle.spi.specs.Ask.{head_of, body_of as body_count, wanted, sent}
use Rattle.send.specs.declared.next.Next.{Next}
use Rattle.send.specs.Send.{whole, put_into, transfer_of, next_of}

-- ---- the test of the lengths

pub too_short : (q : Ask) (body tx : List ℕ) → whole q body tx ≡ false → (Next.Short ≡ transfer_of q body tx) × (tx ≡ put_into q body tx)
unfolding transfer_of put_into
too_short q body tx w = (rw w, rw w)

pub all_put : (q : Ask) (body tx : List ℕ) {after : List ℕ} → whole q body tx ≡ true → after ≡ put tx 0 (sent q body)
    → (Next.Transfer (length (head_of q) + body_count q) (wanted q) ≡ transfer_of q body tx) × (after ≡ put_into q body tx)
unfolding transfer_of put_into
all_put q body tx w e = (rw w, rw w e)

-- ---- an ask that has no body

-- a head h was put, and r answered
abbrev Alone : (h : List ℕ) (want : ℕ) (tx : List ℕ) → Next → List ℕ → Type 0
Alone h want tx r after =
    (r ≡ (if leb (length h) (length tx) then Next.Transfer (length h) want else Next.Short))
    × (after ≡ (if leb (length h) (length tx) then put tx 0 h else tx))

pub alone : (q : Ask) (body tx : List ℕ) {asked : Ask} {h after : List ℕ} {want : ℕ} {r : Next} → asked ≡ q → h ≡ head_of q → want ≡ wanted q
    → body_count q ≡ 0 → transfer_of q body tx ≡ next_of q body tx → Alone h want tx r after
    → (r ≡ next_of asked body tx) × (after ≡ put_into asked body tx)
unfolding transfer_of put_into sent
alone q body tx e f g none n (answered, placed) =
    let w : whole q body tx ≡ leb (length (head_of q)) (length tx) = rw (none, leb-zero (length body), add-zero (length (head_of q))) in
    (rw (e, ← n, answered, f, g, w, none, add-zero (length (head_of q))), rw (e, placed, f, w, none, append-nil (head_of q)))

-- ---- an ask that sends nothing

pub idle : (q : Ask) (body tx : List ℕ) → head_of q ≡ [] → body_count q ≡ 0 → put_into q body tx ≡ tx
unfolding put_into sent put
idle q body tx h b = rw (h, b, leb-zero (length body), leb-zero (length tx))
