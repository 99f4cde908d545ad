-- What a send answers, by the message read; what a frame that was checked is like, and where its bytes stand.
-- Assumes nothing.
use Rattle.std.specs.Prelude.{Option, Some, None, Ok}
use mathlib.Core.Path.{◌≡◌, ap, ◌∙◌}
use Prim.Native.Nat.{ℕ, ◌≤◌, ◌<◌}
use native.Mathlib.Omega.{arith}
use mathlib.Core.List.{List}
use lib.ListN.{length, take}
use lib.Seq.{take-append_seam}
use Rattle.parts.specs.Parts.{zeroed}
use Rattle.parts.proofs.Laws.{length_zeroed}
use Rattle.words.proofs.Laws.{le_length}
use Rattle.header.specs.declared.Header.{Header}
use Rattle.header.specs.Header.{top_id, word0, received1}
use Rattle.header.proofs.Dlcs.{received_le}
use Rattle.message.specs.Object.{stamp_bytes}
use Rattle.message.specs.Message.{arrival_check, arriving}
use Rattle.message.proofs.Checks.{fitting}
use Rattle.message.specs.Structs.{Object, object_in}
use Rattle.message.proofs.Round.{object_length}

stamp_most : (s : Option ℕ) → length (stamp_bytes s) ≤ 4
stamp_most (Some t) = omega (arith, le_length t)
stamp_most None = omega arith

-- a frame's object has at most 76 bytes
pub arriving_most : (h : Header) (dlc hit : ℕ) (s : Option ℕ) (p : List ℕ) → length p ≤ 64 → length (arriving h dlc hit s p) ≤ 76
unfolding arriving
arriving_most h dlc hit s p l = omega (arith, object_length (word0 h) (received1 h dlc hit) s p, stamp_most s)

-- the bytes of an object stand at the front of its array
module _ (bytes : List ℕ) (len : ℕ) (bs : List ℕ) (most : length bs ≤ 76) (e : ◌≡◌ {A = Object} (record { bytes = bytes; len = len }) (object_in bs)) where
  pub fits : len ≤ length bytes
  unfolding zeroed
  fits = omega (arith, ap (λ (o : Object). o.len) e, ap (λ (o : Object). length o.bytes) e, length_zeroed 76 bs most)

  pub front : take len bytes ≡ bs
  unfolding zeroed
  front = ap (λ (o : Object). take o.len o.bytes) e ∙ take-append_seam bs _

-- a frame that was checked is as its writing asks for it
pub asked_for : (h : Header) (d n : ℕ) → arrival_check h d n ≡ Ok tt → (h.id ≤ top_id h.extended) × (d < 16) × (n ≤ 64)
asked_for h d n e =
    let s = fitting h d n e in
    (s.id, omega (arith, s.dlc_fits), omega (arith, s.meant, received_le h.fdf d))
