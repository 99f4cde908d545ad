-- What a message, and a frame that arrives, are like that are not refused.
-- Assumes nothing.
use Rattle.std.specs.Prelude.{Option, Some, None, Result, Ok}
use Rattle.spi.specs.declared.refusal.Refusal.{Refusal}
use mathlib.Core.Path.{◌≡◌}
use mathlib.Core.Bool.{Bool, true, false}
use Prim.Native.Nat.{ℕ, ◌^◌, ◌≤◌, ◌<◌}
use native.Mathlib.Omega.{arith}
use lib.Dec.{ltb, leb, eqb}
use borrow.Author.Tests.{ltb-false, leb-false, eqb-true}
use Rattle.laws.proofs.Choice.{by_if}
use Rattle.header.specs.declared.Header.{Header}
use Rattle.header.specs.Dlc.{dlc_of, received_length}
use Rattle.header.specs.Header.{top_id}
use Rattle.message.specs.Message.{by_dlc, check_of, arrival_check, length_in}
use Rattle.header.proofs.Dlcs.{length_le, received_le}

pub record Sound (h : Header) (seq n d : ℕ) : Type 0 where
  pub id : h.id ≤ top_id h.extended
  pub seq_fits : seq < 2 ^ 23
  pub dlc : dlc_of h.fdf n ≡ Some d

by_dlc_lem : (x : Option ℕ) (d : ℕ) → by_dlc x ≡ Ok d → x ≡ Some d
by_dlc_lem (Some e) d p = cc
by_dlc_lem None d p = let z : ◌≡◌ {A = ℕ} 0 1 = cc in absurd (omega arith)

pub sound : (h : Header) (seq n d : ℕ) → check_of h seq n ≡ Ok d → Sound h seq n d
unfolding check_of
sound h seq n d =
    by_if (λ (x : Result ℕ Refusal). x ≡ Ok d → Sound h seq n d) (ltb (top_id h.extended) h.id)
    (λ t e. let z : ◌≡◌ {A = ℕ} 0 1 = cc in absurd (omega arith))
    (λ t. by_if (λ (x : Result ℕ Refusal). x ≡ Ok d → Sound h seq n d) (leb (2 ^ 23) seq)
    (λ u e. let z : ◌≡◌ {A = ℕ} 0 1 = cc in absurd (omega arith))
    (λ u e. record { id = ltb-false (top_id h.extended) h.id t; seq_fits = leb-false (2 ^ 23) seq u; dlc = by_dlc_lem (dlc_of h.fdf n) d e }))

pub record Fitting (h : Header) (dlc n : ℕ) : Type 0 where
  pub id : h.id ≤ top_id h.extended
  pub dlc_fits : dlc ≤ 15
  pub meant : received_length h.fdf dlc ≡ n

pub fitting : (h : Header) (dlc n : ℕ) → arrival_check h dlc n ≡ Ok tt → Fitting h dlc n
unfolding arrival_check
fitting h dlc n =
    by_if (λ (x : Result (Unit {0}) Refusal). x ≡ Ok tt → Fitting h dlc n) (ltb (top_id h.extended) h.id)
    (λ t e. let z : ◌≡◌ {A = ℕ} 0 1 = cc in absurd (omega arith))
    (λ t. by_if (λ (x : Result (Unit {0}) Refusal). x ≡ Ok tt → Fitting h dlc n) (ltb 15 dlc)
    (λ u e. let z : ◌≡◌ {A = ℕ} 0 1 = cc in absurd (omega arith))
    (λ u. by_if (λ (x : Result (Unit {0}) Refusal). x ≡ Ok tt → Fitting h dlc n) (eqb (received_length h.fdf dlc) n)
    (λ v e. record { id = ltb-false (top_id h.extended) h.id t; dlc_fits = ltb-false 15 dlc u; meant = eqb-true _ n v })
    (λ v e. let z : ◌≡◌ {A = ℕ} 0 1 = cc in absurd (omega arith))))

-- no payload is longer than 64 bytes
pub in_le : (sending fdf : Bool) (n d : ℕ) → length_in sending fdf d ≡ Some n → n ≤ 64
unfolding length_in
in_le true fdf n d e = length_le fdf n d e
in_le false fdf n d e = let f : received_length fdf d ≡ n = cc in rw (← f) (received_le fdf d)
