-- What the tests of settings tell.
-- Assumes nothing.
use Prim.Native.Nat.{ℕ, ◌^◌}
use mathlib.Core.Path.{◌≡◌}
use mathlib.Core.Bool.{true, ◌&&◌}
use mathlib.Core.List.{List, [], ◌∷◌}
use borrow.Author.Tests.{ltb-true}
use Rattle.laws.proofs.Table.{both}
use Rattle.bit_timing.specs.Signed.{Small, is_small}
use Rattle.bit_timing.proofs.Twos.{small_told}
use Rattle.field.specs.Field.{Field, place, Fits}
use Rattle.field.specs.Settings.{Setting, ◌:=◌, AllFit}
use Rattle.changes.specs.Changes.{fits, all_fit, nominal_settings, data_settings, timing_fits}
use Rattle.changes.specs.declared.settings.BitTimeConfiguration.{BitTimeConfiguration}

pub fits_told : (f : Field) (v : ℕ) → fits f v ≡ true → Fits f v
fits_told (place p k) v e = ltb-true v (2 ^ k) e

pub all_fit_lem : (ss : List Setting) → all_fit ss ≡ true → AllFit ss
all_fit_lem [] e = tt
all_fit_lem (f := v ∷ ss) e = let (a, b) = both (fits f v) (all_fit ss) e in (fits_told f v a, all_fit_lem ss b)

pub timing_told : (b : BitTimeConfiguration) → timing_fits b ≡ true → AllFit (nominal_settings b.nominal) × AllFit (data_settings b.data) × Small b.data.tdco
unfolding timing_fits
timing_told b e =
    let (n, r) = both (all_fit (nominal_settings b.nominal)) (all_fit (data_settings b.data) && is_small b.data.tdco) e in
    let (d, t) = both (all_fit (data_settings b.data)) (is_small b.data.tdco) r in
    (all_fit_lem (nominal_settings b.nominal) n, all_fit_lem (data_settings b.data) d, small_told b.data.tdco t)
