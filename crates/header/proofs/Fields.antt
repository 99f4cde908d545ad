-- The words of an object: what is set in them reads back, and what was read gives them again.
-- Assumes nothing.
use mathlib.Core.Path.{◌≡◌, refl, sym, ap, ap₂, ◌∙◌}
use mathlib.Core.Bool.{Bool, true, false}
use mathlib.Core.List.{List, [], ◌∷◌, ◌++◌}
use Prim.Native.Nat.{ℕ, zero, suc, ◌+◌, ◌*◌, ◌/◌, ◌%◌, ◌^◌, ◌≤◌, ◌<◌}
use native.Mathlib.Nat.{mod-lt}
use native.Mathlib.Omega.{arith}
use lib.Dec.{eqb, lit<}
use Rattle.std.specs.Prelude.{if◌then◌else◌}
use Rattle.laws.specs.All.{all}
use Rattle.field.specs.Field.{Field, with_field, read, write, Fits, flag, digit, all_apart, within}
use Rattle.field.specs.Settings.{Setting, ◌:=◌, fields_of, settings, AllFit}
use Rattle.field.proofs.Laws.{field_lt, write_read, digit_lt, digit_back}
use Rattle.field.proofs.Sets.{field_at, value_at, own, settings_lt, tiled}
use Rattle.header.specs.declared.Header.{Header}
use Rattle.header.specs.Header.{SID, EID, DLC, IDE, RTR, BRS, FDF, ESI, SEQ, FILHIT, top_id, sid_of, eid_of, id_in, word0, kind1, word1, received1, header_of, meaning0, meaning1}

-- ---- bits and truth values

bit_again : (x : ℕ) → x < 2 → digit (eqb x 1) ≡ x
bit_again zero h = refl
bit_again (suc zero) h = refl
bit_again (suc (suc x)) h = absurd (omega arith)

flag_again : (p w : ℕ) → digit (eqb (w / 2 ^ p % 2 ^ 1) 1) ≡ w / 2 ^ p % 2 ^ 1
flag_again p w = bit_again _ (field_lt w p 1)

-- ---- word 0

abbrev ids : Bool → ℕ → List Setting
ids extended id = SID := sid_of extended id ∷ EID := eid_of extended id ∷ []

ids_fit : (e : Bool) (id : ℕ) → id ≤ top_id e → AllFit (ids e id)
ids_fit true id h = (omega arith, (omega arith, tt))
ids_fit false id h = (omega arith, (omega arith, tt))

-- the identifier's two parts, put together
joined : (e : Bool) (id : ℕ) → id ≤ top_id e → (if e then sid_of e id * 2 ^ 18 + eid_of e id else sid_of e id) ≡ id
joined true id h = omega arith
joined false id h = refl

module _ (h : Header) (fits : h.id ≤ top_id h.extended) where
  pub word0_lt : word0 h < 2 ^ 32
  unfolding word0
  word0_lt = settings_lt 32 (ids h.extended h.id) 0 refl (ids_fit h.extended h.id fits) (lit< tt)

  id_back : id_in h.extended (word0 h) ≡ h.id
  unfolding word0
  id_back =
      let f = ids_fit h.extended h.id fits in
      let s = own (ids h.extended h.id) 0 0 refl f (lit< tt) in
      let e = own (ids h.extended h.id) 0 1 refl f (lit< tt) in
      ap₂ (λ (x y : ℕ). if h.extended then x * 2 ^ 18 + y else x) s e ∙ joined h.extended h.id fits

-- ---- word 1

-- what stands above the flags: SEQ in an object to send, FILHIT in one received
abbrev above : Bool → Field
above true = SEQ
above false = FILHIT

abbrev fields1 : Bool → Header → (dlc v : ℕ) → List Setting
fields1 sending h dlc v = kind1 h dlc ++ (above sending := v ∷ [])

-- what such a word says
pub record Second (h : Header) (dlc w : ℕ) : Type 0 where
  pub small : w < 2 ^ 32
  pub dlc_is : read DLC w ≡ dlc
  pub fdf_is : flag FDF w ≡ h.fdf
  pub header_is : h.id ≤ top_id h.extended → header_of (word0 h) w ≡ h

module _ (sending : Bool) (h : Header) (dlc v : ℕ) (dlc_fits : dlc < 16) (fits : Fits (above sending) v) where
  abbrev w : ℕ
  w = settings (fields1 sending h dlc v) 0

  all_fit_lem : AllFit (fields1 sending h dlc v)
  all_fit_lem = (dlc_fits, (digit_lt h.extended, (digit_lt h.rtr, (digit_lt h.brs, (digit_lt h.fdf, (digit_lt h.esi, (fits, tt)))))))

  side_by : (s : Bool) → all_apart (fields_of (fields1 s h dlc v)) ≡ true
  side_by true = refl
  side_by false = refl

  inside : (s : Bool) → all (within 32) (fields_of (fields1 s h dlc v)) ≡ true
  inside true = refl
  inside false = refl

  -- each of them reads back
  set_back : (i : ℕ) → i < 7 → read (field_at (fields1 sending h dlc v) i) w ≡ value_at (fields1 sending h dlc v) i
  set_back i = own (fields1 sending h dlc v) 0 i (side_by sending) all_fit_lem

  above_back : read (above sending) w ≡ v
  above_back = set_back 6 (lit< tt)

  flag_back : (i : ℕ) (b : Bool) → i < 7 → value_at (fields1 sending h dlc v) i ≡ digit b → flag (field_at (fields1 sending h dlc v) i) w ≡ b
  flag_back i b l e = ap (λ (x : ℕ). eqb x 1) (set_back i l ∙ e) ∙ digit_back b

  says : Second h dlc w
  unfolding header_of
  says =
      let x = flag_back 1 h.extended (lit< tt) refl in
      let r = flag_back 2 h.rtr (lit< tt) refl in
      let b = flag_back 3 h.brs (lit< tt) refl in
      let f = flag_back 4 h.fdf (lit< tt) refl in
      let e = flag_back 5 h.esi (lit< tt) refl in
      record {
        small = settings_lt 32 (fields1 sending h dlc v) 0 (inside sending) all_fit_lem (lit< tt);
        dlc_is = set_back 0 (lit< tt);
        fdf_is = f;
        header_is = λ top.
            let i : id_in (flag IDE w) (word0 h) ≡ h.id = ap (λ (e : Bool). id_in e (word0 h)) x ∙ id_back h top in
            λ k. record { extended = x k; id = i k; rtr = r k; brs = b k; fdf = f k; esi = e k };
      }

module _ (h : Header) (dlc : ℕ) (dlc_fits : dlc < 16) where
  pub word1_says : (seq : ℕ) → seq < 2 ^ 23 → Second h dlc (word1 h seq dlc)
  unfolding word1
  word1_says seq = says true h dlc seq dlc_fits

  pub seq_field : (seq : ℕ) → seq < 2 ^ 23 → read SEQ (word1 h seq dlc) ≡ seq
  unfolding word1
  seq_field seq = above_back true h dlc seq dlc_fits

  pub received1_says : (hit : ℕ) → hit < 32 → Second h dlc (received1 h dlc hit)
  unfolding received1
  received1_says hit = says false h dlc hit dlc_fits

  pub hit_field : (hit : ℕ) → hit < 32 → read FILHIT (received1 h dlc hit) ≡ hit
  unfolding received1
  hit_field hit = above_back false h dlc hit dlc_fits

-- ---- from words that were read

id_small : (e : Bool) (w : ℕ) → id_in e w ≤ top_id e
id_small true w = omega (arith, field_lt w 0 11, field_lt w 11 18)
id_small false w = omega (arith, field_lt w 0 11)

pub header_small : (a b : ℕ) → (header_of a b).id ≤ top_id (header_of a b).extended
unfolding header_of
header_small a b = id_small (flag IDE b) a

pub header_fdf : (a b : ℕ) → (header_of a b).fdf ≡ flag FDF b
unfolding header_of
header_fdf a b = refl

sid_again : (a e : ℕ) → e < 2 ^ 18 → (a * 2 ^ 18 + e) / 2 ^ 18 ≡ a
sid_again a e h = omega arith

eid_again : (a e : ℕ) → e < 2 ^ 18 → (a * 2 ^ 18 + e) % 2 ^ 18 ≡ e
eid_again a e h = omega arith

-- a word's first n bits, from fields that fill them
start : (w : ℕ) → w % 2 ^ 0 ≡ 0
start w = omega arith

ids_again : (e : Bool) (w : ℕ) → settings (ids e (id_in e w)) 0 ≡ meaning0 e w
ids_again true w =
    let l = field_lt w 11 18 in
    ap₂ (λ (x y : ℕ). settings (SID := x ∷ EID := y ∷ []) 0) (sid_again (read SID w) (read EID w) l) (eid_again (read SID w) (read EID w) l)
    ∙ ap (settings (SID := read SID w ∷ EID := read EID w ∷ [])) (sym (start w))
    ∙ tiled w 0 29 (SID ∷ EID ∷ []) refl
ids_again false w =
    let low : write SID (read SID w) 0 ≡ w % 2 ^ 11 = ap (write SID (read SID w)) (sym (start w)) ∙ tiled w 0 11 (SID ∷ []) refl in
    let none : read EID (w % 2 ^ 11) ≡ 0 = omega arith in
    ap (write EID 0) low ∙ ap (λ (v : ℕ). write EID v (w % 2 ^ 11)) (sym none) ∙ write_read EID (w % 2 ^ 11)

pub word0_again : (a b : ℕ) → word0 (header_of a b) ≡ meaning0 (flag IDE b) a
unfolding word0 header_of
word0_again a b = ids_again (flag IDE b) a

abbrev low : List Field
low = DLC ∷ IDE ∷ RTR ∷ BRS ∷ FDF ∷ ESI ∷ []

-- the flags as they were read
same_flags : (a b : ℕ) → settings (kind1 (header_of a b) (read DLC b)) 0 ≡ b % 2 ^ 9
unfolding header_of
same_flags a b =
    rw (flag_again 4 b, flag_again 5 b, flag_again 6 b, flag_again 7 b, flag_again 8 b)
    (ap (settings (DLC := read DLC b ∷ IDE := read IDE b ∷ RTR := read RTR b ∷ BRS := read BRS b ∷ FDF := read FDF b ∷ ESI := read ESI b ∷ [])) (sym (start b)) ∙ tiled b 0 9 low refl)

pub word1_again : (a b : ℕ) → word1 (header_of a b) (read SEQ b) (read DLC b) ≡ meaning1 true b
unfolding word1
word1_again a b = ap (write SEQ (read SEQ b)) (same_flags a b) ∙ tiled b 9 32 (SEQ ∷ []) refl

-- FILHIT above the flags
hit_above : (v w : ℕ) → w < 2 ^ 9 → write FILHIT v w ≡ v * 2 ^ 11 + w
unfolding with_field
hit_above v w h = omega arith

pub received1_again : (a b : ℕ) → received1 (header_of a b) (read DLC b) (read FILHIT b) ≡ meaning1 false b
unfolding received1
received1_again a b = ap (write FILHIT (read FILHIT b)) (same_flags a b) ∙ hit_above (read FILHIT b) (b % 2 ^ 9) (mod-lt b (omega arith))
