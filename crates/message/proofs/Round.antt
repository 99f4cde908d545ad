-- From a message to its object and back, and from bytes to their message and back.
-- Assumes nothing.
use mathlib.Core.Path.{◌≡◌, refl, sym, ap, ap₂, ◌∙◌}
use mathlib.Core.Bool.{Bool, true, false, false≢true}
use mathlib.Core.List.{List, [], ◌∷◌, ◌++◌, append_assoc}
use Prim.Native.Nat.{ℕ, ◌+◌, ◌^◌, ◌≤◌, ◌<◌}
use native.Mathlib.Omega.{arith}
use lib.ListN.{length, take, drop, length-append, length-replicate, length-take, length-drop}
use lib.Seq.{take-append_seam}
use lib.Dec.{ltb, leb}
use borrow.Author.Tests.{lt-ltb, le-ltb, le-leb, lt-leb, eq-eqb, ne_eqb, leb-true, ltb-false}
use Rattle.std.specs.Prelude.{if◌then◌else◌, Option, Some, None, Result, Ok, Err}
use Rattle.laws.proofs.Choice.{by_if}
use Rattle.field.specs.Field.{read, flag}
use Rattle.field.proofs.Laws.{field_lt}
use Rattle.words.specs.Words.{le_bytes, le_at, round_up}
use Rattle.spi.specs.declared.refusal.Refusal.{Refusal}
use Rattle.spi.specs.Refusals.{done_numbers}
use Rattle.words.proofs.Laws.{le_back, le_drop, le_length}
use Rattle.header.specs.declared.Header.{Header}
use Rattle.header.specs.Dlc.{dlc_of, length_of, received_length, code_or0}
use Rattle.header.specs.Header.{DLC, FDF, SEQ, FILHIT, top_id, word0, word1, received1, header_of}
use Rattle.message.specs.Object.{stamp_bytes, padded, object_bytes}
use Rattle.message.specs.Message.{Message, to_write, check_of, object, coded, encoding, arrival_check, arriving, Decoding, holds, no_frame, body_at, message_in, length_in, by_length, decoding}
use Rattle.message.specs.Laws.{Stamped, RoundTrip, ArrivalTrip, ArrivalFilter, meaningful, written_as, Back, Lengths, Refuses, ArrivalRefuses, ClassicDlc, AlwaysHolds, NoFrameIff}
use Rattle.header.proofs.Dlcs.{dlc_lt, length_back, dlc_back, dlc_16, payload_le, received_sent}
use Rattle.message.proofs.Checks.{sound, fitting}
use Rattle.header.proofs.Fields.{word0_lt, Second, word1_says, seq_field, received1_says, hit_field, header_small, header_fdf, word0_again, word1_again, received1_again}

-- ---- a message that is not refused

abbrev bytes_of : Message → ℕ → List ℕ
bytes_of m d = object_bytes (word0 m.header) (word1 m.header m.seq d) m.stamp m.payload

pub record Coded (m : Message) (bs : List ℕ) : Type 0 where
  pub dlc : ℕ
  pub checked : check_of m.header m.seq (length m.payload) ≡ Ok dlc
  pub bytes : bytes_of m dlc ≡ bs

pub is_coded : (m : Message) (bs : List ℕ) → encoding m ≡ object bs → Coded m bs
unfolding encoding
is_coded m bs = go (check_of m.header m.seq (length m.payload)) refl
  where
    go : (x : Result ℕ Refusal) → check_of m.header m.seq (length m.payload) ≡ x → coded x m ≡ object bs → Coded m bs
    go (Ok d) e f = record { dlc = d; checked = e; bytes = cc }
    go (Err r) e f = let z : ◌≡◌ {A = ℕ} 0 1 = cc in absurd (omega arith)

-- ---- the object's length

padded_length : (p : List ℕ) → length (padded p) ≡ round_up (length p)
unfolding padded
padded_length p = simp (length-append, length-replicate) (omega arith)

pub object_length : (a b : ℕ) (s : Option ℕ) (p : List ℕ) → length (object_bytes a b s p) ≡ 8 + length (stamp_bytes s) + round_up (length p)
unfolding object_bytes
object_length a b s p = simp (length-append, le_length, padded_length)

pub lengths_hold : Lengths
lengths_hold m bs e =
    let c = is_coded m bs e in
    ap length (sym c.bytes) ∙ object_length (word0 m.header) (word1 m.header m.seq c.dlc) m.stamp m.payload

-- two words, the timestamp, and 64 bytes at most
pub object_le : (m : Message) (bs : List ℕ) → encoding m ≡ object bs → length bs ≤ 72 + length (stamp_bytes m.stamp)
object_le m bs e =
    let c = is_coded m bs e in
    let s = sound m.header m.seq (length m.payload) c.dlc c.checked in
    omega (arith, lengths_hold m bs e, payload_le m.header.fdf (length m.payload) c.dlc s.dlc)

-- ---- reading back

module _ (sending : Bool) (w₀ w₁ : ℕ) (p : List ℕ) (hl : length_in sending (flag FDF w₁) (read DLC w₁) ≡ Some (length p)) where
  abbrev result : Option ℕ → Message
  result s = record {
    header = header_of w₀ w₁;
    dlc = read DLC w₁;
    filter = if sending then 0 else read FILHIT w₁;
    seq = if sending then read SEQ w₁ else 0;
    stamp = s;
    payload = p;
  }

  -- bytes with these words, this timestamp and this payload
  read_as_lem : (stamped : Bool) (b : List ℕ) (s : Option ℕ) → le_at b 0 ≡ w₀ → le_at b 4 ≡ w₁ → (if stamped then Some (le_at b 8) else None) ≡ s
      → take (length p) (drop (body_at stamped) b) ≡ p → body_at stamped + length p ≤ length b → decoding sending stamped b ≡ holds (result s)
  unfolding decoding message_in
  read_as_lem stamped b s f₀ f₁ fs fp long =
      let first : ltb (length b) (body_at stamped) ≡ false = le-ltb (length b) (body_at stamped) (omega arith) in
      let len : length_in sending (flag FDF (le_at b 4)) (read DLC (le_at b 4)) ≡ Some (length p) = ap (λ (w : ℕ). length_in sending (flag FDF w) (read DLC w)) f₁ ∙ hl in
      let second : leb (body_at stamped + length p) (length b) ≡ true = le-leb (body_at stamped + length p) (length b) long in
      rw (first, len, second, f₀, f₁, fs, fp)

  front : (r : List ℕ) → take (length p) (padded p ++ r) ≡ p
  unfolding padded
  front r = rw append_assoc (take-append_seam p _)

  enough : (r : List ℕ) → length p ≤ length (padded p ++ r)
  enough r = simp (length-append, padded_length) (omega arith)

  module _ (h₀ : w₀ < 2 ^ 32) (h₁ : w₁ < 2 ^ 32) (r : List ℕ) where
    with_stamp : (t : ℕ) → t < 2 ^ 32 → decoding sending true (object_bytes w₀ w₁ (Some t) p ++ r) ≡ holds (result (Some t))
    unfolding object_bytes le_bytes
    with_stamp t h =
        let b : List ℕ = object_bytes w₀ w₁ (Some t) p ++ r in
        read_as_lem true b (Some t) (le_back w₀ (drop 4 b) h₀) (le_drop b 4 ∙ le_back w₁ (drop 8 b) h₁)
        (ap Some (le_drop b 8 ∙ le_back t (drop 12 b) h)) (front r) (omega (arith, enough r))

    without : decoding sending false (object_bytes w₀ w₁ None p ++ r) ≡ holds (result None)
    unfolding object_bytes le_bytes
    without =
        let b : List ℕ = object_bytes w₀ w₁ None p ++ r in
        read_as_lem false b None (le_back w₀ (drop 4 b) h₀) (le_drop b 4 ∙ le_back w₁ (drop 8 b) h₁) refl (front r) (omega (arith, enough r))

    by_stamp : (stamped : Bool) (s : Option ℕ) → Stamped stamped s → decoding sending stamped (object_bytes w₀ w₁ s p ++ r) ≡ holds (result s)
    by_stamp true (Some t) h = with_stamp t h
    by_stamp true None h = absurd h
    by_stamp false (Some t) h = absurd h
    by_stamp false None h = without

-- every field comes back where the second word says the header, the filter and SEQ
returns : (sending stamped : Bool) (m : Message) (w : ℕ) (r : List ℕ) → m.header.id ≤ top_id m.header.extended
    → length_in sending m.header.fdf m.dlc ≡ Some (length m.payload)
    → Second m.header m.dlc w → (if sending then 0 else read FILHIT w) ≡ m.filter → (if sending then read SEQ w else 0) ≡ m.seq → Stamped stamped m.stamp
    → decoding sending stamped (object_bytes (word0 m.header) w m.stamp m.payload ++ r) ≡ holds m
returns sending stamped m w r id long k ft sq st =
    let h : Header = m.header in
    let len : length_in sending (flag FDF w) (read DLC w) ≡ Some (length m.payload) = ap₂ (length_in sending) k.fdf_is k.dlc_is ∙ long in
    let hd : header_of (word0 h) w ≡ h = k.header_is id in
    by_stamp sending (word0 h) w m.payload len (word0_lt h id) k.small r stamped m.stamp st
    ∙ (λ i. holds (record { header = hd i; dlc = k.dlc_is i; filter = ft i; seq = sq i; stamp = m.stamp; payload = m.payload }))

-- the DLC of a payload's length means that length, to send and on reception
means : (sending fdf : Bool) (n d : ℕ) → dlc_of fdf n ≡ Some d → length_in sending fdf d ≡ Some n
unfolding length_in
means true fdf n d e = length_back fdf n d e
means false fdf n d e = ap Some (received_sent fdf n d (length_back fdf n d e))

-- where there is no SEQ there is no filter
no_filter : (w : ℕ) → w < 2 ^ 32 → read SEQ w ≡ 0 → read FILHIT w ≡ 0
no_filter w h e = omega arith

-- so one to write names none
unnamed : (sending : Bool) (w seq : ℕ) → w < 2 ^ 32 → read SEQ w ≡ seq → (if sending then seq else 0) ≡ seq → (if sending then 0 else read FILHIT w) ≡ 0
unnamed true w seq h e s = refl
unnamed false w seq h e s = no_filter w h (e ∙ sym s)

pub round_trip_lem : RoundTrip
round_trip_lem sending stamped h seq stamp p bs r e s =
    let m = to_write h seq stamp p in
    let c = is_coded m bs e in
    let g = sound h seq (length p) c.dlc c.checked in
    let own : m.dlc ≡ c.dlc = ap code_or0 g.dlc in
    let is : dlc_of h.fdf (length p) ≡ Some m.dlc = g.dlc ∙ ap Some (sym own) in
    let small = dlc_16 h.fdf (length p) m.dlc is in
    let w : ℕ = word1 h seq m.dlc in
    let k = word1_says h m.dlc small seq g.seq_fits in
    let sq = seq_field h m.dlc small seq g.seq_fits in
    ap (λ (b : List ℕ). decoding sending stamped (b ++ r)) (sym c.bytes ∙ ap (bytes_of m) (sym own))
    ∙ returns sending stamped m w r g.id (means sending h.fdf (length p) m.dlc is) k (unnamed sending w seq k.small sq s.seq)
    (ap (λ (x : ℕ). if sending then x else 0) sq ∙ s.seq) s.stamp

pub arrival_trip_lem : ArrivalTrip
unfolding arriving length_in
arrival_trip_lem stamped m r e s =
    let g = fitting m.header m.dlc (length m.payload) e in
    let small : m.dlc < 16 = omega (arith, g.dlc_fits) in
    returns false stamped m (received1 m.header m.dlc m.filter) r g.id (ap Some g.meant)
    (received1_says m.header m.dlc small m.filter s.filter) (hit_field m.header m.dlc small m.filter s.filter) s.seq s.stamp

pub arrival_filter_lem : ArrivalFilter
unfolding arriving object_bytes le_bytes
arrival_filter_lem h dlc hit stamp payload r small l =
    let b : List ℕ = arriving h dlc hit stamp payload ++ r in
    ap (read FILHIT) (le_drop b 4 ∙ le_back (received1 h dlc hit) (drop 8 b) (received1_says h dlc small hit l).small) ∙ hit_field h dlc small hit l

-- ---- from bytes

-- what bytes that hold a message are like
pub record Held (sending stamped : Bool) (b : List ℕ) (m : Message) : Type 0 where
  pub long : ℕ
  pub length_is : length_in sending (flag FDF (le_at b 4)) (read DLC (le_at b 4)) ≡ Some long
  pub fits : body_at stamped + long ≤ length b
  pub message : message_in sending stamped long b ≡ m

pub is_held : (sending stamped : Bool) (b : List ℕ) (m : Message) → decoding sending stamped b ≡ holds m → Held sending stamped b m
unfolding decoding
is_held sending stamped b m =
    by_if (λ (x : Decoding). x ≡ holds m → Held sending stamped b m) (ltb (length b) (body_at stamped))
    (λ t e. let z : ◌≡◌ {A = ℕ} 0 1 = cc in absurd (omega arith))
    (λ t. go (length_in sending (flag FDF (le_at b 4)) (read DLC (le_at b 4))) refl)
  where
    go : (l : Option ℕ) → length_in sending (flag FDF (le_at b 4)) (read DLC (le_at b 4)) ≡ l → by_length l sending stamped b ≡ holds m → Held sending stamped b m
    go (Some n) f =
        by_if (λ (x : Decoding). x ≡ holds m → Held sending stamped b m) (leb (body_at stamped + n) (length b))
        (λ t e. record { long = n; length_is = f; fits = leb-true (body_at stamped + n) (length b) t; message = cc })
        (λ t e. let z : ◌≡◌ {A = ℕ} 0 1 = cc in absurd (omega arith))
    go None f = λ e. let z : ◌≡◌ {A = ℕ} 0 1 = cc in absurd (omega arith)

-- a message that meets no refusal
pub accepted : (h : Header) (seq n d : ℕ) → h.id ≤ top_id h.extended → seq < 2 ^ 23 → dlc_of h.fdf n ≡ Some d → check_of h seq n ≡ Ok d
unfolding check_of
accepted h seq n d i s e = rw (le-ltb (top_id h.extended) h.id i, lt-leb (2 ^ 23) seq s, e)

payload_is : (sending stamped : Bool) (n : ℕ) (b : List ℕ) → length (take n (drop (body_at stamped) b)) ≡ length (message_in sending stamped n b).payload
unfolding message_in
payload_is sending stamped n b = refl

module _ (sending stamped : Bool) (b : List ℕ) (n : ℕ) (fits : body_at stamped + n ≤ length b) where
  cut : length (take n (drop (body_at stamped) b)) ≡ n
  cut = simp (length-take, length-drop) (omega arith)

-- a frame that arrives, by its check
pub arrival_refuses_lem : ArrivalRefuses
unfolding arrival_check
arrival_refuses_lem h dlc n = record {
  identifier = λ i. rw (lt-ltb (top_id h.extended) h.id i);
  dlc_above = λ i d. rw (le-ltb (top_id h.extended) h.id i, lt-ltb 15 dlc d);
  other_length = λ i f. rw (le-ltb (top_id h.extended) h.id i, ne_eqb (received_length h.fdf dlc) n f) (either (ltb 15 dlc));
  none = λ i d f. rw (le-ltb (top_id h.extended) h.id i, le-ltb 15 dlc d, eq-eqb (received_length h.fdf dlc) n f);
}
  where
    either : (x : Bool) → done_numbers (if x then Err Refusal.BadPayload else Err Refusal.BadPayload) ≡ 22 ∷ []
    either true = refl
    either false = refl

-- one to send, and one received, are written as their meaningful bytes
written : (sending stamped : Bool) (b : List ℕ) (n : ℕ) → body_at stamped + n ≤ length b
    → length_in sending (flag FDF (le_at b 4)) (read DLC (le_at b 4)) ≡ Some n
    → written_as sending (message_in sending stamped n b) ≡ object (meaningful sending stamped n b)
unfolding encoding arriving message_in length_in
written true stamped b n fits len =
    let w₀ : ℕ = le_at b 0 in
    let w₁ : ℕ = le_at b 4 in
    let c : check_of (header_of w₀ w₁) (read SEQ w₁) (length (take n (drop (body_at stamped) b))) ≡ Ok (read DLC w₁)
    = ap (check_of (header_of w₀ w₁) (read SEQ w₁)) (cut true stamped b n fits)
    ∙ accepted (header_of w₀ w₁) _ n (read DLC w₁) (header_small w₀ w₁) (field_lt w₁ 9 23) (ap (λ (f : Bool). dlc_of f n) (header_fdf w₀ w₁) ∙ dlc_back (flag FDF w₁) n (read DLC w₁) len) in
    rw (c, word0_again w₀ w₁, word1_again w₀ w₁)
written false stamped b n fits len =
    let w₀ : ℕ = le_at b 0 in
    let w₁ : ℕ = le_at b 4 in
    let meant : received_length (flag FDF w₁) (read DLC w₁) ≡ n = cc in
    let c : arrival_check (header_of w₀ w₁) (read DLC w₁) (length (take n (drop (body_at stamped) b))) ≡ Ok tt
    = (arrival_refuses_lem (header_of w₀ w₁) (read DLC w₁) _).none (header_small w₀ w₁) (omega (arith, field_lt w₁ 0 4))
    (ap (λ (f : Bool). received_length f (read DLC w₁)) (header_fdf w₀ w₁) ∙ meant ∙ sym (cut false stamped b n fits)) in
    rw (c, word0_again w₀ w₁, received1_again w₀ w₁)

pub back : Back
back sending stamped b m e =
    let h = is_held sending stamped b m e in
    let n : ℕ = h.long in
    let w = written sending stamped b n h.fits h.length_is in
    let l : n ≡ length m.payload = sym (cut sending stamped b n h.fits) ∙ payload_is sending stamped n b ∙ ap (λ (x : Message). length x.payload) h.message in
    ap (written_as sending) (sym h.message) ∙ w ∙ ap (λ (k : ℕ). object (meaningful sending stamped k b)) l

-- ---- the refusals

pub refuses : Refuses
unfolding encoding check_of
refuses m = record {
  identifier = λ i. rw (lt-ltb (top_id m.header.extended) m.header.id i);
  setting = λ i s. rw (le-ltb (top_id m.header.extended) m.header.id i, le-leb (2 ^ 23) m.seq s);
  payload = λ i s p. rw (le-ltb (top_id m.header.extended) m.header.id i, lt-leb (2 ^ 23) m.seq s, p);
  none = λ d i s p. (bytes_of m d, rw (le-ltb (top_id m.header.extended) m.header.id i, lt-leb (2 ^ 23) m.seq s, p));
}

-- which DLC means no length
no_length : (fdf : Bool) (d : ℕ) → d < 16 → length_of fdf d ≡ None → (fdf ≡ false) × (8 < d)
unfolding length_of
no_length true d h = rw (lt-ltb d 16 h) (λ e. let z : ◌≡◌ {A = ℕ} 0 1 = cc in absurd (omega arith))
no_length false d h =
    by_if (λ (l : Option ℕ). l ≡ None → (false ≡ false) × (8 < d)) (ltb d 9)
    (λ t e. let z : ◌≡◌ {A = ℕ} 0 1 = cc in absurd (omega arith))
    (λ t e. (refl, omega (arith, ltb-false d 9 t)))

classic_long : (fdf : Bool) (d : ℕ) → fdf ≡ false → 8 < d → length_of fdf d ≡ None
unfolding length_of
classic_long fdf d e h = rw (e, le-ltb d 9 h)

pub no_frame_iff_lem : NoFrameIff
unfolding decoding length_in
no_frame_iff_lem stamped b h =
    let w : ℕ = le_at b 4 in
    rw (le-ltb (length b) (body_at stamped) h) (
      λ e. no_length (flag FDF w) (read DLC w) (field_lt w 0 4) (only (length_of (flag FDF w) (read DLC w)) e),
      λ e. rw (classic_long (flag FDF w) (read DLC w) e.0 e.1),
    )
  where
    only : (l : Option ℕ) → by_length l true stamped b ≡ no_frame → l ≡ None
    only (Some n) =
        by_if (λ (x : Decoding). x ≡ no_frame → Some n ≡ None) (leb (body_at stamped + n) (length b))
        (λ t e. let z : ◌≡◌ {A = ℕ} 0 1 = cc in absurd (omega arith))
        (λ t e. let z : ◌≡◌ {A = ℕ} 0 1 = cc in absurd (omega arith))
    only None = λ e. refl

-- ---- the DLC

pub classic_dlc_lem : ClassicDlc
unfolding object_bytes le_bytes
classic_dlc_lem m bs r f e =
    let c = is_coded m bs e in
    let g = sound m.header m.seq (length m.payload) c.dlc c.checked in
    let small = dlc_16 m.header.fdf (length m.payload) c.dlc g.dlc in
    let k = word1_says m.header c.dlc small m.seq g.seq_fits in
    let b : List ℕ = bytes_of m c.dlc ++ r in
    let w : le_at b 4 ≡ word1 m.header m.seq c.dlc = le_drop b 4 ∙ le_back _ (drop 8 b) k.small in
    let is : read DLC (le_at (bs ++ r) 4) ≡ c.dlc = ap (λ (l : List ℕ). read DLC (le_at (l ++ r) 4)) (sym c.bytes) ∙ ap (read DLC) w ∙ k.dlc_is in
    omega (arith, is, low m.header.fdf (length m.payload) c.dlc f g.dlc)
  where
    low : (fdf : Bool) (n d : ℕ) → fdf ≡ false → dlc_of fdf n ≡ Some d → d ≤ 8
    low true n d f e = absurd (false≢true (sym f))
    low false n d f e = omega (arith, dlc_lt false n d e)

pub always_holds_lem : AlwaysHolds
unfolding decoding message_in length_in
always_holds_lem stamped b h =
    let w : ℕ = le_at b 4 in
    let n : ℕ = received_length (flag FDF w) (read DLC w) in (
      message_in false stamped n b,
      rw (le-ltb (length b) (body_at stamped) (omega arith), le-leb (body_at stamped + n) (length b) h),
      cut false stamped b n h,
      refl,
      refl,
    )
