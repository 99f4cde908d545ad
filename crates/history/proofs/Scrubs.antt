-- Scrub steps over the modelled chip: a flipped bit is reported, and what a rewrite leaves.
-- Assumes nothing.
use Prim.Native.Nat.{ℕ, zero, suc, ◌-◌, ◌/◌, ◌%◌, ◌^◌, ◌<◌}
use native.Mathlib.Omega.{arith}
use mathlib.Core.Path.{◌≡◌, refl, sym, ap, subst, ◌∙◌}
use mathlib.Core.Bool.{Bool, true, false, true≢false}
use mathlib.Core.List.{List, [], ◌∷◌}
use lib.Bits.{bit_and, or_lt, and_le_r}
use lib.Dec.{eqb, ltb}
use lib.ListN.{length}
use lib.Seq.{get_or-set_same}
use borrow.Author.Tests.{ltb-true, eqb-true, eqb-false}
use Rattle.std.specs.Prelude.{if◌then◌else◌, is_some, Option, Some, None}
use Rattle.laws.proofs.Choice.{by_if}
use Rattle.field.specs.Field.{bit, read}
use Rattle.field.proofs.Laws.{field_lt, write_other}
use Rattle.chip.specs.OscillatorControl.{PLLEN, PLLRDY}
use Rattle.place.specs.declared.Register.{Register}
use Rattle.place.specs.Place.{of_fifo, of_filter, single, register_at, is_carried}
use Rattle.place.proofs.Laws.{behind_filters, short}
use Rattle.operation.specs.Operation.{in_ram}
use Rattle.operation.proofs.Laws.{ram_told}
use Rattle.spi.specs.declared.refusal.Refusal.{Refusal}
use Rattle.spi.specs.declared.ask.Ask.{Ask}
use Rattle.spi.specs.declared.ask.Answer.{Answer}
use Rattle.spi.specs.declared.reply.CheckedWord.{CheckedWord}
use Rattle.spi.specs.Ask.{head_of}
use Rattle.spi.specs.Reply.{done_reply, crc_reply}
use Rattle.spi.specs.Talk.{run, on_checked}
use Rattle.spi.proofs.Talks.{by_done, by_checked}
use Rattle.call.specs.declared.Rewrite.{Rewrite}
use Rattle.call.specs.declared.Report.{Report}
use Rattle.call.specs.declared.Outcome.{Outcome}
use Rattle.register.specs.Step.{again}
use Rattle.watch.specs.declared.Watch.{Watch}
use Rattle.scrub.specs.Scrub.{Scrub, ScrubAt}
use Rattle.scrub.specs.Step.{agrees, rewritten, to, reports, differs, seen, unread, step_at, step_of, ask_at, ask_of as scrub_ask, outcome_at, outcome_of}
use Rattle.scrub.proofs.Words.{agrees_bits_lem, rewritten_bits_lem}
use Rattle.driver.specs.Step.{ask_of}
use Rattle.driver.specs.Start.{of_scrub}
use Rattle.driver.specs.Send.{body_of}
use Rattle.state.specs.declared.Model.{Model}
use Rattle.bank.specs.Registers.{word_of, register_written}
use Rattle.model.specs.Exchange.{done_writing, checked_bytes}
use Rattle.reach.specs.Reach.{Reached}
use Rattle.reach.proofs.Kept.{always_valid_lem}
use Rattle.history.specs.History.{Heard, answered}
use Rattle.history.specs.Scrub.{Flipped, heard_by, FlipReported, Takes, RewriteLeaves}
use Rattle.history.proofs.Line.{spoken}
use Rattle.history.proofs.Kept.{heard_chip}
use Rattle.history.proofs.Asks.{hear_checked, tell_register}
use Rattle.history.proofs.Checked.{checked_back}

-- ---- registers' places

module _ (a : ℕ) (r : Register) (is : register_at a ≡ Some r) where
  is_carried_lem : is_carried a ≡ true
  unfolding is_carried
  is_carried_lem = ap is_some is

  small : a < 2 ^ 12
  small = short a is_carried_lem

  -- no register lies in RAM
  outside : in_ram a 4 ≡ false
  outside = go (in_ram a 4) refl
    where
      go : (b : Bool) → in_ram a 4 ≡ b → in_ram a 4 ≡ false
      go false e = e
      go true e =
          let (low, high) = ram_told a 4 e in
          absurd (true≢false (sym (ap is_some is) ∙ behind_filters a (omega arith) (λ q. omega arith) (λ q. omega arith)))

-- the numbers of the registers that hold what is written
abbrev Numbered : Register → Type 0
Numbered Register.Con = Unit {0}
Numbered Register.Osc = Unit {0}
Numbered (Register.Plain k) = k < 6
Numbered (Register.Filter k) = k < 8
Numbered (Register.Object k) = k < 32
Numbered (Register.Mask k) = k < 32
Numbered (Register.Control n) = Unit {0}
Numbered (Register.Status n) = Unit {0}
Numbered (Register.Address n) = Unit {0}
Numbered Register.QueueControl = Unit {0}
Numbered Register.QueueStatus = Unit {0}
Numbered Register.QueueAddress = Unit {0}

abbrev Known : Option Register → Type 0
Known (Some r) = Numbered r
Known None = Unit {0}

single_known : (a : ℕ) → Known (single a)
unfolding single
single_known a =
    by_if Known (eqb a 0x000) (λ e. tt)
    (λ e. by_if Known (eqb a 0x004) (λ e. omega arith)
    (λ e. by_if Known (eqb a 0x008) (λ e. omega arith)
    (λ e. by_if Known (eqb a 0x00C) (λ e. omega arith)
    (λ e. by_if Known (eqb a 0x014) (λ e. omega arith)
    (λ e. by_if Known (eqb a 0x01C) (λ e. omega arith)
    (λ e. by_if Known (eqb a 0x050) (λ e. tt)
    (λ e. by_if Known (eqb a 0x054) (λ e. tt)
    (λ e. by_if Known (eqb a 0x058) (λ e. tt)
    (λ e. by_if Known (eqb a 0xE00) (λ e. tt) (λ e. by_if Known (eqb a 0xE04) (λ e. omega arith) (λ e. tt)))))))))))

fifo_known : (n word : ℕ) → Numbered (of_fifo n word)
fifo_known n zero = tt
fifo_known n (suc zero) = tt
fifo_known n (suc (suc k)) = tt

filter_known : (m word : ℕ) → m < 32 → Numbered (of_filter m word)
filter_known m zero l = l
filter_known m (suc k) l = l

known : (a : ℕ) → Known (register_at a)
unfolding register_at
known a =
    by_if Known (ltb 0 (a % 4)) (λ e. tt)
    (λ e. by_if Known (ltb a 0x05C) (λ f. single_known a)
    (λ f. by_if Known (ltb a 0x1D0) (λ g. fifo_known ((a - 0x050) / 12) ((a - 0x050) % 12 / 4))
    (λ g. by_if Known (ltb a 0x1F0) (λ h. omega (arith, ltb-true a 0x1F0 h))
    (λ h. by_if Known (ltb a 0x2F0) (λ i. filter_known ((a - 0x1F0) / 8) ((a - 0x1F0) % 8 / 4) (omega (arith, ltb-true a 0x2F0 i))) (λ i. single_known a)))))

-- ---- what is reported once the word was read

-- two constructors are not alike
pub no : {X : Type 0} → ◌≡◌ {A = ℕ} 0 1 → X
no e = absurd (omega (arith, e))

-- after the end nothing is reported
late_run : (o : Report) (z : Scrub) (w : Refusal) (ys : List (Answer × List ℕ)) → z.at ≡ ScrubAt.Refused w → outcome_of (run step_of z ys) ≡ Outcome.Scrubbed o → ⊥
unfolding run step_of outcome_of
late_run o z w [] f k = let q : Outcome.Refused w ≡ Outcome.Scrubbed o = sym (ap outcome_at f) ∙ k in no cc
late_run o z w (y ∷ ys) f k = late_run o (to z (ScrubAt.Refused Refusal.WrongAnswer)) Refusal.WrongAnswer ys refl (rw f at k)

-- a report stands until the end
told_run : (s : Scrub) (r : Report) (xs : List (Answer × List ℕ)) (o : Report) → s.at ≡ ScrubAt.Told r → outcome_of (run step_of s xs) ≡ Outcome.Scrubbed o → o ≡ r
unfolding run step_of outcome_of
told_run s r [] o e h = let k : Outcome.Scrubbed r ≡ Outcome.Scrubbed o = sym (ap outcome_at e) ∙ h in cc
told_run s r (x ∷ xs) o e h = absurd (late_run o (to s (ScrubAt.Refused Refusal.WrongAnswer)) Refusal.WrongAnswer xs refl (rw e at h))

-- from the WRITE on both words are told
module _ (w : Watch) (word n : ℕ) where
  abbrev Telling : ScrubAt → Type 0
  Telling (ScrubAt.Visit count) = ⊥
  Telling (ScrubAt.Write read first) = (read ≡ word) × (first ≡ n)
  Telling (ScrubAt.Back read first count) = (read ≡ word) × (first ≡ n)
  Telling (ScrubAt.Told r) = (x : Rewrite) × (r ≡ differs w word n x)
  Telling (ScrubAt.Refused r) = Unit {0}

  record Rewrites (s : Scrub) : Type 0 where
    pub entry : s.entry ≡ w
    pub at : Telling s.at

  module _ (s : Scrub) (e : s.entry ≡ w) (read first : ℕ) (h : (read ≡ word) × (first ≡ n)) where
    tells : (x : Rewrite) → Rewrites (reports s (differs s.entry read first x))
    tells x = record { entry = e; at = (x, rw (e, h.0, h.1)) }

    on : (at : ScrubAt) → Telling at → Rewrites (to s at)
    on at t = record { entry = e; at = t }

  step_tells : (at : ScrubAt) (s : Scrub) (a : Answer) (rx : List ℕ) → s.entry ≡ w → Telling at → Rewrites (step_at at s a rx)
  step_tells (ScrubAt.Visit count) s a rx e t = absurd t
  step_tells (ScrubAt.Write read first) s a rx e t =
      by_done Rewrites (λ r. tells s e read first t (Rewrite.Unread r)) (done_reply Refusal.SpiRead a (length rx) 0) (on s e read first t _ t)
  step_tells (ScrubAt.Back read first count) s a rx e t =
      by_checked Rewrites (λ r. tells s e read first t (Rewrite.Unread r)) (crc_reply Refusal.SpiRead s.entry.address a rx)
      (by_if Rewrites (ltb count 2) (λ z. on s e read first t _ t) (λ z. tells s e read first t (Rewrite.Unread Refusal.CrcMismatch)))
      (λ x. tells s e read first t (Rewrite.Back x count))
  step_tells (ScrubAt.Told r) s a rx e t = record { entry = e; at = tt }
  step_tells (ScrubAt.Refused r) s a rx e t = record { entry = e; at = tt }

  run_tells : (s : Scrub) (xs : List (Answer × List ℕ)) → Rewrites s → Rewrites (run step_of s xs)
  unfolding run step_of
  run_tells s [] g = g
  run_tells s (x ∷ xs) g = run_tells (step_at s.at s x.0 x.1) xs (step_tells s.at s x.0 x.1 g.entry g.at)

  tells_at : (at : ScrubAt) (o : Report) → Telling at → outcome_at at ≡ Outcome.Scrubbed o → (x : Rewrite) × (o ≡ differs w word n x)
  tells_at (ScrubAt.Visit count) o t h = absurd t
  tells_at (ScrubAt.Write read first) o t h = no cc
  tells_at (ScrubAt.Back read first count) o t h = no cc
  tells_at (ScrubAt.Told r) o t h = let k : r ≡ o = cc in (t.0, sym k ∙ t.1)
  tells_at (ScrubAt.Refused r) o t h = no cc

module _ (s : Scrub) (word n : ℕ) (xs : List (Answer × List ℕ)) (o : Report) where
  abbrev same : Bool
  same = agrees word s.entry.wanted s.entry.care

  agreed : same ≡ true → outcome_of (run step_of (seen s word n) xs) ≡ Outcome.Scrubbed o → o ≡ Report.Agree s.entry.address n
  agreed e h = told_run (reports s (Report.Agree s.entry.address n)) _ xs o refl (rw e at h)

  -- the two ways on from a difference
  abbrev asks : Scrub
  asks = to s (ScrubAt.Write word n)

  abbrev says : Scrub
  says = reports s (differs s.entry word n Rewrite.None)

  goes : same ≡ false → (b : Bool) → s.rewrite ≡ b → seen s word n ≡ (if b then asks else says)
  goes e b f =
      ap (λ (x : Bool). if x then reports s (Report.Agree s.entry.address n) else if s.rewrite then asks else says) e
      ∙ ap (λ (x : Bool). if x then asks else says) f

  differed : same ≡ false → outcome_of (run step_of (seen s word n) xs) ≡ Outcome.Scrubbed o → (x : Rewrite) × (o ≡ differs s.entry word n x)
  unfolding outcome_of
  differed e h = go s.rewrite refl
    where
      at : (z : Scrub) → seen s word n ≡ z → outcome_of (run step_of z xs) ≡ Outcome.Scrubbed o
      at z q = ap (λ (y : Scrub). outcome_of (run step_of y xs)) (sym q) ∙ h

      go : (b : Bool) → s.rewrite ≡ b → (x : Rewrite) × (o ≡ differs s.entry word n x)
      go true f =
          let g : Rewrites s.entry word n (run step_of asks xs) = run_tells s.entry word n asks xs (record { entry = refl; at = (refl, refl) }) in
          tells_at s.entry word n (run step_of asks xs).at o g.at (at asks (goes e true f))
      go false f = (Rewrite.None, told_run says _ xs o refl (at says (goes e false f)))

-- ---- the visit

flipped_differs : (w : Watch) (word : ℕ) → Flipped w word → agrees word w.wanted w.care ≡ false
flipped_differs w word (i, on, other) = go (agrees word w.wanted w.care) refl
  where
    go : (b : Bool) → agrees word w.wanted w.care ≡ b → agrees word w.wanted w.care ≡ false
    go false e = e
    go true e = absurd (other ((agrees_bits_lem word w.wanted w.care).0 e i on))

whole_agrees : (w : Watch) (word : ℕ) → (Flipped w word → ⊥) → agrees word w.wanted w.care ≡ true
whole_agrees w word n = (agrees_bits_lem word w.wanted w.care).1 (λ i on. go i on (eqb (read (bit i) word) (read (bit i) w.wanted)) refl)
  where
    go : (i : ℕ) → read (bit i) w.care ≡ 1 → (b : Bool) → eqb (read (bit i) word) (read (bit i) w.wanted) ≡ b → read (bit i) word ≡ read (bit i) w.wanted
    go i on true e = eqb-true (read (bit i) word) (read (bit i) w.wanted) e
    go i on false e = absurd (n (i, on, eqb-false (read (bit i) word) (read (bit i) w.wanted) e))

-- what a step asks goes to the chip
module _ (c : Model) (s : Scrub) where
  abbrev body : List ℕ
  body = body_of (of_scrub s) []

  answered_as : (at : ScrubAt) → s.at ≡ at → answered (of_scrub s) c ≡ spoken (ask_at at s.entry) body c
  unfolding answered ask_of of_scrub scrub_ask
  answered_as at e = ap (λ (x : ScrubAt). spoken (ask_at x s.entry) body c) e

  -- a step that stands at its visit reads the register's word
  visit_heard : (count : ℕ) (r : Register) → s.at ≡ ScrubAt.Visit count → register_at s.entry.address ≡ Some r → heard_by c s ≡ seen s (word_of c r % 2 ^ 32) count
  unfolding heard_by step_of
  visit_heard count r e is =
      let a : ℕ = s.entry.address in
      let bytes : List ℕ = checked_bytes (head_of (Ask.Checked a)) (word_of c r) in
      ap (λ (h : Heard). step_of s h.answer h.rx) (answered_as (ScrubAt.Visit count) e ∙ hear_checked body c a r is (small a r is))
      ∙ ap (λ (x : ScrubAt). step_at x s Answer.Exchanged bytes) e
      ∙ ap (λ (x : CheckedWord). on_checked (unread s) x (again count (unread s) (λ k. to s (ScrubAt.Visit k))) (λ w. seen s w count)) (checked_back a (word_of c r))

pub flip_reported_lem : FlipReported
flip_reported_lem c s count r e is xs o h =
    let word : ℕ = word_of c r % 2 ^ 32 in
    let k : outcome_of (run step_of (seen s word count) xs) ≡ Outcome.Scrubbed o = ap (λ (z : Scrub). outcome_of (run step_of z xs)) (sym (visit_heard c s count r e is)) ∙ h in
    (λ f. differed s word count xs o (flipped_differs s.entry word f) k, λ f. agreed s word count xs o (whole_agrees s.entry word f) k)

-- ---- the rewrite

rewritten_small : (word wanted care : ℕ) → care < 2 ^ 32 → rewritten word wanted care < 2 ^ 32
unfolding rewritten
rewritten_small word wanted care h =
    or_lt 32 (bit_and word (2 ^ 32 - 1 - care)) (bit_and wanted care) (omega (arith, and_le_r word (2 ^ 32 - 1 - care))) (omega (arith, and_le_r wanted care))

-- a bit that the register takes is read as written
takes_bit : (c : Model) → Reached c → (r : Register) → Numbered r → (w i : ℕ) → Takes r i → read (bit i) (word_of (register_written c r w).model r) ≡ read (bit i) w
unfolding register_written word_of
takes_bit c g Register.Con n w i t = absurd t
takes_bit c g Register.Osc n w i t = write_other PLLRDY (bit i) (read PLLEN w) w (field_lt w 0 1) t
takes_bit c g (Register.Plain k) n w i t = ap (read (bit i)) (get_or-set_same c.setup.plain k w 0 (omega (arith, n, (always_valid_lem c g).setup.plain)))
takes_bit c g (Register.Filter k) n w i t = ap (read (bit i)) (get_or-set_same c.setup.filter k w 0 (omega (arith, n, (always_valid_lem c g).setup.filter)))
takes_bit c g (Register.Object k) n w i t = ap (read (bit i)) (get_or-set_same c.setup.object k w 0 (omega (arith, n, (always_valid_lem c g).setup.object)))
takes_bit c g (Register.Mask k) n w i t = ap (read (bit i)) (get_or-set_same c.setup.mask k w 0 (omega (arith, n, (always_valid_lem c g).setup.mask)))
takes_bit c g (Register.Control k) n w i t = absurd t
takes_bit c g (Register.Status k) n w i t = absurd t
takes_bit c g (Register.Address k) n w i t = absurd t
takes_bit c g Register.QueueControl n w i t = absurd t
takes_bit c g Register.QueueStatus n w i t = absurd t
takes_bit c g Register.QueueAddress n w i t = absurd t

module _ (c : Model) (s : Scrub) (word first : ℕ) (r : Register) (e : s.at ≡ ScrubAt.Write word first) (is : register_at s.entry.address ≡ Some r)
    (h : s.entry.care < 2 ^ 32) where
  abbrev new : ℕ
  new = rewritten word s.entry.wanted s.entry.care

  -- the chip after the WRITE
  write_heard : (answered (of_scrub s) c).chip ≡ (register_written c r new).model
  write_heard =
      let a : ℕ = s.entry.address in
      ap (λ (x : Heard). x.chip)
      (answered_as c s (ScrubAt.Write word first) e
      ∙ tell_register (body c s) c a r is (outside a r is) (small a r is) new (rewritten_small word s.entry.wanted s.entry.care h))
      ∙ heard_chip (done_writing (register_written c r new)).reply _

pub rewrite_leaves_lem : RewriteLeaves
rewrite_leaves_lem c g s word first r e is h i l t =
    let n : Numbered r = subst Known is (known s.entry.address) in
    ap (λ (d : Model). read (bit i) (word_of d r)) (write_heard c s word first r e is h)
    ∙ takes_bit c g r n _ i t ∙ rewritten_bits_lem word s.entry.wanted s.entry.care h i l
