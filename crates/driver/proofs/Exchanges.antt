-- Every exchange of a started call has an address of 12 bits, and receives and sends few bytes.
-- Assumes nothing.
use Prim.Native.Nat.{ℕ, zero, suc, ◌+◌, ◌%◌, ◌^◌, ◌≤◌, ◌<◌}
use native.Mathlib.Omega.{arith}
use mathlib.Core.Path.{◌≡◌, refl, sym, ap, ◌∙◌, subst}
use mathlib.Core.Bool.{Bool, true, false, not, ◌&&◌, true≢false}
use mathlib.Core.List.{List, [], ◌∷◌}
use lib.ListN.{length, length-append, length-take}
use lib.Dec.{eqb, ltb, leb}
use borrow.Author.Tests.{ltb-true, leb-true, not-false}
use Rattle.std.specs.Prelude.{if◌then◌else◌, Some, None}
use Rattle.laws.proofs.Choice.{by_if}
use Rattle.laws.proofs.Table.{both}
use Rattle.field.specs.Field.{place, read, flag}
use Rattle.field.specs.Settings.{Setting, ◌:=◌}
use Rattle.configuration.specs.CanControl.{CiCON, REQOP, TXQEN, DNCNT}
use Rattle.interrupt.specs.Interrupt.{CiINT}
use Rattle.fifo.specs.Control.{CiFIFOCON, TXEN, RXTSEN, payload_of, is_fifo}
use Rattle.fifo.specs.Status.{CiFIFOSTA, TFNRFNIF}
use Rattle.fifo.specs.UserAddress.{CiFIFOUA}
use Rattle.words.specs.Words.{le_bytes, be_bytes, round_up}
use Rattle.header.specs.declared.Header.{Header}
use Rattle.header.specs.Header.{DLC, FDF}
use Rattle.header.proofs.Dlcs.{received_le}
use Rattle.message.specs.Message.{Message, Encoding, encoding}
use Rattle.message.proofs.Round.{object_le}
use Rattle.spi.specs.declared.refusal.Refusal.{Refusal}
use Rattle.spi.specs.declared.ask.Ask.{Ask}
use Rattle.spi.specs.declared.ask.Answer.{Answer}
use Rattle.spi.specs.Ask.{head_of, body_of, wanted, sent}
use Rattle.spi.specs.Instruction.{command_of}
use Rattle.spi.specs.Ram.{in_range, access_of}
use Rattle.spi.specs.Reply.{done_reply, crc_reply}
use Rattle.spi.specs.Talk.{Talk, done, refused, on_done, asks, answered, run, read_word, write_word, write_body, pause}
use Rattle.spi.proofs.Talks.{by_done, by_checked}
use Rattle.spi.proofs.Always.{Always, choice, reads, pairs, checks, waits, gets, puts, after, then_always}
use Rattle.call.specs.declared.Found.{Found}
use Rattle.call.specs.declared.Outcome.{Outcome}
use Rattle.register.specs.Talk.{read_call, write_call, checked_call, checked_talk, at_address}
use Rattle.ram.specs.Echo.{same, echo_bytes}
use Rattle.ram.specs.Step.{inside}
use Rattle.ram.specs.Talk.{read_ram_talk, write_ram_talk, verify_long_talk}
use Rattle.plan.specs.declared.change.Change.{Change}
use Rattle.plan.specs.declared.item.Poll.{Poll}
use Rattle.plan.specs.declared.item.Item.{Item}
use Rattle.plan.specs.Change.{setting_all, change_of}
use Rattle.plan.specs.Item.{address_of, shown, late_of, echo_word}
use Rattle.plan.specs.Prepared.{Prepared, ready, turned_down, talk_for, modify}
use Rattle.plan.specs.Talk.{poll_talk, echo_rest, item_talk, plan_talk}
use Rattle.changes.specs.declared.settings.Settings.{Settings}
use Rattle.changes.specs.Changes.{fits, timing_fits, counter_change, dncnt_change, interrupt_settings}
use Rattle.areas.specs.declared.settings.FilterConfiguration.{FilterConfiguration}
use Rattle.areas.specs.Areas.{fifo_fits, fifo_settings, queue_fits, is_identifier, is_filter, filter_check}
use Rattle.adjust.specs.Calls.{filter_items, set_op_mode, configure_bit_timing, configure_fifo, configure_tx_queue, disable_filter, configure_filter}
use Rattle.configure.specs.Whole.{configure_items, configure_all}
use Rattle.tx_fifo.specs.Step.{to_send, sends}
use Rattle.tx_fifo.specs.Talk as push_talks
use Rattle.transmit.specs.Transmit.{request_call, queue_request_call, transmit_call}
use Rattle.fetch.specs.declared.Want.{Want}
use Rattle.fetch.specs.Step.{found_by, stamped}
use Rattle.rx_fifo.specs.Outcome.{message_of}
use Rattle.rx_fifo.specs.Talk as fetch_talks
use Rattle.watch.specs.declared.Watch.{Watch}
use Rattle.watch.specs.Watch.{all_carried, entry_in}
use Rattle.watch.proofs.Lists.{due_short}
use Rattle.scrub.specs.Step.{agrees}
use Rattle.scrub.specs.Talk.{checked_by, rewrite_talk, seen_talk, visit_talk, scrub_call}
use Rattle.driver.specs.Step.{ask_of, step_of}
use Rattle.driver.specs.Talk.{told}
use Rattle.driver.specs.Calls.{Plans, Modify, Verify, SetOpMode, Osc, Io, BitTiming, Fifo, Queue, Filter, FilterOff, Configure, Start, Reset, OpMode, VerifyLong, Read, Checked, Write, ReadRam, WriteRam, Planned, Push, Transmit, Request, QueuePush, QueueUnchecked, QueueRequest, HasNext, Peek, Get, Scrub, prepared, started, whole_talk}
use Rattle.driver.specs.Demand1.{Narrow, Below, AddressesBelow, Fits, most, ExchangesFit, is_ram, RoomEnough}
use Rattle.driver.proofs.Runs.{follows, run_talk}
use Rattle.driver.proofs.Starts.{starts_as_talk_lem}

-- ---- addresses

ram_below : (a n : ℕ) → in_range a n ≡ true → Narrow a
unfolding in_range
ram_below a n e = let (low, high) = both (leb 0x400 a) (leb (a + n) 0xC00) e in omega (arith, leb-true (a + n) 0xC00 high)

fifo_most : (n : ℕ) → is_fifo n ≡ true → n ≤ 31
unfolding is_fifo
fifo_most n f = leb-true n 31 (both (leb 1 n) (leb n 31) f).1

module _ (n : ℕ) (l : n ≤ 31) where
  control_below : Narrow (CiFIFOCON.address n)
  control_below = omega arith

  status_below : Narrow (CiFIFOSTA.address n)
  status_below = omega arith

  user_below : Narrow (CiFIFOUA.address n)
  user_below = omega arith

abbrev ItemBelow : Item → Type 0
ItemBelow (Item.Change c) = Narrow c.address
ItemBelow (Item.Poll p more) = Unit {0}
ItemBelow Item.Echo = Unit {0}
ItemBelow Item.Nothing = Unit {0}

abbrev AllBelow : List Item → Type 0
AllBelow [] = Unit {0}
AllBelow (item ∷ items) = ItemBelow item × AllBelow items

infixr 5 ◌&◌
abbrev ◌&◌ : {A B : Type 0} → A → B → A × B
h & l = (h, l)

polled_below : (p : Poll) → Narrow (address_of p)
polled_below (Poll.Mode m late) = omega arith
polled_below Poll.Pll = omega arith

-- settings keep the address
address_kept : (ss : List Setting) (c : Change) → (setting_all ss c).address ≡ c.address
address_kept [] c = refl
address_kept (place p k := v ∷ ss) c = address_kept ss _

change_below : (address : ℕ) (ss : List Setting) → Narrow address → Narrow (change_of address ss).address
change_below address ss l = subst Narrow (sym (address_kept ss _)) l

-- an item that is there only by a choice
either_below : (b : Bool) (i j : Item) → ItemBelow i → ItemBelow j → ItemBelow (if b then i else j)
either_below b i j h l = by_if (λ x. ItemBelow x) b (λ e. h) (λ e. l)

configured_below : (s : Settings) → AllBelow (configure_items s)
configured_below s =
    omega arith & tt & tt & omega arith & either_below s.oscillator.pll (Item.Poll Poll.Pll 2) Item.Nothing tt tt & omega arith
    & omega arith & omega arith & omega arith & omega arith & omega arith
    & either_below s.counter (Item.Change counter_change) Item.Nothing (omega arith) tt
    & either_below (eqb s.dncnt 0) Item.Nothing (Item.Change (dncnt_change s.dncnt)) tt (omega arith)
    & omega arith & change_below (CiINT.address 0) (interrupt_settings s) (omega arith) & tt

-- ---- words that may be read and written, and payloads that may be read

abbrev MayRead : (Ask → Type 0) → Type 0
MayRead P = (a : ℕ) → Narrow a → P (Ask.Read a 4)

abbrev MayWrite : (Ask → Type 0) → Type 0
MayWrite P = (a w : ℕ) → Narrow a → P (Ask.Word a w)

abbrev MayGet : (Ask → Type 0) → Type 0
MayGet P = (a count : ℕ) → Narrow a → count ≤ 64 → P (Ask.Read a count)

-- ---- registers and RAM

module _ (P : Ask → Type 0) where
  at_address_lem : (address : ℕ) (t : Talk Outcome) → (Narrow address → Always P t) → Always P (at_address address t)
  at_address_lem address t h = choice P (ltb address (2 ^ 12)) t (refused Refusal.BadSetting) (λ e. h (ltb-true address (2 ^ 12) e)) (λ e. tt)

  tries : (address seen left : ℕ) → P (Ask.Checked address) → Always P (checked_talk address seen left)
  unfolding checked_talk
  tries address seen zero l = checks P Refusal.SpiRead address _ _ l tt (λ w. tt)
  tries address seen (suc left) l = checks P Refusal.SpiRead address _ _ l (tries address (seen + 1) left l) (λ w. tt)

  accessed : (address count : ℕ) (r : Refusal) (t : Talk Outcome) → (Narrow address → Always P t) → Always P (on_done refused (access_of address count r) t)
  unfolding access_of
  accessed address count r t h =
      by_if (λ d. Always P (on_done refused d t)) (in_range address count)
      (λ e. by_if (λ d. Always P (on_done refused d t)) (eqb (count % 4) 0) (λ f. h (ram_below address count e)) (λ f. tt))
      (λ e. tt)

-- ---- a word that is read, and one that is written: request, the end of a get

module _ (P : Ask → Type 0) (may_read : MayRead P) (may_write_lem : MayWrite P) where
  word_written : {A : Type 0} (failed : Refusal) (address word : ℕ) (k : Talk A) → Narrow address → Always P k → Always P (write_word failed address word k)
  word_written failed address word k l h = puts P failed (Ask.Word address word) k (may_write_lem address word l) h

  -- a word is read, and one is written to the same place
  changed : {A : Type 0} (failed : Refusal) (address : ℕ) (word : ℕ → ℕ) (k : Talk A) → Narrow address → Always P k
      → Always P (read_word failed address (λ w. write_word failed address (word w) k))
  changed failed address word k l h = reads P failed address _ (may_read address l) (λ w. word_written failed address (word w) k l h)

  request_always : (n : ℕ) → Always P (request_call n)
  unfolding request_call
  request_always n =
      choice P (is_fifo n) _ _ (λ f. changed Refusal.SpiRead (CiFIFOCON.address n) _ _ (control_below n (fifo_most n f)) tt) (λ f. tt)

  queue_request_always : Always P queue_request_call
  unfolding queue_request_call
  queue_request_always = changed Refusal.SpiRead (CiFIFOCON.address 0) _ _ (control_below 0 (omega arith)) tt

  next_always : (n : ℕ) → is_fifo n ≡ true → (m : Message) → Always P (fetch_talks.next_talk n m)
  next_always n f m = changed Refusal.SpiRead (CiFIFOCON.address n) _ (done (fetch_talks.message m)) (control_below n (fifo_most n f)) tt

-- ---- plans

module _ (P : Ask → Type 0) (may_read : MayRead P) (may_write_lem : MayWrite P) (may_wait : P Ask.Wait) where
  module _ (failed : Refusal) (k : Talk Outcome) (h : Always P k) where
    poll_always : (p : Poll) (left : ℕ) → Always P (poll_talk failed p left k)
    unfolding poll_talk
    poll_always p zero = reads P failed (address_of p) _ (may_read _ (polled_below p)) (λ w. choice P (shown p w) k (refused (late_of p)) (λ e. h) (λ e. tt))
    poll_always p (suc left) =
        reads P failed (address_of p) _ (may_read _ (polled_below p))
        (λ w. choice P (shown p w) k (pause (poll_talk failed p left k)) (λ e. h)
        (λ e. waits P _ may_wait (poll_always p left)))

    rest_always : (left : ℕ) → Always P (echo_rest failed left k)
    unfolding echo_rest
    rest_always zero = h
    rest_always (suc left) =
        word_written P may_read may_write_lem failed 0x400 (echo_word left) _ (omega arith)
        (reads P failed 0x400 _ (may_read 0x400 (omega arith))
        (λ w. choice P (eqb w (echo_word left)) (echo_rest failed left k) (refused Refusal.SpiFailedRamEcho) (λ e. rest_always left) (λ e. tt)))

    item_always : (item : Item) → ItemBelow item → Always P (item_talk failed item k)
    unfolding echo_rest
    item_always (Item.Change c) l = changed P may_read may_write_lem failed c.address _ k l h
    item_always (Item.Poll p more) l = poll_always p more
    item_always Item.Echo l = rest_always 32
    item_always Item.Nothing l = h

  items_always : (failed : Refusal) (items : List Item) → AllBelow items → Always P (plan_talk failed items)
  unfolding plan_talk
  items_always failed [] h = tt
  items_always failed (item ∷ items) h = item_always failed (plan_talk failed items) (items_always failed items h.1) item h.0

  -- a test in front of a plan
  tested : (b : Bool) (p : Prepared) (r : Refusal) → (b ≡ true → Always P (talk_for p)) → Always P (talk_for (if b then p else turned_down r))
  tested b p r h = by_if (λ q. Always P (talk_for q)) b h (λ e. tt)

  filter_always : (f : ℕ) (c : FilterConfiguration) → Always P (talk_for (configure_filter f c))
  unfolding configure_filter filter_check
  filter_always f c =
      by_if (λ d. Always P (talk_for (on_done turned_down d p))) (not (is_filter f && is_fifo c.fifo)) (λ e. tt)
      (λ e.
      let l : f < 32 = ltb-true f 32 (both (is_filter f) (is_fifo c.fifo) (not-false _ e)).0 in
      by_if (λ d. Always P (talk_for (on_done turned_down d p))) (not (is_identifier c.object && is_identifier c.mask)) (λ j. tt)
      (λ j. items_always Refusal.SpiRead (filter_items f c) (omega arith & omega arith & omega arith & omega arith & tt)))
    where
      p : Prepared
      p = ready Refusal.SpiRead (filter_items f c)

  plan_always : (x : Plans) → Always P (talk_for (prepared x))
  unfolding modify set_op_mode configure_bit_timing configure_fifo configure_tx_queue disable_filter configure_all
  plan_always (Modify address clear set) =
      tested (ltb address (2 ^ 12)) (ready _ _) _ (λ e. items_always Refusal.SpiRead _ (ltb-true address (2 ^ 12) e, tt))
  plan_always Verify = items_always _ _ (tt, tt)
  plan_always (SetOpMode mode) = tested (fits REQOP mode) (ready _ _) _ (λ e. items_always _ _ (omega arith & tt & tt))
  plan_always (Osc o) = items_always _ _ (omega arith & either_below o.pll (Item.Poll Poll.Pll 2) Item.Nothing tt tt & tt)
  plan_always (Io c) = items_always _ _ (omega arith, tt)
  plan_always (BitTiming b) = tested (timing_fits b) (ready _ _) _ (λ e. items_always _ _ (omega arith & omega arith & omega arith & tt))
  plan_always (Fifo n c) =
      by_if (λ q. Always P (talk_for q)) (not (is_fifo n)) (λ e. tt)
      (λ e. by_if (λ q. Always P (talk_for q)) (not (fifo_fits c)) (λ d. tt)
      (λ d. items_always _ _ (change_below (CiFIFOCON.address n) (fifo_settings c) (control_below n (fifo_most n (not-false _ e))), tt)))
  plan_always (Queue None) = items_always _ _ (omega arith, tt)
  plan_always (Queue (Some c)) = tested (queue_fits c) (ready _ _) _ (λ e. items_always _ _ (omega arith & omega arith & tt))
  plan_always (Filter f c) = filter_always f c
  plan_always (FilterOff f) = tested (is_filter f) (ready _ _) _ (λ e. let l : f < 32 = ltb-true f 32 e in items_always _ _ (omega arith, tt))
  plan_always (Configure s) =
      tested (timing_fits s.bittime) (if fits DNCNT s.dncnt then ready _ _ else turned_down _) _
      (λ e. tested (fits DNCNT s.dncnt) (ready _ _) _ (λ d. items_always _ _ (configured_below s)))

-- ---- push: an object of at most 72 bytes

module _ (P : Ask → Type 0) (may_read : MayRead P) (may_write_lem : MayWrite P)
    (may_send : (a len : ℕ) → Narrow a → len ≤ 72 → P (Ask.Body a len)) where
  module _ (n : ℕ) (few : n ≤ 31) where
    -- what comes behind the user address, by the RAM address
    ram_always : (len : ℕ) (k : ℕ → Talk Outcome) → ((a : ℕ) → Narrow a → Always P (k a)) → Always P (push_talks.ram_talk n len k)
    ram_always len k h =
        reads P Refusal.SpiRead (CiFIFOUA.address n) _ (may_read _ (user_below n few))
        (λ u. choice P (ltb 0xFBFF u) _ _ (λ e. tt)
        (λ e. choice P (not (in_range (u + 0x400) len)) _ _ (λ i. tt) (λ i. h (u + 0x400) (ram_below (u + 0x400) len (not-false _ i)))))

    commit_always : (w : ℕ) → Always P (push_talks.commit_talk n w)
    commit_always w = word_written P may_read may_write_lem Refusal.SpiRead (CiFIFOCON.address n) _ _ (control_below n few) tt

    module _ (len : ℕ) (l : len ≤ 72) where
      write_always : (k : Talk Outcome) (a : ℕ) → Narrow a → Always P k → Always P (write_body Refusal.SpiWrite a len k)
      write_always k a s h = puts P Refusal.SpiWrite (Ask.Body a len) k (may_send a len s l) h

      push_always : (size : ℕ) → Always P (push_talks.push_talk n size len)
      push_always size =
          reads P Refusal.SpiRead (CiFIFOCON.address n) _ (may_read _ (control_below n few))
          (λ w. choice P (not (sends n w)) _ _ (λ e. tt)
          (λ e. choice P (ltb (payload_of w) size) _ _ (λ i. tt)
          (λ i. reads P Refusal.SpiRead (CiFIFOSTA.address n) _ (may_read _ (status_below n few))
          (λ v. choice P (not (flag TFNRFNIF v)) _ _ (λ j. tt) (λ j. ram_always len (push_talks.write_talk n len w) (λ a s. write_always (push_talks.commit_talk n w) a s (commit_always w)))))))

      enabled_always : (size : ℕ) → Always P (push_talks.enabled_talk n size len)
      enabled_always size =
          reads P Refusal.SpiRead (CiCON.address 0) _ (may_read _ (omega arith)) (λ w. choice P (not (flag TXQEN w)) _ _ (λ e. tt) (λ e. push_always size))

      bare_always : Always P (push_talks.bare_talk n len)
      bare_always =
          ram_always len (push_talks.bare_write_talk n len)
          (λ a s. write_always (push_talks.bare_control_talk n) a s (reads P Refusal.SpiRead (CiFIFOCON.address n) _ (may_read _ (control_below n few)) commit_always))

  module _ (header : Header) (seq : ℕ) (payload : List ℕ) where
    abbrev sending : Message
    sending = to_send header seq payload

    encoded_always : (k : ℕ → Talk Outcome) → ((len : ℕ) → len ≤ 72 → Always P (k len)) → Always P (push_talks.with_encoding k (encoding sending))
    encoded_always k h = go (encoding sending) (λ bs e. omega (arith, object_le sending bs e))
      where
        go : (e : Encoding) → ((bs : List ℕ) → e ≡ Encoding.object bs → length bs ≤ 72) → Always P (push_talks.with_encoding k e)
        go (Encoding.refused r) l = tt
        go (Encoding.object bs) l = h (length bs) (l bs refl)

    pushed_always : (n : ℕ) → Always P (push_talks.push_call n header seq payload)
    unfolding push_talks.push_call
    pushed_always n =
        choice P (not (is_fifo n)) _ _ (λ f. tt)
        (λ f. encoded_always (push_talks.push_talk n (length payload)) (λ len l. push_always n (fifo_most n (not-false _ f)) len l (length payload)))

    queue_always : Always P (push_talks.queue_push_call header seq payload)
    unfolding push_talks.queue_push_call
    queue_always = encoded_always (push_talks.enabled_talk 0 (length payload)) (λ len l. enabled_always 0 (omega arith) len l (length payload))

    unchecked_always : Always P (push_talks.queue_unchecked_call header seq payload)
    unfolding push_talks.queue_unchecked_call
    unchecked_always = encoded_always (push_talks.bare_talk 0) (λ len l. bare_always 0 (omega arith) len l)

-- ---- has-next, peek and get

told_always : (P : Ask → Type 0) (t : Talk fetch_talks.Fetched) → Always P t → Always P (told t)
told_always P t h = then_always P t _ h (λ x. tt)

module _ (P : Ask → Type 0) (may_read : MayRead P) where
  module _ (n : ℕ) (f : n ≤ 31) where
    control_always : (want : Want) → ((b : Bool) → Always P (fetch_talks.held_talk want n b)) → Always P (fetch_talks.control_talk want n)
    control_always want h =
        reads P Refusal.SpiRead (CiFIFOCON.address n) _ (may_read _ (control_below n f))
        (λ w. choice P (flag TXEN w) _ _ (λ e. tt)
        (λ e. reads P Refusal.SpiRead (CiFIFOSTA.address n) _ (may_read _ (status_below n f)) (λ v. h (flag TFNRFNIF v))))

    -- a payload of at most 64 bytes
    module _ (may_get : MayGet P) (want : Want) (last : (m : Message) → Always P (fetch_talks.last_talk want n m)) where
      body_always : (x : ℕ) (d : Found) → d.len ≤ 64 → Always P (fetch_talks.to_body_talk want n x d)
      body_always x d l =
          choice P (in_range x (round_up d.len)) _ _
          (λ e. gets P Refusal.SpiRead x (round_up d.len) _ (may_get x (round_up d.len) (ram_below x (round_up d.len) e) (omega arith)) (λ rx. last (message_of d rx)))
          (λ e. tt)

      again_always : (o : ℕ) (d : Found) → d.len ≤ 64 → Always P (fetch_talks.again_talk want n o d)
      again_always o d l =
          reads P Refusal.SpiRead (CiFIFOCON.address n) _ (may_read _ (control_below n f))
          (λ w. choice P (ltb (payload_of w) d.len) _ _ (λ e. tt)
          (λ e. choice P (flag RXTSEN w) _ _
          (λ e. choice P (in_range (o + 8) 4) _ _
          (λ i. reads P Refusal.SpiRead (o + 8) _ (may_read _ (ram_below (o + 8) 4 i)) (λ t. body_always (o + 8 + 4) (stamped d t) l)) (λ i. tt))
          (λ e. body_always (o + 8) d l)))

      header_always : (o : ℕ) → Narrow o → Always P (fetch_talks.header_talk want n o)
      header_always o l =
          pairs P Refusal.SpiRead o _ (may_get o 8 l (omega arith))
          (λ c d. again_always o (found_by c d) (received_le (flag FDF d) (read DLC d)))

      address_always : Always P (fetch_talks.address_talk want n)
      address_always =
          reads P Refusal.SpiRead (CiFIFOUA.address n) _ (may_read _ (user_below n f))
          (λ u. choice P (ltb 0xFBFF u) _ _ (λ e. tt)
          (λ e. choice P (in_range (u + 0x400) 8) _ _ (λ i. header_always (u + 0x400) (ram_below (u + 0x400) 8 i)) (λ i. tt)))

      -- or there is none
      or_none : (b : Bool) → Always P (if b then fetch_talks.address_talk want n else done fetch_talks.empty)
      or_none b = choice P b _ _ (λ e. address_always) (λ e. tt)

-- a peek or a get, with what comes after its payload
lent_always : (P : Ask → Type 0) → MayGet P → (want : Want) (n room : ℕ)
    → ((b : Bool) → fetch_talks.held_talk want n b ≡ (if b then fetch_talks.address_talk want n else done fetch_talks.empty))
    → (is_fifo n ≡ true → (m : Message) → Always P (fetch_talks.last_talk want n m)) → Always P (told (fetch_talks.lent_talk want n room))
unfolding fetch_talks.lent_talk
lent_always P may_get want n room e last =
    let may_read : MayRead P = λ a l. may_get a 4 l (omega arith) in
    told_always P _
    (choice P (is_fifo n) _ _
    (λ f. choice P (ltb room 64) _ _ (λ d. tt) (λ d. control_always P may_read n (fifo_most n f) want (λ b. rw e (or_none P may_read n (fifo_most n f) may_get want (last f) b))))
    (λ f. tt))

-- ---- scrub

module _ (P : Ask → Type 0) where
  checked_always : (address count left : ℕ) (bad : Refusal → Talk Outcome) (k : ℕ → ℕ → Talk Outcome) → P (Ask.Checked address)
      → ((r : Refusal) → Always P (bad r)) → ((w n : ℕ) → Always P (k w n)) → Always P (checked_by address count left bad k)
  unfolding checked_by
  checked_always address count zero bad k l b h =
      (l, λ a rx. by_checked (λ (t : Talk Outcome). Always P t) b (crc_reply Refusal.SpiRead address a rx) (b Refusal.CrcMismatch) (λ w. h w count))
  checked_always address count (suc left) bad k l b h = (
    l,
    λ a rx. by_checked (λ (t : Talk Outcome). Always P t) b (crc_reply Refusal.SpiRead address a rx)
        (checked_always address (count + 1) left bad k l b h) (λ w. h w count),
  )

  visit_always : (w : Watch) (rewrite : Bool) → P (Ask.Checked w.address) → ((word : ℕ) → P (Ask.Word w.address word)) → Always P (visit_talk w rewrite 0 2)
  visit_always w rewrite l may_write_lem =
      checked_always w.address 0 2 _ (seen_talk w rewrite) l (λ r. tt)
      (λ read first.
      choice P (agrees read w.wanted w.care) _ _ (λ e. tt)
      (λ e. choice P rewrite (rewrite_talk w read first) _
      (λ f. (
        may_write_lem _,
        λ a rx. by_done (λ (t : Talk Outcome). Always P t) (λ r. tt) (done_reply Refusal.SpiRead a (length rx) 0)
            (checked_always w.address 0 2 _ _ l (λ r. tt) (λ x n. tt)),
      ))
      (λ f. tt)))

-- ---- addresses and sizes

abbrev Small : ℕ × ℕ → Ask → Type 0
Small m q = Below q × Fits m q

module _ (m : ℕ × ℕ) where
  small : (q : Ask) → Below q → wanted q ≤ m.0 → length (head_of q) + body_of q ≤ m.1 → Small m q
  unfolding sent
  small q l h k = (l, (h, λ body. simp (length-append, length-take) (omega arith)))

  read_small : (count : ℕ) → count ≤ m.0 → 2 ≤ m.1 → (a : ℕ) → Narrow a → Small m (Ask.Read a count)
  unfolding command_of be_bytes
  read_small count h k a l = small (Ask.Read a count) l h (omega arith)

  word_small : 6 ≤ m.1 → (a w : ℕ) → Narrow a → Small m (Ask.Word a w)
  unfolding command_of be_bytes le_bytes
  word_small k a w l = small (Ask.Word a w) l (omega arith) (omega arith)

  checked_small : 6 ≤ m.0 → 3 ≤ m.1 → (a : ℕ) → Narrow a → Small m (Ask.Checked a)
  unfolding command_of be_bytes
  checked_small h k a l = small (Ask.Checked a) l h (omega arith)

  reset_small : 2 ≤ m.1 → Small m Ask.Reset
  unfolding command_of be_bytes
  reset_small k = small Ask.Reset tt (omega arith) (omega arith)

  body_small : (count : ℕ) → 2 + count ≤ m.1 → (a : ℕ) → Narrow a → Small m (Ask.Body a count)
  unfolding command_of be_bytes
  body_small count k a l = small (Ask.Body a count) l (omega arith) (omega arith)

-- ---- any call that was started

requested : (m : ℕ × ℕ) → 4 ≤ m.0 → 6 ≤ m.1 → (n : ℕ) → Always (Small m) (request_call n)
requested m h k = request_always (Small m) (read_small m 4 h (omega arith)) (word_small m k)

-- what a push may ask for, where there is room for its object
module _ (m : ℕ × ℕ) (h : 4 ≤ m.0) (k : 74 ≤ m.1) where
  word_read : MayRead (Small m)
  word_read = read_small m 4 h (omega arith)

  word_sent : MayWrite (Small m)
  word_sent = word_small m (omega arith)

  object_sent : (a len : ℕ) → Narrow a → len ≤ 72 → Small m (Ask.Body a len)
  object_sent a len l d = body_small m len (omega arith) a l

  pushed : (header : Header) (seq : ℕ) (payload : List ℕ) (n : ℕ) → Always (Small m) (push_talks.push_call n header seq payload)
  pushed = pushed_always (Small m) word_read word_sent object_sent

  queue_pushed : (header : Header) (seq : ℕ) (payload : List ℕ) → Always (Small m) (push_talks.queue_push_call header seq payload)
  queue_pushed = queue_always (Small m) word_read word_sent object_sent

  queue_unchecked : (header : Header) (seq : ℕ) (payload : List ℕ) → Always (Small m) (push_talks.queue_unchecked_call header seq payload)
  queue_unchecked = unchecked_always (Small m) word_read word_sent object_sent

whole_always : (x : Start) → Always (Small (most x)) (whole_talk x)
unfolding read_call checked_call write_call read_ram_talk write_ram_talk verify_long_talk transmit_call fetch_talks.has_next_talk scrub_call
whole_always Reset = let m = most Reset in puts (Small m) Refusal.SpiWrite Ask.Reset (done Outcome.Done) (reset_small m (omega arith)) tt
whole_always OpMode = let m = most OpMode in reads (Small m) Refusal.SpiRead 0 _ (read_small m 4 (omega arith) (omega arith) 0 (omega arith)) (λ w. tt)
whole_always VerifyLong =
    let m = most VerifyLong in
    puts (Small m) Refusal.ConfigurationModeTimeout (Ask.Body 0x400 128) _ (body_small m 128 (omega arith) 0x400 (omega arith))
    (gets (Small m) Refusal.ConfigurationModeTimeout 0x400 128 _ (read_small m 128 (omega arith) (omega arith) 0x400 (omega arith))
    (λ rx. choice (Small m) (same rx echo_bytes) _ _ (λ e. tt) (λ e. tt)))
whole_always (Read address) =
    let m = most (Read address) in
    at_address_lem (Small m) address _ (λ l. reads (Small m) Refusal.SpiRead address _ (read_small m 4 (omega arith) (omega arith) address l) (λ w. tt))
whole_always (Checked address) =
    let m = most (Checked address) in
    at_address_lem (Small m) address _ (λ l. tries (Small m) address 0 2 (checked_small m (omega arith) (omega arith) address l))
whole_always (Write address word) =
    let m = most (Write address word) in
    at_address_lem (Small m) address _ (λ l. puts (Small m) Refusal.SpiRead (Ask.Word address word) (done Outcome.Done) (word_small m (omega arith) address word l) tt)
whole_always (ReadRam address room part count) =
    let m = most (ReadRam address room part count) in
    choice (Small m) (inside part count room) _ _
    (λ e. accessed (Small m) address count _ _
    (λ l. gets (Small m) Refusal.SpiRead address count (λ rx. done Outcome.Done) (read_small m count (omega arith) (omega arith) address l) (λ rx. tt)))
    (λ e. tt)
whole_always (WriteRam address count) =
    let m = most (WriteRam address count) in
    accessed (Small m) address count _ _
    (λ l. puts (Small m) Refusal.SpiWrite (Ask.Body address count) (done Outcome.Done) (body_small m count (omega arith) address l) tt)
whole_always (Planned x) =
    let m = most (Planned x) in
    plan_always (Small m) (read_small m 4 (omega arith) (omega arith)) (word_small m (omega arith)) (small m Ask.Wait tt (omega arith) (omega arith)) x
whole_always (Push n header seq payload) = pushed (most (Push n header seq payload)) (omega arith) (omega arith) header seq payload n
whole_always (Transmit n header seq payload) =
    let m = most (Transmit n header seq payload) in
    then_always (Small m) _ _ (pushed m (omega arith) (omega arith) header seq payload n) (λ x. requested m (omega arith) (omega arith) n)
whole_always (Request n) = requested (most (Request n)) (omega arith) (omega arith) n
whole_always (QueuePush header seq payload) = queue_pushed (most (QueuePush header seq payload)) (omega arith) (omega arith) header seq payload
whole_always (QueueUnchecked header seq payload) = queue_unchecked (most (QueueUnchecked header seq payload)) (omega arith) (omega arith) header seq payload
whole_always QueueRequest =
    let m = most QueueRequest in queue_request_always (Small m) (read_small m 4 (omega arith) (omega arith)) (word_small m (omega arith))
whole_always (HasNext n) =
    let m = most (HasNext n) in
    told_always (Small m) _
    (choice (Small m) (is_fifo n) _ _ (λ f. control_always (Small m) (read_small m 4 (omega arith) (omega arith)) n (fifo_most n f) Want.HasNext (λ b. tt)) (λ f. tt))
whole_always (Peek n room) =
    let m = most (Peek n room) in
    lent_always (Small m) (λ a count l h. read_small m count (omega arith) (omega arith) a l) Want.Peek n room (λ b. refl) (λ f x. tt)
whole_always (Get n room) =
    let m = most (Get n room) in
    lent_always (Small m) (λ a count l h. read_small m count (omega arith) (omega arith) a l) Want.Get n room (λ b. refl)
    (λ f. next_always (Small m) (read_small m 4 (omega arith) (omega arith)) (word_small m (omega arith)) n f)
whole_always (Scrub p list rewrite) =
    let m = most (Scrub p list rewrite) in
    choice (Small m) (eqb (length list) 0) _ _ (λ e. tt)
    (λ e. choice (Small m) (not (all_carried list)) _ _ (λ c. tt)
    (λ c.
    let l = due_short p list e (not-false _ c) in
    visit_always (Small m) (entry_in p list) rewrite (checked_small m (omega arith) (omega arith) (entry_in p list).address l)
    (λ word. word_small m (omega arith) (entry_in p list).address word l)))

started_small : (x : Start) (xs : List (Answer × List ℕ)) → Small (most x) (ask_of (run step_of (started x) xs))
started_small x xs =
    subst (λ q. Small (most x) q)
    (sym (follows.asked (run step_of (started x) xs) ∙ ap asks (run_talk (started x) xs ∙ ap (λ t. run answered t xs) (starts_as_talk_lem x))))
    (after (Small (most x)) (small (most x) Ask.Nothing tt (omega arith) (omega arith)) (whole_talk x) xs (whole_always x))

pub addresses_below_lem : AddressesBelow
addresses_below_lem x xs = (started_small x xs).0

pub exchanges_fit_lem : ExchangesFit
exchanges_fit_lem x xs = (started_small x xs).1

most_le : (x : Start) → is_ram x ≡ false → ((most x).0 ≤ 128) × ((most x).1 ≤ 130)
most_le Reset e = (omega arith, omega arith)
most_le OpMode e = (omega arith, omega arith)
most_le VerifyLong e = (omega arith, omega arith)
most_le (Read address) e = (omega arith, omega arith)
most_le (Checked address) e = (omega arith, omega arith)
most_le (Write address word) e = (omega arith, omega arith)
most_le (ReadRam address room part count) e = absurd (true≢false e)
most_le (WriteRam address count) e = absurd (true≢false e)
most_le (Planned x) e = (omega arith, omega arith)
most_le (Push n header seq payload) e = (omega arith, omega arith)
most_le (Transmit n header seq payload) e = (omega arith, omega arith)
most_le (Request n) e = (omega arith, omega arith)
most_le (QueuePush header seq payload) e = (omega arith, omega arith)
most_le (QueueUnchecked header seq payload) e = (omega arith, omega arith)
most_le QueueRequest e = (omega arith, omega arith)
most_le (HasNext n) e = (omega arith, omega arith)
most_le (Peek n room) e = (omega arith, omega arith)
most_le (Get n room) e = (omega arith, omega arith)
most_le (Scrub p list rewrite) e = (omega arith, omega arith)

pub room_enough_lem : RoomEnough
room_enough_lem x xs e =
    let (h, k) = most_le x e in
    let (l, b) = exchanges_fit_lem x xs in
    (omega arith, λ body. omega (arith, b body))
