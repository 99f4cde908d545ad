-- What has-next, peek and get answer where no exchange fails.
-- Assumes nothing.
use Prim.Native.Nat.{ℕ, ◌+◌, ◌%◌, ◌^◌, ◌≤◌, ◌<◌}
use native.Mathlib.Nat.{mod-lt}
use native.Mathlib.Omega.{arith}
use mathlib.Core.Path.{◌≡◌, refl, sym, ap, ◌∙◌}
use mathlib.Core.Bool.{Bool, true, false}
use mathlib.Core.List.{List, [], ◌∷◌, ◌++◌}
use lib.ListN.{length, replicate}
use lib.Dec.{ltb, leb, eqb}
use lib.Pow.{pow_pos}
use borrow.Author.Tests.{ltb-true, ltb-false, le-ltb, eq-eqb, ne_eqb}
use Rattle.std.specs.Prelude.{if◌then◌else◌}
use Rattle.laws.proofs.Choice.{by_if}
use Rattle.field.specs.Field.{mark}
use Rattle.fifo.specs.Control.{UINC, is_fifo}
use Rattle.words.specs.Words.{le_bytes, round_up}
use Rattle.words.proofs.Laws.{up_four}
use Rattle.parts.specs.Parts.{part, put}
use Rattle.spi.specs.declared.refusal.Refusal.{Refusal}
use Rattle.spi.specs.declared.ask.Answer.{Answer}
use Rattle.message.specs.Message.{Message, body_at, Decoding, holds, no_frame, short, decoding}
use Rattle.call.specs.declared.Found.{Found}
use Rattle.call.specs.declared.Outcome.{Outcome}
use Rattle.call.specs.Numbers.{outcome_numbers}
use Rattle.plan.specs.Plan.{Plan}
use Rattle.tx_fifo.specs.Push.{Push as Pushes}
use Rattle.fetch.specs.declared.Want.{Want}
use Rattle.fetch.specs.FetchAt.{FetchAt}
use Rattle.fetch.specs.Step.{to_address, by_status, after_body, next_at}
use Rattle.rx_fifo.specs.Step as fetch
use Rattle.rx_fifo.specs.Outcome as found
use Rattle.driver.specs.Call.{Call}
use Rattle.driver.specs.Start.{idle_plan, idle_push, of_fetch}
use Rattle.ring.specs.Ring.{sending}
use Rattle.ring.specs.Layout.{stamped, size}
use Rattle.state.specs.declared.Model.{Model}
use Rattle.state.specs.Model.{fifo_at, frozen_at}
use Rattle.place.specs.declared.Register.{Register}
use Rattle.bank.specs.Registers.{word_of, control_written}
use Rattle.bus.specs.Held.{slot_of, item_at}
use Rattle.reach.specs.Bus.{Bus, stepped}
use Rattle.history.specs.Command.{Command, HasNext, Peek, Get, started, lent, first_call}
use Rattle.history.specs.History.{Begin, Said, called, Doing, idle, busy, World, hears, heard, is_over, settled, goes_on, event, after}
use Rattle.history.specs.Demand.{buses, calm, at_status, calls, Answers, Ending, refusal, answer, Ends, read_as, fetch_answer, has_next_answer}
use Rattle.history.proofs.Few.{two, five}
use Rattle.history.proofs.Line.{world, spoken}
use Rattle.history.proofs.Asks.{hear_control, hear_status, hear_address, hear_ram, hear_behind, tell_control}
use Rattle.history.proofs.Replies.{control_stamp, control_payload, mark_small, fetch_control, fetch_status, fetch_address, fetch_next, fetch_commit}
use Rattle.history.proofs.Slots.{ram_long, slot_inside}
use Rattle.history.proofs.Bus.{oldest}
use Rattle.history.proofs.Fetching.{plain}
use Rattle.history.proofs.Fetching as reading
use Rattle.history.proofs.Fetchings.{fetched, fetching, turned, still, over}
use Rattle.history.proofs.Mid.{Oldest, oldest_later}
use Rattle.history.proofs.FetchSteps.{by_body}
use Rattle.history.proofs.Calm.{spoken_of, after_calm, calls_buses, calls_snoc, idle_calm, Fit, step_later, buses_keep, buses_fit, buses_fixed, at_status_lem}

-- some or none, by either test
some_not : (a : ℕ) → ltb 0 a ≡ true → eqb a 0 ≡ false
some_not a e = ne_eqb a 0 (λ z. omega (arith, z, ltb-true 0 a e))

none_is : (a : ℕ) → ltb 0 a ≡ false → eqb a 0 ≡ true
none_is a e = let z : 0 ≡ a = omega (arith, ltb-false 0 a e) in eq-eqb a 0 (sym z)

-- nothing is put into the lent buffer
filled_none : (held buf : List ℕ) → found.filled held 0 buf ≡ buf
unfolding found.filled put
filled_none held buf = by_if (λ (l : List ℕ). l ≡ buf) (leb 64 (length buf)) (λ e. refl) (λ e. refl)

-- a peek and a get read a message
abbrev Reading : Want → Type 0
Reading Want.HasNext = ⊥
Reading Want.Peek = Unit {0}
Reading Want.Get = Unit {0}

lent_is : (want : Want) → Reading want → (n : ℕ) (buf : List ℕ) → lent (fetched want n buf) ≡ buf
lent_is Want.HasNext x n buf = absurd x
lent_is Want.Peek x n buf = refl
lent_is Want.Get x n buf = refl

status_is : (want : Want) → Reading want → (some : Bool) → by_status want some ≡ to_address some
status_is Want.HasNext x some = absurd x
status_is Want.Peek x some = refl
status_is Want.Get x some = refl

-- where the driver starts
start_is : (want : Want) → Reading want → (n : ℕ) (buf : List ℕ)
    → started (fetched want n buf) ≡ fetching want n (replicate 64 0) (fetch.lent_at n (length buf)) idle_plan idle_push
unfolding of_fetch fetch.lent_start
start_is Want.HasNext x n buf = absurd x
start_is Want.Peek x n buf = refl
start_is Want.Get x n buf = refl

-- ---- what is said, d being the chip at the status read

-- of a message read
abbrev pub tells : Command → Decoding → List ℕ → Said
tells k (holds m) buf = called k (Outcome.Message (found.found_of m)) (put buf 0 m.payload)
tells k no_frame buf = called k Outcome.Running buf
tells k short buf = called k Outcome.Running buf

-- of a FIFO that receives
abbrev pub found_said : Command → Model → ℕ → List ℕ → Said
found_said k d n buf = if eqb (fifo_at d n).count 0 then called k Outcome.Empty buf else tells k (item_at d n 0) buf

unfoldable pub fetch_said : Command → Model → ℕ → List ℕ → Said
fetch_said k d n buf = if sending (frozen_at d n) then called k (Outcome.Refused Refusal.FifoNotRx) buf else found_said k d n buf

-- it is said as a call ends
abbrev As : Command → Said → Ending → Type 0
As k x (refusal r) = (o : Outcome) × (outcome_numbers o ≡ r ∷ []) × (x ≡ called k o (lent k))
As k x (answer o buf) = x ≡ called k o buf

ends_as : (v : World) (k : Command) → first_call k ≡ k → (xs : List (List Bus)) (x : Said) (y : Ending) → As k x y → Answers v k xs (x ∷ []) → Ends v k xs y
ends_as v k one xs x (refusal r) (o, is, said) says =
    (o, is, says ∙ ap (λ (z : Said). calls v.said ++ (z ∷ [])) (said ∙ ap (λ (j : Command). called j o (lent k)) (sym one)))
ends_as v k one xs x (answer o buf) said says =
    says ∙ ap (λ (z : Said). calls v.said ++ (z ∷ [])) (said ∙ ap (λ (j : Command). called j o buf) (sym one))

module _ (k : Command) (d : Model) (n : ℕ) (buf : List ℕ) where
  read_as_lem : (x : Decoding) → As k (tells k x buf) (read_as x buf)
  read_as_lem (holds m) = refl
  read_as_lem no_frame = refl
  read_as_lem short = refl

  fetch_as : lent k ≡ buf → As k (fetch_said k d n buf) (fetch_answer d n buf)
  unfolding fetch_said fetch_answer
  fetch_as e = go (sending (frozen_at d n)) (eqb (fifo_at d n).count 0)
    where
      go : (x y : Bool) → As k (if x then called k (Outcome.Refused Refusal.FifoNotRx) buf else if y then called k Outcome.Empty buf else tells k (item_at d n 0) buf)
          (if x then refusal 9 else if y then answer Outcome.Empty buf else read_as (item_at d n 0) buf)
      go true y = (Outcome.Refused Refusal.FifoNotRx, refl, ap (called k (Outcome.Refused Refusal.FifoNotRx)) (sym e))
      go false true = refl
      go false false = read_as_lem (item_at d n 0)

-- ---- one exchange of a call

module _ (want : Want) (n : ℕ) (buf : List ℕ) (p : Plan) (u : Pushes) where
  abbrev k : Command
  k = fetched want n buf

  abbrev at : List ℕ → FetchAt → Call
  at held a = fetching want n held a p u

  -- from v on, with the bus steps r before the exchanges: one more call than in t
  abbrev Says : List (List Bus) → World → List Said → Said → Type 0
  Says r v t x = calls (after (calm r) v).said ≡ calls t ++ (x ∷ [])

  -- the driver stands at a
  abbrev From : List (List Bus) → List ℕ → FetchAt → Model → List Said → Said → Type 0
  From r held a c t x = Says r (world c (busy k (at held a)) t) t x

  -- the driver gets to a, rx being what it received last
  abbrev To : List (List Bus) → List ℕ → FetchAt → List ℕ → Model → List Said → Said → Type 0
  To r held a rx c t x = Says r (settled c t k (at held a) rx) t x

  -- it stands at a, and an exchange comes next
  abbrev Now : List (List Bus) → List ℕ → FetchAt → Model → List Said → Said → Type 0
  Now r held a c t x = Says r (goes_on t k (at held a) (heard true (at held a) c)) t x

  then_now : (b : List Bus) (r : List (List Bus)) (held : List ℕ) (a : FetchAt) (c : Model) (t : List Said) (x : Said)
      → Now r held a (buses b c) (t ++ spoken_of b c) x → From (b ∷ r) held a c t x
  unfolding event
  then_now b r held a c t x e =
      ap (λ (v : World). calls v.said) (after_calm b r c (busy k (at held a)) t) ∙ e ∙ ap (λ (l : List Said). l ++ (x ∷ [])) (calls_buses t b c)

  then_to : (r : List (List Bus)) (held : List ℕ) (a : FetchAt) (c : Model) (t : List Said) (x : Said) (rx : List ℕ) (d : Model) (to : FetchAt)
      → spoken (fetch.ask_from n a) [] c ≡ hears Answer.Exchanged rx d → next_at want a Answer.Exchanged rx ≡ to
      → To r (fetch.held_at a held rx) to rx d t x → Now r held a c t x
  then_to r held a c t x rx d to h g e = ap (λ (v : World). calls (after (calm r) v).said) (turned want n held a p u t k c rx d to h g) ∙ e

  -- the call goes on
  runs : (r : List (List Bus)) (held : List ℕ) (a : FetchAt) (rx : List ℕ) (c : Model) (t : List Said) (x : Said)
      → found.outcome_at a held ≡ Outcome.Running → From r held a c t x → To r held a rx c t x
  runs r held a rx c t x o e = ap (λ (v : World). calls (after (calm r) v).said) (still want n buf held a p u t c rx o) ∙ e

  -- it is over
  ends : (r : List (List Bus)) (held : List ℕ) (a : FetchAt) (rx : List ℕ) (c : Model) (t : List Said)
      → is_over (found.outcome_at a held) ≡ true → To r held a rx c t (called k (found.outcome_at a held) (found.filled held (found.size_at a) (lent k)))
  ends r held a rx c t o =
      ap (λ (v : World). calls (after (calm r) v).said) (over want n buf held a p u t c rx o)
      ∙ idle_calm r c _ ∙ calls_snoc t k (found.outcome_at a held) (found.filled held (found.size_at a) (lent k))

  -- where what is known of the chip outlives the bus steps
  abbrev Stage : (Model → Type 0) → List (List Bus) → List ℕ → FetchAt → Said → Type 0
  Stage P r held a x = (c : Model) (t : List Said) → Fit c t → P c → From r held a c t x

  stage : (P : Model → Type 0) → ((c : Model) (t : List Said) → Fit c t → (b : Bus) → P c → P (stepped b c))
      → (b : List Bus) (r : List (List Bus)) (held : List ℕ) (a : FetchAt) (x : Said)
      → ((d : Model) (t : List Said) → Fit d t → P d → Now r held a d t x) → Stage P (b ∷ r) held a x
  stage P kept b r held a x now c t f y = then_now b r held a c t x (now (buses b c) _ (buses_fit b c t f) (buses_keep P kept b c t f y))

  -- ---- the stages of a get and a peek
  module _ (i : is_fifo n ≡ true) (long : 64 ≤ length buf) (reads : Reading want) where
    -- the slot of the oldest begins at place x and has the layout of fr, and m is the oldest
    module _ (x fr : ℕ) (m : Message) where
      record Shows (c : Model) : Type 0 where
        oldest : Oldest c n m
        place : slot_of c n 0 ≡ x
        frozen : frozen_at c n ≡ fr

      shows_later : (c : Model) (t : List Said) → Fit c t → (b : Bus) → Shows c → Shows (stepped b c)
      shows_later c t f b s =
          let l = step_later c t f b in
          record { oldest = oldest_later c (stepped b c) l n i m s.oldest; place = l.get_slot n i s.oldest.rx ∙ s.place; frozen = rw l.fixed s.frozen }

      -- what is said in the end
      abbrev given : Said
      given = called k (Outcome.Message (found.found_of m)) (put buf 0 m.payload)

      -- all of it was read, and is held
      gives : (r : List (List Bus)) (held rx : List ℕ) (c : Model) (t : List Said) → found.message_of (found.found_of m) held ≡ m
          → To r held (FetchAt.Done (found.found_of m)) rx c t given
      gives r held rx c t e =
          ends r held (FetchAt.Done (found.found_of m)) rx c t refl
          ∙ rw (e, lent_is want reads n buf, reading.filled_is m held buf e long)

      commits : (b : List Bus) (r : List (List Bus)) (held : List ℕ) (w : ℕ) → found.message_of (found.found_of m) held ≡ m → w < 2 ^ 32
          → Stage Shows (b ∷ r) held (FetchAt.Commit w (found.found_of m)) given
      commits b r held w e h =
          let f : Found = found.found_of m in
          stage Shows shows_later b r held (FetchAt.Commit w f) given
          (λ d t ok s. then_to r held (FetchAt.Commit w f) d t given [] (control_written d n (mark UINC true w)) (FetchAt.Done f)
          (tell_control [] d n i (mark UINC true w) (mark_small w h)) (fetch_commit want f w)
          (gives r held [] (control_written d n (mark UINC true w)) t e))

      nexts : (b b' : List Bus) (r : List (List Bus)) (held : List ℕ) → found.message_of (found.found_of m) held ≡ m
          → Stage Shows (b ∷ b' ∷ r) held (FetchAt.Next (found.found_of m)) given
      nexts b b' r held e =
          let f : Found = found.found_of m in
          stage Shows shows_later b (b' ∷ r) held (FetchAt.Next f) given
          (λ d t ok s.
          let w : ℕ = word_of d (Register.Control n) in
          then_to (b' ∷ r) held (FetchAt.Next f) d t given (le_bytes w) d (FetchAt.Commit (w % 2 ^ 32) f) (hear_control [] d n i) (fetch_next want f w)
          (runs (b' ∷ r) held (FetchAt.Commit (w % 2 ^ 32) f) (le_bytes w) d t given refl (commits b' r held (w % 2 ^ 32) e (mod-lt w (pow_pos 32)) d t ok s)))

      -- a chip that shows it
      module _ (d : Model) (t : List Said) (ok : Fit d t) (s : Shows d) where
        room : x + size fr ≤ 2048
        room = rw (s.place, s.frozen) at (slot_inside d ok.sound n 0 i (omega arith))

        decoded : decoding false (stamped fr) (part d.ram x (size fr)) ≡ holds m
        decoded = rw (s.place, s.frozen) at (reading.item_is d n s.oldest.rx ∙ s.oldest.item)

        ram : length d.ram ≡ 2048
        ram = ram_long d ok.sound

      -- a get needs two exchanges more after the payload
      lasts : (r : List (List Bus)) → 2 ≤ length r → (held : List ℕ) → found.message_of (found.found_of m) held ≡ m
          → Stage Shows r held (FetchAt.Next (found.found_of m)) given
      lasts [] h = absurd (omega arith)
      lasts (b ∷ []) h = absurd (omega arith)
      lasts (b ∷ b' ∷ r) h = nexts b b' r

      abbrev Enough : List (List Bus) → Type 0
      Enough r = want ≡ Want.Get → 2 ≤ length r

      bodies : (b : List Bus) (r : List (List Bus)) → Enough r → (held : List ℕ)
          → Stage Shows (b ∷ r) held (FetchAt.Body (x + 0x400 + body_at (stamped fr)) (found.found_of m)) given
      bodies b r more held =
          let f : Found = found.found_of m in
          let here : ℕ = x + body_at (stamped fr) in
          let len : ℕ = round_up (length m.payload) in
          let a : FetchAt = FetchAt.Body (x + 0x400 + body_at (stamped fr)) f in
          stage Shows shows_later b r held a given
          (λ d t ok s.
          let rx : List ℕ = part d.ram here len in
          let all : List ℕ = fetch.held_of held rx in
          let e : found.message_of f all ≡ m = reading.body_held d.ram x fr m (ram d t ok s) (room d t ok s) (decoded d t ok s) held in
          then_to r held a d t given rx d (after_body want f)
          (hear_behind [] d x (body_at (stamped fr)) len (reading.body_in d.ram x fr m (ram d t ok s) (room d t ok s) (decoded d t ok s)) (up_four (length m.payload)))
          (reading.next_body d.ram x fr m (ram d t ok s) (room d t ok s) (decoded d t ok s) want (x + 0x400 + body_at (stamped fr)))
          (by_body (λ (to : FetchAt). To r all to rx d t given) want f (λ none. gives r all rx d t e)
          (λ g. runs r all (FetchAt.Next f) rx d t given refl (lasts r (more g) all e d t ok s))))

      times : (b b' : List Bus) (r : List (List Bus)) → Enough r → (held : List ℕ) → stamped fr ≡ true
          → Stage Shows (b ∷ b' ∷ r) held (FetchAt.Time (x + 0x400 + 8) (plain m)) given
      times b b' r more held y =
          let a : FetchAt = FetchAt.Time (x + 0x400 + 8) (plain m) in
          let to : FetchAt = FetchAt.Body (x + 0x400 + 12) (found.found_of m) in
          stage Shows shows_later b (b' ∷ r) held a given
          (λ d t ok s.
          let rx : List ℕ = part d.ram (x + 8) 4 in
          then_to (b' ∷ r) held a d t given rx d to
          (hear_behind [] d x 8 4 (reading.time_in d.ram x fr m (ram d t ok s) (room d t ok s) (decoded d t ok s) y) refl)
          (reading.next_time d.ram x fr m (ram d t ok s) (room d t ok s) (decoded d t ok s) want y)
          (runs (b' ∷ r) held to rx d t given refl (rw y at (bodies b' r more held d t ok s))))

      agains : (b b' b'' : List Bus) (r : List (List Bus)) → Enough r → (held : List ℕ)
          → Stage Shows (b ∷ b' ∷ b'' ∷ r) held (FetchAt.Again (x + 0x400) (plain m)) given
      agains b b' b'' r more held =
          let a : FetchAt = FetchAt.Again (x + 0x400) (plain m) in
          let l : List (List Bus) = b' ∷ b'' ∷ r in
          stage Shows shows_later b l held a given
          (λ d t ok s.
          let w : ℕ = word_of d (Register.Control n) in
          then_to l held a d t given (le_bytes w) d _ (hear_control [] d n i)
          (reading.next_again d.ram x fr m (ram d t ok s) (room d t ok s) (decoded d t ok s) want w (rw s.frozen at (control_stamp d n s.oldest.rx)) (rw s.frozen at (control_payload d n)))
          (by_if (λ (to : FetchAt). To l held to (le_bytes w) d t given) (stamped fr)
          (λ y. runs l held (FetchAt.Time (x + 0x400 + 8) (plain m)) (le_bytes w) d t given refl (times b' b'' r more held y d t ok s))
          (λ y. runs l held (FetchAt.Body (x + 0x400 + 8) (found.found_of m)) (le_bytes w) d t given refl
          (rw y at (bodies b' (b'' ∷ r) (λ g. let h : 2 ≤ length r = more g in omega arith) held d t ok s)))))

      headers : (b b' b'' b''' : List Bus) (r : List (List Bus)) → Enough r → (held : List ℕ)
          → Stage Shows (b ∷ b' ∷ b'' ∷ b''' ∷ r) held (FetchAt.Header (x + 0x400)) given
      headers b b' b'' b''' r more held =
          let a : FetchAt = FetchAt.Header (x + 0x400) in
          let to : FetchAt = FetchAt.Again (x + 0x400) (plain m) in
          let l : List (List Bus) = b' ∷ b'' ∷ b''' ∷ r in
          stage Shows shows_later b l held a given
          (λ d t ok s.
          then_to l held a d t given (part d.ram x 8) d to
          (hear_ram [] d x 8 (reading.header_in d.ram x fr m (ram d t ok s) (room d t ok s) (decoded d t ok s)) refl)
          (reading.next_header d.ram x fr m (ram d t ok s) (room d t ok s) (decoded d t ok s) want)
          (runs l held to (part d.ram x 8) d t given refl (agains b' b'' b''' r more held d t ok s)))

      addresses : (b b' b'' b''' b'''' : List Bus) (r : List (List Bus)) → Enough r → (held : List ℕ)
          → Stage Shows (b ∷ b' ∷ b'' ∷ b''' ∷ b'''' ∷ r) held FetchAt.Address given
      addresses b b' b'' b''' b'''' r more held =
          let to : FetchAt = FetchAt.Header (x + 0x400) in
          let l : List (List Bus) = b' ∷ b'' ∷ b''' ∷ b'''' ∷ r in
          stage Shows shows_later b l held FetchAt.Address given
          (λ d t ok s.
          let w : ℕ = word_of d (Register.Address n) in
          let eight : slot_of d n 0 + 8 ≤ 2048 = rw s.place (reading.header_in d.ram x fr m (ram d t ok s) (room d t ok s) (decoded d t ok s)) in
          then_to l held FetchAt.Address d t given (le_bytes w) d to (hear_address [] d n i)
          (fetch_address d n want ok.sound s.oldest.rx eight ∙ rw s.place)
          (runs l held to (le_bytes w) d t given refl (headers b' b'' b''' b'''' r more held d t ok s)))

    module _ (b₃ b₄ b₅ b₆ b₇ : List Bus) (r : List (List Bus)) (more : want ≡ Want.Get → 2 ≤ length r) (held : List ℕ) where
      abbrev rest : List (List Bus)
      rest = b₃ ∷ b₄ ∷ b₅ ∷ b₆ ∷ b₇ ∷ r

      statuses : (d : Model) (t : List Said) → Fit d t → sending (frozen_at d n) ≡ false → Now rest held FetchAt.Status d t (found_said k d n buf)
      statuses d t ok e =
          let w : ℕ = word_of d (Register.Status n) in
          let c : ℕ = (fifo_at d n).count in
          then_to rest held FetchAt.Status d t (found_said k d n buf) (le_bytes w) d (to_address (ltb 0 c)) (hear_status [] d n i)
          (fetch_status d n want ok.sound e ∙ status_is want reads (ltb 0 c))
          (go (ltb 0 c) refl)
        where
          go : (y : Bool) → ltb 0 (fifo_at d n).count ≡ y → To rest held (to_address y) (le_bytes (word_of d (Register.Status n))) d t (found_said k d n buf)
          go true y =
              let some : 0 < (fifo_at d n).count = ltb-true _ _ y in
              let (m, item) = oldest d ok.sound t ok.lists n i some in
              let s : Shows (slot_of d n 0) (frozen_at d n) m d = record { oldest = record { rx = e; some = some; item = item }; place = refl; frozen = refl } in
              rw (some_not (fifo_at d n).count y, item)
              (runs rest held FetchAt.Address _ d t _ refl (addresses (slot_of d n 0) (frozen_at d n) m b₃ b₄ b₅ b₆ b₇ r more held d t ok s))
          go false y =
              rw (none_is (fifo_at d n).count y) (ends rest held FetchAt.Empty _ d t refl ∙ rw (lent_is want reads n buf, filled_none held buf))

  -- ---- the control read, which all three begin with; what is told of the chip at the status read then follows

  module _ (i : is_fifo n ≡ true) (rest : List (List Bus)) (held : List ℕ) (told : Model → Said)
      (status : (d : Model) (t : List Said) → Fit d t → sending (frozen_at d n) ≡ false → Now rest held FetchAt.Status d t (told d)) where
    abbrev sayings : Model → Said
    sayings d = if sending (frozen_at d n) then called k (Outcome.Refused Refusal.FifoNotRx) (lent k) else told d

    controls : (b₁ b₂ : List Bus) (c : Model) (t : List Said) → Fit c t → From (b₁ ∷ b₂ ∷ rest) held FetchAt.Control c t (sayings (buses b₂ (buses b₁ c)))
    controls b₁ b₂ c t f =
        let d : Model = buses b₁ c in
        let w : ℕ = word_of d (Register.Control n) in
        let ok : Fit d (t ++ spoken_of b₁ c) = buses_fit b₁ c t f in
        then_now b₁ (b₂ ∷ rest) held FetchAt.Control c t _
        (then_to (b₂ ∷ rest) held FetchAt.Control d (t ++ spoken_of b₁ c) _ (le_bytes w) d _ (hear_control [] d n i) (fetch_control d n want)
        (go d (t ++ spoken_of b₁ c) ok (le_bytes w) (sending (frozen_at d n)) refl))
      where
        go : (d : Model) (t : List Said) → Fit d t → (rx : List ℕ) (y : Bool) → sending (frozen_at d n) ≡ y
            → To (b₂ ∷ rest) held (if y then FetchAt.Refused Refusal.FifoNotRx else FetchAt.Status) rx d t (sayings (buses b₂ d))
        go d t ok rx true y =
            let later : sending (frozen_at (buses b₂ d) n) ≡ true = rw (buses_fixed b₂ d t ok) y in
            rw later (ends (b₂ ∷ rest) held (FetchAt.Refused Refusal.FifoNotRx) rx d t refl ∙ rw (filled_none held (lent k)))
        go d t ok rx false y =
            let later : sending (frozen_at (buses b₂ d) n) ≡ false = rw (buses_fixed b₂ d t ok) y in
            rw later
            (runs (b₂ ∷ rest) held FetchAt.Status rx d t (told (buses b₂ d)) refl
            (then_now b₂ rest held FetchAt.Status d t (told (buses b₂ d)) (status (buses b₂ d) _ (buses_fit b₂ d t ok) later)))

-- ---- the beginning

-- the buffer is long enough, and FIFO n is one
lent_control : (n room : ℕ) → is_fifo n ≡ true → 64 ≤ room → fetch.lent_at n room ≡ FetchAt.Control
unfolding fetch.lent_at
lent_control n room i h = rw (i, le-ltb room 64 h)

-- a call that begins with its control read
fetch_starts : (want : Want) (v : World) → v.doing ≡ idle → (n : ℕ) (buf : List ℕ)
    → started (fetched want n buf) ≡ fetching want n (replicate 64 0) FetchAt.Control idle_plan idle_push → (xs : List (List Bus)) (x : Said)
    → From want n buf idle_plan idle_push xs (replicate 64 0) FetchAt.Control v.chip v.said x → Answers v (fetched want n buf) xs (x ∷ [])
unfolding after event
fetch_starts want v e n buf start xs x from =
    ap (λ (d : Doing). calls (after (calm xs) (event (Begin (fetched want n buf)) d v.chip v.said)).said) e
    ∙ ap (λ (s : Call). calls (after (calm xs) (settled v.chip v.said (fetched want n buf) s [])).said) start
    ∙ runs want n buf idle_plan idle_push xs (replicate 64 0) FetchAt.Control [] v.chip v.said x refl from

-- ---- has-next

module _ (v : World) (f : Fit v.chip v.said) (e : v.doing ≡ idle) (n : ℕ) (i : is_fifo n ≡ true) where
  abbrev next_said : Model → Said
  next_said d = if eqb (fifo_at d n).count 0 then called (HasNext n) Outcome.No [] else called (HasNext n) Outcome.Yes []

  next_status : (r : List (List Bus)) (d : Model) (t : List Said) → Fit d t → sending (frozen_at d n) ≡ false
      → Now Want.HasNext n [] idle_plan idle_push r (replicate 64 0) FetchAt.Status d t (next_said d)
  next_status r d t ok x =
      let w : ℕ = word_of d (Register.Status n) in
      let y : Bool = ltb 0 (fifo_at d n).count in
      then_to Want.HasNext n [] idle_plan idle_push r (replicate 64 0) FetchAt.Status d t (next_said d) (le_bytes w) d (FetchAt.Told y)
      (hear_status [] d n i) (fetch_status d n Want.HasNext ok.sound x) (go (le_bytes w) y refl)
    where
      go : (rx : List ℕ) (y : Bool) → ltb 0 (fifo_at d n).count ≡ y → To Want.HasNext n [] idle_plan idle_push r (replicate 64 0) (FetchAt.Told y) rx d t (next_said d)
      go rx true z =
          rw (some_not (fifo_at d n).count z)
          (ends Want.HasNext n [] idle_plan idle_push r (replicate 64 0) (FetchAt.Told true) rx d t refl ∙ rw (filled_none (replicate 64 0) []))
      go rx false z =
          rw (none_is (fifo_at d n).count z)
          (ends Want.HasNext n [] idle_plan idle_push r (replicate 64 0) (FetchAt.Told false) rx d t refl ∙ rw (filled_none (replicate 64 0) []))

  next_starts : started (HasNext n) ≡ fetching Want.HasNext n (replicate 64 0) FetchAt.Control idle_plan idle_push
  unfolding of_fetch fetch.has_next_start fetch.first_at
  next_starts = rw i

  next_as : (d : Model) → As (HasNext n) (if sending (frozen_at d n) then called (HasNext n) (Outcome.Refused Refusal.FifoNotRx) [] else next_said d) (has_next_answer d n)
  unfolding has_next_answer
  next_as d = go (sending (frozen_at d n)) (eqb (fifo_at d n).count 0)
    where
      go : (x y : Bool) → As (HasNext n)
          (if x then called (HasNext n) (Outcome.Refused Refusal.FifoNotRx) [] else if y then called (HasNext n) Outcome.No [] else called (HasNext n) Outcome.Yes [])
          (if x then refusal 9 else if y then answer Outcome.No [] else answer Outcome.Yes [])
      go true y = (Outcome.Refused Refusal.FifoNotRx, refl, refl)
      go false true = refl
      go false false = refl

  next_exact : (b₁ b₂ : List Bus) (r : List (List Bus)) → Ends v (HasNext n) (b₁ ∷ b₂ ∷ r) (has_next_answer (at_status v (b₁ ∷ b₂ ∷ r)) n)
  next_exact b₁ b₂ r =
      let d : Model = buses b₂ (buses b₁ v.chip) in
      let from = controls Want.HasNext n [] idle_plan idle_push i r (replicate 64 0) next_said (next_status r) b₁ b₂ v.chip v.said f in
      rw (at_status_lem v b₁ b₂ r)
      (ends_as v (HasNext n) refl (b₁ ∷ b₂ ∷ r) _ (has_next_answer d n) (next_as d) (fetch_starts Want.HasNext v e n [] next_starts (b₁ ∷ b₂ ∷ r) _ from))

  pub has_next_exactly_lem : (xs : List (List Bus)) → length xs ≡ 2 → Ends v (HasNext n) xs (has_next_answer (at_status v xs) n)
  has_next_exactly_lem xs l = two (λ ys. Ends v (HasNext n) ys (has_next_answer (at_status v ys) n)) next_exact xs (omega (arith, l))

-- ---- peek and get

module _ (want : Want) (reads : Reading want) (v : World) (f : Fit v.chip v.said) (e : v.doing ≡ idle) (n : ℕ) (buf : List ℕ) (i : is_fifo n ≡ true)
    (long : 64 ≤ length buf) where
  abbrev call : Command
  call = fetched want n buf

  fetch_said_lem : (xs : List (List Bus)) → 7 ≤ length xs → (want ≡ Want.Get → 9 ≤ length xs) → Answers v call xs (fetch_said call (at_status v xs) n buf ∷ [])
  unfolding fetch_said
  fetch_said_lem =
      let start : started call ≡ fetching want n (replicate 64 0) FetchAt.Control idle_plan idle_push = start_is want reads n buf ∙ rw (lent_control n (length buf) i long) in
      let P : List (List Bus) → Type 0 = λ xs. 7 ≤ length xs → (want ≡ Want.Get → 9 ≤ length xs) → Answers v call xs (fetch_said call (at_status v xs) n buf ∷ []) in
      λ xs l. five P
      (λ b₁ b₂ b₃ b₄ b₅ r m. two (λ ys. (want ≡ Want.Get → 9 ≤ length (b₁ ∷ b₂ ∷ b₃ ∷ b₄ ∷ b₅ ∷ ys)) → Answers v call (b₁ ∷ b₂ ∷ b₃ ∷ b₄ ∷ b₅ ∷ ys)
      (fetch_said call (at_status v (b₁ ∷ b₂ ∷ b₃ ∷ b₄ ∷ b₅ ∷ ys)) n buf ∷ []))
      (λ b₆ b₇ q more.
      let rest : List (List Bus) = b₃ ∷ b₄ ∷ b₅ ∷ b₆ ∷ b₇ ∷ q in
      let d : Model = buses b₂ (buses b₁ v.chip) in
      rw (at_status_lem v b₁ b₂ rest)
      (fetch_starts want v e n buf start (b₁ ∷ b₂ ∷ rest) _
      (controls want n buf idle_plan idle_push i rest (replicate 64 0) (λ d. found_said call d n buf)
      (statuses want n buf idle_plan idle_push i long reads b₃ b₄ b₅ b₆ b₇ q (λ g. omega (arith, more g)) (replicate 64 0)) b₁ b₂ v.chip v.said f)
      ∙ ap (λ (y : List ℕ). calls v.said ++ ((if sending (frozen_at d n) then called call (Outcome.Refused Refusal.FifoNotRx) y else found_said call d n buf) ∷ []))
      (lent_is want reads n buf)))
      r (omega (arith, m))) xs (omega (arith, l)) l

  pub fetch_exactly : first_call call ≡ call → (xs : List (List Bus)) → 7 ≤ length xs → (want ≡ Want.Get → 9 ≤ length xs)
      → Ends v call xs (fetch_answer (at_status v xs) n buf)
  fetch_exactly one xs l m =
      let d : Model = at_status v xs in
      ends_as v call one xs _ (fetch_answer d n buf) (fetch_as call d n buf (lent_is want reads n buf)) (fetch_said_lem xs l m)

module _ (v : World) (f : Fit v.chip v.said) (e : v.doing ≡ idle) (n : ℕ) (buf : List ℕ) (i : is_fifo n ≡ true) (long : 64 ≤ length buf) (xs : List (List Bus)) where
  pub peek_exactly_lem : length xs ≡ 7 → Ends v (Peek n buf) xs (fetch_answer (at_status v xs) n buf)
  peek_exactly_lem l =
      fetch_exactly Want.Peek tt v f e n buf i long refl xs (omega (arith, l)) (λ g. let z : ◌≡◌ {A = ℕ} 0 1 = cc in absurd (omega (arith, z)))

  pub get_exactly_lem : length xs ≡ 9 → Ends v (Get n buf) xs (fetch_answer (at_status v xs) n buf)
  get_exactly_lem l = fetch_exactly Want.Get tt v f e n buf i long refl xs (omega (arith, l)) (λ g. omega (arith, l))

  pub get_said : length xs ≡ 9 → Answers v (Get n buf) xs (fetch_said (Get n buf) (at_status v xs) n buf ∷ [])
  get_said l = fetch_said_lem Want.Get tt v f e n buf i long xs (omega (arith, l)) (λ g. omega (arith, l))
