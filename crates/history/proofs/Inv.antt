-- What is true of the world after every event of a history.
-- Assumes nothing.
use Prim.Native.Nat.{ℕ, ◌≤◌}
use mathlib.Core.Path.{◌≡◌, refl}
use mathlib.Core.Bool.{Bool, true, false}
use mathlib.Core.List.{List, [], ◌∷◌, ◌++◌}
use lib.ListN.{length}
use Rattle.field.specs.Field.{read}
use Rattle.fifo.specs.Control.{TXREQ, is_fifo}
use Rattle.spi.specs.declared.refusal.Refusal.{Refusal}
use Rattle.header.specs.declared.Header.{Header}
use Rattle.message.specs.Message.{Message, Encoding, encoding}
use Rattle.call.specs.declared.Outcome.{Outcome}
use Rattle.plan.specs.Plan.{Plan}
use Rattle.plan.specs.Step as plan
use Rattle.tx_fifo.specs.Push.{Push as Pushes}
use Rattle.tx_fifo.specs.PushAt.{PushAt}
use Rattle.tx_fifo.specs.Step.{to_send}
use Rattle.transmit.specs.Transmit.{request_start}
use Rattle.fetch.specs.declared.Want.{Want}
use Rattle.fetch.specs.FetchAt.{FetchAt}
use Rattle.rx_fifo.specs.Fetch.{Fetch}
use Rattle.driver.specs.Call.{Call}
use Rattle.state.specs.declared.Model.{Model}
use Rattle.bus.specs.Held.{held}
use Rattle.bus.specs.Queue.{held_queue}
use Rattle.history.specs.Command.{Command, Push, Transmit, QueuePush, QueueUnchecked, QueueRequest, Request, HasNext, Peek, Get, Reading, Configuring, Look, Setting}
use Rattle.history.specs.History.{Said, called, Doing, idle, busy, World, is_over}
use Rattle.history.specs.Lists.{done_with, found_in, accepted_in, handed_out_in}
use Rattle.history.specs.Demand.{Each, TellsWell}
use Rattle.history.proofs.Sound.{Sound, Asked}
use Rattle.history.proofs.Bus.{Listed, Moves, lists_snoc, Later, only_none, quiet}
use Rattle.history.proofs.Harmless.{Harmless}
use Rattle.history.proofs.Requests.{Requests}
use Rattle.history.proofs.Looks.{LooksAt}
use Rattle.history.proofs.Pushing.{commanded, pushing}
use Rattle.history.proofs.Fetchings.{fetched, fetching}
use Rattle.history.proofs.Planning.{planned, Ready}
use Rattle.history.proofs.Mid.{PushMid, FetchMid, QueueMid, BareMid, push_later, fetch_later, queue_later, bare_later}
use Rattle.history.proofs.QueueLists.{QueueListed, QueueMoves, queue_same, queue_snoc}

-- ---- a call under way

-- the buffer that peek and get were lent
abbrev pub Lent : Want → List ℕ → Type 0
Lent Want.HasNext buf = Unit {0}
Lent Want.Peek buf = 64 ≤ length buf
Lent Want.Get buf = 64 ≤ length buf

-- the control word that a push or a get has read and will write: if x, with TXREQ at 1
abbrev pub PushAsked : Type 0 → PushAt → Type 0
PushAsked x PushAt.Control = Unit {0}
PushAsked x (PushAt.Status w) = x → read TXREQ w ≡ 1
PushAsked x (PushAt.Address w) = x → read TXREQ w ≡ 1
PushAsked x (PushAt.Write w a) = x → read TXREQ w ≡ 1
PushAsked x (PushAt.Commit w) = x → read TXREQ w ≡ 1
PushAsked x PushAt.Enabled = Unit {0}
PushAsked x PushAt.BareAddress = Unit {0}
PushAsked x (PushAt.BareWrite a) = Unit {0}
PushAsked x PushAt.BareControl = Unit {0}
PushAsked x PushAt.Done = Unit {0}
PushAsked x (PushAt.Refused r) = Unit {0}

abbrev pub FetchAsked : Type 0 → FetchAt → Type 0
FetchAsked x FetchAt.Control = Unit {0}
FetchAsked x FetchAt.Status = Unit {0}
FetchAsked x FetchAt.Address = Unit {0}
FetchAsked x (FetchAt.Header a) = Unit {0}
FetchAsked x (FetchAt.Again a f) = Unit {0}
FetchAsked x (FetchAt.Time a f) = Unit {0}
FetchAsked x (FetchAt.Body a f) = Unit {0}
FetchAsked x (FetchAt.Next f) = Unit {0}
FetchAsked x (FetchAt.Commit w f) = x → read TXREQ w ≡ 1
FetchAsked x (FetchAt.Done f) = Unit {0}
FetchAsked x FetchAt.Empty = Unit {0}
FetchAsked x (FetchAt.Told next) = Unit {0}
FetchAsked x (FetchAt.Refused r) = Unit {0}

-- the call k, at which the driver stands at s; X says of which FIFOs TXREQ stays 1, and U whether the queue's lists are claimed, which an
-- unchecked push does not let stand
pub data Mid (X : ℕ → Type 0) (U : Type 0) (c : Model) (k : Command) (s : Call) : Type 0 where
  pushes :
      (also : Bool) (n : ℕ) (header : Header) (seq : ℕ) (payload bs : List ℕ) (at : PushAt) (p : Plan) (f : Fetch)
      → is_fifo n ≡ true → encoding (to_send header seq payload) ≡ Encoding.object bs → (also ≡ true → p ≡ request_start n)
      → PushMid c n (to_send header seq payload) bs at → PushAsked (X n) at
      → k ≡ commanded also n header seq payload → s ≡ pushing also n (length payload) bs at p f → Mid X U c k s
  fetches :
      (want : Want) (n : ℕ) (buf held : List ℕ) (at : FetchAt) (p : Plan) (u : Pushes)
      → is_fifo n ≡ true → Lent want buf → length held ≡ 64 → FetchMid c want n held at → FetchAsked (X n) at
      → k ≡ fetched want n buf → s ≡ fetching want n held at p u → Mid X U c k s
  requests :
      (also : Bool) (n : ℕ) (p : Plan) (u : Pushes) (f : Fetch) → Ready u f also → Requests n p → Harmless X p
      → is_over (plan.outcome_of p) ≡ false → k ≡ Request n → s ≡ planned also p u f → Mid X U c k s
  configures : (x : Setting) (p : Plan) (u : Pushes) (f : Fetch) → Harmless X p → k ≡ Configuring x → s ≡ planned false p u f → Mid X U c k s
  looks : (x : Look) → LooksAt s.at → k ≡ Reading x → Mid X U c k s
  queues :
      (header : Header) (seq : ℕ) (payload bs : List ℕ) (at : PushAt) (p : Plan) (f : Fetch)
      → encoding (to_send header seq payload) ≡ Encoding.object bs → QueueMid c (to_send header seq payload) bs at
      → k ≡ QueuePush header seq payload → s ≡ pushing false 0 (length payload) bs at p f → Mid X U c k s
  bares :
      (header : Header) (seq : ℕ) (payload bs : List ℕ) (at : PushAt) (p : Plan) (f : Fetch)
      → encoding (to_send header seq payload) ≡ Encoding.object bs → BareMid c at → (U → ⊥)
      → k ≡ QueueUnchecked header seq payload → s ≡ pushing false 0 (length payload) bs at p f → Mid X U c k s
  queue_requests :
      (p : Plan) (u : Pushes) (f : Fetch) → Requests 0 p → Harmless X p → is_over (plan.outcome_of p) ≡ false
      → k ≡ QueueRequest → s ≡ planned false p u f → Mid X U c k s

abbrev pub Doings : (ℕ → Type 0) → Type 0 → Model → Doing → Type 0
Doings X U c idle = Unit {0}
Doings X U c (busy k s) = Mid X U c k s

pub doings_later : (X : ℕ → Type 0) (U : Type 0) (c d : Model) → Later c d → (g : Doing) → Doings X U c g → Doings X U d g
doings_later X U c d l idle i = tt
doings_later X U c d l (busy k s) (pushes also n header seq payload bs at p f i e r g a ek es) =
    pushes also n header seq payload bs at p f i e r (push_later c d l n i _ bs at g) a ek es
doings_later X U c d l (busy k s) (fetches want n buf held at p u i b h g a ek es) =
    fetches want n buf held at p u i b h (fetch_later c d l n i want held at g) a ek es
doings_later X U c d l (busy k s) (requests also n p u f a r h b ek es) = requests also n p u f a r h b ek es
doings_later X U c d l (busy k s) (configures x p u f h ek es) = configures x p u f h ek es
doings_later X U c d l (busy k s) (looks x h ek) = looks x h ek
doings_later X U c d l (busy k s) (queues header seq payload bs at p f e g ek es) = queues header seq payload bs at p f e (queue_later c d l _ bs at g) ek es
doings_later X U c d l (busy k s) (bares header seq payload bs at p f e g n ek es) = bares header seq payload bs at p f e (bare_later c d l at g) n ek es
doings_later X U c d l (busy k s) (queue_requests p u f r h b ek es) = queue_requests p u f r h b ek es

-- ---- the invariant

-- what was said: of every call what it may tell, and of the queue its lists, where they are claimed
pub record Tale (U : Type 0) (c : Model) (t : List Said) : Type 0 where
  pub tells : Each TellsWell t
  pub queue : U → QueueListed c t

pub record Inv (X : ℕ → Type 0) (U : Type 0) (v : World) : Type 0 where
  pub sound : Sound v.chip
  pub asked : Asked X v.chip
  pub lists : Listed v.chip v.said
  pub tale : Tale U v.chip v.said
  pub doing : Doings X U v.chip v.doing

pub each_snoc : (P : Said → Type 0) (t : List Said) (x : Said) → Each P t → P x → Each P (t ++ (x ∷ []))
each_snoc P [] x e p = (p, tt)
each_snoc P (y ∷ t) x e p = (e.0, each_snoc P t x e.1 p)

-- ---- what moves no message

silent_in : (j : ℕ) (k : Command) (o : Outcome) (buf : List ℕ) → ((m : Message) → done_with o m ≡ []) → accepted_in j (called k o buf) ≡ []
silent_in j (Push n header seq payload) o buf h = rw (h (to_send header seq payload)) (only_none j n)
silent_in j (Transmit n header seq payload) o buf h = refl
silent_in j (QueuePush header seq payload) o buf h = refl
silent_in j (QueueUnchecked header seq payload) o buf h = refl
silent_in j QueueRequest o buf h = refl
silent_in j (Request n) o buf h = refl
silent_in j (HasNext n) o buf h = refl
silent_in j (Peek n b) o buf h = refl
silent_in j (Get n b) o buf h = refl
silent_in j (Reading x) o buf h = refl
silent_in j (Configuring x) o buf h = refl

pub silent_out : (j : ℕ) (k : Command) (o : Outcome) (buf : List ℕ) → found_in o buf ≡ [] → handed_out_in j (called k o buf) ≡ []
silent_out j (Push n header seq payload) o buf h = refl
silent_out j (Transmit n header seq payload) o buf h = refl
silent_out j (QueuePush header seq payload) o buf h = refl
silent_out j (QueueUnchecked header seq payload) o buf h = refl
silent_out j QueueRequest o buf h = refl
silent_out j (Request n) o buf h = refl
silent_out j (HasNext n) o buf h = refl
silent_out j (Peek n b) o buf h = refl
silent_out j (Get n b) o buf h = rw h (only_none j n)
silent_out j (Reading x) o buf h = refl
silent_out j (Configuring x) o buf h = refl

-- a refusal
pub quiet_refusal : (c : Model) (k : Command) (r : Refusal) (buf : List ℕ) → Moves c (called k (Outcome.Refused r) buf) c
quiet_refusal c k r buf =
    quiet c c (called k (Outcome.Refused r) buf) (λ j. silent_in j k (Outcome.Refused r) buf (λ m. refl)) (λ j. silent_out j k (Outcome.Refused r) buf refl) (λ j. refl)

-- ---- worlds that keep it

module _ (X : ℕ → Type 0) {U : Type 0} (c : Model) (t : List Said) (l : Listed c t) (e : Tale U c t) where
  -- a call goes on: the chip changed in nothing that is held
  pub goes_on_lem : (d : Model) (k : Command) (s : Call) → Sound d → Asked X d → ((j : ℕ) → held d j ≡ held c j) → held_queue d ≡ held_queue c → Mid X U d k s
      → Inv X U (record { chip = d; doing = busy k s; said = t })
  goes_on_lem d k s o q h hq m = record {
    sound = o;
    asked = q;
    lists = λ j i. rw (h j) (l j i);
    tale = record { tells = e.tells; queue = λ u. queue_same c d t hq (e.queue u) };
    doing = m;
  }

  -- something is said
  pub says_more : (d : Model) (g : Doing) (x : Said) → Sound d → Asked X d → Moves c x d → (U → QueueMoves c x d) → TellsWell x → Doings X U d g
      → Inv X U (record { chip = d; doing = g; said = t ++ (x ∷ []) })
  says_more d g x o q m mq w i = record {
    sound = o;
    asked = q;
    lists = lists_snoc c d t x l m;
    tale = record { tells = each_snoc TellsWell t x e.tells w; queue = λ u. queue_snoc c d t x (e.queue u) (mq u) };
    doing = i;
  }
