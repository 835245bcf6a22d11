-- Which tick sent a message of a number, and what an end's own message was then.
use Rattle.std.proofs.Common.{◌≡◌, ◌∙◌, ap, sym, refl, ◌⊎◌, inl, inr, ℕ, zero, suc, ◌+◌, ◌-◌, ◌%◌, ◌==◌, ◌&&◌, Bool, true, false, if◌then◌else◌, List, [], ◌∷◌, ◌++◌, length, Option, None, Some, arith}
use Rattle.std.specs.List.{Contains, slice_get}
use Rattle.std.specs.Option.{option_map}
use Rattle.std.proofs.lemmas.Bool.Decides.{nat_tests}
use Rattle.std.proofs.lemmas.Option.{get_or_from_slice_get, same_Some, slice_get_within}
use Rattle.wrp_l1sync.specs.declared.event.L1Event.{L1Event}
use Rattle.wrp_l1sync.specs.declared.event.L1Event.TheVariants.{Pass, Tick, Enable, Disable, Own, Deliver}
use Rattle.wrp_l1sync.specs.declared.event.Sent.{Sent}
use Rattle.wrp_l1sync.specs.declared.event.Side.{Side}
use Rattle.wrp_l1sync.specs.declared.interface.L1In.{L1In}
use Rattle.wrp_l1sync.specs.declared.interface.L1In.TheVariants as given
use Rattle.wrp_l1sync.specs.declared.message.L1Msg.{L1Msg}
use Rattle.wrp_l1sync.specs.Inputs.{is_enabled, own_of, ticks_of}
use Rattle.wrp_l1sync.specs.Agreement.{HasNoOwn, inputs_to, own_at, sets_own}
use Rattle.wrp_l1sync.specs.Pair.{History, Timed, delivery_to, handed, handing_of, history, input_to, inputs_of, is_side, new_sent, sent_at, sent_by, side_of, with_input, with_sent}
use Rattle.wrp_l1sync.proofs.TimeLaws.{grown_to}

-- ---- numbers

get_more : {X : Type 0} (xs ys : List X) (i : ℕ) (x : X) → slice_get xs i ≡ Some x → slice_get (xs ++ ys) i ≡ Some x
get_more [] ys i x e = absurd cc
get_more (y ∷ xs) ys zero x e = e
get_more (y ∷ xs) ys (suc i) x e = get_more xs ys i x e

-- the element of an index, if one more was added
abbrev IsOldOrLast : {X : Type 0} → List X → X → ℕ → X → Type 0
IsOldOrLast xs one i x = (slice_get xs i ≡ Some x) ⊎ ((i ≡ length xs) × (one ≡ x))

one_on : {X : Type 0} (y : X) (xs : List X) (one : X) (i : ℕ) (x : X) → IsOldOrLast xs one i x → IsOldOrLast (y ∷ xs) one (suc i) x
one_on y xs one i x (inl old) = inl old
one_on y xs one i x (inr last) = let at : i ≡ length xs = last.0 in inr (omega arith, last.1)

get_last : {X : Type 0} (xs : List X) (one : X) (i : ℕ) (x : X) → slice_get (xs ++ one ∷ []) i ≡ Some x → IsOldOrLast xs one i x
get_last [] one zero x e = inr (refl, same_Some one x e)
get_last [] one (suc i) x e = absurd cc
get_last (y ∷ xs) one zero x e = inl e
get_last (y ∷ xs) one (suc i) x e = one_on y xs one i x (get_last xs one i x e)

contains_at : (sent : List Sent) (i : ℕ) (one : Sent) → slice_get sent i ≡ Some one → Contains sent one
contains_at sent i one e = (i, slice_get_within sent i one e, get_or_from_slice_get sent i one one e)

contains_by : (sent : List Sent) (k : ℕ) (one : Sent) (b : Bool) → (if b then None else slice_get sent (k - 1)) ≡ Some one → Contains sent one
contains_by sent k one true e = absurd cc
contains_by sent k one false e = contains_at sent (k - 1) one e

-- the message of a number was sent
pub contains_number : (sent : List Sent) (k : ℕ) (one : Sent) → sent_at sent k ≡ Some one → Contains sent one
contains_number sent k one e = contains_by sent k one (k == 0) e

more_by : (sent more : List Sent) (k : ℕ) (one : Sent) (b : Bool) → (if b then None else slice_get sent (k - 1)) ≡ Some one →
    (if b then None else slice_get (sent ++ more) (k - 1)) ≡ Some one
more_by sent more k one true e = e
more_by sent more k one false e = get_more sent more (k - 1) one e

-- the message of a number, if one more was sent
abbrev IsOldOrNew : List Sent → Sent → ℕ → Sent → Type 0
IsOldOrNew sent one k message = (sent_at sent k ≡ Some message) ⊎ ((k ≡ length sent + 1) × (one ≡ message))

from_index : (sent : List Sent) (one : Sent) (k : ℕ) (message : Sent) → (k == 0) ≡ false → IsOldOrLast sent one (k - 1) message →
    IsOldOrNew sent one k message
from_index sent one k message some (inl old) = inl (rw some old)
from_index sent one k message some (inr last) = let at : k - 1 ≡ length sent = last.0 in inr (grind (arith, nat_tests), last.1)

last_by : (sent : List Sent) (one : Sent) (k : ℕ) (message : Sent) (b : Bool) → (k == 0) ≡ b →
    (if b then None else slice_get (sent ++ one ∷ []) (k - 1)) ≡ Some message → IsOldOrNew sent one k message
last_by sent one k message true is e = absurd cc
last_by sent one k message false is e = from_index sent one k message is (get_last sent one (k - 1) message e)

number_last : (sent : List Sent) (one : Sent) (k : ℕ) (message : Sent) → sent_at (sent ++ one ∷ []) k ≡ Some message → IsOldOrNew sent one k message
number_last sent one k message e = last_by sent one k message (k == 0) refl e

-- a message that was sent keeps its number
with_more : (sent : List Sent) (o : Option Sent) (k : ℕ) (one : Sent) → sent_at sent k ≡ Some one → sent_at (with_sent sent o) k ≡ Some one
with_more sent None k one e = e
with_more sent (Some new) k one e = more_by sent (new ∷ []) k one (k == 0) e

pub sent_later : (interval : ℕ) (newer older : List L1Event) (k : ℕ) (one : Sent) → sent_at (history interval older).sent k ≡ Some one →
    sent_at (history interval (newer ++ older)).sent k ≡ Some one
sent_later interval [] older k one e = e
sent_later interval (event ∷ newer) older k one e =
    let h : History = history interval (newer ++ older) in
    with_more h.sent (new_sent interval h event) k one (sent_later interval newer older k one e)

-- ---- the tick that sent a message

-- a tick sent the message of this number
pub record WasTicked (interval : ℕ) (events : List L1Event) (k : ℕ) (message : Sent) : Type 0 where
  pub since : List L1Event
  pub older : List L1Event
  pub number : ℕ
  pub all : events ≡ since ++ Tick number ∷ older
  pub is : new_sent interval (history interval older) (Tick number) ≡ Some message
  pub numbered : k ≡ length (history interval older).sent + 1

later : (interval : ℕ) (event : L1Event) (before : List L1Event) (k : ℕ) (message : Sent) → WasTicked interval before k message →
    WasTicked interval (event ∷ before) k message
later interval event before k message was = record {
  since = event ∷ was.since;
  older = was.older;
  number = was.number;
  all = ap (λ (events : List L1Event). event ∷ events) was.all;
  is = was.is;
  numbered = was.numbered;
}

-- only a tick sends a message
new_ticked : (interval : ℕ) (event : L1Event) (before : List L1Event) (k : ℕ) (one message : Sent) →
    new_sent interval (history interval before) event ≡ Some one → k ≡ length (history interval before).sent + 1 → one ≡ message →
    WasTicked interval (event ∷ before) k message
new_ticked interval (Tick number) before k one message is at same = record {
  since = [];
  older = before;
  number = number;
  all = refl;
  is = is ∙ ap (λ (s : Sent). Some s) same;
  numbered = at;
}
new_ticked interval (Pass dt) before k one message is at same = absurd cc
new_ticked interval (Enable number) before k one message is at same = absurd cc
new_ticked interval (Disable number) before k one message is at same = absurd cc
new_ticked interval (Own number own) before k one message is at same = absurd cc
new_ticked interval (Deliver number j) before k one message is at same = absurd cc

by_number : (interval : ℕ) (event : L1Event) (before : List L1Event) (k : ℕ) (one message : Sent) →
    new_sent interval (history interval before) event ≡ Some one →
    (sent_at (history interval before).sent k ≡ Some message → WasTicked interval before k message) →
    IsOldOrNew (history interval before).sent one k message → WasTicked interval (event ∷ before) k message
by_number interval event before k one message is found (inl old) = later interval event before k message (found old)
by_number interval event before k one message is found (inr new) = new_ticked interval event before k one message is new.0 new.1

with_one : (interval : ℕ) (event : L1Event) (before : List L1Event) (k : ℕ) (message : Sent) (o : Option Sent) →
    new_sent interval (history interval before) event ≡ o →
    (sent_at (history interval before).sent k ≡ Some message → WasTicked interval before k message) →
    sent_at (with_sent (history interval before).sent o) k ≡ Some message → WasTicked interval (event ∷ before) k message
with_one interval event before k message None is found e = later interval event before k message (found e)
with_one interval event before k message (Some one) is found e =
    by_number interval event before k one message is found (number_last (history interval before).sent one k message e)

abbrev nothing_sent : List Sent
nothing_sent = []

none_by : (k : ℕ) (message : Sent) (b : Bool) → (if b then None else slice_get nothing_sent (k - 1)) ≡ Some message → ⊥
none_by k message true e = absurd cc
none_by k message false e = absurd cc

pub was_ticked : (interval : ℕ) (events : List L1Event) (k : ℕ) (message : Sent) → sent_at (history interval events).sent k ≡ Some message →
    WasTicked interval events k message
was_ticked interval [] k message e = absurd (none_by k message (k == 0) e)
was_ticked interval (event ∷ before) k message e =
    with_one interval event before k message (new_sent interval (history interval before) event) refl (was_ticked interval before k message) e

-- ---- what it says

-- a message that a tick sends is the end's own
pub record IsOwn (number : ℕ) (own : L1Msg) (message : Sent) : Type 0 where
  pub by : message.by ≡ side_of number
  pub says : message.msg ≡ own

own_if : (number now : ℕ) (own : L1Msg) (message : Sent) (b : Bool) →
    option_map (sent_by (side_of number) now) (if b then Some own else None) ≡ Some message → IsOwn number own message
own_if number now own message true e =
    let same : sent_by (side_of number) now own ≡ message = same_Some (sent_by (side_of number) now own) message e in
    record { by = sym (ap (λ (s : Sent). s.by) same); says = sym (ap (λ (s : Sent). s.msg) same) }
own_if number now own message false e = absurd cc

pub is_own : (interval : ℕ) (older : List L1Event) (number : ℕ) (message : Sent) →
    new_sent interval (history interval older) (Tick number) ≡ Some message → IsOwn number (own_at interval older (side_of number)) message
is_own interval older number message e =
    let h : History = history interval older in
    let inputs : List L1In = inputs_to interval older (side_of number) in
    own_if number h.time (own_of inputs) message (is_enabled inputs && ((ticks_of inputs + 1) % interval == 0)) e

-- ---- the own message stays

own_plain : (now : ℕ) (timed : List Timed) (input : L1In) (b : Bool) → own_of (input ∷ inputs_of timed) ≡ own_of (inputs_of timed) →
    own_of (inputs_of (with_input now timed (if b then Some input else None))) ≡ own_of (inputs_of timed)
own_plain now timed input true e = e
own_plain now timed input false e = refl

own_set : (now : ℕ) (timed : List Timed) (message : L1Msg) (b : Bool) → b ≡ false →
    own_of (inputs_of (with_input now timed (if b then Some (given.Own message) else None))) ≡ own_of (inputs_of timed)
own_set now timed message true e = absurd cc
own_set now timed message false e = refl

own_delivery : (now : ℕ) (timed : List Timed) (to side : Side) (o : Option Sent) →
    own_of (inputs_of (with_input now timed (input_to side (option_map (delivery_to to) o)))) ≡ own_of (inputs_of timed)
own_delivery now timed to side None = refl
own_delivery now timed to side (Some sent) = own_plain now timed (given.Msg sent.msg) (is_side to side) refl

own_event : (h : History) (side : Side) (timed : List Timed) (event : L1Event) → sets_own side event ≡ false →
    own_of (inputs_of (with_input h.time timed (input_to side (handing_of h.sent event)))) ≡ own_of (inputs_of timed)
own_event h side timed (Pass dt) e = refl
own_event h side timed (Tick number) e = own_plain h.time timed given.Tick (is_side (side_of number) side) refl
own_event h side timed (Enable number) e = own_plain h.time timed given.Enable (is_side (side_of number) side) refl
own_event h side timed (Disable number) e = own_plain h.time timed given.Disable (is_side (side_of number) side) refl
own_event h side timed (Own number message) e = own_set h.time timed message (is_side (side_of number) side) e
own_event h side timed (Deliver number k) e = own_delivery h.time timed (side_of number) side (sent_at h.sent k)

pub own_stays : (interval : ℕ) (newer older : List L1Event) (side : Side) → HasNoOwn side newer →
    own_at interval (newer ++ older) side ≡ own_at interval older side
own_stays interval [] older side none = refl
own_stays interval (event ∷ newer) older side none =
    let h : History = history interval (newer ++ older) in
    ap (λ (timed : List Timed). own_of (inputs_of timed)) (sym (grown_to interval h event side))
    ∙ own_event h side (handed side h) event none.0 ∙ own_stays interval newer older side none.1
