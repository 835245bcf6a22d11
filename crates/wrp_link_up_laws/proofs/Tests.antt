-- Tests that decide whether a run that is written out is served: what is owed after each change, as lists.
use Rattle.std.proofs.Common.{◌≡◌, ◌≢◌, ◌⊎◌, inl, inr, refl, sym, ap, ap₂, subst, ℤ, ℕ, pos, Bool, true, false, not, cond, ◌&&◌, ◌==◌, int_le, List, [], ◌∷◌, ◌++◌, ◌+ℤ◌, ◌≤ℤ◌}
use Rattle.std.specs.Ordering.{int_eq}
use Rattle.std.proofs.lemmas.Bool.{eqb-true}
use Rattle.std.proofs.lemmas.Bool.Decides.{Decides-int_eq}
use lib.Signed.{le_z_yes}
use lib.Dec.{T}
use Rattle.wrp_base.specs.declared.link.LinkState.{LinkState}
use Rattle.wrp_base.specs.declared.link.LinkState.TheVariants.{Idle, SLock}
use Rattle.wrp_base.specs.declared.link.Role.{Role}
use Rattle.wrp_base.specs.declared.link.Role.TheVariants.{Master, Slave}
use Rattle.wrp_base.specs.declared.message.WrMsg.{WrMsg}
use Rattle.wrp_base.specs.declared.message.WrMsg.TheVariants.{Present as SLAVE_PRESENT, Lock as LOCK, Locked as LOCKED, Calibrate as CALIBRATE, Calibrated as CALIBRATED, ModeOn as WR_MODE_ON}
use Rattle.wrp_base.specs.Link.{other_of}
use Rattle.wrp_link.specs.declared.interface.LinkIn.TheVariants.{Msg, Announce, Tick, CarrierDown, CarrierUp}
use Rattle.wrp_link.specs.Rows.{offers, row_of}
use Rattle.wrp_link.specs.Table.{sent_by, is_same}
use Rattle.wrp_handshake_laws.specs.Ends.{Sending, BothPorts, Change, Passes, Hears, Starts, Lights, end_of, IsAmong, stamped, MayCome, AllMayCome, changed, ends_after}
use Rattle.wrp_link_up_laws.specs.Pace.{Pace, IsOwed, IsSentBy, IsHeard, IsUnheard, AreAwake, IsOffered, IsLocking, IsLockedTick, IsPrompt, IsSteady, IsGood, InTurn, AllInTurn}

-- parts of a test
both : (a b : Bool) → a && b ≡ true → (a ≡ true) × (b ≡ true)
both true b e = (refl, e)
both false b e = cc

and_both : (a b : Bool) → a ≡ true → b ≡ true → a && b ≡ true
and_both true b e f = f
and_both false b e f = cc

in_order : (a b : ℤ) → int_le a b ≡ true → a ≤ℤ b
in_order a b e = le_z_yes (subst T (sym e) tt)

same_time : (a b : ℤ) → int_eq a b ≡ true → a ≡ b
same_time a b e = (Decides-int_eq a b).0 e

same_number : (a b : ℕ) → (a == b) ≡ true → a ≡ b
same_number a b e = eqb-true a b e

-- whether two messages are the same
abbrev same_message : WrMsg → WrMsg → Bool
same_message SLAVE_PRESENT SLAVE_PRESENT = true
same_message LOCK LOCK = true
same_message LOCKED LOCKED = true
same_message WR_MODE_ON WR_MODE_ON = true
same_message (CALIBRATE a b c) (CALIBRATE d e f) = (a == d) && ((b == e) && (c == f))
same_message (CALIBRATED a b) (CALIBRATED d e) = (a == d) && (b == e)
same_message _ _ = false

one_message : (m n : WrMsg) → same_message m n ≡ true → m ≡ n
one_message SLAVE_PRESENT SLAVE_PRESENT is = refl
one_message LOCK LOCK is = refl
one_message LOCKED LOCKED is = refl
one_message WR_MODE_ON WR_MODE_ON is = refl
one_message (CALIBRATE a b c) (CALIBRATE d e f) is =
    let x : ((a == d) ≡ true) × ((b == e) && (c == f) ≡ true) = both (a == d) _ is in
    let y : ((b == e) ≡ true) × ((c == f) ≡ true) = both (b == e) (c == f) x.1 in
    let ad : a ≡ d = same_number a d x.0 in
    let be : b ≡ e = same_number b e y.0 in
    let cf : c ≡ f = same_number c f y.1 in
    cc
one_message (CALIBRATED a b) (CALIBRATED d e) is =
    let x : ((a == d) ≡ true) × ((b == e) ≡ true) = both (a == d) (b == e) is in
    let ad : a ≡ d = same_number a d x.0 in
    let be : b ≡ e = same_number b e x.1 in
    cc
one_message _ _ is = cc

abbrev same_role : Role → Role → Bool
same_role Master Master = true
same_role Slave Slave = true
same_role _ _ = false

one_role : (a b : Role) → same_role a b ≡ true → a ≡ b
one_role Master Master e = refl
one_role Slave Slave e = refl
one_role Master Slave e = cc
one_role Slave Master e = cc

-- a message that the port of a role is to hear
abbrev Due : Type 0
Due = Role × Sending

-- one of a list
abbrev InList : Due → List Due → Type 0
InList d [] = ⊥
InList d (x ∷ xs) = (d ≡ x) ⊎ InList d xs

in_left : (d : Due) (xs ys : List Due) → InList d xs → InList d (xs ++ ys)
in_left d [] ys i = absurd i
in_left d (x ∷ xs) ys i = elim i [ inl e ↦ inl e | inr k ↦ inr (in_left d xs ys k) ]

in_right : (d : Due) (xs ys : List Due) → InList d ys → InList d (xs ++ ys)
in_right d [] ys i = i
in_right d (x ∷ xs) ys i = inr (in_right d xs ys i)

-- a test of each of a list
abbrev all_due : (Due → Bool) → List Due → Bool
all_due p [] = true
all_due p (x ∷ xs) = p x && all_due p xs

one_due : (p : Due → Bool) (d : Due) (xs : List Due) → all_due p xs ≡ true → InList d xs → p d ≡ true
one_due p d [] e i = absurd i
one_due p d (x ∷ xs) e i =
    let both_are : (p x ≡ true) × (all_due p xs ≡ true) = both (p x) (all_due p xs) e in
    elim i [ inl same ↦ subst (λ (y : Due). p y ≡ true) (sym same) both_are.0 | inr k ↦ one_due p d xs both_are.1 k ]

-- a change in which the port of a role hears a message
abbrev hears_it : Role → Sending → Change → Bool
hears_it role f (Hears hearer (Msg m) at) = same_role hearer role && (same_message m f.0 && int_eq at f.1)
hears_it role f _ = false

it_is_heard : (role : Role) (f : Sending) (change : Change) → hears_it role f change ≡ true → IsHeard role f change
it_is_heard role f (Hears hearer (Msg m) at) e =
    let x : (same_role hearer role ≡ true) × (same_message m f.0 && int_eq at f.1 ≡ true) = both (same_role hearer role) _ e in
    let y : (same_message m f.0 ≡ true) × (int_eq at f.1 ≡ true) = both (same_message m f.0) (int_eq at f.1) x.1 in
    (one_role hearer role x.0, (ap (λ n. Msg n) (one_message m f.0 y.0), same_time at f.1 y.1))
it_is_heard role f (Hears hearer (Announce suffix) at) e = cc
it_is_heard role f (Hears hearer (Tick locked) at) e = cc
it_is_heard role f (Hears hearer CarrierDown at) e = cc
it_is_heard role f (Hears hearer (CarrierUp fitted) at) e = cc
it_is_heard role f (Passes dt) e = cc
it_is_heard role f (Starts r) e = cc
it_is_heard role f (Lights a b) e = cc

-- what a change sends, to the port of a role
abbrev to_role : Role → List Sending → List Due
to_role role [] = []
to_role role (f ∷ fs) = (role, f) ∷ to_role role fs

abbrev sends_to : BothPorts → Change → List Due
sends_to ends (Hears hearer input at) = to_role (other_of hearer) (stamped ends.time (sent_by (row_of (end_of ends hearer).link input)) [])
sends_to ends _ = []

-- what a change leaves unheard of a list
abbrev unheard_by : Change → List Due → List Due
unheard_by change [] = []
unheard_by change (d ∷ ds) = cond (hears_it d.0 d.1 change) (unheard_by change ds) (d ∷ unheard_by change ds)

in_role : (role : Role) (f : Sending) (fs : List Sending) → IsAmong f fs → InList (role, f) (to_role role fs)
in_role role f [] i = absurd i
in_role role f (g ∷ gs) i = elim i [ inl e ↦ inl (ap (λ (x : Sending). (role, x)) e) | inr k ↦ inr (in_role role f gs k) ]

the_other : (r s : Role) → r ≡ other_of s → s ≡ other_of r
the_other Master Slave e = refl
the_other Slave Master e = refl
the_other Master Master e = cc
the_other Slave Slave e = cc

sent_in : (ends : BothPorts) (role : Role) (change : Change) (f : Sending) → IsSentBy ends (other_of role) change f → InList (role, f) (sends_to ends change)
sent_in ends role (Hears hearer input at) f s =
    subst (λ (r : Role). InList (r, f) (to_role (other_of hearer) (stamped ends.time (sent_by (row_of (end_of ends hearer).link input)) []))) (sym (the_other hearer role s.0))
    (in_role (other_of hearer) f (stamped ends.time (sent_by (row_of (end_of ends hearer).link input)) []) s.1)
sent_in ends role (Passes dt) f s = absurd s
sent_in ends role (Starts r) f s = absurd s
sent_in ends role (Lights a b) f s = absurd s

step_in : (b : Bool) (d x : Due) (xs : List Due) → (b ≡ true → d ≡ x → ⊥) → (d ≡ x) ⊎ InList d xs → InList d (cond b xs (x ∷ xs))
step_in true d x xs not_it i = elim i [ inl e ↦ absurd (not_it refl e) | inr k ↦ k ]
step_in false d x xs not_it i = i

unheard_in : (change : Change) (role : Role) (f : Sending) (ds : List Due) → (IsHeard role f change → ⊥) → InList (role, f) ds → InList (role, f) (unheard_by change ds)
unheard_in change role f [] unmet i = absurd i
unheard_in change role f (d ∷ ds) unmet i =
    step_in (hears_it d.0 d.1 change) (role, f) d (unheard_by change ds)
    (λ e is. unmet (it_is_heard role f change (subst (λ (x : Due). hears_it x.0 x.1 change ≡ true) (sym is) e)))
    (elim i [ inl e ↦ inl e | inr k ↦ inr (unheard_in change role f ds unmet k) ])

-- a quiet time that is over
abbrev is_over : LinkState → ℕ → Bool
is_over Idle quiet = quiet == 0
is_over _ quiet = true

over_is : (s : LinkState) (quiet : ℕ) → is_over s quiet ≡ true → (s ≢ Idle) ⊎ (quiet ≡ 0)
over_is Idle quiet e = inr (same_number quiet 0 e)
over_is _ quiet e = inl (λ f. cc)

is_over_by : (s : LinkState) (quiet : ℕ) → (s ≢ Idle) ⊎ (quiet ≡ 0) → is_over s quiet ≡ true
is_over_by Idle quiet o = elim o [ inl f ↦ absurd (f refl) | inr z ↦ ap (λ n. n == 0) z ]
is_over_by _ quiet o = refl

-- both ends are awake, and the slave is in IDLE, its holdoff over
abbrev awaits : BothPorts → Bool
awaits ends =
    (is_same ends.slave.link.state Idle && (is_over ends.slave.link.state ends.slave.link.quiet && is_over ends.master.link.state ends.master.link.quiet))
    && (ends.slave.link.holdoff == 0)

awaits_begins : (first : BothPorts) (changes : List Change) (at : ℤ) → AreAwake first changes at → (awaits (ends_after first changes) ≡ true) × (at ≡ (ends_after first changes).time)
awaits_begins first changes at a =
    let ends : BothPorts = ends_after first changes in
    let idle : is_same ends.slave.link.state Idle ≡ true = ap (λ s. is_same s Idle) a.idle in
    let mine : is_over ends.slave.link.state ends.slave.link.quiet ≡ true = is_over_by ends.slave.link.state ends.slave.link.quiet a.slave.awake.over in
    let masters : is_over ends.master.link.state ends.master.link.quiet ≡ true = is_over_by ends.master.link.state ends.master.link.quiet a.master.over in
    let free : (ends.slave.link.holdoff == 0) ≡ true = elim a.slave.free [ inl out ↦ absurd (out a.idle) | inr none ↦ ap (λ n. n == 0) none ] in
    (and_both _ _ (and_both _ _ idle (and_both _ _ mine masters)) free, a.now)

abbrev offers_now : Change → Bool
offers_now (Hears Slave (Announce suffix) at) = offers suffix
offers_now _ = false

offers_met : (change : Change) → offers_now change ≡ true → IsOffered change
offers_met (Hears Slave (Announce suffix) at) e = (refl, (suffix, (refl, e)))
offers_met _ e = cc

-- the slave is in S_LOCK
abbrev locks_on : BothPorts → Bool
locks_on ends = is_same ends.slave.link.state SLock

locks_begins : (first : BothPorts) (changes : List Change) (at : ℤ) → IsLocking first changes at → (locks_on (ends_after first changes) ≡ true) × (at ≡ (ends_after first changes).time)
locks_begins first changes at l = (ap (λ s. is_same s SLock) l.locking, l.now)

abbrev locks_now : Change → Bool
locks_now (Hears Slave (Tick true) at) = true
locks_now _ = false

locks_met : (change : Change) → locks_now change ≡ true → IsLockedTick change
locks_met (Hears Slave (Tick true) at) e = (refl, refl)
locks_met _ e = cc

-- what is known of a run after a list of changes: its ends, and what is owed
record At : Type 0 where
  ends : BothPorts
  unheard : List Due
  -- the times since which an offer is owed, and a tick with the lock detector locked
  unoffered : List ℤ
  unlocked : List ℤ

abbrev begun : Bool → ℤ → List ℤ
begun b now = cond b (now ∷ []) []

abbrev next_at : At → Change → At
next_at a change =
    record {
      ends = changed a.ends change;
      unheard = sends_to a.ends change ++ unheard_by change a.unheard;
      unoffered = begun (awaits (changed a.ends change)) (changed a.ends change).time ++ cond (offers_now change) [] a.unoffered;
      unlocked = begun (locks_on (changed a.ends change)) (changed a.ends change).time ++ cond (locks_now change) [] a.unlocked;
    }

abbrev first_at : BothPorts → At
first_at first = record { ends = first; unheard = []; unoffered = []; unlocked = [] }

abbrev at_after : BothPorts → List Change → At
at_after first [] = first_at first
at_after first (change ∷ older) = next_at (at_after first older) change

same_ends : (first : BothPorts) (changes : List Change) → (at_after first changes).ends ≡ ends_after first changes
same_ends first [] = refl
same_ends first (change ∷ older) = ap (λ (e : BothPorts). changed e change) (same_ends first older)

-- each message that is unheard is in the list
unheard_all : (first : BothPorts) (changes : List Change) (role : Role) (m : WrMsg) (at : ℤ) → IsUnheard first role m changes at → InList (role, (m, at)) (at_after first changes).unheard
unheard_all first [] role m at o = absurd o
unheard_all first (change ∷ older) role m at o =
    let a : At = at_after first older in
    elim o [
      | inl now ↦
          in_left (role, (m, at)) (sends_to a.ends change) (unheard_by change a.unheard)
          (sent_in a.ends role change (m, at) (subst (λ (e : BothPorts). IsSentBy e (other_of role) change (m, at)) (sym (same_ends first older)) now))
      | inr before ↦
          in_right (role, (m, at)) (sends_to a.ends change) (unheard_by change a.unheard)
          (unheard_in change role (m, at) a.unheard before.1 (unheard_all first older role m at before.0))
    ]

-- at a time none of them is longer ago than this
abbrev all_within : ℤ → ℕ → List ℤ → Bool
all_within time n [] = true
all_within time n (t ∷ ts) = int_le time (t +ℤ pos n) && all_within time n ts

within_left : (time : ℤ) (n : ℕ) (xs ys : List ℤ) → all_within time n (xs ++ ys) ≡ true → (all_within time n xs ≡ true) × (all_within time n ys ≡ true)
within_left time n [] ys e = (refl, e)
within_left time n (x ∷ xs) ys e =
    let b : (int_le time (x +ℤ pos n) ≡ true) × (all_within time n (xs ++ ys) ≡ true) = both (int_le time (x +ℤ pos n)) _ e in
    let r : (all_within time n xs ≡ true) × (all_within time n ys ≡ true) = within_left time n xs ys b.1 in
    (and_both (int_le time (x +ℤ pos n)) (all_within time n xs) b.0 r.0, r.1)

begun_within : (b : Bool) (time now : ℤ) (n : ℕ) → b ≡ true → all_within time n (cond b (now ∷ []) []) ≡ true → time ≤ℤ (now +ℤ pos n)
begun_within true time now n e h = in_order time (now +ℤ pos n) (both (int_le time (now +ℤ pos n)) true h).0
begun_within false time now n e h = cc

unmet_within : (b : Bool) (time : ℤ) (n : ℕ) (ts : List ℤ) → (b ≡ true → ⊥) → all_within time n (cond b [] ts) ≡ true → all_within time n ts ≡ true
unmet_within true time n ts unmet h = absurd (unmet refl)
unmet_within false time n ts unmet h = h

-- a thing whose times are kept in this way is owed for no longer than the longest of them
owed_within :
    (Begins : List Change → ℤ → Type 0) (Meets : Change → Type 0) (begins : BothPorts → Bool) (meets : Change → Bool) (kept : At → List ℤ) (first : BothPorts) →
    ((a : At) (change : Change) → kept (next_at a change) ≡ begun (begins (changed a.ends change)) (changed a.ends change).time ++ cond (meets change) [] (kept a)) →
    ((changes : List Change) (at : ℤ) → Begins changes at → (begins (ends_after first changes) ≡ true) × (at ≡ (ends_after first changes).time)) →
    ((change : Change) → meets change ≡ true → Meets change) →
    (changes : List Change) (time : ℤ) (n : ℕ) → all_within time n (kept (at_after first changes)) ≡ true →
    (at : ℤ) → IsOwed Begins Meets changes at → time ≤ℤ (at +ℤ pos n)
owed_within Begins Meets begins meets kept first steps begins_so met [] time n e at o = absurd o
owed_within Begins Meets begins meets kept first steps begins_so met (change ∷ older) time n e at o =
    let a : At = at_after first older in
    let now : BothPorts = changed a.ends change in
    let same : now ≡ ends_after first (change ∷ older) = ap (λ (e : BothPorts). changed e change) (same_ends first older) in
    let split : all_within time n (begun (begins now) now.time ++ cond (meets change) [] (kept a)) ≡ true =
    subst (λ (ts : List ℤ). all_within time n ts ≡ true) (steps a change) e in
    let parts : (all_within time n (begun (begins now) now.time) ≡ true) × (all_within time n (cond (meets change) [] (kept a)) ≡ true) =
    within_left time n (begun (begins now) now.time) (cond (meets change) [] (kept a)) split in
    elim o [
      | inl b ↦
          let x : (begins now ≡ true) × (at ≡ now.time) =
          subst (λ (e : BothPorts). (begins e ≡ true) × (at ≡ e.time)) (sym same) (begins_so (change ∷ older) at b) in
          subst (λ (t : ℤ). time ≤ℤ (t +ℤ pos n)) (sym x.1) (begun_within (begins now) time now.time n x.0 parts.0)
      | inr before ↦
          owed_within Begins Meets begins meets kept first steps begins_so met older time n
          (unmet_within (meets change) time n (kept a) (λ m. before.1 (met change m)) parts.1) at before.0
    ]

-- whether nothing is late
abbrev prompt : Pace → At → Bool
prompt pace a =
    int_le a.ends.time (a.ends.master.ticked +ℤ pos pace.dmax)
    && (int_le a.ends.time (a.ends.slave.ticked +ℤ pos pace.dmax)
    && (all_due (λ d. int_le a.ends.time (d.1.1 +ℤ pos pace.delay)) a.unheard
    && (all_within a.ends.time pace.announce a.unoffered && all_within a.ends.time pace.lock a.unlocked)))

both_ticks : (pace : Pace) (ends : BothPorts) → ends.time ≤ℤ (ends.master.ticked +ℤ pos pace.dmax) → ends.time ≤ℤ (ends.slave.ticked +ℤ pos pace.dmax) →
    (role : Role) → ends.time ≤ℤ ((end_of ends role).ticked +ℤ pos pace.dmax)
both_ticks pace ends m s Master = m
both_ticks pace ends m s Slave = s

is_prompt : (pace : Pace) (first : BothPorts) (changes : List Change) → prompt pace (at_after first changes) ≡ true → IsPrompt pace first changes
is_prompt pace first changes e =
    let a : At = at_after first changes in
    let time : ℤ = a.ends.time in
    let now : a.ends ≡ ends_after first changes = same_ends first changes in
    let t1 = both (int_le time (a.ends.master.ticked +ℤ pos pace.dmax)) _ e in
    let t2 = both (int_le time (a.ends.slave.ticked +ℤ pos pace.dmax)) _ t1.1 in
    let t3 = both (all_due (λ d. int_le time (d.1.1 +ℤ pos pace.delay)) a.unheard) _ t2.1 in
    let t4 = both (all_within time pace.announce a.unoffered) (all_within time pace.lock a.unlocked) t3.1 in
    record {
      ticks =
          subst (λ (x : BothPorts). (role : Role) → x.time ≤ℤ ((end_of x role).ticked +ℤ pos pace.dmax)) now
          (both_ticks pace a.ends (in_order time (a.ends.master.ticked +ℤ pos pace.dmax) t1.0) (in_order time (a.ends.slave.ticked +ℤ pos pace.dmax) t2.0));
      hears =
          λ role m at o. subst (λ (x : BothPorts). x.time ≤ℤ (at +ℤ pos pace.delay)) now
          (in_order time (at +ℤ pos pace.delay) (one_due (λ x. int_le time (x.1.1 +ℤ pos pace.delay)) (role, (m, at)) a.unheard t3.0 (unheard_all first changes role m at o)));
      offered =
          λ at o. subst (λ (x : BothPorts). x.time ≤ℤ (at +ℤ pos pace.announce)) now
          (owed_within (AreAwake first) IsOffered awaits offers_now (λ x. x.unoffered) first (λ b c. refl) (awaits_begins first) offers_met changes time pace.announce t4.0 at o);
      locks =
          λ at o. subst (λ (x : BothPorts). x.time ≤ℤ (at +ℤ pos pace.lock)) now
          (owed_within (IsLocking first) IsLockedTick locks_on locks_now (λ x. x.unlocked) first (λ b c. refl) (locks_begins first) locks_met changes time pace.lock t4.1 at o);
    }

-- whether a change is steady
abbrev steady : BothPorts → Change → Bool
steady ends (Passes dt) = true
steady ends (Hears Slave (Announce suffix) at) = ends.master.link.carrier && is_over ends.master.link.state ends.master.link.quiet
steady ends (Hears role CarrierDown at) = false
steady ends (Hears role (CarrierUp fitted) at) = false
steady ends (Hears role input at) = true
steady ends (Starts role) = false
steady ends (Lights a b) = false

is_steady : (ends : BothPorts) (change : Change) → steady ends change ≡ true → IsSteady ends change
is_steady ends (Passes dt) e = tt
is_steady ends (Hears Slave (Announce suffix) at) e =
    let x = both _ _ e in
    (tt, λ r s i off awake. record { lit = x.0; over = over_is ends.master.link.state ends.master.link.quiet x.1 })
is_steady ends (Hears Master (Announce suffix) at) e = (tt, λ r. cc)
is_steady ends (Hears Master (Msg m) at) e = (tt, λ r. cc)
is_steady ends (Hears Master (Tick locked) at) e = (tt, λ r. cc)
is_steady ends (Hears Master CarrierDown at) e = cc
is_steady ends (Hears Master (CarrierUp fitted) at) e = cc
is_steady ends (Hears Slave (Msg m) at) e = (tt, λ r s i. cc)
is_steady ends (Hears Slave (Tick locked) at) e = (tt, λ r s i. cc)
is_steady ends (Hears Slave CarrierDown at) e = cc
is_steady ends (Hears Slave (CarrierUp fitted) at) e = cc
is_steady ends (Starts role) e = cc
is_steady ends (Lights a b) e = cc

-- whether the delivery is good over a list of changes
abbrev pub good : Pace → BothPorts → List Change → Bool
good pace first [] = prompt pace (first_at first)
good pace first (change ∷ older) = steady (at_after first older).ends change && (prompt pace (at_after first (change ∷ older)) && good pace first older)

pub is_good : (pace : Pace) (first : BothPorts) (changes : List Change) → good pace first changes ≡ true → IsGood pace first changes
is_good pace first [] e = is_prompt pace first [] e
is_good pace first (change ∷ older) e =
    let a = both (steady (at_after first older).ends change) _ e in
    let b = both (prompt pace (at_after first (change ∷ older))) (good pace first older) a.1 in (
      subst (λ (x : BothPorts). IsSteady x change) (same_ends first older) (is_steady (at_after first older).ends change a.0),
      (is_prompt pace first (change ∷ older) b.0, is_good pace first older b.1),
    )

-- whether no CALIBRATED overtakes a CALIBRATE: none is unheard
abbrev is_calibrate : WrMsg → Bool
is_calibrate (CALIBRATE pattern retry period) = true
is_calibrate _ = false

abbrev calibrates : Role → Due → Bool
calibrates role d = same_role d.0 role && is_calibrate d.1.0

no_calibrate : (role : Role) (pattern retry period : ℕ) (sent : ℤ) → not (calibrates role (role, (CALIBRATE pattern retry period, sent))) ≡ true → ⊥
no_calibrate Master pattern retry period sent e = cc
no_calibrate Slave pattern retry period sent e = cc

abbrev turn : BothPorts → List Change → Change → Bool
turn first older (Hears role (Msg (CALIBRATED tx rx)) at) = all_due (λ d. not (calibrates role d)) (at_after first older).unheard
turn first older _ = true

is_turn : (first : BothPorts) (older : List Change) (change : Change) → turn first older change ≡ true → InTurn first older change
is_turn first older (Hears role (Msg (CALIBRATED tx rx)) at) e =
    λ a b pattern retry period sent is le o.
    no_calibrate role pattern retry period sent
    (one_due (λ d. not (calibrates role d)) (role, (CALIBRATE pattern retry period, sent)) (at_after first older).unheard e (unheard_all first older role (CALIBRATE pattern retry period) sent o))
is_turn first older (Hears role (Msg SLAVE_PRESENT) at) e = λ a b pattern retry period sent is. cc
is_turn first older (Hears role (Msg LOCK) at) e = λ a b pattern retry period sent is. cc
is_turn first older (Hears role (Msg LOCKED) at) e = λ a b pattern retry period sent is. cc
is_turn first older (Hears role (Msg WR_MODE_ON) at) e = λ a b pattern retry period sent is. cc
is_turn first older (Hears role (Msg (CALIBRATE x y z)) at) e = λ a b pattern retry period sent is. cc
is_turn first older (Hears role (Announce suffix) at) e = λ a b pattern retry period sent is. cc
is_turn first older (Hears role (Tick locked) at) e = λ a b pattern retry period sent is. cc
is_turn first older (Hears role CarrierDown at) e = λ a b pattern retry period sent is. cc
is_turn first older (Hears role (CarrierUp fitted) at) e = λ a b pattern retry period sent is. cc
is_turn first older (Passes dt) e = tt
is_turn first older (Starts role) e = tt
is_turn first older (Lights a b) e = tt

abbrev pub turns : BothPorts → List Change → Bool
turns first [] = true
turns first (change ∷ older) = turn first older change && turns first older

pub are_turns : (first : BothPorts) (changes : List Change) → turns first changes ≡ true → AllInTurn first changes
are_turns first [] e = tt
are_turns first (change ∷ older) e =
    let a = both (turn first older change) (turns first older) e in
    (is_turn first older change a.0, are_turns first older a.1)

-- whether each of a list of changes may come
abbrev among : Sending → List Sending → Bool
among f [] = false
among f (g ∷ gs) = cond (same_message f.0 g.0 && int_eq f.1 g.1) true (among f gs)

among_by : (b : Bool) (f g : Sending) (gs : List Sending) → (b ≡ true → f ≡ g) → (among f gs ≡ true → IsAmong f gs) → cond b true (among f gs) ≡ true → (f ≡ g) ⊎ IsAmong f gs
among_by true f g gs is more e = inl (is refl)
among_by false f g gs is more e = inr (more e)

pair_same : (f g : Sending) → f.0 ≡ g.0 → f.1 ≡ g.1 → f ≡ g
pair_same f g m t = ap₂ (λ (a : WrMsg) (b : ℤ). (a, b)) m t

same_sending : (f g : Sending) → same_message f.0 g.0 && int_eq f.1 g.1 ≡ true → f ≡ g
same_sending f g e =
    let a = both (same_message f.0 g.0) (int_eq f.1 g.1) e in
    let m : f.0 ≡ g.0 = one_message f.0 g.0 a.0 in
    let t : f.1 ≡ g.1 = same_time f.1 g.1 a.1 in
    pair_same f g m t

is_among : (f : Sending) (fs : List Sending) → among f fs ≡ true → IsAmong f fs
is_among f [] e = cc
is_among f (g ∷ gs) e = among_by (same_message f.0 g.0 && int_eq f.1 g.1) f g gs (same_sending f g) (is_among f gs) e

abbrev may : (life dmin : ℕ) → BothPorts → Change → Bool
may life dmin ends (Hears role (Msg m) at) = among (m, at) (end_of ends (other_of role)).sent && int_le ends.time (at +ℤ pos life)
may life dmin ends (Hears role (Tick locked) at) = int_le ((end_of ends role).ticked +ℤ pos dmin) ends.time
may life dmin ends (Hears role (CarrierUp fitted) at) = false
may life dmin ends _ = true

may_come : (life dmin : ℕ) (ends : BothPorts) (change : Change) → may life dmin ends change ≡ true → MayCome life dmin ends change
may_come life dmin ends (Hears role (Msg m) at) e =
    let a = both (among (m, at) (end_of ends (other_of role)).sent) _ e in
    (tt, (is_among (m, at) (end_of ends (other_of role)).sent a.0, in_order ends.time (at +ℤ pos life) a.1))
may_come life dmin ends (Hears role (Tick locked) at) e = (tt, in_order ((end_of ends role).ticked +ℤ pos dmin) ends.time e)
may_come life dmin ends (Hears role (Announce suffix) at) e = (tt, tt)
may_come life dmin ends (Hears role CarrierDown at) e = (tt, tt)
may_come life dmin ends (Hears role (CarrierUp fitted) at) e = cc
may_come life dmin ends (Passes dt) e = tt
may_come life dmin ends (Starts role) e = tt
may_come life dmin ends (Lights a b) e = tt

abbrev pub come : (life dmin : ℕ) → BothPorts → List Change → Bool
come life dmin ends [] = true
come life dmin ends (change ∷ older) = may life dmin (ends_after ends older) change && come life dmin ends older

pub all_come : (life dmin : ℕ) (ends : BothPorts) (changes : List Change) → come life dmin ends changes ≡ true → AllMayCome life dmin ends changes
all_come life dmin ends [] e = tt
all_come life dmin ends (change ∷ older) e =
    let a = both (may life dmin (ends_after ends older) change) (come life dmin ends older) e in
    (may_come life dmin (ends_after ends older) change a.0, all_come life dmin ends older a.1)
