-- What is owed of the link by itself is owed in the world, over an event that is a change.
use Rattle.std.proofs.Common.{◌≡◌, inl, inr, ◌∙◌, refl, ap, sym, subst, ℕ, ℤ, true, List, ◌∷◌, Option, Some}
use Rattle.std.proofs.lemmas.Option.{same_Some}
use Rattle.wrp_base.specs.declared.link.LinkState.TheVariants.{Idle, SLock}
use Rattle.wrp_base.specs.declared.link.Role.{Role}
use Rattle.wrp_base.specs.declared.link.Role.TheVariants.{Slave}
use Rattle.wrp_base.specs.declared.message.WrMsg.{WrMsg}
use Rattle.wrp_base.specs.declared.message.WrMsg.TheVariants.{Calibrate as CALIBRATE, Calibrated as CALIBRATED}
use Rattle.wrp_base.specs.Link.{other_of}
use Rattle.wrp_handshake_laws.specs.Ends.{BothPorts, Change, Passes, Hears, Starts, Lights, changed, ends_after}
use Rattle.wrp_handshake_laws.specs.Laws.{IsAwake}
use Rattle.wrp_link.specs.declared.interface.LinkIn.TheVariants.{Msg, Announce, Tick as LinkTick}
use Rattle.wrp_link.specs.Rows.{offers}
use Rattle.wrp_link_up_laws.specs.Pace as alone
use Rattle.wrp_link_up_laws.specs.Pace.{IsHeard, IsLockedTick, IsOffered, IsReady, IsSentBy, IsSteady}
use Rattle.wrp_course.specs.Run.{Happened}
use Rattle.wrp_comes_up_laws.specs.Served.{HandsOffer, InTurn, IsUnheard, IsUnlocked, Beginning, ends_of}
use Rattle.wrp_comes_up_laws.proofs.Awaiting.{IsAwaiting}
use Rattle.wrp_comes_up_laws.proofs.Seen.{Seen}

-- An event that is a change

hears_it : (role : Role) (m : WrMsg) (at : ℤ) (c : Change) → Some c ≡ Some (Hears role (Msg m) at) → IsHeard role (m, at) c
hears_it role m at c e = subst (IsHeard role (m, at)) (sym (same_Some c (Hears role (Msg m) at) e)) (refl, (refl, refl))

offers_it : (suffix : Option ℕ) (at : ℤ) (c : Change) → offers suffix ≡ true → Some c ≡ Some (Hears Slave (Announce suffix) at) → IsOffered c
offers_it suffix at c o e = subst IsOffered (sym (same_Some c (Hears Slave (Announce suffix) at) e)) (refl, (suffix, (refl, o)))

locks_it : (at : ℤ) (c : Change) → Some c ≡ Some (Hears Slave (LinkTick true) at) → IsLockedTick c
locks_it at c e = subst IsLockedTick (sym (same_Some c (Hears Slave (LinkTick true) at) e)) (refl, refl)

-- an event hands a slave that may begin an offer only while its master is awake
abbrev pub OffersAwake : Beginning → List Happened → Happened → Type 0
OffersAwake l since h = HandsOffer l since h.event → IsReady (ends_of l since).slave → IsAwake (ends_of l since).master

-- it is steady
pub steady :
    (l : Beginning) (since : List Happened) (h : Happened) (c : Change) → Seen l since h (Some c) → OffersAwake l since h → IsSteady (ends_of l since) c
steady l since h (Passes dt) s awake = tt
steady l since h (Hears role input at) s awake = (
  s.calm,
  λ slave suffix is off up.
      awake
      (s.offer suffix at off (ap (λ r. Some (Hears r input at)) slave ∙ ap (λ i. Some (Hears Slave i at)) is)) up,
)
steady l since h (Starts role) s awake = absurd s.calm
steady l since h (Lights of_master of_slave) s awake = absurd s.calm

-- in it no CALIBRATED overtakes a CALIBRATE
pub in_turn :
    (l : Beginning) (first : BothPorts) (since : List Happened) (h : Happened) (changes : List Change) (c : Change) → Seen l since h (Some c) →
    ((role : Role) (m : WrMsg) (at : ℤ) → alone.IsUnheard first role m changes at → IsUnheard l role m since at) → InTurn l (h ∷ since) →
    alone.InTurn first changes c
in_turn l first since h changes (Hears role input at) s unheard turn =
    λ tx rx pattern retry period sent is le owed.
    turn role tx rx pattern retry period sent at (s.message role (CALIBRATED tx rx) at (ap (λ i. Some (Hears role i at)) is)) le
    (unheard role (CALIBRATE pattern retry period) sent owed)
in_turn l first since h changes (Passes dt) s unheard turn = tt
in_turn l first since h changes (Starts role) s unheard turn = tt
in_turn l first since h changes (Lights of_master of_slave) s unheard turn = tt

-- what is owed of the link is owed in the world

pub heard_next :
    (l : Beginning) (first : BothPorts) (since : List Happened) (h : Happened) (changes : List Change) (c : Change) → Seen l since h (Some c) →
    ends_after first changes ≡ ends_of l since →
    ((role : Role) (m : WrMsg) (at : ℤ) → alone.IsUnheard first role m changes at → IsUnheard l role m since at) →
    (role : Role) (w : WrMsg) (at : ℤ) → alone.IsUnheard first role w (c ∷ changes) at → IsUnheard l role w (h ∷ since) at
heard_next l first since h changes c s e old role w at owed =
    elim owed [
      | inl sends ↦ inl (s.puts (other_of role) w at (subst (λ x. IsSentBy x (other_of role) c (w, at)) e sends))
      | inr it ↦ inr (old role w at it.0, λ met. it.1 (hears_it role w at c (s.hears role w at met)))
    ]

pub awaited_next :
    (l : Beginning) (first : BothPorts) (since : List Happened) (h : Happened) (changes : List Change) (c : Change) → Seen l since h (Some c) →
    changed (ends_after first changes) c ≡ ends_of l (h ∷ since) → ((at : ℤ) → alone.IsUnoffered first changes at → IsAwaiting l since at) →
    (at : ℤ) → alone.IsUnoffered first (c ∷ changes) at → IsAwaiting l (h ∷ since) at
awaited_next l first since h changes c s e old at owed =
    elim owed [
      | inl awake ↦
          inl (record {
            master = subst (λ (x : BothPorts). IsAwake x.master) e awake.master;
            slave = subst (λ (x : BothPorts). IsReady x.slave) e awake.slave;
            idle = subst (λ (x : BothPorts). x.slave.link.state ≡ Idle) e awake.idle;
            now = awake.now ∙ ap (λ (x : BothPorts). x.time) e;
          })
      | inr it ↦
          inr (
            old at it.0,
            λ met.
                let o : (suffix : Option ℕ) × (past : ℤ) × (offers suffix ≡ true) × (Some c ≡ Some (Hears Slave (Announce suffix) past)) = s.offered met in
                it.1 (offers_it o.0 o.1 c o.2 o.3),
          )
    ]

pub locked_next :
    (l : Beginning) (first : BothPorts) (since : List Happened) (h : Happened) (changes : List Change) (c : Change) → Seen l since h (Some c) →
    changed (ends_after first changes) c ≡ ends_of l (h ∷ since) → ((at : ℤ) → alone.IsUnlocked first changes at → IsUnlocked l since at) →
    (at : ℤ) → alone.IsUnlocked first (c ∷ changes) at → IsUnlocked l (h ∷ since) at
locked_next l first since h changes c s e old at owed =
    elim owed [
      | inl locking ↦
          inl (record {
            locking = subst (λ (x : BothPorts). x.slave.link.state ≡ SLock) e locking.locking;
            now = locking.now ∙ ap (λ (x : BothPorts). x.time) e;
          })
      | inr it ↦
          inr (
            old at it.0,
            λ met. (let o : (past : ℤ) × (Some c ≡ Some (Hears Slave (LinkTick true) past)) = s.locked met in it.1 (locks_it o.0 c o.1)),
          )
    ]
