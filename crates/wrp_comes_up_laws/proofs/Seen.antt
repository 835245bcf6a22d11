-- What each event since the carriers came is to the link: no change, or one.
use Rattle.std.proofs.Common.{◌≡◌, ◌∙◌, refl, ap₂, sym, subst, ℕ, ℤ, pos, ◌+ℤ◌, ◌≤ℤ◌, Bool, true, List, ◌∷◌, Option, None, Some}
use Rattle.wrp_base.specs.declared.link.Role.{Role}
use Rattle.wrp_base.specs.declared.link.Role.TheVariants.{Master, Slave}
use Rattle.wrp_base.specs.declared.message.WrMsg.{WrMsg}
use Rattle.wrp_network.specs.declared.network.LinkCfg.{LinkCfg}
use Rattle.wrp_base.specs.Link.{other_of}
use Rattle.wrp_bounds.specs.Times.{shortest_tick, frame_life}
use Rattle.wrp_handshake_laws.specs.Ends.{Port, BothPorts, Sending as Message, Change, Passes, Hears, Starts, Lights, MayCome, changed, after_input, end_of as port_of}
use Rattle.wrp_link.specs.declared.interface.LinkIn.{LinkIn}
use Rattle.wrp_link.specs.declared.interface.LinkIn.TheVariants.{Msg, Announce, Tick as LinkTick}
use Rattle.wrp_link.specs.Rows.{offers}
use Rattle.wrp_link_up_laws.specs.Pace.{IsSentBy, LeavesCarrier}
use Rattle.wrp_course.specs.declared.event.Event.{Event}
use Rattle.wrp_course.specs.declared.event.Event.TheVariants.{Deliver, Tick}
use Rattle.wrp_course.specs.LinkEnds.{ends_at, port_at}
use Rattle.wrp_course.specs.Run.{Happened}
use Rattle.wrp_course.specs.Setting.{Setting, end_of}
use Rattle.wrp_course.specs.WorldAt.{WorldAt}
use Rattle.wrp_comes_up_laws.specs.Served.{HandsMessage, HandsOffer, Beginning, PutsOut, TicksLocked, ends_of, world_of}

-- the ends after what was seen
abbrev pub seen_by : BothPorts → Option Change → BothPorts
seen_by ends None = ends
seen_by ends (Some change) = changed ends change

abbrev pub SeenMay : (life dmin : ℕ) → BothPorts → Option Change → Type 0
SeenMay life dmin ends None = Unit {0}
SeenMay life dmin ends (Some change) = MayCome life dmin ends change

-- a change in which no carrier comes or goes, and no node starts
abbrev pub IsCalm : Option Change → Type 0
IsCalm None = Unit {0}
IsCalm (Some (Passes dt)) = Unit {0}
IsCalm (Some (Hears role input at)) = LeavesCarrier input
IsCalm (Some (Starts role)) = ⊥
IsCalm (Some (Lights of_master of_slave)) = ⊥

abbrev pub SeenSends : BothPorts → Role → Option Change → Message → Type 0
SeenSends ends role None f = ⊥
SeenSends ends role (Some change) f = IsSentBy ends role change f

abbrev pub life_of : Beginning → ℕ
life_of l = frame_life l.s.cfg

abbrev pub dmin_of : Beginning → ℕ
dmin_of l = shortest_tick l.s.cfg

-- what an event is to the link, and what follows from it
pub record Seen (l : Beginning) (since : List Happened) (h : Happened) (seen : Option Change) : Type 0 where
  pub is : ends_of l (h ∷ since) ≡ seen_by (ends_of l since) seen
  pub may : SeenMay (life_of l) (dmin_of l) (ends_of l since) seen
  pub calm : IsCalm seen
  pub hears : (role : Role) (m : WrMsg) (at : ℤ) → HandsMessage l role m at since h.event → seen ≡ Some (Hears role (Msg m) at)
  pub offered : HandsOffer l since h.event → (suffix : Option ℕ) × (at : ℤ) × (offers suffix ≡ true) × (seen ≡ Some (Hears Slave (Announce suffix) at))
  pub locked : TicksLocked l since h.event → (at : ℤ) × (seen ≡ Some (Hears Slave (LinkTick true) at))
  pub puts : (role : Role) (m : WrMsg) (at : ℤ) → SeenSends (ends_of l since) role seen (m, at) → PutsOut l role m (h ∷ since) at
  pub offer : (suffix : Option ℕ) (at : ℤ) → offers suffix ≡ true → seen ≡ Some (Hears Slave (Announce suffix) at) → HandsOffer l since h.event
  pub message : (role : Role) (m : WrMsg) (at : ℤ) → seen ≡ Some (Hears role (Msg m) at) → HandsMessage l role m at since h.event

-- both ends, of which one heard an input

pub ends_are : (a b : BothPorts) → a.time ≡ b.time → a.master ≡ b.master → a.slave ≡ b.slave → a ≡ b
ends_are a b t m s = λ i. record { time = t i; master = m i; slave = s i }

-- the port of a role is the one at that end of the link
pub port_is_at : (s : Setting) (w : WorldAt) (k : ℕ) (link : LinkCfg) (role : Role) →
    port_of (ends_at s w k link) role ≡ port_at s w k role (end_of role link)
port_is_at s w k link Master = refl
port_is_at s w k link Slave = refl

-- the port at an end after an event, and before it
abbrev pub port_in : Beginning → List Happened → Role → Port
port_in l since role = port_at l.s (world_of l since) l.k role (end_of role l.link)

abbrev pub SameTime : Beginning → List Happened → Happened → Type 0
SameTime l since h = (world_of l (h ∷ since)).time ≡ (world_of l since).time

pub ends_hear :
    (l : Beginning) (since : List Happened) (h : Happened) (role : Role) (input : LinkIn) (at : ℤ) → SameTime l since h →
    port_in l (h ∷ since) role ≡ after_input (world_of l since).time (port_in l since role) input at →
    port_in l (h ∷ since) (other_of role) ≡ port_in l since (other_of role) → ends_of l (h ∷ since) ≡ changed (ends_of l since) (Hears role input at)
ends_hear l since h Master input at t e o = ends_are (ends_of l (h ∷ since)) (changed (ends_of l since) (Hears Master input at)) t e o
ends_hear l since h Slave input at t e o = ends_are (ends_of l (h ∷ since)) (changed (ends_of l since) (Hears Slave input at)) t o e

pub ends_stay :
    (l : Beginning) (since : List Happened) (h : Happened) (role : Role) → SameTime l since h →
    port_in l (h ∷ since) role ≡ port_in l since role → port_in l (h ∷ since) (other_of role) ≡ port_in l since (other_of role) →
    ends_of l (h ∷ since) ≡ ends_of l since
ends_stay l since h Master t a b = ends_are (ends_of l (h ∷ since)) (ends_of l since) t a b
ends_stay l since h Slave t a b = ends_are (ends_of l (h ∷ since)) (ends_of l since) t b a

-- An event that has no effect on the link

-- it hands nothing over, and is no tick of the slave's node
pub record IsSilent (l : Beginning) (since : List Happened) (e : Event) : Type 0 where
  pub no_message : (role : Role) (m : WrMsg) (at : ℤ) → HandsMessage l role m at since e → ⊥
  pub no_offer : HandsOffer l since e → ⊥
  pub no_tick : TicksLocked l since e → ⊥

pub none_seen : (change : Change) → None ≡ Some change → ⊥
none_seen change e = cc

pub nothing_seen : (l : Beginning) (since : List Happened) (h : Happened) → ends_of l (h ∷ since) ≡ ends_of l since → IsSilent l since h.event →
    Seen l since h None
nothing_seen l since h same silent = record {
  is = same;
  may = tt;
  calm = tt;
  hears = λ role m at it. absurd (silent.no_message role m at it);
  offered = λ it. absurd (silent.no_offer it);
  locked = λ it. absurd (silent.no_tick it);
  puts = λ role m at it. absurd it;
  offer = λ suffix at o e. absurd (none_seen (Hears Slave (Announce suffix) at) e);
  message = λ role m at e. absurd (none_seen (Hears role (Msg m) at) e);
}

-- an event of another kind
abbrev pub IsPlain : Event → Type 0
IsPlain (Deliver i) = ⊥
IsPlain (Tick n) = ⊥
IsPlain _ = Unit {0}

pub plain_silent : (l : Beginning) (since : List Happened) (e : Event) → IsPlain e → IsSilent l since e
plain_silent l since e plain = record {
  no_message = λ role m at it. let x : IsPlain (Deliver it.0.number) = subst IsPlain it.0.is plain in absurd x;
  no_offer = λ it. let x : IsPlain (Deliver it.0.number) = subst IsPlain it.0.is plain in absurd x;
  no_tick = λ it. let x : IsPlain (Tick l.link.lower) = subst IsPlain it.0 plain in absurd x;
}

-- Time passes

not_passes : (dt : ℕ) (role : Role) (input : LinkIn) (at : ℤ) → Some (Passes dt) ≡ Some (Hears role input at) → ⊥
not_passes dt role input at e = cc

pub passes_seen :
    (l : Beginning) (since : List Happened) (h : Happened) (dt : ℕ) → ends_of l (h ∷ since) ≡ changed (ends_of l since) (Passes dt) → IsPlain h.event →
    Seen l since h (Some (Passes dt))
passes_seen l since h dt is plain =
    let silent : IsSilent l since h.event = plain_silent l since h.event plain in
    record {
      is = is;
      may = tt;
      calm = tt;
      hears = λ role m at it. absurd (silent.no_message role m at it);
      offered = λ it. absurd (silent.no_offer it);
      locked = λ it. absurd (silent.no_tick it);
      puts = λ role m at it. absurd it;
      offer = λ suffix at o e. absurd (not_passes dt Slave (Announce suffix) at e);
      message = λ role m at e. absurd (not_passes dt role (Msg m) at e);
    }

-- A tick of a node of the link

not_announced : (role : Role) (b : Bool) (past : ℤ) (suffix : Option ℕ) (at : ℤ) →
    Some (Hears role (LinkTick b) past) ≡ Some (Hears Slave (Announce suffix) at) → ⊥
not_announced role b past suffix at e = cc

not_told : (role other : Role) (b : Bool) (past : ℤ) (m : WrMsg) (at : ℤ) → Some (Hears role (LinkTick b) past) ≡ Some (Hears other (Msg m) at) → ⊥
not_told role other b past m at e = cc

pub not_delivered : (n i : ℕ) → Tick n ≡ Deliver i → ⊥
not_delivered n i e = cc

pub not_ticked : (i n : ℕ) → Deliver i ≡ Tick n → ⊥
not_ticked i n e = cc

pub tick_seen :
    (l : Beginning) (since : List Happened) (h : Happened) (role : Role) (locked : Bool) →
    h.event ≡ Tick (end_of role l.link).node →
    ends_of l (h ∷ since) ≡ changed (ends_of l since) (Hears role (LinkTick locked) (pos 0)) →
    ((port_of (ends_of l since) role).ticked +ℤ pos (dmin_of l)) ≤ℤ (world_of l since).time →
    (TicksLocked l since h.event → (role ≡ Slave) × (locked ≡ true)) →
    ((other : Role) (m : WrMsg) (at : ℤ) → IsSentBy (ends_of l since) other (Hears role (LinkTick locked) (pos 0)) (m, at) →
    PutsOut l other m (h ∷ since) at) →
    Seen l since h (Some (Hears role (LinkTick locked) (pos 0)))
tick_seen l since h role locked ticks is late told puts = record {
  is = is;
  may = (tt, late);
  calm = tt;
  hears = λ other m at it. absurd (not_delivered (end_of role l.link).node it.0.number (sym ticks ∙ it.0.is));
  offered = λ it. absurd (not_delivered (end_of role l.link).node it.0.number (sym ticks ∙ it.0.is));
  locked = λ it. (pos 0, ap₂ (λ r b. Some (Hears r (LinkTick b) (pos 0))) (told it).0 (told it).1);
  puts = puts;
  offer = λ suffix at o e. absurd (not_announced role locked (pos 0) suffix at e);
  message = λ other m at e. absurd (not_told role other locked (pos 0) m at e);
}
