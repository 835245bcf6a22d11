-- What is kept of a link: of each port by itself, and of each port towards its peer.
use Rattle.std.proofs.Common.{◌≡◌, ◌≢◌, ◌⊎◌, ℕ, ◌-◌, ◌*◌, ◌<◌, ℤ, pos, ◌+ℤ◌, ◌≤ℤ◌, ◌<ℤ◌, Bool, true, false, List, [], ◌∷◌, ◌++◌, map, reverse, None}
use Rattle.std.specs.List.{AllByRecursion}
use Rattle.wrp_base.specs.declared.link.LinkState.{LinkState}
use Rattle.wrp_base.specs.declared.link.LinkState.TheVariants.{Idle}
use Rattle.wrp_base.specs.declared.link.Mark.{Mark}
use Rattle.wrp_base.specs.declared.link.Role.{Role}
use Rattle.wrp_base.specs.declared.link.Role.TheVariants.{Master, Slave}
use Rattle.wrp_base.specs.Link.{other_of}
use Rattle.wrp_check.specs.Required.{required_of}
use Rattle.wrp_link.proofs.Fits.{Belongs}
use Rattle.wrp_check.specs.Stretches.{stretches_of, BeganBy, LastsTo, LiesIn, Entered, movers_of}
use Rattle.wrp_handshake_laws.specs.Ends.{Sending, Port, IsAmong}
use Rattle.wrp_handshake_laws.proofs.Stages.{engaged, bound, numbered, opens, way_of}
use Rattle.wrp_handshake_laws.proofs.Times.{Calm}

-- what the invariant reads of a port
pub record View : Type 0 where
  pub role : Role
  pub state : LinkState
  pub carrier : Bool
  pub quiet : ℕ
  pub full : ℕ
  pub ticked : ℤ
  pub marks : List Mark
  pub sent : List Sending

abbrev pub view_of : Port → View
view_of p =
    record {
      role = p.link.role;
      state = p.link.state;
      carrier = p.link.carrier;
      quiet = p.link.quiet;
      full = p.link.set.quiet;
      ticked = p.ticked;
      marks = p.marks;
      sent = p.sent;
    }

-- what is remembered of a port in addition to its state
pub record Ghost : Type 0 where
  -- when its quiet time last began
  pub rest : ℤ
  -- when it last was engaged
  pub turn : ℤ
  -- when it last was bound
  pub bind : ℤ
  -- its stretches: those after the last one in which it was engaged, that one, and those before
  pub newer : List (List Mark)
  pub latest : List Mark
  pub older : List (List Mark)

-- a message of the last stretch in which its sender was engaged
pub record Current (role : Role) (marks : List Mark) (g : Ghost) (f : Sending) : Type 0 where
  pub since : g.turn ≤ℤ f.1
  pub splits : stretches_of marks ≡ g.newer ++ g.latest ∷ g.older
  pub misses : AllByRecursion (λ s. BeganBy f.1 s → ⊥) g.newer
  pub lies : LiesIn f.1 g.latest
  pub entered : Entered f.1 (reverse (required_of (other_of role) f.0)) g.latest

-- a message that was sent
pub record SentKeeps (life : ℕ) (time : ℤ) (role : Role) (marks : List Mark) (g : Ghost) (f : Sending) : Type 0 where
  pub past : f.1 ≤ℤ time
  pub place : numbered f.0 ≡ true → ((f.1 +ℤ pos (2 * life)) <ℤ g.turn) ⊎ Current role marks g f

-- the state to which a mark led
abbrev pub led_to : Mark → LinkState
led_to mark = mark.to

-- a port in PRESENT
pub record IsOpen (life : ℕ) (time : ℤ) (role : Role) (state : LinkState) (marks : List Mark) (g : Ghost) : Type 0 where
  pub mark : Mark
  pub after : List (List Mark)
  pub before : List (List Mark)
  pub calm : (g.rest +ℤ pos (2 * life)) <ℤ time
  pub stretches : stretches_of marks ≡ (mark ∷ []) ∷ before
  pub newer : g.newer ≡ (mark ∷ []) ∷ after
  pub way : Entered time (way_of role state) (mark ∷ [])
  pub path : mark.to ∷ [] ≡ way_of role state
  pub began : mark.at ≤ℤ time
  pub unmoved : mark.by ≡ None

-- a port that is engaged
pub record IsEngaged (time : ℤ) (role : Role) (state : LinkState) (marks : List Mark) (g : Ghost) : Type 0 where
  pub stretches : stretches_of marks ≡ g.latest ∷ g.older
  pub newer : g.newer ≡ []
  pub way : Entered time (way_of role state) g.latest
  pub path : map led_to g.latest ≡ way_of role state
  pub began : BeganBy time g.latest
  pub first : role ≡ Master → (t : ℤ) → BeganBy t g.latest → g.turn ≤ℤ t
  pub lasts : (t : ℤ) → LastsTo t g.latest

-- a mark with which a port came past PRESENT is not after a time
abbrev pub TurnedBy : Role → ℤ → Mark → Type 0
TurnedBy role time mark = engaged role mark.from ≡ false → engaged role mark.to ≡ true → mark.at ≤ℤ time

-- a mark that led to IDLE is not after a time
abbrev pub LeftBy : ℤ → Mark → Type 0
LeftBy time mark = mark.to ≡ Idle → mark.at ≤ℤ time

-- a port by itself
pub record PortKeeps (life dmin : ℕ) (time : ℤ) (v : View) (g : Ghost) : Type 0 where
  pub belongs : Belongs v.role v.state
  pub counts : 2 * life < (v.full - 1) * dmin
  pub ticked : v.ticked ≤ℤ time
  pub rest : g.rest ≤ℤ time
  pub turn : g.turn ≤ℤ time
  pub bind : g.bind ≤ℤ time
  pub calm : v.state ≡ Idle → v.carrier ≡ true → Calm dmin v.full v.quiet v.ticked g.rest
  pub shut : engaged v.role v.state ≡ false → (f : Sending) → IsAmong f v.sent → numbered f.0 ≡ true → f.1 ≤ℤ g.rest
  pub opened : v.state ≢ Idle → engaged v.role v.state ≡ false → IsOpen life time v.role v.state v.marks g
  pub engages : engaged v.role v.state ≡ true → IsEngaged time v.role v.state v.marks g
  pub unbound : engaged v.role v.state ≡ true → bound v.role v.state ≡ false → movers_of g.latest ≡ []
  pub sources : bound v.role v.state ≡ true → (f : Sending) → IsAmong f v.sent → opens v.role f.0 ≡ true → f.1 ≤ℤ g.bind
  pub frames : (f : Sending) → IsAmong f v.sent → SentKeeps life time v.role v.marks g f
  pub alone : v.role ≡ Master → g.newer ≡ []
  pub turns : AllByRecursion (λ m. TurnedBy v.role g.turn m) v.marks
  pub left : AllByRecursion (λ m. LeftBy g.rest m) v.marks
  pub awake : v.state ≢ Idle → (g.rest +ℤ pos (2 * life)) <ℤ time

-- a message that moved a port is of the peer's last stretch in which the peer was engaged
pub record FromLatest (sent : List Sending) (turn : ℤ) (m : Sending) : Type 0 where
  pub there : IsAmong m sent
  pub counted : numbered m.0 ≡ true
  pub since : turn ≤ℤ m.1

-- a bound port, with what its peer sent and when the peer was engaged last
pub record Bond (role : Role) (life : ℕ) (bind : ℤ) (latest : List Mark) (sent : List Sending) (turn : ℤ) : Type 0 where
  pub source : Sending
  pub there : IsAmong source sent
  pub counted : numbered source.0 ≡ true
  pub fresh : bind ≤ℤ (source.1 +ℤ pos life)
  pub takes : role ≡ Slave → opens Master source.0 ≡ true
  pub last : Sending
  pub others : List Sending
  pub movers : movers_of latest ≡ last ∷ others
  pub taken : AllByRecursion (λ m. FromLatest sent turn m) (movers_of latest)

-- a port towards its peer
abbrev pub Tied : ℕ → View → Ghost → View → Ghost → Type 0
Tied life p gp q gq = bound p.role p.state ≡ true → Bond p.role life gp.bind gp.latest q.sent gq.turn
