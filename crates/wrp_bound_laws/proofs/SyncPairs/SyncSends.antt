-- A Follow_Up is put out when its Sync departs, and carries the stamp of that departure.
use Rattle.std.proofs.Common.{◌≡◌, ◌⊎◌, inl, inr, ◌∙◌, refl, ap, sym, subst, ℕ, ℤ, Bool, true, false, List, [], ◌∷◌, ◌++◌, length, map, Option, None, Some, Result}
use Rattle.std.specs.List.{AllByRecursion}
use Rattle.std.proofs.lemmas.Bool.{false≢true}
use Rattle.wrp_base.specs.declared.link.Role.{Role}
use Rattle.wrp_base.specs.declared.link.Role.TheVariants.{Master, Slave}
use Rattle.wrp_base.specs.declared.message.Body.{Body}
use Rattle.wrp_base.specs.declared.message.Body.TheVariants.{Sync, DelayReq, FollowUp, DelayResp, Announce, Signal}
use Rattle.wrp_base.specs.declared.message.PtpMsg.{PtpMsg}
use Rattle.wrp_network.specs.declared.network.LinkCfg.{LinkCfg}
use Rattle.wrp_frame.specs.declared.fault.FrameFault.{FrameFault}
use Rattle.wrp_node.specs.declared.interface.Input.{Input}
use Rattle.wrp_node.specs.declared.interface.Input.TheVariants.{Tick as TickInput, Sample as SampleInput, Frame, Sent, Carrier, Reset}
use Rattle.wrp_node.specs.NodeAt.{NodeSetting, NodeAt, Taken, certain_of, line_at, locked_of, setting_of}
use Rattle.wrp_node.specs.NodeStep.{node_step, servo_ticked}
use Rattle.wrp_port.specs.declared.line.Rest.{Rest}
use Rattle.wrp_port.specs.declared.setting.Setting.{Setting as PortSetting}
use Rattle.wrp_port.specs.LineAfter.{ticked}
use Rattle.wrp_port.specs.Messages.{follow_up_of}
use Rattle.wrp_course.specs.declared.event.Event.{Event}
use Rattle.wrp_course.specs.declared.event.Event.TheVariants.{Pass, Tick, Sample, Depart, Arrive, Deliver, Noise, Down, Up, Cut, Join}
use Rattle.wrp_course.specs.declared.place.Place.{Place}
use Rattle.wrp_course.specs.Given.{Given, given_plain, gives, gives_all, sending, sent_oldest, step_of, taken_of, told_sending, world_step}
use Rattle.wrp_course.specs.Moved.{moved, waiting_at}
use Rattle.wrp_course.specs.Run.{Happened, world_after}
use Rattle.wrp_course.specs.Runs.{IsNetwork, WasPutOut}
use Rattle.wrp_course.specs.Setting.{Setting, end_of, node_setting_of, link_of, place_of}
use Rattle.wrp_course.specs.WorldAt.{Sending, WorldAt}
use Rattle.wrp_course.proofs.RunGiven.{end_is}
use Rattle.wrp_course.proofs.RunNetwork.{LinkEnd, are_apart, end_with, place_end}
use Rattle.wrp_bound_laws.proofs.Nodes.Inputs.{GivesTo}
use Rattle.wrp_bound_laws.proofs.Frames.PutOut.{given_put, moved_back, none_put}
use Rattle.wrp_bound_laws.proofs.Frames.Sendings.{PutOutIn, WasPut, was_put, is_new}
use Rattle.wrp_bound_laws.proofs.Nodes.StepSends.{ScheduledAll, SentBy, step_each}
use Rattle.wrp_bound_laws.proofs.SyncPairs.SyncGiven.{IsSync}

abbrev pub IsFollowUp : Body → Type 0
IsFollowUp (FollowUp precise) = Unit {0}
IsFollowUp _ = ⊥

-- Lists of messages

-- each Follow_Up among these is of this kind
abbrev pub OnlySo : (PtpMsg → Type 0) → List PtpMsg → Type 0
OnlySo Q ms = AllByRecursion (λ m. IsFollowUp m.body → Q m) ms

-- An input of a node

-- the sending of a Sync is reported, and this is its Follow_Up
abbrev pub FollowsFrom : NodeSetting → ℕ → Input → PtpMsg → Type 0
FollowsFrom fixed p (Sent q seq false stamp) m = (p ≡ q) × (m ≡ follow_up_of (setting_of fixed.set p) seq stamp)
FollowsFrom fixed p _ m = ⊥

scheduled_follow : (Q : PtpMsg → Type 0) (set : PortSetting) (role : Role) (line : Rest) (certain : Bool) → ScheduledAll (λ m. IsFollowUp m.body → Q m) set role line certain
scheduled_follow Q set Master line certain = (λ e f. absurd f, λ e f. absurd f)
scheduled_follow Q set Slave line certain = λ e f. absurd f

follow_by : (fixed : NodeSetting) (n : NodeAt) (p : ℕ) (input : Input) (says : Result PtpMsg FrameFault) → SentBy (λ m. IsFollowUp m.body → FollowsFrom fixed p input m) fixed n p input says
follow_by fixed n p TickInput says = scheduled_follow (FollowsFrom fixed p TickInput) (setting_of fixed.set p) (setting_of fixed.set p).ds.role (ticked (setting_of fixed.set p) (line_at fixed.set (servo_ticked fixed n).node p) (locked_of fixed (servo_ticked fixed n).node)) (certain_of fixed (servo_ticked fixed n).node)
follow_by fixed n p (SampleInput number base bits) says = tt
follow_by fixed n p (Frame q octets raw sample) says = λ m is same hears request f. absurd f
follow_by fixed n p (Sent q seq true stamp) says = λ e same f. absurd (false≢true (sym e))
follow_by fixed n p (Sent q seq false stamp) says = λ e same f. (same, refl)
follow_by fixed n p (Carrier q up own_module) says = tt
follow_by fixed n p Reset says = tt

follows_from : (fixed : NodeSetting) (t : Taken) (n : NodeAt) (p : ℕ) → OnlySo (FollowsFrom fixed p t.input) ((node_step fixed t n).sends p)
follows_from fixed t n p = step_each (λ m. IsFollowUp m.body → FollowsFrom fixed p t.input m) fixed t n p (λ seq m f. absurd f) (follow_by fixed n p t.input t.says)

-- What an input puts out

sent_so : (Q : PtpMsg → Type 0) (v : WorldAt) (x : Sending) (ms : List PtpMsg) → IsFollowUp x.message.body → OnlySo Q ms → WasPutOut x (map (sending v) ms) → Q x.message
sent_so Q v x [] f only h = absurd h
sent_so Q v x (m ∷ ms) f only h = elim h [
  | inl is ↦ subst Q (sym (ap (λ (t : Sending). t.message) is)) (only.0 (subst IsFollowUp (ap (λ (t : Sending). t.message.body) is) f))
  | inr rest ↦ sent_so Q v x ms f only.1 rest
]

abbrev FollowsBy : Setting → Given → LinkCfg → Sending → Type 0
FollowsBy s g link x = (link.upper ≡ g.to) × FollowsFrom (node_setting_of s g.to) link.upper_port g.input x.message

step_follow : (s : Setting) (y : ℤ) (v : WorldAt) (g : Given) (p : ℕ) (x : Sending) → IsFollowUp x.message.body → WasPutOut x (map (sending v) ((step_of s y v g).sends p)) → FollowsFrom (node_setting_of s g.to) p g.input x.message
step_follow s y v g p x f new = sent_so (FollowsFrom (node_setting_of s g.to) p g.input) v x ((step_of s y v g).sends p) f (follows_from (node_setting_of s g.to) (taken_of y g) (v.node g.to) p) new

given_follow : (s : Setting) (y : ℤ) (v : WorldAt) (g : Given) (k : ℕ) (link : LinkCfg) (x : Sending) → link_of s k ≡ Some link → IsFollowUp x.message.body → WasPutOut x ((gives s y v g).end_at k Master).sent →
    WasPutOut x (v.end_at k Master).sent ⊎ FollowsBy s g link x
given_follow s y v g k link x is f h =
    elim (given_put s y v g k Master link x is h) [
      | inl old ↦ inl old
      | inr new ↦ inr (new.0, step_follow s y v g link.upper_port x f new.1)
    ]

abbrev IsNoSent : Input → Type 0
IsNoSent (Sent p seq delay stamp) = ⊥
IsNoSent _ = Unit {0}

no_follow : (fixed : NodeSetting) (p : ℕ) (m : PtpMsg) (input : Input) → IsNoSent input → FollowsFrom fixed p input m → ⊥
no_follow fixed p m (Sent q seq delay stamp) h f = absurd h
no_follow fixed p m TickInput h f = f
no_follow fixed p m (SampleInput number base bits) h f = f
no_follow fixed p m (Frame q octets raw sample) h f = f
no_follow fixed p m (Carrier q up own_module) h f = f
no_follow fixed p m Reset h f = f

-- A departure of the master's oldest

-- it is the Sync that departs then, with this stamp, and the message is its Follow_Up
pub record Follows (s : Setting) (w : WorldAt) (k : ℕ) (link : LinkCfg) (e : Event) (x : Sending) : Type 0 where
  pub stamp : ℤ
  pub event : e ≡ Depart link.upper link.upper_port stamp
  pub place : place_of s link.upper link.upper_port ≡ Some (record { link = k; role = Master })
  pub oldest : Sending
  pub rest : List Sending
  pub waits : (w.end_at k Master).waiting ≡ oldest ∷ rest
  pub sync : IsSync oldest.message.body
  pub samples : ℕ
  pub message : x.message ≡ follow_up_of (setting_of (s.set link.upper) link.upper_port) oldest.message.head.seq (record { value = stamp; sample = samples })

abbrev FollowIn : Setting → WorldAt → ℕ → LinkCfg → Event → Sending → Type 0
FollowIn s w k link e x = WasPutOut x (w.end_at k Master).sent ⊎ Follows s w k link e x

-- what a departure at a port reports of the oldest that waited there
abbrev Told : Setting → ℕ → LinkCfg → (m p : ℕ) (stamp : ℤ) (samples : ℕ) → List Sending → Sending → Type 0
Told s k link m p stamp samples [] x = ⊥
Told s k link m p stamp samples (oldest ∷ rest) x =
    IsSync oldest.message.body × (link.upper ≡ m) × (link.upper_port ≡ p)
    × (x.message ≡ follow_up_of (setting_of (s.set m) link.upper_port) oldest.message.head.seq (record { value = stamp; sample = samples }))

body_told : (s : Setting) (y : ℤ) (v : WorldAt) (k : ℕ) (link : LinkCfg) (m p seq : ℕ) (stamp : ℤ) (samples : ℕ) (body : Body) (x : Sending) → link_of s k ≡ Some link → IsFollowUp x.message.body → WasPutOut x ((gives_all s y v (told_sending m p seq stamp samples body)).end_at k Master).sent →
    WasPutOut x (v.end_at k Master).sent ⊎ (IsSync body × (link.upper ≡ m) × (link.upper_port ≡ p) × (x.message ≡ follow_up_of (setting_of (s.set m) link.upper_port) seq (record { value = stamp; sample = samples })))
body_told s y v k link m p seq stamp samples (Sync origin) x is f put =
    elim (given_follow s y v (given_plain m (Sent p seq false (record { value = stamp; sample = samples }))) k link x is f put) [
      | inl old ↦ inl old
      | inr now ↦ inr (tt, now.0, now.1.0, now.1.1)
    ]
body_told s y v k link m p seq stamp samples (DelayReq origin) x is f put =
    elim (given_follow s y v (given_plain m (Sent p seq true (record { value = stamp; sample = samples }))) k link x is f put) [
      | inl old ↦ inl old
      | inr now ↦ absurd now.1
    ]
body_told s y v k link m p seq stamp samples (FollowUp precise) x is f put = inl put
body_told s y v k link m p seq stamp samples (DelayResp receive requesting) x is f put = inl put
body_told s y v k link m p seq stamp samples (Announce origin utc p1 quality p2 gm steps source suffix) x is f put = inl put
body_told s y v k link m p seq stamp samples (Signal target message) x is f put = inl put

queue_told : (s : Setting) (y : ℤ) (v : WorldAt) (k : ℕ) (link : LinkCfg) (m p : ℕ) (stamp : ℤ) (samples : ℕ) (queue : List Sending) (x : Sending) → link_of s k ≡ Some link → IsFollowUp x.message.body →
    WasPutOut x ((gives_all s y v (sent_oldest m p stamp samples queue)).end_at k Master).sent → WasPutOut x (v.end_at k Master).sent ⊎ Told s k link m p stamp samples queue x
queue_told s y v k link m p stamp samples [] x is f put = inl put
queue_told s y v k link m p stamp samples (oldest ∷ rest) x is f put = body_told s y v k link m p oldest.message.head.seq stamp samples oldest.message.body x is f put

place_alike : (place : Place) (k : ℕ) → place.link ≡ k → place.role ≡ Master → place ≡ record { link = k; role = Master }
place_alike place k l r = λ i. record { link = l i; role = r i }

place_told : (s : Setting) → IsNetwork s → (w : WorldAt) (k : ℕ) (link : LinkCfg) (m p : ℕ) (stamp : ℤ) (samples : ℕ) (o : Option Place) (queue : List Sending) (x : Sending) → link_of s k ≡ Some link → place_of s m p ≡ o → waiting_at w o ≡ queue → Told s k link m p stamp samples queue x →
    Follows s w k link (Depart m p stamp) x
place_told s net w k link m p stamp samples o [] x is at waits told = absurd told
place_told s net w k link m p stamp samples None (oldest ∷ rest) x is at waits told = absurd (no_queue oldest rest waits)
  where
    no_queue : (z : Sending) (zs : List Sending) → [] ≡ z ∷ zs → ⊥
    no_queue z zs e = cc
place_told s net w k link m p stamp samples (Some place) (oldest ∷ rest) x is at waits told =
    let there : LinkEnd s place.link place.role (end_with m p) = place_end s m p place at in
    let mine : end_of Master link ≡ end_with m p = λ i. record { node = told.1 i; port = told.2 i } in
    let one : (place.link ≡ k) × (place.role ≡ Master) =
    are_apart s net place.link k place.role Master (end_with m p) (end_is s place.link place.role there.link there.there ∙ ap Some there.end_is) (end_is s k Master link is ∙ ap Some mine) in
    let same : place ≡ record { link = k; role = Master } = place_alike place k one.0 one.1 in
    record {
      stamp = stamp;
      event = ap (λ n. Depart n p stamp) (sym told.1) ∙ ap (λ q. Depart link.upper q stamp) (sym told.2);
      place = ap (λ n. place_of s n link.upper_port) told.1 ∙ ap (place_of s m) told.2 ∙ at ∙ ap Some same;
      oldest = oldest;
      rest = rest;
      waits = sym (ap (λ (z : Place). (w.end_at z.link z.role).waiting) same) ∙ waits;
      sync = told.0;
      samples = samples;
      message = told.3 ∙ ap (λ n. follow_up_of (setting_of (s.set n) link.upper_port) oldest.message.head.seq (record { value = stamp; sample = samples })) (sym told.1);
    }

depart_follow : (s : Setting) → IsNetwork s → (says : Result PtpMsg FrameFault) (y : ℤ) (w : WorldAt) (m p : ℕ) (stamp : ℤ) (k : ℕ) (link : LinkCfg) (x : Sending) → link_of s k ≡ Some link → IsFollowUp x.message.body →
    WasPutOut x ((world_step s says y w (Depart m p stamp)).end_at k Master).sent → FollowIn s w k link (Depart m p stamp) x
depart_follow s net says y w m p stamp k link x is f put =
    elim (queue_told s y (moved s w (Depart m p stamp)) k link m p stamp (w.clock m).samples (waiting_at w (place_of s m p)) x is f put) [
      | inl old ↦ inl (moved_back s w (Depart m p stamp) k Master x old)
      | inr now ↦ inr (place_told s net w k link m p stamp (w.clock m).samples (place_of s m p) (waiting_at w (place_of s m p)) x is refl refl now)
    ]

abbrev GivesNoSent : ℕ → Event → Type 0
GivesNoSent n (Depart m p stamp) = ⊥
GivesNoSent n _ = Unit {0}

no_sent_to : (n : ℕ) (e : Event) → GivesNoSent n e → GivesTo IsNoSent n e
no_sent_to n (Depart m p stamp) h = absurd h
no_sent_to n (Tick m) h = λ is. tt
no_sent_to n (Sample m base bits) h = λ is number. tt
no_sent_to n (Deliver i) h = λ q octets raw sample. tt
no_sent_to n (Noise m p octets raw) h = λ sample. tt
no_sent_to n (Down m) h = λ q. tt
no_sent_to n (Up m off swaps) h = (λ is. tt, λ q own_module. tt)
no_sent_to n (Cut k) h = λ q. tt
no_sent_to n (Join k ms sm) h = λ q own_module. tt
no_sent_to n (Pass dt drifts fibres) h = tt
no_sent_to n (Arrive i raw) h = tt

other_follow : (s : Setting) (says : Result PtpMsg FrameFault) (y : ℤ) (w : WorldAt) (e : Event) (k : ℕ) (link : LinkCfg) (x : Sending) → link_of s k ≡ Some link → IsFollowUp x.message.body → GivesNoSent link.upper e →
    WasPutOut x ((world_step s says y w e).end_at k Master).sent → WasPutOut x (w.end_at k Master).sent
other_follow s says y w e k link x is f none put =
    none_put IsNoSent s says y w e k Master link x is (λ v g input new. no_follow (node_setting_of s g.to) link.upper_port x.message g.input input (step_follow s y v g link.upper_port x f new)) (no_sent_to link.upper e none) put

follow_in : (s : Setting) → IsNetwork s → (says : Result PtpMsg FrameFault) (y : ℤ) (w : WorldAt) (e : Event) (k : ℕ) (link : LinkCfg) (x : Sending) → link_of s k ≡ Some link → IsFollowUp x.message.body → WasPutOut x ((world_step s says y w e).end_at k Master).sent →
    FollowIn s w k link e x
follow_in s net says y w (Depart m p stamp) k link x is f put = depart_follow s net says y w m p stamp k link x is f put
follow_in s net says y w e k link x is f put = inl (other_follow s says y w e k link x is f tt put)

-- Every run

-- the event in which a Follow_Up was put out
pub record FollowedIn (s : Setting) (events : List Happened) (k : ℕ) (link : LinkCfg) (x : Sending) : Type 0 where
  pub newer : List Happened
  pub event : Happened
  pub before : List Happened
  pub splits : events ≡ newer ++ event ∷ before
  pub at : x.at ≡ (world_after s (event ∷ before)).time
  pub moment : x.moment ≡ length (event ∷ before)
  pub follows : Follows s (world_after s before) k link event.event x

followed_now : (s : Setting) → IsNetwork s → (newer older : List Happened) (k : ℕ) (link : LinkCfg) (x : Sending) → link_of s k ≡ Some link → IsFollowUp x.message.body → PutOutIn s older k Master x → FollowedIn s (newer ++ older) k link x
followed_now s net newer [] k link x is f put = absurd put.put
followed_now s net newer (h ∷ before) k link x is f put =
    elim (follow_in s net h.says h.answer (world_after s before) h.event k link x is f put.put) [
      | inl old ↦ absurd (is_new s h before k Master x put old)
      | inr now ↦ record { newer = newer; event = h; before = before; splits = refl; at = put.at; moment = put.moment; follows = now }
    ]

pub followed_in : (s : Setting) → IsNetwork s → (events : List Happened) (k : ℕ) (link : LinkCfg) (x : Sending) → link_of s k ≡ Some link → IsFollowUp x.message.body → WasPutOut x ((world_after s events).end_at k Master).sent → FollowedIn s events k link x
followed_in s net events k link x is f put =
    let it : WasPut s events k Master x = was_put s events k Master x put in
    subst (λ l. FollowedIn s l k link x) (sym it.splits) (followed_now s net it.newer it.older k link x is f it.in_it)
