-- What a node ever put out is spelled by its octets, and so each frame that a node was given is read as its octets say, after
-- events of an accepted network whose numbers are in their ranges.
use Rattle.std.proofs.Common.{◌≡◌, ◌⊎◌, inl, inr, refl, sym, subst, ℕ, ℤ, ◌+◌, ◌^◌, ◌<◌, ◌==◌, ◌&&◌, Bool, true, false, if◌then◌else◌, List, [], ◌∷◌, ◌++◌, flat_map, map, Option, None, Some, IfSome, option_map, Result, arith}
use Rattle.std.specs.Prelude.{option_and_then}
use Rattle.std.specs.List.{AllByRecursion, find}
use Rattle.std.specs.Option.{option_map_or, option_or}
use Rattle.std.proofs.lemmas.Bool.{eqb-true}
use Rattle.std.proofs.lemmas.Int.{ints}
use Rattle.std.proofs.lemmas.Option.{none-some, same_Some}
use Rattle.wrp_base.proofs.Lists.{found_at}
use Rattle.wrp_base.specs.declared.link.Module.{Module}
use Rattle.wrp_base.specs.declared.link.Role.{Role}
use Rattle.wrp_base.specs.declared.link.Role.TheVariants.{Master}
use Rattle.wrp_base.specs.declared.message.Body.{Body}
use Rattle.wrp_base.specs.declared.message.Body.TheVariants.{Sync, DelayReq, FollowUp, DelayResp, Announce, Signal}
use Rattle.wrp_base.specs.declared.message.PtpMsg.{PtpMsg}
use Rattle.wrp_network.specs.declared.network.LinkCfg.{LinkCfg}
use Rattle.wrp_network.specs.Network.{End}
use Rattle.wrp_base.specs.Link.{other_of}
use Rattle.wrp_caldb.specs.Database.{Database, ModuleAt, delays_at, entry_at as entry_in, module_at}
use Rattle.wrp_caldb.specs.Name.{same_name}
use Rattle.wrp_caldb.specs.declared.database.Entry.{Entry}
use Rattle.wrp_config.specs.Accepted.{HasDelayRanges, IsAccepted, IsSoundDatabase, IsSoundModule}
use Rattle.wrp_frame.specs.declared.fault.FrameFault.{FrameFault}
use Rattle.wrp_frame.proofs.Encoded.{IsSendable, octets_spell}
use Rattle.wrp_node.specs.declared.interface.Input.{Input}
use Rattle.wrp_node.specs.declared.interface.Input.TheVariants as inputs
use Rattle.wrp_node.specs.NodeAt.{Taken, link_at, numbers_of, setting_of}
use Rattle.wrp_node.specs.NodeRun.{AllSaid, IsSaid as IsSaidInput}
use Rattle.wrp_node.specs.Set.{set_of}
use Rattle.wrp_node.specs.Telling.{Step}
use Rattle.wrp_node.proofs.Links.{step_gives_links}
use Rattle.wrp_port.specs.PortAt.{IsStamp}
use Rattle.wrp_course.specs.declared.event.Event.{Event}
use Rattle.wrp_course.specs.declared.event.Event.TheVariants.{Pass, Tick, Sample, Depart, Arrive, Deliver, Noise, Down, Up, Cut, Join}
use Rattle.wrp_course.specs.declared.place.Place.{Place}
use Rattle.wrp_network.specs.declared.configuration.NetCfg.{NetCfg}
use Rattle.wrp_base.specs.declared.time.Raw.{Raw}
use Rattle.wrp_base.specs.Octets.{AreOctets}
use Rattle.wrp_course.specs.EventAt.{IsRaw, IsTime}
use Rattle.wrp_course.specs.Given.{Given, at_ports, comes_at, comes_from, delivered, delivered_by, delivered_to, end_given, given_by, given_plain, gives, gives_all, goes_at, goes_from, if_carried, put_out, sending, sent_oldest, step_of, taken_of, told_sending}
use Rattle.wrp_course.specs.Moved.{arrived, departing, frame_after, moved, removed, waiting_at}
use Rattle.wrp_course.specs.Run.{AllSaid as AllEventsSaid, Happened, IsSaid, world_after}
use Rattle.wrp_course.specs.Runs.{WasPutOut}
use Rattle.wrp_course.specs.Setting.{Setting, end_at, entry_at, is_of, link_of, node_setting_of, place_of, sends_nm}
use Rattle.wrp_course.specs.WorldAt.{Arrival, FrameAt, Sending, WorldAt, has_carrier}
use Rattle.wrp_course.proofs.RunFrames.{FrameOf, FramesKeep, all_given_frames, moved_frames, moved_sent}
use Rattle.wrp_recorded_laws.specs.Ranges.{IsRanged}
use Rattle.wrp_recorded_laws.specs.Recorded.{AllSaidByLines}
use Rattle.wrp_recorded_laws.proofs.EventRanges.{event_ranged}
use Rattle.wrp_recorded_laws.proofs.Frames.{frame_fits}
use Rattle.wrp_due_laws.proofs.Fitting.{AllSendable, InputFits, node_sendable}
use Rattle.wrp_due_laws.proofs.LinkFitting.{CarrierFits, FitsModule, LinkFits, link_fits_on}
use Rattle.wrp_due_laws.proofs.SetFitting.{FitsPort, port_fits}
use Rattle.wrp_due_laws.specs.Due.{FramesAreHeard}

-- Modules

first_or : (o p : Option Module) (x : Module) → option_or o p ≡ Some x → (o ≡ Some x) ⊎ (p ≡ Some x)
first_or (Some y) p x e = inl e
first_or None p x e = inr e

module_small : (x : Module) → HasDelayRanges x → FitsModule x
module_small x h = let tx = h.tx in let rx = h.rx in (omega (arith, tx), omega (arith, rx))

entry_small : (m : ModuleAt) (tx rx : ℕ) (x : Module) (o : Option Entry) → IsSoundModule m → find (λ (e : Entry). (e.tx_nm == tx) && (e.rx_nm == rx)) m.entries ≡ o
    → option_map (λ (e : Entry). e.delays) o ≡ Some x → FitsModule x
entry_small m tx rx x None sound there e = absurd (none-some x e)
entry_small m tx rx x (Some entry) sound there e =
    let at = found_at (λ (e : Entry). (e.tx_nm == tx) && (e.rx_nm == rx)) m.entries entry there in
    subst FitsModule (same_Some entry.delays x e) (module_small entry.delays (sound.entries at.0 entry at.1))

delays_small : (m : ModuleAt) (tx rx : ℕ) (x : Module) → IsSoundModule m → delays_at m.entries tx rx ≡ Some x → FitsModule x
delays_small m tx rx x sound e =
    elim (first_or (entry_in tx rx m.entries) (entry_in 0 0 m.entries) x e) [
      | inl here ↦ entry_small m tx rx x (find (λ (e : Entry). (e.tx_nm == tx) && (e.rx_nm == rx)) m.entries) sound refl here
      | inr any ↦ entry_small m 0 0 x (find (λ (e : Entry). (e.tx_nm == 0) && (e.rx_nm == 0)) m.entries) sound refl any
    ]

named_small : (db : Database) (tx rx : ℕ) (x : Module) (name : List ℕ) (o : Option ModuleAt) → IsSoundDatabase db → find (λ (m : ModuleAt). same_name m.name name) db.modules ≡ o
    → option_and_then (λ (m : ModuleAt). delays_at m.entries tx rx) o ≡ Some x → FitsModule x
named_small db tx rx x name None sound there e = absurd (none-some x e)
named_small db tx rx x name (Some m) sound there e =
    let at = found_at (λ (z : ModuleAt). same_name z.name name) db.modules m there in delays_small m tx rx x (sound.modules at.0 m at.1) e

linked_small : (s : Setting) (r : Role) (name : List ℕ) (x : Module) (o : Option LinkCfg) → IsSoundDatabase s.db
    → option_and_then (λ (link : LinkCfg). module_at s.db name (sends_nm r link) (sends_nm (other_of r) link)) o ≡ Some x → FitsModule x
linked_small s r name x None sound e = absurd (none-some x e)
linked_small s r name x (Some link) sound e =
    named_small s.db (sends_nm r link) (sends_nm (other_of r) link) x name (find (λ (m : ModuleAt). same_name m.name name) s.db.modules) sound refl e

entry_fits : (s : Setting) (k : ℕ) (r : Role) (name : List ℕ) (o : Option Module) → IsSoundDatabase s.db → entry_at s k r name ≡ o → IfSome o FitsModule
entry_fits s k r name None sound e = tt
entry_fits s k r name (Some x) sound e = linked_small s r name x (link_of s k) sound e

-- What a world keeps

-- all that was ever put out
abbrev pub SentFits : List Sending → Type 0
SentFits sent = AllByRecursion (λ (x : Sending). IsSendable x.message) sent

-- if a frame arrived, it did so with a raw stamp in its ranges
abbrev CameRaw : Option Arrival → Type 0
CameRaw arrival = IfSome arrival (λ (a : Arrival). IsRaw a.raw)

abbrev FrameRaw : Option FrameAt → Type 0
FrameRaw frame = IfSome frame (λ (f : FrameAt). CameRaw f.arrival)

record Spells (s : Setting) (w : WorldAt) : Type 0 where
  links : (n p : ℕ) → LinkFits (link_at (s.set n) (w.node n) p)
  sent : (k : ℕ) (r : Role) → SentFits (w.end_at k r).sent
  frames : (i : ℕ) → FrameRaw (w.frame i)
  heard : (n : ℕ) → AllSaid (w.inputs n)

among : (x : Sending) (sent : List Sending) → SentFits sent → WasPutOut x sent → IsSendable x.message
among x [] all was = absurd was
among x (y ∷ sent) all (inl is) = subst (λ (z : Sending). IsSendable z.message) (sym is) all.0
among x (y ∷ sent) all (inr rest) = among x sent all.1 rest

-- A node's step

sendings_fit : (v : WorldAt) (ms : List PtpMsg) → AllSendable ms → SentFits (map (sending v) ms)
sendings_fit v [] h = tt
sendings_fit v (m ∷ ms) h = (h.0, sendings_fit v ms h.1)

put_fits : (ms sent : List Sending) → SentFits ms → SentFits sent → SentFits (put_out ms sent)
put_fits [] sent h k = k
put_fits (m ∷ ms) sent h k = put_fits ms (m ∷ sent) h.1 (h.0, k)

end_fits : (b : Bool) (s : Setting) (v : WorldAt) (g : Given) (step : Step) (k : ℕ) (r : Role) (o : Option End) → SentFits (v.end_at k r).sent → ((p : ℕ) → AllSendable (step.sends p))
    → SentFits (if b then option_map_or (λ (end : End). end_given s v g step k r end.port) o (v.end_at k r) else v.end_at k r).sent
end_fits false s v g step k r o h sends = h
end_fits true s v g step k r None h sends = h
end_fits true s v g step k r (Some end) h sends =
    put_fits (map (sending v) (step.sends end.port)) (v.end_at k r).sent (sendings_fit v (step.sends end.port) (sends end.port)) h

carrier_of : (input : Input) (says : Result PtpMsg FrameFault) → InputFits input says → CarrierFits input
carrier_of inputs.Tick says h = tt
carrier_of (inputs.Sample n base bits) says h = tt
carrier_of (inputs.Frame p octets raw sample) says h = tt
carrier_of (inputs.Sent p seq delay stamp) says h = tt
carrier_of (inputs.Carrier p up own_module) says h = h
carrier_of inputs.Reset says h = tt

said_of : (input : Input) (says : Result PtpMsg FrameFault) → InputFits input says → IsSaidInput input says
said_of inputs.Tick says h = tt
said_of (inputs.Sample n base bits) says h = tt
said_of (inputs.Frame p octets raw sample) says h = h.0
said_of (inputs.Sent p seq delay stamp) says h = tt
said_of (inputs.Carrier p up own_module) says h = tt
said_of inputs.Reset says h = tt

links_where : (s : Setting) (y : ℤ) (v : WorldAt) (g : Given) (n p : ℕ) (b : Bool) → (n == g.to) ≡ b → LinkFits (link_at (s.set g.to) (step_of s y v g).node p) → LinkFits (link_at (s.set n) (v.node n) p)
    → LinkFits (link_at (s.set n) (if b then (step_of s y v g).node else v.node n) p)
links_where s y v g n p true is h k = subst (λ (m : ℕ). LinkFits (link_at (s.set m) (step_of s y v g).node p)) (sym (eqb-true n g.to is)) h
links_where s y v g n p false is h k = k

said_where : (b : Bool) (t : Taken) (before : List Taken) → IsSaidInput t.input t.says → AllSaid before → AllSaid (if b then t ∷ before else before)
said_where true t before h k = (h, k)
said_where false t before h k = k

given_spells : (s : Setting) (y : ℤ) (v : WorldAt) (g : Given) → ((n p : ℕ) → FitsPort (setting_of (s.set n) p)) → InputFits g.input g.says → Spells s v → Spells s (gives s y v g)
given_spells s y v g ports fits h =
    let step : Step = step_of s y v g in
    let t : Taken = taken_of y g in
    record {
      links = λ n p. links_where s y v g n p (n == g.to) refl
          (subst LinkFits (sym (step_gives_links (node_setting_of s g.to) t (v.node g.to) p))
          (link_fits_on (node_setting_of s g.to) (v.node g.to) g.input g.says p (carrier_of g.input g.says fits) (h.links g.to p)))
          (h.links n p);
      sent = λ k r. end_fits (is_of g.to (end_at s k r)) s v g step k r (end_at s k r) (h.sent k r)
          (λ p. node_sendable (node_setting_of s g.to) (v.node g.to) t p (ports g.to) (h.links g.to) fits);
      frames = λ i. h.frames i;
      heard = λ n. said_where (n == g.to) t (v.inputs n) (said_of g.input g.says fits) (h.heard n);
    }

abbrev GiftsFit : List Given → Type 0
GiftsFit gs = AllByRecursion (λ (g : Given). InputFits g.input g.says) gs

all_spell : (s : Setting) (y : ℤ) (v : WorldAt) (gs : List Given) → ((n p : ℕ) → FitsPort (setting_of (s.set n) p)) → GiftsFit gs → Spells s v → Spells s (gives_all s y v gs)
all_spell s y v [] ports fit h = h
all_spell s y v (g ∷ gs) ports fit h = all_spell s y (gives s y v g) gs ports fit.1 (given_spells s y v g ports fit.0 h)

-- What an event gives

both_fit : (xs ys : List Given) → GiftsFit xs → GiftsFit ys → GiftsFit (xs ++ ys)
both_fit [] ys h k = k
both_fit (x ∷ xs) ys h k = (h.0, both_fit xs ys h.1 k)

only_fit : (b : Bool) (gs : List Given) → GiftsFit gs → GiftsFit (if b then gs else [])
only_fit true gs h = h
only_fit false gs h = tt

time_stamp : (value : ℤ) (sample : ℕ) → IsTime value → IsStamp (record { value = value; sample = sample })
time_stamp value sample h = let least = h.least in let most = h.greatest in (least, omega (arith, ints, least, most))

told_fit : (n p seq : ℕ) (stamp : ℤ) (samples : ℕ) (body : Body) → IsTime stamp → seq < 256 ^ 2 → GiftsFit (told_sending n p seq stamp samples body)
told_fit n p seq stamp samples (Sync origin) time small = ((time_stamp stamp samples time, small), tt)
told_fit n p seq stamp samples (DelayReq origin) time small = ((time_stamp stamp samples time, small), tt)
told_fit n p seq stamp samples (FollowUp precise) time small = tt
told_fit n p seq stamp samples (DelayResp receive requesting) time small = tt
told_fit n p seq stamp samples (Announce origin utc p1 quality p2 gm steps source suffix) time small = tt
told_fit n p seq stamp samples (Signal target message) time small = tt

oldest_fit : (n p : ℕ) (stamp : ℤ) (samples : ℕ) (waiting : List Sending) → IsTime stamp → ((x : Sending) → WasPutOut x waiting → IsSendable x.message) → GiftsFit (sent_oldest n p stamp samples waiting)
oldest_fit n p stamp samples [] time sent = tt
oldest_fit n p stamp samples (oldest ∷ rest) time sent =
    told_fit n p oldest.message.head.seq stamp samples oldest.message.body time (sent oldest (inl refl)).head.seq

-- what waits at a place was put out
waiting_sent : (s : Setting) (w : WorldAt) (o : Option Place) → FramesKeep w → Spells s w → (x : Sending) → WasPutOut x (waiting_at w o) → IsSendable x.message
waiting_sent s w None frames spells x was = absurd was
waiting_sent s w (Some place) frames spells x was =
    among x (w.end_at place.link place.role).sent (spells.sent place.link place.role) (frames.waits place.link place.role x was)

arrival_fit : (f : FrameAt) (a : Arrival) (o : Option End) → IsSendable f.sending.message → IsRaw a.raw → GiftsFit (option_map_or (λ (end : End). delivered_to f a end.node end.port) o [])
arrival_fit f a None can came = tt
arrival_fit f a (Some end) can came = ((octets_spell f.sending.message can, (frame_fits f.sending.message).each, came), tt)

delivery_fit : (s : Setting) (f : FrameAt) (o : Option Arrival) → IsSendable f.sending.message → CameRaw o → GiftsFit (delivered_by s f o)
delivery_fit s f None can came = tt
delivery_fit s f (Some a) can came = arrival_fit f a (end_at s f.link (other_of f.by)) can came

delivers_fit : (s : Setting) (w : WorldAt) (o : Option FrameAt) → FrameOf w o → Spells s w → FrameRaw o → GiftsFit (delivered s o)
delivers_fit s w None was spells came = tt
delivers_fit s w (Some f) was spells came = delivery_fit s f f.arrival (among f.sending (w.end_at f.link f.by).sent (spells.sent f.link f.by) was) came

gone_fit : (o : Option End) → GiftsFit (option_map_or (λ (end : End). given_plain end.node (inputs.Carrier end.port false None) ∷ []) o [])
gone_fit None = tt
gone_fit (Some end) = (tt, tt)

goes_fit : (s : Setting) (k : ℕ) (r : Role) → GiftsFit (goes_from s k r)
goes_fit s k r = both_fit (goes_at s k r) (goes_at s k (other_of r)) (gone_fit (end_at s k r)) (gone_fit (end_at s k (other_of r)))

come_fit : (s : Setting) → IsSoundDatabase s.db → (v : WorldAt) (k : ℕ) (r : Role) (o : Option End)
    → GiftsFit (option_map_or (λ (end : End). given_plain end.node (inputs.Carrier end.port true (entry_at s k r (v.end_at k r).name)) ∷ []) o [])
come_fit s sound v k r None = tt
come_fit s sound v k r (Some end) = (entry_fits s k r (v.end_at k r).name (entry_at s k r (v.end_at k r).name) sound refl, tt)

comes_fit : (s : Setting) → IsSoundDatabase s.db → (v : WorldAt) (k : ℕ) (r : Role) → GiftsFit (comes_from s v k r)
comes_fit s sound v k r = both_fit (comes_at s v k r) (comes_at s v k (other_of r)) (come_fit s sound v k r (end_at s k r)) (come_fit s sound v k (other_of r) (end_at s k (other_of r)))

carried_fit : (s : Setting) (w : WorldAt) (f : ℕ → Role → List Given) → ((k : ℕ) (r : Role) → GiftsFit (f k r)) → (o : Option Place) → GiftsFit (if_carried s w f o)
carried_fit s w f h None = tt
carried_fit s w f h (Some place) = only_fit (has_carrier s w place.link) (f place.link place.role) (h place.link place.role)

each_fit : (f : ℕ → List Given) → ((p : ℕ) → GiftsFit (f p)) → (ps : List ℕ) → GiftsFit (flat_map f ps)
each_fit f h [] = tt
each_fit f h (p ∷ ps) = both_fit (f p) (flat_map f ps) (h p) (each_fit f h ps)

ports_fit : (s : Setting) (w : WorldAt) (f : ℕ → Role → List Given) (n : ℕ) → ((k : ℕ) (r : Role) → GiftsFit (f k r)) → GiftsFit (at_ports s w f n)
ports_fit s w f n h = each_fit (λ p. if_carried s w f (place_of s n p)) (λ p. carried_fit s w f h (place_of s n p)) (numbers_of (s.set n))

-- the numbers that an event hands on are in their ranges
abbrev pub HandsOn : Event → Type 0
HandsOn (Depart n p stamp) = IsTime stamp
HandsOn (Arrive i raw) = IsRaw raw
HandsOn (Noise n p octets raw) = AreOctets octets.items × IsRaw raw
HandsOn _ = Unit {0}

gifts_fit : (s : Setting) → IsSoundDatabase s.db → (w : WorldAt) (says : Result PtpMsg FrameFault) (e : Event) → HandsOn e → IsSaid e says → FramesKeep w → Spells s w
    → GiftsFit (given_by s w (moved s w e) says e)
gifts_fit s sound w says (Pass dt drifts fibres) is said frames spells = tt
gifts_fit s sound w says (Tick n) is said frames spells = (tt, tt)
gifts_fit s sound w says (Sample n base bits) is said frames spells = (tt, tt)
gifts_fit s sound w says (Depart n p stamp) is said frames spells =
    oldest_fit n p stamp (w.clock n).samples (waiting_at w (place_of s n p)) is (waiting_sent s w (place_of s n p) frames spells)
gifts_fit s sound w says (Arrive i raw) is said frames spells = tt
gifts_fit s sound w says (Deliver i) is said frames spells = delivers_fit s w (w.frame i) (frames.departed i) spells (spells.frames i)
gifts_fit s sound w says (Noise n p octets raw) is said frames spells = ((said, is.0, is.1), tt)
gifts_fit s sound w says (Down n) is said frames spells = ports_fit s w (goes_from s) n (goes_fit s)
gifts_fit s sound w says (Up n off swaps) is said frames spells =
    let v : WorldAt = moved s w (Up n off swaps) in (tt, ports_fit s v (comes_from s v) n (comes_fit s sound v))
gifts_fit s sound w says (Cut k) is said frames spells = only_fit (has_carrier s w k) (goes_from s k Master) (goes_fit s k Master)
gifts_fit s sound w says (Join k ms sm) is said frames spells =
    let v : WorldAt = moved s w (Join k ms sm) in only_fit (has_carrier s v k) (comes_from s v k Master) (comes_fit s sound v k Master)

-- Every run

frames_after : (s : Setting) (events : List Happened) → FramesKeep (world_after s events)
frames_after s [] = record { departed = λ i. tt; waits = λ k r x was. absurd was }
frames_after s (h ∷ before) =
    let w : WorldAt = world_after s before in
    all_given_frames s h.answer (given_by s w (moved s w h.event) h.says h.event) (moved s w h.event) (moved_frames s w h.event (frames_after s before))

raw_if : (b : Bool) (x y : Option FrameAt) → FrameRaw x → FrameRaw y → FrameRaw (if b then x else y)
raw_if true x y h k = h
raw_if false x y h k = k

departing_raw : (w : WorldAt) (o : Option Place) (stamp : ℤ) (waiting : List Sending) (i : ℕ) → FrameRaw (w.frame i) → FrameRaw (departing w o stamp waiting i)
departing_raw w None stamp waiting i h = h
departing_raw w (Some place) stamp [] i h = h
departing_raw w (Some place) stamp (oldest ∷ rest) i h = raw_if (i == (w.departed + 1)) _ (w.frame i) tt h

came_if : (b : Bool) (x y : FrameAt) → CameRaw x.arrival → CameRaw y.arrival → CameRaw (if b then x else y).arrival
came_if true x y h k = h
came_if false x y h k = k

arrived_raw : (s : Setting) (w : WorldAt) (j : ℕ) (raw : Raw) (o : Option FrameAt) (i : ℕ) (p : Option FrameAt) → IsRaw raw → FrameRaw p → FrameRaw (arrived s w j raw o i p)
arrived_raw s w j raw None i p is h = h
arrived_raw s w j raw (Some g) i None is h = tt
arrived_raw s w j raw (Some g) i (Some f) is h = came_if (i == j) _ _ is h

removed_raw : (s : Setting) (e : Event) (o : Option FrameAt) → FrameRaw o → FrameRaw (option_map (removed s e) o)
removed_raw s e None h = tt
removed_raw s e (Some f) h = h

moved_raw : (s : Setting) (w : WorldAt) (e : Event) (i : ℕ) → HandsOn e → FrameRaw (w.frame i) → FrameRaw (frame_after s w e i)
moved_raw s w (Depart n p stamp) i is h = departing_raw w (place_of s n p) stamp (waiting_at w (place_of s n p)) i h
moved_raw s w (Arrive j raw) i is h = arrived_raw s w j raw (w.frame j) i (w.frame i) is h
moved_raw s w (Pass dt drifts fibres) i is h = removed_raw s (Pass dt drifts fibres) (w.frame i) h
moved_raw s w (Tick n) i is h = removed_raw s (Tick n) (w.frame i) h
moved_raw s w (Sample n base bits) i is h = removed_raw s (Sample n base bits) (w.frame i) h
moved_raw s w (Deliver j) i is h = removed_raw s (Deliver j) (w.frame i) h
moved_raw s w (Noise n p octets raw) i is h = removed_raw s (Noise n p octets raw) (w.frame i) h
moved_raw s w (Down n) i is h = removed_raw s (Down n) (w.frame i) h
moved_raw s w (Up n off swaps) i is h = removed_raw s (Up n off swaps) (w.frame i) h
moved_raw s w (Cut k) i is h = removed_raw s (Cut k) (w.frame i) h
moved_raw s w (Join k ms sm) i is h = removed_raw s (Join k ms sm) (w.frame i) h

moved_spells : (s : Setting) (w : WorldAt) (e : Event) → HandsOn e → Spells s w → Spells s (moved s w e)
moved_spells s w e is h = record {
  links = λ n p. h.links n p;
  sent = λ k r. subst SentFits (sym (moved_sent s w e k r)) (h.sent k r);
  frames = λ i. moved_raw s w e i is (h.frames i);
  heard = λ n. h.heard n;
}

-- each event hands on numbers in their ranges
abbrev pub AllHandOn : List Happened → Type 0
AllHandOn events = AllByRecursion (λ (h : Happened). HandsOn h.event) events

spells_after : (s : Setting) → IsSoundDatabase s.db → ((n p : ℕ) → FitsPort (setting_of (s.set n) p)) → (events : List Happened) → AllHandOn events → AllEventsSaid events → Spells s (world_after s events)
spells_after s sound ports [] hand said = record { links = λ n p. tt; sent = λ k r. tt; frames = λ i. tt; heard = λ n. tt }
spells_after s sound ports (h ∷ before) hand said =
    let w : WorldAt = world_after s before in
    let rest : Spells s w = spells_after s sound ports before hand.1 said.1 in
    all_spell s h.answer (moved s w h.event) (given_by s w (moved s w h.event) h.says h.event) ports
    (gifts_fit s sound w h.says h.event hand.0 said.0 (frames_after s before) rest) (moved_spells s w h.event hand.0 rest)

-- each frame that a node was given is read as its octets say
pub all_heard : (s : Setting) → IsAccepted s.cfg s.db → ((n : ℕ) → s.set n ≡ set_of s.cfg n) → (events : List Happened) → AllHandOn events → AllEventsSaid events
    → (n : ℕ) → AllSaid ((world_after s events).inputs n)
all_heard s accepted set events hand said n =
    (spells_after s accepted.database (λ m p. subst (λ x. FitsPort (setting_of x p)) (sym (set m)) (port_fits s.cfg accepted.ranges m p)) events hand said).heard n

-- this holds for the events of lines

ranged_on : (e : Event) → IsRanged e → HandsOn e
ranged_on (Depart n p stamp) is = is
ranged_on (Arrive i raw) is = is
ranged_on (Noise n p octets raw) is = (is.0.each, is.1)
ranged_on (Pass dt drifts fibres) is = tt
ranged_on (Tick n) is = tt
ranged_on (Sample n base bits) is = tt
ranged_on (Deliver i) is = tt
ranged_on (Down n) is = tt
ranged_on (Up n off swaps) is = tt
ranged_on (Cut k) is = tt
ranged_on (Join k ms sm) is = tt

pub lines_hand_on : (cfg : NetCfg) (events : List Happened) → AllSaidByLines cfg events → AllHandOn events
lines_hand_on cfg [] lines = tt
lines_hand_on cfg (h ∷ before) lines = (ranged_on h.event (event_ranged cfg lines.0.0 h.event lines.0.1), lines_hand_on cfg before lines.1)

pub heard_by_lines : FramesAreHeard
heard_by_lines s events accepted set lines said = all_heard s accepted set events (lines_hand_on s.cfg events lines) said
