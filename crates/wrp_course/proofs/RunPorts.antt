-- The ports at the ends of a link as the laws of one link see them, and what an input of a node does to them.
use Rattle.std.proofs.Common.{◌≡◌, ◌∙◌, refl, ap, ap₂, sym, ℕ, ◌==◌, ℤ, Bool, true, false, if◌then◌else◌, List, [], ◌∷◌, map, Option, None, Some, Result, Ok, Err}
use Rattle.std.specs.Option.{option_map_or}
use Rattle.wrp_base.specs.declared.link.LinkState.TheVariants.{Idle}
use Rattle.wrp_base.specs.declared.link.Role.{Role}
use Rattle.wrp_base.specs.declared.link.Role.TheVariants.{Master, Slave}
use Rattle.wrp_base.specs.declared.message.Body.{Body}
use Rattle.wrp_base.specs.declared.message.Body.TheVariants.{Sync, DelayReq, FollowUp, DelayResp, Announce, Signal}
use Rattle.wrp_base.specs.declared.message.PtpMsg.{PtpMsg}
use Rattle.wrp_base.specs.declared.message.WrMsg.{WrMsg}
use Rattle.wrp_network.specs.Network.{End}
use Rattle.wrp_base.proofs.Naturals.{eq_self}
use Rattle.wrp_data.specs.declared.reason.Reason.{Reason}
use Rattle.wrp_frame.specs.declared.fault.FrameFault.{FrameFault}
use Rattle.wrp_handshake_laws.specs.Ends.{Port, Sending as Message, stamped, mover_of as mover_in, marked, after_input}
use Rattle.wrp_link.specs.declared.interface.LinkIn.TheVariants as link_in
use Rattle.wrp_link.specs.LinkAt.{new_link}
use Rattle.wrp_link.specs.Table.{by_row}
use Rattle.wrp_link.specs.Rows.{row_of}
use Rattle.wrp_link.proofs.Deltas.{is_same_self}
use Rattle.wrp_link.proofs.Orders.{run_role}
use Rattle.wrp_node.specs.declared.interface.Input.{Input}
use Rattle.wrp_node.specs.declared.interface.Input.TheVariants.{Tick, Sample, Frame, Sent, Carrier, Reset}
use Rattle.wrp_node.specs.LinkNews.{LinkNews, Nothing, Given as Handed, Renewed, news_of, link_after, frame_news, news_at, StepGivesLinks}
use Rattle.wrp_node.specs.NodeAt.{NodeSetting, NodeAt, link_at, setting_of}
use Rattle.wrp_node.specs.Sends.{is_signal, signals_in, link_sends, SignalsAreOfLink}
use Rattle.wrp_node.specs.Telling.{Step}
use Rattle.wrp_port.specs.declared.setting.Setting.{Setting as PortSetting}
use Rattle.wrp_port.specs.Hearing.{early_reason, link_input}
use Rattle.wrp_port.specs.History.{input_unless, link_inputs}
use Rattle.wrp_port.specs.Messages.{signals_of, signal_of, next_id}
use Rattle.wrp_node.proofs.Sends.{not_equal}
use Rattle.wrp_course.specs.Given.{Given, in_body, in_frame, mover_of, put_out, sending, step_of, taken_of, ticked_by, clock_told, gives, end_given}
use Rattle.wrp_course.specs.LinkEnds.{link_sent, port_at, sent_with}
use Rattle.wrp_course.specs.Setting.{Setting, end_at, node_setting_of, is_of}
use Rattle.wrp_course.specs.WorldAt.{WorldAt, EndAt, Sending}
use Rattle.wrp_course.proofs.RunLinks.{IsDark, run_dark, run_set}

pub port_is : (a b : Port) → a.link ≡ b.link → a.ticked ≡ b.ticked → a.marks ≡ b.marks → a.sent ≡ b.sent → a ≡ b
port_is a b l t m s = λ i. record { link = l i; ticked = t i; marks = m i; sent = s i }

-- a port's link is of the role and the set that the port has, and without a carrier it is as new
pub link_role : (s : Setting) (v : WorldAt) (n p : ℕ) → (link_at (s.set n) (v.node n) p).role ≡ (setting_of (s.set n) p).ds.role
link_role s v n p = run_role (new_link (setting_of (s.set n) p).ds.role (setting_of (s.set n) p).link) (link_inputs (setting_of (s.set n) p) ((v.node n).told p))

pub link_set : (s : Setting) (v : WorldAt) (n p : ℕ) → (link_at (s.set n) (v.node n) p).set ≡ (setting_of (s.set n) p).link
link_set s v n p = run_set (new_link (setting_of (s.set n) p).ds.role (setting_of (s.set n) p).link) (link_inputs (setting_of (s.set n) p) ((v.node n).told p))

pub link_dark : (s : Setting) (v : WorldAt) (n p : ℕ) → IsDark (link_at (s.set n) (v.node n) p)
link_dark s v n p = run_dark (setting_of (s.set n) p).ds.role (setting_of (s.set n) p).link (link_inputs (setting_of (s.set n) p) ((v.node n).told p))

-- What news does to a port

abbrev pub port_by_news : ℤ → Port → ℤ → LinkNews → Port
port_by_news time q at Nothing = q
port_by_news time q at (Handed input) = after_input time q input at
port_by_news time q at Renewed = record q { link = new_link q.link.role q.link.set; marks = marked time q.link.state Idle None q.marks }

link_by_news : (time : ℤ) (set : PortSetting) (q : Port) (at : ℤ) (news : LinkNews) → q.link.role ≡ set.ds.role → q.link.set ≡ set.link →
    link_after set q.link news ≡ (port_by_news time q at news).link
link_by_news time set q at Nothing e f = refl
link_by_news time set q at (Handed input) e f = refl
link_by_news time set q at Renewed e f = ap₂ new_link (sym e) (sym f)

-- the message that moved it is the one that it was given
abbrev MoverFits : LinkNews → ℤ → Option Message → Type 0
MoverFits Nothing at by = Unit {0}
MoverFits (Handed input) at by = by ≡ mover_in input at
MoverFits Renewed at by = by ≡ None

marks_by_news : (time : ℤ) (set : PortSetting) (q : Port) (at : ℤ) (news : LinkNews) (by : Option Message) → MoverFits news at by →
    marked time q.link.state (link_after set q.link news).state by q.marks ≡ (port_by_news time q at news).marks
marks_by_news time set q at Nothing by h = rw (is_same_self q.link.state) refl
marks_by_news time set q at (Handed input) by h = ap (λ m. marked time q.link.state (by_row q.link (row_of q.link input)).state m q.marks) h
marks_by_news time set q at Renewed by h = ap (λ m. marked time q.link.state Idle m q.marks) h

sent_by_news : (time : ℤ) (q : Port) (at : ℤ) (news : LinkNews) → stamped time (link_sends q.link news) q.sent ≡ (port_by_news time q at news).sent
sent_by_news time q at Nothing = refl
sent_by_news time q at (Handed input) = refl
sent_by_news time q at Renewed = refl

-- What an input is to it

fits_where : (b : Bool) (news : LinkNews) (at : ℤ) (by : Option Message) → MoverFits news at by → MoverFits (if b then news else Nothing) at by
fits_where true news at by h = h
fits_where false news at by h = tt

body_fits : (role : Role) (body : Body) (at : ℤ) → MoverFits (news_of (link_input role body)) at (in_body body at)
body_fits Slave (Announce origin utc p1 quality p2 gm steps source suffix) at = refl
body_fits Slave (Signal target (Some message)) at = refl
body_fits Slave (Signal target None) at = tt
body_fits Slave (Sync origin) at = tt
body_fits Slave (DelayReq origin) at = tt
body_fits Slave (FollowUp precise) at = tt
body_fits Slave (DelayResp receive requesting) at = tt
body_fits Master (Announce origin utc p1 quality p2 gm steps source suffix) at = tt
body_fits Master (Signal target (Some message)) at = refl
body_fits Master (Signal target None) at = tt
body_fits Master (Sync origin) at = tt
body_fits Master (DelayReq origin) at = tt
body_fits Master (FollowUp precise) at = tt
body_fits Master (DelayResp receive requesting) at = tt

unless_fits : (reason : Option Reason) (role : Role) (body : Body) (at : ℤ) → MoverFits (news_of (input_unless reason (link_input role body))) at (in_body body at)
unless_fits None role body at = body_fits role body at
unless_fits (Some reason) role body at = tt

frame_fits : (fixed : NodeSetting) (n : NodeAt) (p : ℕ) (says : Result PtpMsg FrameFault) (at : ℤ) → MoverFits (frame_news fixed n p says) at (in_frame says at)
frame_fits fixed n p (Err fault) at = tt
frame_fits fixed n p (Ok m) at =
    unless_fits (early_reason (setting_of fixed.set p) (link_at fixed.set n p) m) (setting_of fixed.set p).ds.role m.body at

input_fits : (fixed : NodeSetting) (n : NodeAt) (g : Given) (input : Input) (p : ℕ) → MoverFits (news_at fixed n input g.says p) g.at (mover_of g input)
input_fits fixed n g Tick p = refl
input_fits fixed n g (Sample number base bits) p = tt
input_fits fixed n g (Frame q octets raw sample) p = fits_where (p == q) (frame_news fixed n q g.says) g.at (in_frame g.says g.at) (frame_fits fixed n q g.says g.at)
input_fits fixed n g (Sent q seq delay stamp) p = tt
input_fits fixed n g (Carrier q true own_module) p = fits_where (p == q) (Handed (link_in.CarrierUp own_module)) g.at None refl
input_fits fixed n g (Carrier q false own_module) p = fits_where (p == q) (Handed link_in.CarrierDown) g.at None refl
input_fits fixed n g Reset p = refl

-- the last tick
abbrev TicksFit : LinkNews → Input → Type 0
TicksFit news input = (time : ℤ) (q : Port) (at : ℤ) → ticked_by input time q.ticked ≡ (port_by_news time q at news).ticked

ticks_where : (b : Bool) (news : LinkNews) (input : Input) → TicksFit news input → TicksFit Nothing input → TicksFit (if b then news else Nothing) input
ticks_where true news input h k = h
ticks_where false news input h k = k

-- what a frame is to a link: nothing, an Announce or a message
body_news : (Q : LinkNews → Type 0) → Q Nothing → ((a : Option ℕ) → Q (Handed (link_in.Announce a))) → ((m : WrMsg) → Q (Handed (link_in.Msg m))) → (role : Role) (body : Body) →
    Q (news_of (link_input role body))
body_news Q h a m Slave (Announce origin utc p1 quality p2 gm steps source suffix) = a suffix
body_news Q h a m Slave (Signal target (Some message)) = m message
body_news Q h a m Slave (Signal target None) = h
body_news Q h a m Slave (Sync origin) = h
body_news Q h a m Slave (DelayReq origin) = h
body_news Q h a m Slave (FollowUp precise) = h
body_news Q h a m Slave (DelayResp receive requesting) = h
body_news Q h a m Master (Announce origin utc p1 quality p2 gm steps source suffix) = h
body_news Q h a m Master (Signal target (Some message)) = m message
body_news Q h a m Master (Signal target None) = h
body_news Q h a m Master (Sync origin) = h
body_news Q h a m Master (DelayReq origin) = h
body_news Q h a m Master (FollowUp precise) = h
body_news Q h a m Master (DelayResp receive requesting) = h

unless_news : (Q : LinkNews → Type 0) → Q Nothing → ((a : Option ℕ) → Q (Handed (link_in.Announce a))) → ((m : WrMsg) → Q (Handed (link_in.Msg m))) → (reason : Option Reason) (role : Role) (body : Body) →
    Q (news_of (input_unless reason (link_input role body)))
unless_news Q h a m None role body = body_news Q h a m role body
unless_news Q h a m (Some reason) role body = h

pub any_frame : (Q : LinkNews → Type 0) → Q Nothing → ((a : Option ℕ) → Q (Handed (link_in.Announce a))) → ((m : WrMsg) → Q (Handed (link_in.Msg m))) →
    (fixed : NodeSetting) (n : NodeAt) (p : ℕ) (says : Result PtpMsg FrameFault) → Q (frame_news fixed n p says)
any_frame Q h a m fixed n p (Err fault) = h
any_frame Q h a m fixed n p (Ok message) =
    unless_news Q h a m (early_reason (setting_of fixed.set p) (link_at fixed.set n p) message) (setting_of fixed.set p).ds.role message.body

input_ticks : (fixed : NodeSetting) (n : NodeAt) (says : Result PtpMsg FrameFault) (input : Input) (p : ℕ) → TicksFit (news_at fixed n input says p) input
input_ticks fixed n says Tick p = λ time q at. refl
input_ticks fixed n says (Sample number base bits) p = λ time q at. refl
input_ticks fixed n says (Frame x octets raw sample) p =
    ticks_where (p == x) (frame_news fixed n x says) (Frame x octets raw sample)
    (any_frame (λ news. TicksFit news (Frame x octets raw sample)) (λ time q at. refl) (λ a time q at. refl) (λ m time q at. refl) fixed n x says) (λ time q at. refl)
input_ticks fixed n says (Sent x seq delay stamp) p = λ time q at. refl
input_ticks fixed n says (Carrier x true own_module) p =
    ticks_where (p == x) (Handed (link_in.CarrierUp own_module)) (Carrier x true own_module) (λ time q at. refl) (λ time q at. refl)
input_ticks fixed n says (Carrier x false own_module) p =
    ticks_where (p == x) (Handed link_in.CarrierDown) (Carrier x false own_module) (λ time q at. refl) (λ time q at. refl)
input_ticks fixed n says Reset p = λ time q at. refl

-- What a port puts out

abbrev sent_after : WorldAt → List PtpMsg → List Sending → List Message
sent_after v ms sent = link_sent (put_out (map (sending v) ms) sent)

-- only Signaling messages count
plain_sent : (v : WorldAt) (m : PtpMsg) (body : Body) (b : Bool) (sent : List Message) → is_signal body ≡ false → sent_with (in_body body v.time) sent ≡ sent
plain_sent v m (Signal target message) b sent e = absurd (let f : true ≡ false = e in cc)
plain_sent v m (Sync origin) b sent e = refl
plain_sent v m (DelayReq origin) b sent e = refl
plain_sent v m (FollowUp precise) b sent e = refl
plain_sent v m (DelayResp receive requesting) b sent e = refl
plain_sent v m (Announce origin utc p1 quality p2 gm steps source suffix) b sent e = refl

same_sent : (v : WorldAt) (ms : List PtpMsg) (xs ys : List Sending) → link_sent xs ≡ link_sent ys → sent_after v ms xs ≡ sent_after v ms ys
same_sent v [] xs ys e = e
same_sent v (m ∷ ms) xs ys e = same_sent v ms (sending v m ∷ xs) (sending v m ∷ ys) (ap (sent_with (in_body m.body v.time)) e)

signals_by : (v : WorldAt) (m : PtpMsg) (ms : List PtpMsg) (sent : List Sending) (b : Bool) → is_signal m.body ≡ b →
    ((xs : List Sending) → sent_after v ms xs ≡ sent_after v (signals_in ms) xs) →
    sent_after v (m ∷ ms) sent ≡ sent_after v (if b then m ∷ signals_in ms else signals_in ms) sent
signals_by v m ms sent true e h = h (sending v m ∷ sent)
signals_by v m ms sent false e h =
    h (sending v m ∷ sent) ∙ same_sent v (signals_in ms) (sending v m ∷ sent) sent (plain_sent v m m.body false (link_sent sent) e)

signals_sent : (v : WorldAt) (ms : List PtpMsg) (sent : List Sending) → sent_after v ms sent ≡ sent_after v (signals_in ms) sent
signals_sent v [] sent = refl
signals_sent v (m ∷ ms) sent = signals_by v m ms sent (is_signal m.body) refl (signals_sent v ms)

stamped_sent : (v : WorldAt) (set : PortSetting) (seq : ℕ) (ws : List WrMsg) (sent : List Sending) →
    sent_after v (signals_of set seq ws) sent ≡ stamped v.time ws (link_sent sent)
stamped_sent v set seq [] sent = refl
stamped_sent v set seq (m ∷ ws) sent = stamped_sent v set (next_id seq) ws (sending v (signal_of set seq m) ∷ sent)

-- The port that is given an input

abbrev pub told_end : Setting → WorldAt → Given → Step → ℕ → Role → Option End → EndAt
told_end s v g step k r o =
    if is_of g.to o then option_map_or (λ end. end_given s v g step k r end.port) o (v.end_at k r) else v.end_at k r

abbrev pub one_of : Bool → EndAt → EndAt → EndAt
one_of b e f = if b then e else f

pub port_given : (links : StepGivesLinks) (signals : SignalsAreOfLink) (s : Setting) (y : ℤ) (v : WorldAt) (g : Given) (k : ℕ) (r : Role) (end : End) →
    end_at s k r ≡ Some end → end.node ≡ g.to →
    port_at s (gives s y v g) k r end ≡ port_by_news v.time (port_at s v k r end) g.at (news_at (node_setting_of s g.to) (v.node g.to) g.input g.says end.port)
port_given links signals s y v g k r end is e =
    let n : ℕ = end.node in
    let p : ℕ = end.port in
    let step : Step = step_of s y v g in
    let news : LinkNews = news_at (node_setting_of s g.to) (v.node g.to) g.input g.says p in
    let q : Port = port_at s v k r end in
    let set : PortSetting = setting_of (s.set g.to) p in
    let here : (n == g.to) ≡ true = ap (λ x. x == g.to) e ∙ eq_self g.to in
    let old : link_at (s.set n) (v.node n) p ≡ link_at (s.set g.to) (v.node g.to) p = ap (λ x. link_at (s.set x) (v.node x) p) e in
    let law : link_at (s.set g.to) step.node p ≡ link_after set q.link news = links (node_setting_of s g.to) (taken_of y g) (v.node g.to) p ∙ ap (λ l. link_after set l news) (sym old) in
    let at_end : (gives s y v g).end_at k r ≡ end_given s v g step k r p =
    ap (told_end s v g step k r) is ∙ ap (λ b. one_of b (end_given s v g step k r p) (v.end_at k r)) here in
    port_is (port_at s (gives s y v g) k r end) (port_by_news v.time q g.at news)
    (ap (λ b. link_at (s.set n) (if b then step.node else v.node n) p) here
    ∙ ap (λ x. link_at (s.set x) step.node p) e
    ∙ law
    ∙ link_by_news v.time set q g.at news (ap (λ l. l.role) old ∙ link_role s v g.to p) (ap (λ l. l.set) old ∙ link_set s v g.to p))
    (ap (λ b. (if b then clock_told s v g step.cycles (v.clock n) else v.clock n).ticked) here
    ∙ input_ticks (node_setting_of s g.to) (v.node g.to) g.says g.input p v.time q g.at)
    (ap (λ (z : EndAt). z.marks) at_end
    ∙ ap (λ l. marked v.time (link_at (s.set g.to) (v.node g.to) p).state l.state (mover_of g g.input) q.marks) law
    ∙ ap (λ l. marked v.time l.state (link_after set q.link news).state (mover_of g g.input) q.marks) (sym old)
    ∙ marks_by_news v.time set q g.at news (mover_of g g.input) (input_fits (node_setting_of s g.to) (v.node g.to) g g.input p))
    (ap (λ (z : EndAt). link_sent z.sent) at_end
    ∙ signals_sent v (step.sends p) (v.end_at k r).sent
    ∙ ap (λ ms. sent_after v ms (v.end_at k r).sent) (signals (node_setting_of s g.to) (taken_of y g) (v.node g.to) p)
    ∙ stamped_sent v set _ (link_sends (link_at (s.set g.to) (v.node g.to) p) news) (v.end_at k r).sent
    ∙ ap (λ l. stamped v.time (link_sends l news) q.sent) (sym old)
    ∙ sent_by_news v.time q g.at news)

-- any other port
pub port_other : (s : Setting) (y : ℤ) (v : WorldAt) (g : Given) (k : ℕ) (r : Role) (end : End) →
    end_at s k r ≡ Some end → (end.node ≡ g.to → ⊥) → port_at s (gives s y v g) k r end ≡ port_at s v k r end
port_other s y v g k r end is out =
    let n : ℕ = end.node in
    let p : ℕ = end.port in
    let step : Step = step_of s y v g in
    let away : (n == g.to) ≡ false = not_equal n g.to out in
    let at_end : (gives s y v g).end_at k r ≡ v.end_at k r =
    ap (told_end s v g step k r) is ∙ ap (λ b. one_of b (end_given s v g step k r p) (v.end_at k r)) away in
    port_is (port_at s (gives s y v g) k r end) (port_at s v k r end)
    (ap (λ b. link_at (s.set n) (if b then step.node else v.node n) p) away)
    (ap (λ b. (if b then clock_told s v g step.cycles (v.clock n) else v.clock n).ticked) away)
    (ap (λ (z : EndAt). z.marks) at_end)
    (ap (λ (z : EndAt). link_sent z.sent) at_end)
