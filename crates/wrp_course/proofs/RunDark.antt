-- A port without a carrier stays without one, unless a carrier comes to it.
use Rattle.std.proofs.Common.{◌≡◌, ◌∙◌, inl, inr, refl, ap, sym, subst, ℕ, ◌==◌, ℤ, pos, Bool, true, false, if◌then◌else◌, None, Some, Result}
use Rattle.std.proofs.lemmas.Bool.Decides.{eqb_tells}
use Rattle.wrp_base.specs.declared.link.Role.{Role}
use Rattle.wrp_base.specs.declared.message.PtpMsg.{PtpMsg}
use Rattle.wrp_network.specs.Network.{End}
use Rattle.wrp_base.proofs.Naturals.{eq_self}
use Rattle.wrp_frame.specs.declared.fault.FrameFault.{FrameFault}
use Rattle.wrp_handshake_laws.specs.Ends.{IsNoCarrier, Port}
use Rattle.wrp_link.specs.declared.interface.LinkIn.{LinkIn}
use Rattle.wrp_link.specs.declared.interface.LinkIn.TheVariants as link_in
use Rattle.wrp_link.specs.LinkAt.{LinkAt}
use Rattle.wrp_link.specs.Rows.{CarrierGoes, announce_row, message_row, tick_row, under}
use Rattle.wrp_link.specs.Table.{after, by_row}
use Rattle.wrp_node.specs.declared.interface.Input.{Input}
use Rattle.wrp_node.specs.declared.interface.Input.TheVariants.{Tick, Sample, Frame, Sent, Carrier, Reset}
use Rattle.wrp_node.specs.LinkNews.{LinkNews, Nothing, Given as Handed, Renewed, frame_news, news_at, StepGivesLinks}
use Rattle.wrp_node.specs.NodeAt.{NodeSetting, NodeAt}
use Rattle.wrp_node.specs.Sends.{SignalsAreOfLink}
use Rattle.wrp_course.specs.Given.{Given, given_plain, gives}
use Rattle.wrp_course.specs.LinkEnds.{port_at}
use Rattle.wrp_course.specs.Setting.{Setting, end_at, node_setting_of}
use Rattle.wrp_course.specs.WorldAt.{WorldAt}
use Rattle.wrp_course.proofs.RunGiven.{IsFair, IsFairInput}
use Rattle.wrp_course.proofs.RunPorts.{any_frame, port_by_news, port_given, port_other}

-- news with which no carrier comes
abbrev NoLight : LinkNews → Type 0
NoLight Nothing = Unit {0}
NoLight (Handed input) = IsNoCarrier input
NoLight Renewed = Unit {0}

after_dark : (l : LinkAt) (input : LinkIn) → IsNoCarrier input → l.carrier ≡ false → (after l input).carrier ≡ false
after_dark l (link_in.Msg message) h e = subst (λ b. (by_row l (under b (message_row l l.role message))).carrier ≡ false) (sym e) e
after_dark l (link_in.Announce suffix) h e = subst (λ b. (by_row l (under b (announce_row l l.role l.state suffix))).carrier ≡ false) (sym e) e
after_dark l (link_in.Tick locked) h e = subst (λ b. (by_row l (under b (tick_row l l.state locked))).carrier ≡ false) (sym e) e
after_dark l link_in.CarrierDown h e = subst (λ b. (by_row l (under b CarrierGoes)).carrier ≡ false) (sym e) e
after_dark l (link_in.CarrierUp own_module) h e = absurd h

news_dark : (time : ℤ) (q : Port) (at : ℤ) (news : LinkNews) → NoLight news → q.link.carrier ≡ false → (port_by_news time q at news).link.carrier ≡ false
news_dark time q at Nothing h e = e
news_dark time q at (Handed input) h e = after_dark q.link input h e
news_dark time q at Renewed h e = refl

-- inputs with which no carrier comes
abbrev pub IsQuiet : Input → Type 0
IsQuiet (Carrier p true own_module) = ⊥
IsQuiet _ = Unit {0}

light_where : (b : Bool) (news : LinkNews) → NoLight news → NoLight (if b then news else Nothing)
light_where true news h = h
light_where false news h = tt

input_light : (fixed : NodeSetting) (n : NodeAt) (says : Result PtpMsg FrameFault) (input : Input) (p : ℕ) → IsQuiet input → NoLight (news_at fixed n input says p)
input_light fixed n says Tick p h = tt
input_light fixed n says (Sample number base bits) p h = tt
input_light fixed n says (Frame x octets raw sample) p h = light_where (p == x) (frame_news fixed n x says) (any_frame NoLight tt (λ a. tt) (λ m. tt) fixed n x says)
input_light fixed n says (Sent x seq delay stamp) p h = tt
input_light fixed n says (Carrier x true own_module) p h = absurd h
input_light fixed n says (Carrier x false own_module) p h = light_where (p == x) (Handed link_in.CarrierDown) tt
input_light fixed n says Reset p h = tt

pub given_dark : StepGivesLinks → SignalsAreOfLink → (s : Setting) (y : ℤ) (v : WorldAt) (g : Given) (k : ℕ) (r : Role) (end : End) → end_at s k r ≡ Some end → IsQuiet g.input →
    (port_at s v k r end).link.carrier ≡ false → (port_at s (gives s y v g) k r end).link.carrier ≡ false
given_dark links signals s y v g k r end is h e =
    elim (eqb_tells end.node g.to) [
      | inl x ↦
          ap (λ (q : Port). q.link.carrier) (port_given links signals s y v g k r end is x.1)
          ∙ news_dark v.time (port_at s v k r end) g.at (news_at (node_setting_of s g.to) (v.node g.to) g.input g.says end.port)
          (input_light (node_setting_of s g.to) (v.node g.to) g.says g.input end.port h) e
      | inr x ↦ ap (λ (q : Port). q.link.carrier) (port_other s y v g k r end is x.1) ∙ e
    ]

quiet_input : (s : Setting) (v : WorldAt) (g : Given) (input : Input) → IsFairInput s v g input → IsQuiet input
quiet_input s v g Tick f = tt
quiet_input s v g (Sample number base bits) f = tt
quiet_input s v g (Frame x octets raw sample) f = tt
quiet_input s v g (Sent x seq delay stamp) f = tt
quiet_input s v g (Carrier x true own_module) f = absurd f
quiet_input s v g (Carrier x false own_module) f = tt
quiet_input s v g Reset f = tt

pub fair_quiet : (s : Setting) (v : WorldAt) (g : Given) → IsFair s v g → IsQuiet g.input
fair_quiet s v g f = quiet_input s v g g.input f

-- a carrier that goes

abbrev pub goes_to : End → Given
goes_to end = given_plain end.node (Carrier end.port false None)

down_by : (l : LinkAt) (b : Bool) → l.carrier ≡ b → (by_row l (under l.carrier CarrierGoes)).carrier ≡ false
down_by l true e = ap (λ b. (by_row l (under b CarrierGoes)).carrier) e
down_by l false e = ap (λ b. (by_row l (under b CarrierGoes)).carrier) e ∙ e

pub gone_here : StepGivesLinks → SignalsAreOfLink → (s : Setting) (y : ℤ) (v : WorldAt) (k : ℕ) (r : Role) (end : End) → end_at s k r ≡ Some end →
    (port_at s (gives s y v (goes_to end)) k r end).link.carrier ≡ false
gone_here links signals s y v k r end is =
    ap (λ (q : Port). q.link.carrier)
    (port_given links signals s y v (goes_to end) k r end is refl
    ∙ ap (λ b. port_by_news v.time (port_at s v k r end) (pos 0) (if b then Handed link_in.CarrierDown else Nothing)) (eq_self end.port))
    ∙ down_by (port_at s v k r end).link (port_at s v k r end).link.carrier refl
