-- The marks of each port lead to its state, and so its verdict is Ok in WR_LINK_ON and NotOn elsewhere.
use Rattle.std.proofs.Common.{◌≡◌, ◌∙◌, sym, subst, ℕ, List, [], ◌∷◌, Some}
use Rattle.wrp_base.specs.declared.link.LinkState.TheVariants.{LinkOn}
use Rattle.wrp_base.specs.declared.link.Mark.{Mark}
use Rattle.wrp_base.specs.declared.link.Role.{Role}
use Rattle.wrp_base.specs.declared.link.Role.TheVariants.{Master, Slave}
use Rattle.wrp_network.specs.declared.network.LinkCfg.{LinkCfg}
use Rattle.wrp_network.specs.Network.{End}
use Rattle.wrp_bounds.specs.Times.{shortest_tick, frame_life}
use Rattle.wrp_check.specs.Judged.{LeadsOn}
use Rattle.wrp_check.specs.Laws.{state_after}
use Rattle.wrp_handshake_laws.specs.Ends.{CanBe}
use Rattle.wrp_handshake_laws.specs.Laws.{LeadsTo, MarksAreAHistory}
use Rattle.wrp_node.specs.NodeAt.{link_at}
use Rattle.wrp_course.specs.declared.place.Place.{Place}
use Rattle.wrp_course.specs.Judged.{PortsAreJudged}
use Rattle.wrp_course.specs.LinkEnds.{ends_at, port_at}
use Rattle.wrp_course.specs.Run.{Happened, world_after}
use Rattle.wrp_course.specs.Runs.{IsRun}
use Rattle.wrp_course.specs.SameHandshake.{LinkOnInTheSameHandshake, LinksCanBe, state_at}
use Rattle.wrp_course.specs.Setting.{Setting, end_of, place_of}
use Rattle.wrp_course.specs.WorldAt.{WorldAt}
use Rattle.wrp_course.proofs.RunNetwork.{LinkEnd, end_with, place_end}
use Rattle.wrp_course.proofs.WordReports.{idle_on}

-- marks that lead to WR_LINK_ON end there, and others do not
leads_on : (marks : List Mark) → state_after marks ≡ LinkOn → LeadsOn marks
leads_on [] e = absurd (idle_on e)
leads_on (mark ∷ marks) e = e

on_leads : (marks : List Mark) → LeadsOn marks → state_after marks ≡ LinkOn
on_leads [] h = absurd h
on_leads (mark ∷ marks) h = h

-- the marks at an end of a link that can be
led_at : MarksAreAHistory → (s : Setting) (w : WorldAt) (k : ℕ) (r : Role) (link : LinkCfg) → CanBe (frame_life s.cfg) (shortest_tick s.cfg) (ends_at s w k link) →
    LeadsTo (port_at s w k r (end_of r link)).link.state (w.end_at k r).marks
led_at law s w k Master link can = law (frame_life s.cfg) (shortest_tick s.cfg) (ends_at s w k link) Master can
led_at law s w k Slave link can = law (frame_life s.cfg) (shortest_tick s.cfg) (ends_at s w k link) Slave can

-- the marks of a port of a node
port_led : LinksCanBe → MarksAreAHistory → (s : Setting) (events : List Happened) (n p : ℕ) (place : Place) → IsRun s events → place_of s n p ≡ Some place →
    LeadsTo (state_at s (world_after s events) n p) ((world_after s events).end_at place.link place.role).marks
port_led can law s events n p place run at =
    let w : WorldAt = world_after s events in
    let it : LinkEnd s place.link place.role (end_with n p) = place_end s n p place at in
    subst (λ (end : End). LeadsTo (link_at (s.set end.node) (w.node end.node) end.port).state (w.end_at place.link place.role).marks) it.end_is
    (led_at law s w place.link place.role it.link (can s events place.link it.link run it.there))

pub ports_are_judged : LinksCanBe → LinkOnInTheSameHandshake → MarksAreAHistory → PortsAreJudged
ports_are_judged can handshake law s events run n p place at =
    let marks : List Mark = ((world_after s events).end_at place.link place.role).marks in
    let led : LeadsTo (state_at s (world_after s events) n p) marks = port_led can law s events n p place run at in
    record {
      marks = led;
      on = λ on. (leads_on marks (led.leads ∙ on), handshake s events n p place run at on);
      elsewhere = λ off on. off (sym led.leads ∙ on_leads marks on);
    }
