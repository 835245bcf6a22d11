-- A port whose lease was renewed, and not lost since, has its carrier.
use Rattle.std.proofs.Common.{◌≡◌, ◌⊎◌, inl, inr, ◌∙◌, refl, ap, ℕ, ◌+◌, ◌==◌, Bool, true, false, if◌then◌else◌, List, [], ◌∷◌, Option, None, Some, option_map}
use Rattle.std.specs.Option.{is_none}
use Rattle.std.proofs.lemmas.Bool.{and_parts, false≢true}
use Rattle.std.proofs.lemmas.Option.{none-some}
use Rattle.wrp_base.specs.declared.link.Role.{Role}
use Rattle.wrp_base.specs.declared.link.Role.TheVariants.{Master, Slave}
use Rattle.wrp_base.specs.declared.message.Body.{Body}
use Rattle.wrp_base.specs.declared.message.Body.TheVariants.{Signal, Announce}
use Rattle.wrp_base.specs.declared.message.PtpMsg.{PtpMsg}
use Rattle.wrp_base.specs.Message.{is_port}
use Rattle.wrp_data.specs.declared.reason.Reason.{Reason}
use Rattle.wrp_data.specs.declared.reason.Reason.TheVariants.{Domain, Stranger, NotForUs, Quiet}
use Rattle.wrp_handshake_laws.proofs.RowFits.{RowFits, row_fits}
use Rattle.wrp_link.specs.declared.interface.LinkIn.{LinkIn}
use Rattle.wrp_link.specs.declared.interface.LinkIn.TheVariants as link
use Rattle.wrp_link.specs.LinkAt.{LinkAt, new_link}
use Rattle.wrp_link.specs.Rows.{Row, NoRow, Stays, Moves, Keeps, Resends, Fails, Waits, Counts, CarrierComes, CarrierGoes, row_of}
use Rattle.wrp_link.specs.Table.{by_row}
use Rattle.wrp_link.proofs.Orders.{IsOrdered, new_ordered, run_ordered}
use Rattle.wrp_port.specs.declared.interface.PortIn.{PortIn}
use Rattle.wrp_port.specs.declared.interface.PortIn.TheVariants.{Msg, Lease, Tick, Sent, Sample, Chain, Carrier, Reset}
use Rattle.wrp_port.specs.declared.setting.Setting.{Setting}
use Rattle.wrp_port.specs.Hearing.{early_reason, is_open, is_addressed, link_input, renews}
use Rattle.wrp_port.specs.History.{input_unless, link_by, link_inputs, link_of, renews_at, since_renewal, to_link, with_input, zero_where}
use Rattle.wrp_course.proofs.RunLinks.{counted_carrier}
use Rattle.wrp_bound_laws.proofs.Schedules.Resting.{open_has_carrier}

-- Inputs of a link with which no carrier goes

lit_row : (l : LinkAt) (input : LinkIn) (row : Row) → RowFits l.role l.state l input row → (input ≡ link.CarrierDown → ⊥) → l.carrier ≡ true → (by_row l row).carrier ≡ true
lit_row l input NoRow f out e = e
lit_row l input (Stays sends) f out e = e
lit_row l input (Moves next sends) f out e = e
lit_row l input (Keeps tx rx next sends) f out e = e
lit_row l input (Resends sends) f out e = e
lit_row l input Fails f out e = e
lit_row l input Waits f out e = e
lit_row l input Counts f out e = counted_carrier l l.state ∙ e
lit_row l input (CarrierComes own_module) f out e = refl
lit_row l input CarrierGoes f out e = absurd (out f)

ordered : (set : Setting) (told : List PortIn) → IsOrdered (link_of set told)
ordered set told = run_ordered (new_link set.ds.role set.link) (link_inputs set told) (new_ordered set.ds.role set.link)

-- one input more, if there is one
lit_on : (set : Setting) (told : List PortIn) (o : Option LinkIn) → (o ≡ Some link.CarrierDown → ⊥) → (link_of set told).carrier ≡ true → (link_by set (with_input o (link_inputs set told))).carrier ≡ true
lit_on set told None out e = e
lit_on set told (Some input) out e =
    let l : LinkAt = link_of set told in
    lit_row l input (row_of l input) (row_fits l input (ordered set told).belongs) (λ is. out (ap (λ (i : LinkIn). Some i) is)) e

-- A message that renews the lease

heard_by : (domain source addressed takes : Bool) → is_none (if domain then (if source then (if addressed then (if takes then None else Some Quiet) else Some NotForUs) else Some Stranger) else Some Domain) ≡ true → (source ≡ true) × (takes ≡ true)
heard_by true true true true e = (refl, refl)
heard_by true true true false e = absurd (false≢true e)
heard_by true true false takes e = absurd (false≢true e)
heard_by true false addressed takes e = absurd (false≢true e)
heard_by false source addressed takes e = absurd (false≢true e)

-- it came from the peer of a port that takes messages, and renews the lease of that role
pub record Renews (set : Setting) (l : LinkAt) (m : PtpMsg) : Type 0 where
  pub of_peer : is_port m.head.source set.ds.peer ≡ true
  pub takes : is_open l ≡ true
  pub renews : renews set.ds.role m.head m.body ≡ true

pub renewing : (set : Setting) (l : LinkAt) (m : PtpMsg) → renews_at set l m ≡ true → Renews set l m
renewing set l m e =
    let it : (is_none (early_reason set l m) ≡ true) × (renews set.ds.role m.head m.body ≡ true) = and_parts (is_none (early_reason set l m)) (renews set.ds.role m.head m.body) e in
    let heard : (is_port m.head.source set.ds.peer ≡ true) × (is_open l ≡ true) =
    heard_by (m.head.domain == set.own.domain) (is_port m.head.source set.ds.peer) (is_addressed set.ds m.body) (is_open l) it.0 in
    record { of_peer = heard.0; takes = heard.1; renews = it.1 }

-- what a port was given

no_loss : (set : Setting) (role : Role) (reason : Option Reason) (body : Body) → input_unless reason (link_input role body) ≡ Some link.CarrierDown → ⊥
no_loss set role (Some reason) body e = cc
no_loss set Slave None (Announce origin utc p1 quality p2 gm steps source suffix) e = cc
no_loss set Slave None (Signal target (Some m)) e = cc
no_loss set Slave None (Signal target None) e = cc
no_loss set Slave None _ e = cc
no_loss set Master None (Signal target (Some m)) e = cc
no_loss set Master None (Signal target None) e = cc
no_loss set Master None _ e = cc

turned_some : (o : Option ℕ) (turns : ℕ) → option_map (λ n. n + 1) o ≡ Some turns → (u : ℕ) × (o ≡ Some u)
turned_some None turns e = absurd (none-some turns e)
turned_some (Some u) turns e = (u, refl)

pub renewed_or_not : (b : Bool) (o : Option ℕ) (turns : ℕ) → zero_where b o ≡ Some turns → (b ≡ true) ⊎ (o ≡ Some turns)
renewed_or_not true o turns e = inl refl
renewed_or_not false o turns e = inr e

pub renewed_has_carrier : (set : Setting) (told : List PortIn) (turns : ℕ) → since_renewal set told ≡ Some turns → (link_of set told).carrier ≡ true
renewed_has_carrier set [] turns e = absurd (none-some turns e)
renewed_has_carrier set (Reset ∷ told) turns e = absurd (none-some turns e)
renewed_has_carrier set (Carrier false own_module ∷ told) turns e = absurd (none-some turns e)
renewed_has_carrier set (Carrier true own_module ∷ told) turns e = refl
renewed_has_carrier set (Lease ∷ told) turns e =
    let it : (u : ℕ) × (since_renewal set told ≡ Some u) = turned_some (since_renewal set told) turns e in
    renewed_has_carrier set told it.0 it.1
renewed_has_carrier set (Msg m stamp tick ∷ told) turns e =
    let lit : (link_of set told).carrier ≡ true =
    elim (renewed_or_not (renews_at set (link_of set told) m) (since_renewal set told) turns e) [
      | inl now ↦ open_has_carrier (link_of set told) (renewing set (link_of set told) m now).takes
      | inr before ↦ renewed_has_carrier set told turns before
    ] in
    lit_on set told (to_link set (link_of set told) (Msg m stamp tick)) (no_loss set set.ds.role (early_reason set (link_of set told) m) m.body) lit
renewed_has_carrier set (Tick locked certain ∷ told) turns e = lit_on set told (Some (link.Tick locked)) (λ x. cc) (renewed_has_carrier set told turns e)
renewed_has_carrier set (Sent delay seq stamp tick ∷ told) turns e = renewed_has_carrier set told turns e
renewed_has_carrier set (Sample number phase ∷ told) turns e = renewed_has_carrier set told turns e
renewed_has_carrier set (Chain news ∷ told) turns e = renewed_has_carrier set told turns e
