-- A world that stands for the run of its events: its measurements have the answers of the links' laws, and one more
-- event makes the run longer by one.
use Rattle.std.proofs.Common.{◌≡◌, ◌∙◌, refl, ap, sym, subst, ℕ, ℤ, pos, ◌<◌, ◌≤◌, ◌+◌, Bool, List, [], ◌∷◌, ◌++◌, flat_map, map, length, Option, None, Some, IfSome, Ok, Err, arith}
use Rattle.std.specs.Prelude.{slice_get}
use Rattle.wrp_network.specs.declared.configuration.NetCfg.{NetCfg}
use Rattle.wrp_base.specs.declared.fault.TraceFault.{TraceFault}
use Rattle.wrp_network.specs.Network.{IsTree, name_at, node_count}
use Rattle.wrp_base.proofs.Lists.{has_item}
use Rattle.wrp_config.specs.declared.network.Network.{Network}
use Rattle.wrp_node.specs.Control.{law_in}
use Rattle.wrp_bounds.specs.Bounds.{path_of}
use Rattle.wrp_lines.specs.Lines.{output_line_of}
use Rattle.wrp_node.specs.NodeAt.{NodeSetting, Taken as TakenInput, NodeAt}
use Rattle.wrp_node.specs.declared.interface.Output.{Output}
use Rattle.wrp_node.specs.NodeRun.{node_after}
use Rattle.wrp_node.specs.StandsFor.{NodeOf, StandsFor as NodeStandsFor}
use Rattle.wrp_trace.specs.Events.{event_read, bare}
use Rattle.wrp_fields.specs.Reading.{IsReading}
use Rattle.wrp_course.specs.Checks.{AllHold, told_of}
use Rattle.wrp_course.specs.declared.event.Event.{Event}
use Rattle.wrp_course.specs.declared.node_out.NodeOut.{NodeOut}
use Rattle.wrp_world.specs.declared.outcome.Refused.TheVariants.{Broken}
use Rattle.wrp_course.specs.Given.{Given, given_by, gives, gives_all, world_step}
use Rattle.wrp_course.specs.Moved.{moved}
use Rattle.wrp_course.specs.Run.{Happened, world_after, steps_at}
use Rattle.wrp_course.specs.Setting.{Setting, node_setting_of}
use Rattle.wrp_world.specs.StandsFor.{IsValid, StandsFor, WorldOf}
use Rattle.wrp_world.specs.Step.{IsRefusal, StaysSo, Stepped, step_seen}
use Rattle.wrp_course.specs.WorldAt.{WorldAt}
use Rattle.wrp_records.specs.declared.status.Status.{Status}
use Rattle.wrp_records.specs.ByLines.{of_lines}
use Rattle.wrp_records.specs.LineMeaning.{bars_none, meaning_by}
use Rattle.wrp_records.specs.Passages.{Passage, Passes}
use Rattle.wrp_audit.specs.declared.audit.AuditedNetwork.{AuditedNetwork}
use Rattle.wrp_records.specs.declared.machine.Refusal.{Refusal}
use Rattle.wrp_records.specs.declared.machine.Refusal.TheVariants as refusals
use Rattle.wrp_records.specs.declared.machine.Taken.{Taken}
use Rattle.wrp_records.specs.declared.machine.Taken.TheVariants as taken
use Rattle.wrp_audit.specs.Audited.{AllHeard, IsAudit}
use Rattle.wrp_network_world.specs.NetworkSetting.{setting_in}
use Rattle.wrp_network_world.specs.LawsFit.{HasLawOf}
use Rattle.wrp_audit.specs.AuditLaws.{OneAudit}
use Rattle.wrp_audit.specs.Audits.{Breaks}
use Rattle.wrp_audit.specs.AuditStands.{Broke, CanAudit, Happens, HasAudited, Took, line_by, lines_by}
use Rattle.wrp_audit.specs.AuditText.{step_lines}
use Rattle.wrp_network_world.specs.Counts.{all_counts}
use Rattle.wrp_network_world.specs.Bounds.{AreBounds}
use Rattle.wrp_audit.specs.Broken.{broken_line}
use Rattle.wrp_records.specs.Refusals.{RefusesLine, bad_trace_line}
use Rattle.wrp_records.proofs.LineParts.{read_fault, refused_line}
use Rattle.wrp_audit.specs.Audits.{meaning_for}
use Rattle.wrp_audit.proofs.OneAudit.{one_line}
use Rattle.wrp_audit.proofs.PlainEvents.{same_checks, same_said, same_steps, same_world}
use Rattle.wrp_network_world.proofs.WorldRuns.{answered, laws_stay, made_after}

-- Frames are read as their octets say

all_heard : {F : Type 0} {post : F → ℤ → ℤ → Type 0} (net : Network) (w : WorldAt) (world : WorldOf F) → length world.nodes ≡ node_count net.cfg
    → StandsFor post (setting_in net) w world → AllHeard (setting_in net) w
all_heard {F} {post} net w world counted stands n below =
    let item = has_item world.nodes n (omega (arith, below, counted)) in
    (stands.nodes n item.0 item.1).stands.said

-- One more event

-- the run with it
one_run_more : {F : Type 0} {post : F → ℤ → ℤ → Type 0} (net : Network) (emit : Option ℕ) (lines : List (List ℕ)) (line text : List ℕ) (events : List Happened)
    (e : Event) (new : WorldOf F)
    → IsTree net.cfg → length new.nodes ≡ node_count net.cfg → HasLawOf post (setting_in net) new → IsAudit (setting_in net) lines events
    → event_read net.cfg line ≡ Ok e
    → (took : Took post emit (setting_in net) (world_after (setting_in net) events) e new text)
    → IsAudit (setting_in net) (lines ++ line ∷ []) (record { event = e; says = took.says; answer = took.answer } ∷ events)
one_run_more {F} {post} net emit lines line text events e new tree counted laws audit reads took =
    let h : Happened = record { event = e; says = took.says; answer = took.answer } in
    record {
      are = one_line (setting_in net) lines events line h audit.are reads;
      run = record {
        accepted = (took.accepted, audit.run.accepted);
        said = (took.said, audit.run.said);
        answered =
            answered {post = post} net (world_after (setting_in net) (h ∷ events)) new tree counted took.stands laws (made_after (setting_in net) (h ∷ events));
      };
      heard = all_heard {post = post} net (world_after (setting_in net) (h ∷ events)) new counted took.stands;
    }

-- what is written for it
wrote_more : (emit : Option ℕ) (s : Setting) (events : List Happened) (h : Happened) (text : List ℕ)
    → text ≡ flat_map (line_by emit s (world_after s (h ∷ events))) (steps_at s events h) → lines_by emit s events ++ text ≡ lines_by emit s (h ∷ events)
wrote_more None s events h text wrote = ap (λ (l : List ℕ). lines_by None s events ++ l) wrote
wrote_more (Some n) s events h text wrote = ap (λ (l : List ℕ). lines_by (Some n) s events ++ l) wrote

-- a text that the lines write is the text of their run
same_text : OneAudit → (emit : Option ℕ) (s : Setting) (lines : List (List ℕ)) (events : List Happened) (before : List ℕ) → IsAudit s lines events
    → (meaning_for emit s).accepts lines before → before ≡ lines_by emit s events
same_text one None s lines events before audit p = p.2 ∙ (one s lines p.0 events p.1 audit).lines
same_text one (Some n) s lines events before audit p = p.2 ∙ (one s lines p.0 events p.1 audit).given n

accepts_by : (emit : Option ℕ) (s : Setting) (lines : List (List ℕ)) (events : List Happened) (text : List ℕ) → IsAudit s lines events
    → text ≡ lines_by emit s events
    → (meaning_for emit s).accepts lines text
accepts_by None s lines events text audit is = (events, audit, is)
accepts_by (Some n) s lines events text audit is = (events, audit, is)

pub goes_on : {F : Type 0} {pre : F → ℤ → Type 0} {post : F → ℤ → ℤ → Type 0} → OneAudit
    → (held now : AuditedNetwork F) (lines : List (List ℕ)) (line before text : List ℕ) (e : Event)
    → event_read held.world.plant.net.cfg line ≡ Ok e → now.world.plant.net ≡ held.world.plant.net → CanAudit pre post now
    → ((w : WorldAt) → StandsFor post (setting_in held.world.plant.net) w held.world → Took post held.emit (setting_in held.world.plant.net) w e now.world text)
    → HasAudited post held lines → (meaning_for held.emit (setting_in held.world.plant.net)).accepts lines before
    → HasAudited post now (lines ++ line ∷ []) × (meaning_for held.emit (setting_in held.world.plant.net)).accepts (lines ++ line ∷ []) (before ++ text)
goes_on {F} {pre} {post} one held now lines line before text e reads kept ready takes taken accepted =
    let net : Network = held.world.plant.net in
    let s : Setting = setting_in net in
    let events : List Happened = taken.0 in
    let took : Took post held.emit s (world_after s events) e now.world text = takes (world_after s events) taken.1.stands in
    let h : Happened = record { event = e; says = took.says; answer = took.answer } in
    let tree : IsTree net.cfg = subst (λ (k : Network). IsTree k.cfg) kept ready.valid.plant.accepted.tree in
    let counted : length now.world.nodes ≡ node_count net.cfg = ready.valid.node_count ∙ ap (λ (k : Network). node_count k.cfg) kept in
    let laws : HasLawOf post s now.world = subst (λ (k : Network). HasLawOf post (setting_in k) now.world) kept ready.laws in
    let audit : IsAudit s (lines ++ line ∷ []) (h ∷ events) =
    one_run_more {post = post} net held.emit lines line text events e now.world tree counted laws taken.1.audit reads took in
    let is : before ++ text ≡ lines_by held.emit s (h ∷ events) =
    ap (λ (l : List ℕ). l ++ text) (same_text one held.emit s lines events before taken.1.audit accepted) ∙ wrote_more held.emit s events h text took.wrote in (
      (
        h ∷ events,
        record {
          audit = subst (λ (k : Network). IsAudit (setting_in k) (lines ++ line ∷ []) (h ∷ events)) (sym kept) audit;
          stands = subst (λ (k : Network). StandsFor post (setting_in k) (world_after (setting_in k) (h ∷ events)) now.world) (sym kept) took.stands;
        },
      ),
      accepts_by held.emit s (lines ++ line ∷ []) (h ∷ events) (before ++ text) audit is,
    )

-- What a step of the world answers

pub took_of : {F : Type 0} (post : F → ℤ → ℤ → Type 0) (emit : Option ℕ) (s : Setting) (w : WorldAt) (e : Event) (old new : WorldOf F) (outs : List NodeOut)
    (text : List ℕ)
    → StandsFor post s w old → Stepped post e old new outs
    → ((v : WorldAt) → StandsFor post s v new → text ≡ flat_map (line_by emit s v) (map step_seen outs)) → Took post emit s w (bare e) new text
took_of {F} post emit s w e old new outs text stood stepped wrote =
    let says = stepped.0 in
    let answer : ℤ = stepped.1 in
    let stands : StandsFor post s (world_step s says answer w (bare e)) new =
    subst (λ (v : WorldAt). StandsFor post s v new) (sym (same_world s says answer w e)) (stepped.2.stands s w stood) in
    record {
      says = says;
      answer = answer;
      said = same_said e says stepped.2.said;
      accepted = subst AllHold (sym (same_checks s w says e)) (stepped.2.accepted s w stood);
      stands = stands;
      wrote = wrote (world_step s says answer w (bare e)) stands
          ∙ ap (flat_map (line_by emit s (world_step s says answer w (bare e)))) (stepped.2.seen s w stood ∙ sym (same_steps s says answer w e));
    }

pub broke_of : {F : Type 0} (post : F → ℤ → ℤ → Type 0) (s : Setting) (w : WorldAt) (e : Event) (old : WorldOf F) (premise : ℕ) (shown bound : ℤ) (number : ℕ)
    (text : List ℕ)
    → StandsFor post s w old
    → IsRefusal post e old (Broken premise shown bound) → text ≡ broken_line number (record { premise = premise; shown = shown; bound = bound })
    → Broke s w (bare e) number text
broke_of post s w e old premise shown bound number text stood refused wrote = record {
  says = refused.0;
  said = same_said e refused.0 refused.1;
  breach = record { premise = premise; shown = shown; bound = bound };
  told = ap told_of (same_checks s w refused.0 e) ∙ refused.2 s w stood;
  wrote = wrote;
}

-- a line that is refused
pub refuses_broken : {F : Type 0} {post : F → ℤ → ℤ → Type 0} (held : AuditedNetwork F) (lines : List (List ℕ)) (line text : List ℕ) (e : Event) (number : ℕ)
    → event_read held.world.plant.net.cfg line ≡ Ok e
    → number ≡ length lines + 1
    → ((w : WorldAt) → StandsFor post (setting_in held.world.plant.net) w held.world → Broke (setting_in held.world.plant.net) w e number text)
    → HasAudited post held lines → (meaning_for held.emit (setting_in held.world.plant.net)).refuses lines line refusals.Broken text
refuses_broken held lines line text e number reads counts breaks taken =
    let s : Setting = setting_in held.world.plant.net in
    let broke : Broke s (world_after s taken.0) e number text = breaks (world_after s taken.0) taken.1.stands in
    by_emit held.emit (record {
      events = taken.0;
      audit = taken.1.audit;
      event = e;
      reads = reads;
      says = broke.says;
      said = broke.said;
      breach = broke.breach;
      told = broke.told;
      is = broke.wrote ∙ ap (λ (k : ℕ). broken_line k broke.breach) counts;
    })
  where
    by_emit : (emit : Option ℕ) → Breaks (setting_in held.world.plant.net) lines line text
        → (meaning_for emit (setting_in held.world.plant.net)).refuses lines line refusals.Broken text
    by_emit None h = h
    by_emit (Some n) h = h

pub refuses_trace : (emit : Option ℕ) (net : Network) (lines : List (List ℕ)) (line text : List ℕ) (fault : TraceFault) → event_read net.cfg line ≡ Err fault
    → text ≡ bad_trace_line (length lines + 1) fault
    → (meaning_for emit (setting_in net)).refuses lines line refusals.BadTrace text
refuses_trace None net lines line text fault reads is = (fault, reads, is)
refuses_trace (Some n) net lines line text fault reads is = (fault, reads, is)

-- What a step keeps

counted_all : (s : Setting) (y : ℤ) (v : WorldAt) (gs : List Given) → (gives_all s y v gs).count ≡ v.count
counted_all s y v [] = refl
counted_all s y v (g ∷ gs) = counted_all s y (gives s y v g) gs

-- one more event is counted
pub one_more_event : {F : Type 0} (post : F → ℤ → ℤ → Type 0) (s : Setting) (w : WorldAt) (e : Event) (old new : WorldOf F) (outs : List NodeOut)
    → StandsFor post s w old → Stepped post e old new outs
    → new.plant.events ≡ old.plant.events + 1
one_more_event post s w e old new outs stood stepped =
    (stepped.2.stands s w stood).plant.count ∙ counted_all s stepped.1 (moved s w e) (given_by s w (moved s w e) stepped.0 e)
    ∙ ap (λ (k : ℕ). k + 1) (sym stood.plant.count)

pub same_count : {F : Type 0} (post : F → ℤ → ℤ → Type 0) (s : Setting) (w : WorldAt) (old new : WorldOf F) → StandsFor post s w old → StaysSo post old new
    → new.plant.events ≡ old.plant.events
same_count post s w old new stood stays = (stays s w stood).plant.count ∙ sym stood.plant.count

-- no lines are a run that writes nothing
pub nothing_audited : (s : Setting) → IsAudit s [] []
nothing_audited s = record { are = refl; run = record { accepted = tt; said = tt; answered = λ n. tt }; heard = λ n below. tt }

pub nothing_accepted : (emit : Option ℕ) (s : Setting) → (meaning_for emit s).accepts [] []
nothing_accepted None s = ([], nothing_audited s, refl)
nothing_accepted (Some n) s = ([], nothing_audited s, refl)

-- what passes by the meaning of the machine's lines also passes by the meaning of the task's lines
pub audit_passes : (emit : Option ℕ) (s : Setting) (source sink : Passage (List ℕ)) (rest : List ℕ) (had ended : Bool) (status : Status)
    → Passes (of_lines (meaning_by (meaning_for emit s).accepts (meaning_for emit s).refuses (meaning_for emit s).closes bars_none)) source sink rest had ended [] status
    → Passes (of_lines (meaning_for emit s)) source sink rest had ended [] status
audit_passes None s source sink rest had ended status at = at
audit_passes (Some n) s source sink rest had ended status at = at

-- The lines of a step

pub step_text : {F : Type 0} (post : F → ℤ → ℤ → Type 0) (s : Setting) (w : WorldAt) (world : WorldOf F) (out : NodeOut) (node : NodeOf F) (ticks : ℕ) (off : ℤ)
    (name : List ℕ) (bound : ℤ) (lent : List Output) (text old : List ℕ)
    → StandsFor post s w world
    → slice_get world.nodes out.node ≡ Some node
    → ((fixed : NodeSetting) (inputs : List TakenInput) → NodeStandsFor post fixed node inputs → ticks ≡ (node_after fixed inputs).ticks)
    → ((s : Setting) (w : WorldAt) → StandsFor post s w world → off ≡ (w.clock out.node).off) → name ≡ name_at world.plant.net.cfg out.node
    → bound ≡ pos (path_of world.plant.net.cfg out.node)
    → lent ≡ out.outs.items → text ≡ old ++ flat_map (λ o. output_line_of name ticks o bound (Some off)) lent → text ≡ old ++ step_lines s w (step_seen out)
step_text post s w world out node ticks off name bound lent text old stands is ticked offs named bounded lends wrote =
    let ticks_are : ticks ≡ (w.node out.node).ticks =
    ticked (node_setting_of s out.node) (w.inputs out.node) (stands.nodes out.node node is).stands
    ∙ ap (λ (n : NodeAt). n.ticks) (sym (stands.nodes out.node node is).at) in
    let name_is : name ≡ name_at s.cfg out.node = named ∙ ap (λ (cfg : NetCfg). name_at cfg out.node) stands.plant.cfg in
    let bound_is : bound ≡ pos (path_of s.cfg out.node) = bounded ∙ ap (λ (cfg : NetCfg). pos (path_of cfg out.node)) stands.plant.cfg in
    wrote ∙ (λ i. old ++ flat_map (λ o. output_line_of (name_is i) (ticks_are i) o (bound_is i) (Some (offs s w stands i))) (lends i))

-- What can take an event can still take one after it

pub can_stay : {F : Type 0} {pre : F → ℤ → Type 0} {post : F → ℤ → ℤ → Type 0} (held now : AuditedNetwork F) → CanAudit pre post held
    → IsValid pre post now.world → now.world.plant.net ≡ held.world.plant.net → now.emit ≡ held.emit → now.bounds.items ≡ held.bounds.items
    → map (λ (node : NodeOf F). law_in node.control) now.world.nodes ≡ map (λ (node : NodeOf F). law_in node.control) held.world.nodes → CanAudit pre post now
can_stay {F} {pre} {post} held now can valid net emit bounds laws = record {
  valid = valid;
  laws =
      subst (λ (k : Network). HasLawOf post (setting_in k) now.world) (sym net)
      (laws_stay post (setting_in held.world.plant.net) held.world now.world laws can.laws);
  emit = subst (λ (o : Option ℕ). IfSome o (λ n. n < node_count now.world.plant.net.cfg)) (sym emit)
      (subst (λ (k : Network). IfSome held.emit (λ n. n < node_count k.cfg)) (sym net) can.emit);
  bounds = subst (λ (items : List ℤ). AreBounds now.world.plant.net.cfg items) (sym bounds)
      (subst (λ (k : Network). AreBounds k.cfg held.bounds.items) (sym net) can.bounds);
}

-- and one more event is counted, or none
pub counts_one : {F : Type 0} {pre : F → ℤ → Type 0} {post : F → ℤ → ℤ → Type 0} (e : Event) (old new : WorldOf F) (outs : List NodeOut) → IsValid pre post old
    → Stepped post e old new outs → new.plant.events ≤ old.plant.events + 1
counts_one {post = post} e old new outs valid stepped =
    let one = one_more_event post valid.setting valid.state e old new outs valid.stands stepped in
    omega (arith, one)

pub counts_none : {F : Type 0} {pre : F → ℤ → Type 0} {post : F → ℤ → ℤ → Type 0} (old new : WorldOf F) → IsValid pre post old → StaysSo post old new
    → new.plant.events ≤ old.plant.events + 1
counts_none {post = post} old new valid stays =
    let same = same_count post valid.setting valid.state old new valid.stands stays in
    omega (arith, same)

-- what is appended to nothing is all
pub behind_none : {text old more : List ℕ} → text ≡ old ++ more → old ≡ [] → text ≡ more
behind_none {text} {old} {more} e none = e ∙ ap (λ (t : List ℕ). t ++ more) none

-- What is handled

pub accepted_so : {F : Type 0} {pre : F → ℤ → Type 0} {post : F → ℤ → ℤ → Type 0} → OneAudit
    → (held now : AuditedNetwork F) (lines : List (List ℕ)) (line before text : List ℕ) (e : Event) (number : ℕ) (answer : Taken)
    → event_read held.world.plant.net.cfg line ≡ Ok e → now.world.plant.net ≡ held.world.plant.net → CanAudit pre post now
    → ((w : WorldAt) → StandsFor post (setting_in held.world.plant.net) w held.world → Happens post held.emit (setting_in held.world.plant.net) w e number now.world text answer)
    → answer ≡ taken.Accepted
    → HasAudited post held lines → (meaning_for held.emit (setting_in held.world.plant.net)).accepts lines before
    → HasAudited post now (lines ++ line ∷ []) × (meaning_for held.emit (setting_in held.world.plant.net)).accepts (lines ++ line ∷ []) (before ++ text)
accepted_so {pre = pre} {post = post} one held now lines line before text e number answer reads kept ready happens is has accepted =
    goes_on {pre = pre} {post = post} one held now lines line before text e reads kept ready
    (λ w stood. subst (Happens post held.emit (setting_in held.world.plant.net) w e number now.world text) is (happens w stood)) has accepted

pub refused_so : {F : Type 0} {post : F → ℤ → ℤ → Type 0} (held : AuditedNetwork F) (new : WorldOf F) (lines : List (List ℕ)) (line text : List ℕ) (e : Event)
    (number : ℕ) (answer : Taken) (refusal : Refusal)
    → event_read held.world.plant.net.cfg line ≡ Ok e → number ≡ length lines + 1
    → ((w : WorldAt) → StandsFor post (setting_in held.world.plant.net) w held.world → Happens post held.emit (setting_in held.world.plant.net) w e number new text answer)
    → answer ≡ taken.Refused refusal
    → HasAudited post held lines → (meaning_for held.emit (setting_in held.world.plant.net)).refuses lines line refusal text
refused_so {post = post} held new lines line text e number answer refusals.BadTrace reads counts happens is has =
    absurd
    (subst (Happens post held.emit (setting_in held.world.plant.net) (world_after (setting_in held.world.plant.net) has.0) e number new text) is (happens (world_after (setting_in held.world.plant.net) has.0) has.1.stands))
refused_so {post = post} held new lines line text e number answer refusals.Broken reads counts happens is has =
    refuses_broken {post = post} held lines line text e number reads counts
    (λ w stood. subst (Happens post held.emit (setting_in held.world.plant.net) w e number new text) is (happens w stood)) has

pub trace_so : (emit : Option ℕ) (net : Network) (lines : List (List ℕ)) (line old text : List ℕ) (fault : TraceFault) (number : ℕ) (answer : Taken)
    (refusal : Refusal)
    → RefusesLine fault number old text answer → old ≡ []
    → IsReading (event_read net.cfg line) (Err fault) → answer ≡ taken.Refused refusal → number ≡ length lines + 1
    → (meaning_for emit (setting_in net)).refuses lines line refusal text
trace_so emit net lines line old text fault number answer refusal refuses none reads is counts =
    let told = refused_line fault number (length lines + 1) old text answer refusal refuses is none counts in
    subst (λ (r : Refusal). (meaning_for emit (setting_in net)).refuses lines line r text) told.0
    (refuses_trace emit net lines line text fault (read_fault (event_read net.cfg line) fault refuses.cause reads) told.1)

-- At the end

pub closes_counts : {F : Type 0} {post : F → ℤ → ℤ → Type 0} (held : AuditedNetwork F) (lines : List (List ℕ)) (text old : List ℕ) → held.emit ≡ None → old ≡ []
    → ((s : Setting) (w : WorldAt) → StandsFor post s w held.world → text ≡ old ++ all_counts s w) → HasAudited post held lines
    → (meaning_for held.emit (setting_in held.world.plant.net)).closes lines text
closes_counts held lines text old is none counts has =
    let s : Setting = setting_in held.world.plant.net in
    subst (λ (e : Option ℕ). (meaning_for e s).closes lines text) (sym is) (has.0, has.1.audit, behind_none (counts s (world_after s has.0) has.1.stands) none)

pub closes_none : {F : Type 0} (held : AuditedNetwork F) (lines : List (List ℕ)) (text : List ℕ) (n : ℕ) → held.emit ≡ Some n → text ≡ []
    → (meaning_for held.emit (setting_in held.world.plant.net)).closes lines text
closes_none held lines text n is none = subst (λ (e : Option ℕ). (meaning_for e (setting_in held.world.plant.net)).closes lines text) (sym is) none
