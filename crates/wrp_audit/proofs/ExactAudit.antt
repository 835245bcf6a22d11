-- What the relations of an audit keep: record lines have one text, one refusal and one end.
use Rattle.std.proofs.Common.{◌≡◌, ◌∙◌, refl, ap, sym, subst, append_assoc, append-nil, ℕ, ℤ, ◌+◌, ◌==◌, Bool, true, false, cond, if◌then◌else◌, None, Some, option_map, Ok, Err, List, [], ◌∷◌, ◌++◌, length, map, reverse}
use Rattle.std.proofs.lemmas.List.{map-append, reverse-append, reverse-reverse, same_from_push}
use Rattle.wrp_node.specs.NodeAt.{Taken}
use Rattle.wrp_node.specs.NodeRun.{AllSaid}
use Rattle.wrp_trace.specs.Events.{event_read}
use Rattle.wrp_course.specs.Checks.{AllHold, Check, breach_of, first_broken, told_of}
use Rattle.wrp_course.specs.declared.event.Event.{Event}
use Rattle.wrp_course.specs.Given.{Given, given_by, gives, gives_all, taken_of}
use Rattle.wrp_course.specs.Moved.{moved}
use Rattle.wrp_course.specs.Premises.{Accepts, checks_of}
use Rattle.wrp_course.specs.Run.{Happened, IsSaid, world_after}
use Rattle.wrp_course.specs.Setting.{Setting}
use Rattle.wrp_course.specs.WorldAt.{WorldAt}
use Rattle.wrp_records.specs.declared.machine.Refusal.{Refusal}
use Rattle.wrp_records.specs.declared.machine.Refusal.TheVariants as refusals
use Rattle.wrp_audit.specs.Audited.{IsAudit}
use Rattle.wrp_audit.specs.AuditLaws.{OneAudit}
use Rattle.wrp_audit.specs.Audits.{AuditRefuses, audit_of, emission_of}
use Rattle.wrp_audit.specs.Broken.{broken_line}
use Rattle.wrp_records.specs.Refusals.{bad_trace_line}
use Rattle.wrp_audit.proofs.OneAudit.{read}
use Rattle.wrp_one_world_laws.proofs.OneWorld.{before_newest}
use Rattle.wrp_network_world.specs.NetworkSetting.{laws_in}
use Rattle.wrp_records.proofs.Unique.{IsExact, ends_once, never_barred}

-- The newest event of a run

none_ends : {X : Type 0} (xs : List X) (x : X) → xs ++ x ∷ [] ≡ [] → ⊥
none_ends [] x e = cc
none_ends (y ∷ xs) x e = cc

turned : (h : Happened) (events : List Happened) → map read (reverse (h ∷ events)) ≡ map read (reverse events) ++ read h ∷ []
turned h events = ap (map read) (reverse-append (h ∷ []) events) ∙ map-append read (reverse events) (h ∷ [])

-- what a node was given before an event is read in the same way after it
one_before : (b : Bool) (t : Taken) (inputs : List Taken) → AllSaid (if b then t ∷ inputs else inputs) → AllSaid inputs
one_before true t inputs said = said.1
one_before false t inputs said = said

all_before : (s : Setting) (y : ℤ) (gs : List Given) (v : WorldAt) (n : ℕ) → AllSaid ((gives_all s y v gs).inputs n) → AllSaid (v.inputs n)
all_before s y [] v n said = said
all_before s y (g ∷ gs) v n said = one_before (n == g.to) (taken_of y g) (v.inputs n) (all_before s y gs (gives s y v g) n said)

heard_before : (s : Setting) (h : Happened) (before : List Happened) (n : ℕ) → AllSaid ((world_after s (h ∷ before)).inputs n)
    → AllSaid ((world_after s before).inputs n)
heard_before s h before n said =
    let w : WorldAt = world_after s before in
    all_before s h.answer (given_by s w (moved s w h.event) h.says h.event) (moved s w h.event) n said

-- the last line of a run says the newest event, and the lines before it are a run
record Newest (s : Setting) (lines : List (List ℕ)) (line : List ℕ) (events : List Happened) : Type 0 where
  newest : Happened
  before : List Happened
  is : events ≡ newest ∷ before
  audit : IsAudit s lines before
  reads : event_read s.cfg line ≡ Ok newest.event
  said : IsSaid newest.event newest.says
  accepted : Accepts s (world_after s before) newest.says newest.event

newest_of : (s : Setting) (lines : List (List ℕ)) (line : List ℕ) (events : List Happened) → IsAudit s (lines ++ line ∷ []) events → Newest s lines line events
newest_of s lines line [] audit =
    absurd (none_ends (map (event_read s.cfg) lines) (event_read s.cfg line) (sym (map-append (event_read s.cfg) lines (line ∷ [])) ∙ audit.are))
newest_of s lines line (h ∷ before) audit =
    let ends = same_from_push (map (event_read s.cfg) lines) (map read (reverse before)) (event_read s.cfg line) (read h)
    (sym (map-append (event_read s.cfg) lines (line ∷ [])) ∙ audit.are ∙ turned h before) in
    record {
      newest = h;
      before = before;
      is = refl;
      audit = record {
        are = ends.0;
        run = record { accepted = audit.run.accepted.1; said = audit.run.said.1; answered = before_newest (laws_in s) s h before audit.run.answered };
        heard = λ n below. heard_before s h before n (audit.heard n below);
      };
      reads = ends.1;
      said = audit.run.said.0;
      accepted = audit.run.accepted.0;
    }

-- the first lines of a run are a run
first_lines : (s : Setting) (front back : List (List ℕ)) (events : List Happened) → IsAudit s (front ++ reverse back) events
    → (older : List Happened) × IsAudit s front older
first_lines s front [] events audit = (events, subst (λ (ls : List (List ℕ)). IsAudit s ls events) (append-nil front) audit)
first_lines s front (line ∷ back) events audit =
    let split : front ++ reverse (line ∷ back) ≡ (front ++ reverse back) ++ line ∷ [] =
    ap (λ (ls : List (List ℕ)). front ++ ls) (reverse-append (line ∷ []) back) ∙ sym (append_assoc front (reverse back) (line ∷ [])) in
    let n : Newest s (front ++ reverse back) line events =
    newest_of s (front ++ reverse back) line events (subst (λ (ls : List (List ℕ)). IsAudit s ls events) split audit) in
    first_lines s front back n.before n.audit

-- a line among the lines of a run
among : (s : Setting) (before behind : List (List ℕ)) (line : List ℕ) (events : List Happened) → IsAudit s (before ++ line ∷ behind) events
    → (older : List Happened) × IsAudit s (before ++ line ∷ []) older
among s before behind line events audit =
    first_lines s (before ++ line ∷ []) (reverse behind) events
    (subst (λ (ls : List (List ℕ)). IsAudit s ls events)
    (sym (append_assoc before (line ∷ []) behind) ∙ ap (λ (ls : List (List ℕ)). (before ++ line ∷ []) ++ ls) (sym (reverse-reverse behind))) audit)

-- Refusals

-- checks of which none fails report nothing
none_told : (checks : List Check) → AllHold checks → told_of checks ≡ None
none_told [] all = refl
none_told (check ∷ checks) all =
    ap (λ (b : Bool). option_map breach_of (cond b (Some check) (first_broken checks))) all.0 ∙ none_told checks all.1

-- a line of a run is not refused
never_refused : OneAudit → (s : Setting) (before behind : List (List ℕ)) (line last : List ℕ) (events : List Happened) (refusal : Refusal)
    → IsAudit s (before ++ line ∷ behind) events → AuditRefuses s before line refusal last → ⊥
never_refused one s before behind line last events refusals.BadTrace audit refused =
    let older = among s before behind line events audit in
    let n : Newest s before line older.0 = newest_of s before line older.0 older.1 in
    let both : Ok n.newest.event ≡ Err refused.0 = sym n.reads ∙ refused.1 in
    cc
never_refused one s before behind line last events refusals.Broken audit refused =
    let older = among s before behind line events audit in
    let n : Newest s before line older.0 = newest_of s before line older.0 older.1 in
    let both : Ok n.newest.event ≡ Ok refused.event = sym n.reads ∙ refused.reads in
    let same : n.newest.event ≡ refused.event = cc in
    let tried : checks_of s (world_after s n.before) n.newest.says refused.event ≡ checks_of s (world_after s refused.events) refused.says refused.event =
    (one s before n.before refused.events n.audit refused.audit).tried refused.event n.newest.says refused.says
    (subst (λ (e : Event). IsSaid e n.newest.says) same n.said) refused.said in
    let none : told_of (checks_of s (world_after s n.before) n.newest.says refused.event) ≡ None =
    none_told (checks_of s (world_after s n.before) n.newest.says refused.event)
    (subst (λ (e : Event). Accepts s (world_after s n.before) n.newest.says e) same n.accepted) in
    let some : None ≡ Some refused.breach = sym none ∙ ap told_of tried ∙ refused.told in
    cc

one_refused : OneAudit → (s : Setting) (before : List (List ℕ)) (line t u : List ℕ) (a b : Refusal) → AuditRefuses s before line a t
    → AuditRefuses s before line b u → (a ≡ b) × (t ≡ u)
one_refused one s before line t u refusals.BadTrace refusals.BadTrace p q =
    let both : Err p.0 ≡ Err q.0 = sym p.1 ∙ q.1 in
    let fault : p.0 ≡ q.0 = cc in
    (refl, p.2 ∙ ap (bad_trace_line (length before + 1)) fault ∙ sym q.2)
one_refused one s before line t u refusals.BadTrace refusals.Broken p q =
    let both : Err p.0 ≡ Ok q.event = sym p.1 ∙ q.reads in
    absurd (cc)
one_refused one s before line t u refusals.Broken refusals.BadTrace p q =
    let both : Ok p.event ≡ Err q.0 = sym p.reads ∙ q.1 in
    absurd (cc)
one_refused one s before line t u refusals.Broken refusals.Broken p q =
    let both : Ok p.event ≡ Ok q.event = sym p.reads ∙ q.reads in
    let same : p.event ≡ q.event = cc in
    let tried : checks_of s (world_after s p.events) p.says q.event ≡ checks_of s (world_after s q.events) q.says q.event =
    (one s before p.events q.events p.audit q.audit).tried q.event p.says q.says (subst (λ (e : Event). IsSaid e p.says) same p.said) q.said in
    let told : Some p.breach ≡ Some q.breach =
    sym (subst (λ (e : Event). told_of (checks_of s (world_after s p.events) p.says e) ≡ Some p.breach) same p.told) ∙ ap told_of tried ∙ q.told in
    let breach : p.breach ≡ q.breach = cc in
    (refl, p.is ∙ ap (broken_line (length before + 1)) breach ∙ sym q.is)

-- What is exact

pub exact_audit : OneAudit → (s : Setting) → IsExact (audit_of s)
exact_audit one s = record {
  one_text = λ lines t u p q. p.2 ∙ (one s lines p.0 q.0 p.1 q.1).lines ∙ sym q.2;
  not_both = λ before behind line t last refusal p q. never_refused one s before behind line last p.0 refusal p.1 q;
  one_refusal = one_refused one s;
  one_end = ends_once (audit_of s) never_barred (λ lines t u p q. p.2 ∙ (one s lines p.0 q.0 p.1 q.1).counts ∙ sym q.2);
}

pub exact_emission : OneAudit → (s : Setting) (n : ℕ) → IsExact (emission_of s n)
exact_emission one s n = record {
  one_text = λ lines t u p q. p.2 ∙ (one s lines p.0 q.0 p.1 q.1).given n ∙ sym q.2;
  not_both = λ before behind line t last refusal p q. never_refused one s before behind line last p.0 refusal p.1 q;
  one_refusal = one_refused one s;
  one_end = ends_once (emission_of s n) never_barred (λ lines t u p q. p ∙ sym q);
}
