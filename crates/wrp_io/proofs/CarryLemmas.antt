-- The queue of a link in memory holds for each end what waits there, looking back over the calls.
use Rattle.std.proofs.Common.{◌≡◌, ◌≢◌, ℕ, ◌==◌, if◌then◌else◌, List, [], ◌∷◌, ◌++◌, length, drop, slice_get, Option, Some, None, refl, sym, ap, ap₂, subst, ◌∙◌, append_assoc, append-nil, Bool, true, false, arith}
use Rattle.std.specs.List.{cons_option}
use Rattle.std.proofs.lemmas.Bool.Decides.{nat_tests}
use Rattle.std.proofs.lemmas.List.Elements.{filter_map-append}
use Rattle.std.proofs.Math.Seq.{drop-append_seam}
use Rattle.arrayvec.specs.ArrayVec.{ArrayVec}
use Rattle.wrp_io.specs.declared.link.LinkCall.{LinkCall}
use Rattle.wrp_io.specs.declared.link.LinkCall.TheVariants.{Start, Send, Receive}
use Rattle.wrp_io.specs.declared.queue.Held.{Held}
use Rattle.wrp_io.specs.Link.{other_end, octets_of, PutsAt}
use Rattle.wrp_io.specs.FramesWaiting.{octets_sent_to, octets_received_at, all_received_at, waiting_at, frames_waiting, IsNext, Moves}
use Rattle.wrp_io.specs.Queue.{held_for, held_at, Carries, TakesFirst, MovesFrame}
use Rattle.wrp_io.proofs.QueueLemmas.{own, foreign}

-- what waits at an end is what is held for it
pub waiting_is_held : (calls : List LinkCall) (queue : List Held) → Carries calls queue → (end : ℕ) → waiting_at end calls ≡ held_at end queue
waiting_is_held calls queue carries end =
    ap (drop (length (all_received_at end calls))) (carries end) ∙ drop-append_seam (all_received_at end calls) (held_at end queue)

-- one more call, which moves what it sent into the queue and what it received out of it
carries_on : (calls : List LinkCall) (call : LinkCall) (before now : List Held) → Carries calls before
    → ((end : ℕ) → held_at end before ++ cons_option (octets_sent_to end call) [] ≡ cons_option (octets_received_at end call) [] ++ held_at end now)
    → Carries (calls ++ call ∷ []) now
carries_on calls call before now carries moves end =
    let received : List (List ℕ) = all_received_at end calls in
    filter_map-append (octets_sent_to end) calls (call ∷ [])
    ∙ ap (λ xs. xs ++ cons_option (octets_sent_to end call) []) (carries end)
    ∙ append_assoc received (held_at end before) (cons_option (octets_sent_to end call) [])
    ∙ ap (λ xs. received ++ xs) (moves end)
    ∙ sym (append_assoc received (cons_option (octets_received_at end call) []) (held_at end now))
    ∙ ap (λ xs. xs ++ held_at end now) (sym (filter_map-append (octets_received_at end) calls (call ∷ [])))

-- a start moves nothing
pub moves_start : (queue : List Held) (ends : ℕ) → MovesFrame queue queue (Start ends)
moves_start queue ends calls carried next =
    let carries : Carries (calls ++ Start ends ∷ []) queue =
    carries_on calls (Start ends) queue queue carried (λ end. append-nil (held_at end queue)) in
    (carries, λ end. ap Some (waiting_is_held (calls ++ Start ends ∷ []) queue carries end ∙ sym (waiting_is_held calls queue carried end)))

-- after a send its octets wait last at the other end
puts : (before now : List LinkCall) (queue : List Held) (end : ℕ) (octets : List ℕ) (held : Held) → held.end ≡ other_end end → held.frame.items ≡ octets
    → Carries before queue → Carries now (queue ++ held ∷ []) → PutsAt (frames_waiting before) (frames_waiting now) (other_end end) octets
puts before now queue end octets held is same carried carries = record {
  last = ap Some (waiting_is_held now (queue ++ held ∷ []) carries (other_end end)
      ∙ filter_map-append (held_for (other_end end)) queue (held ∷ [])
      ∙ ap (λ o. held_at (other_end end) queue ++ cons_option o []) (own (other_end end) held is ∙ ap Some same)
      ∙ ap (λ xs. xs ++ octets ∷ []) (sym (waiting_is_held before queue carried (other_end end))));
  elsewhere = λ other ne. ap Some (waiting_is_held now (queue ++ held ∷ []) carries other
      ∙ filter_map-append (held_for other) queue (held ∷ [])
      ∙ ap (λ o. held_at other queue ++ cons_option o []) (foreign (other_end end) other held is ne)
      ∙ append-nil (held_at other queue)
      ∙ sym (waiting_is_held before queue carried other));
}

-- a send moves its octets to the back of the queue
pub moves_send : (queue : List Held) (end : ℕ) (frame : ArrayVec ℕ) (held : Held) → held.end ≡ other_end end → held.frame.items ≡ frame.items
    → MovesFrame queue (queue ++ held ∷ []) (Send end frame)
moves_send queue end frame held is same calls carried next =
    let carries : Carries (calls ++ Send end frame ∷ []) (queue ++ held ∷ []) =
    carries_on calls (Send end frame) queue (queue ++ held ∷ []) carried
    (λ at. ap₂ (λ n octets. held_at at queue ++ cons_option (if n == at then Some octets else None) []) (sym is) (sym same)
    ∙ sym (filter_map-append (held_for at) queue (held ∷ []))) in
    (carries, puts calls (calls ++ Send end frame ∷ []) queue end frame.items held is same carried carries)

-- no octets, whichever way the test goes
nothing : (b : Bool) (xs : List (List ℕ)) → xs ≡ cons_option (if b then None else None) [] ++ xs
nothing true xs = refl
nothing false xs = refl

-- what is taken out of the queue was received
moved_out : (before now : List Held) (end : ℕ) (found : Option (ArrayVec ℕ)) → TakesFirst before now end found
    → (at : ℕ) → held_at at before ++ [] ≡ cons_option (octets_received_at at (Receive end found)) [] ++ held_at at now
moved_out before now end None taken at =
    append-nil (held_at at before) ∙ sym (ap (held_at at) taken.1) ∙ nothing (end == at) (held_at at now)
moved_out before now end (Some frame) taken at =
    elim (end == at) as (λ b. (end == at) ≡ b → held_at at before ++ [] ≡ cons_option (if b then Some frame.items else None) [] ++ held_at at now) [
      | true ↦ λ is.
          let same : end ≡ at = grind (arith, nat_tests, is) in
          append-nil (held_at at before) ∙ subst (λ n. held_at n before ≡ frame.items ∷ held_at n now) same taken.0
      | false ↦ λ is.
          let differ : at ≢ end = grind (arith, nat_tests, is) in
          append-nil (held_at at before) ∙ sym (taken.1 at differ)
    ] refl

-- the frame that is taken out is the one that the call receives
same_octets : (calls : List LinkCall) (before now : List Held) (end : ℕ) (found taken : Option (ArrayVec ℕ)) → Carries calls before
    → IsNext calls (Receive end found) → TakesFirst before now end taken → octets_of taken ≡ octets_of found
same_octets calls before now end found None carried next none =
    ap (λ waiting. slice_get waiting 0) (sym none.0 ∙ sym (waiting_is_held calls before carried end)) ∙ sym next
same_octets calls before now end found (Some frame) carried next first =
    ap (λ waiting. slice_get waiting 0) (sym first.0 ∙ sym (waiting_is_held calls before carried end)) ∙ sym next

-- what the call received leaves the rest waiting
takes : (before now : List LinkCall) (queue rest : List Held) (end : ℕ) (found taken : Option (ArrayVec ℕ)) → octets_of taken ≡ octets_of found
    → TakesFirst queue rest end taken → Carries before queue → Carries now rest
    → Moves (frames_waiting before) (frames_waiting now) (Receive end found)
takes before now queue rest end None None same taken carried carries = record {
  none = waiting_is_held before queue carried end ∙ taken.0;
  same = λ at. ap Some (waiting_is_held now rest carries at ∙ ap (held_at at) taken.1 ∙ sym (waiting_is_held before queue carried at));
}
takes before now queue rest end None (Some frame) same taken carried carries = cc
takes before now queue rest end (Some frame) None same taken carried carries = cc
takes before now queue rest end (Some given) (Some frame) same taken carried carries =
    let octets : frame.items ≡ given.items = cc in
    record {
      first = ap Some (waiting_is_held before queue carried end ∙ taken.0
          ∙ ap (λ x. x ∷ held_at end rest) octets
          ∙ ap (λ xs. given.items ∷ xs) (sym (waiting_is_held now rest carries end)));
      elsewhere = λ other ne. ap Some (waiting_is_held now rest carries other ∙ taken.1 other ne ∙ sym (waiting_is_held before queue carried other));
    }

-- a recv moves its frame out of the queue
pub moves_receive : (queue rest : List Held) (end : ℕ) (found taken : Option (ArrayVec ℕ)) → TakesFirst queue rest end taken
    → MovesFrame queue rest (Receive end found)
moves_receive queue rest end found taken first calls carried next =
    let same : octets_of taken ≡ octets_of found = same_octets calls queue rest end found taken carried next first in
    let carries : Carries (calls ++ Receive end found ∷ []) rest =
    carries_on calls (Receive end found) queue rest carried
    (λ at. moved_out queue rest end taken first at ∙ ap (λ octets. cons_option (if end == at then octets else None) [] ++ held_at at rest) same) in
    (carries, takes calls (calls ++ Receive end found ∷ []) queue rest end found taken same first carried carries)
