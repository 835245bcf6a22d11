-- Over a link that loses nothing, the calls at an arrival take one datagram, and it has the octets that were sent.
use Rattle.std.proofs.Common.{◌≡◌, ◌≢◌, ◌∙◌, refl, ap, sym, subst, ℕ, List, [], ◌∷◌, ◌++◌, Option, None, Some, append_assoc, slice_get, arith}
use Rattle.std.specs.List.{cons_option}
use Rattle.std.proofs.lemmas.Option.{none-some, same_Some}
use Rattle.arrayvec.specs.ArrayVec.{ArrayVec}
use Rattle.wrp_base.specs.declared.link.Role.{Role}
use Rattle.wrp_base.specs.declared.link.Role.TheVariants.{Master, Slave}
use Rattle.wrp_base.specs.Link.{other_of}
use Rattle.wrp_io.specs.declared.link.LinkCall.{LinkCall}
use Rattle.wrp_io.specs.declared.link.LinkCall.TheVariants.{Send, Receive}
use Rattle.wrp_io.specs.declared.queue.Held.{Held}
use Rattle.wrp_io.specs.Link.{frame_of, octets_of, other_end}
use Rattle.wrp_io.specs.FramesWaiting.{IsNext}
use Rattle.wrp_io.specs.Queue.{Carries, held_at}
use Rattle.wrp_io.proofs.CarryLemmas.{moves_receive, moves_send, waiting_is_held}
use Rattle.wrp_io.proofs.QueueLemmas.{foreign, own}
use Rattle.wrp_loop.specs.Calls.{arrival_calls, receptions}
use Rattle.wrp_loop.specs.Datagrams.{Way, end_number, receiving_end, sending_end}
use Rattle.wrp_lossless_laws.specs.LosesNothing.{LosesNothing}

-- all that was sent was received
abbrev pub IsEmptied : List LinkCall → Type 0
IsEmptied calls = Carries calls []

-- One more call

one_later : (all before later : List LinkCall) (call : LinkCall) → all ≡ before ++ call ∷ later → all ≡ (before ++ call ∷ []) ++ later
one_later all before later call is = is ∙ sym (append_assoc before (call ∷ []) later)

-- the only frame that waits after it was sent
abbrev waiting : ℕ → ArrayVec ℕ → Held
waiting from frame = record { end = other_end from; frame = frame }

after_send : (before : List LinkCall) (from : ℕ) (frame : ArrayVec ℕ) → IsEmptied before → Carries (before ++ Send from frame ∷ []) (waiting from frame ∷ [])
after_send before from frame emptied = (moves_send [] from frame (waiting from frame) refl refl before emptied tt).0

-- what is received next while these frames are held
received : (calls : List LinkCall) (queue : List Held) (end : ℕ) (found : Option (ArrayVec ℕ)) → Carries calls queue → IsNext calls (Receive end found) →
    octets_of found ≡ slice_get (held_at end queue) 0
received calls queue end found carries next = next ∙ ap (λ (octets : List (List ℕ)). slice_get octets 0) (waiting_is_held calls queue carries end)

-- the frame is held for the other end, and for no other
held_there : (from : ℕ) (frame : ArrayVec ℕ) → held_at (other_end from) (waiting from frame ∷ []) ≡ frame.items ∷ []
held_there from frame = ap (λ (o : Option (List ℕ)). cons_option o []) (own (other_end from) (waiting from frame) refl)

held_elsewhere : (from other : ℕ) (frame : ArrayVec ℕ) → other ≢ other_end from → held_at other (waiting from frame ∷ []) ≡ []
held_elsewhere from other frame apart = ap (λ (o : Option (List ℕ)). cons_option o []) (foreign (other_end from) other (waiting from frame) refl apart)

after_receive : (calls : List LinkCall) (from : ℕ) (frame : ArrayVec ℕ) (found : ArrayVec ℕ) → Carries calls (waiting from frame ∷ []) →
    IsNext calls (Receive (other_end from) (Some found)) →
    IsEmptied (calls ++ Receive (other_end from) (Some found) ∷ [])
after_receive calls from frame found carries next =
    (moves_receive (waiting from frame ∷ []) [] (other_end from) (Some found) (Some frame)
    (held_there from frame, λ other apart. sym (held_elsewhere from other frame apart)) calls carries next).0

after_none : (calls : List LinkCall) (end : ℕ) → IsEmptied calls → IsNext calls (Receive end None) → IsEmptied (calls ++ Receive end None ∷ [])
after_none calls end emptied next = (moves_receive [] [] end None None (refl, refl) calls emptied next).0

-- One frame

-- one datagram was taken, and it has the octets of this frame
pub record TakenOne (sent : ArrayVec ℕ) (got : List (ArrayVec ℕ)) : Type 0 where
  pub frame : ArrayVec ℕ
  pub one : got ≡ frame ∷ []
  pub same : frame.items ≡ sent.items

-- a call that receives gives the frame that was sent
pub first_taken : (all before later : List LinkCall) (from : ℕ) (frame : ArrayVec ℕ) (found : Option (ArrayVec ℕ)) → LosesNothing all → IsEmptied before →
    all ≡ before ++ Send from frame ∷ (Receive (other_end from) found ∷ later) → octets_of found ≡ Some frame.items
first_taken all before later from frame found loses emptied is =
    received (before ++ Send from frame ∷ []) (waiting from frame ∷ []) (other_end from) found (after_send before from frame emptied)
    (loses (before ++ Send from frame ∷ []) later (Receive (other_end from) found)
    (one_later all before (Receive (other_end from) found ∷ later) (Send from frame) is))
    ∙ ap (λ (octets : List (List ℕ)). slice_get octets 0) (held_there from frame)

-- then all that was sent is received
pub first_empties : (all before later : List LinkCall) (from : ℕ) (frame found : ArrayVec ℕ) → LosesNothing all → IsEmptied before →
    all ≡ before ++ Send from frame ∷ (Receive (other_end from) (Some found) ∷ later) →
    IsEmptied ((before ++ Send from frame ∷ []) ++ Receive (other_end from) (Some found) ∷ [])
first_empties all before later from frame found loses emptied is =
    after_receive (before ++ Send from frame ∷ []) from frame found (after_send before from frame emptied)
    (loses (before ++ Send from frame ∷ []) later (Receive (other_end from) (Some found))
    (one_later all before (Receive (other_end from) (Some found) ∷ later) (Send from frame) is))

-- and the next call that receives gives none
pub none_taken : (all before later : List LinkCall) (end : ℕ) (found : Option (ArrayVec ℕ)) → LosesNothing all → IsEmptied before →
    all ≡ before ++ Receive end found ∷ later → octets_of found ≡ None
none_taken all before later end found loses emptied is = received before [] end found emptied (loses before later (Receive end found) is)

pub none_empties : (all before later : List LinkCall) (end : ℕ) → LosesNothing all → IsEmptied before → all ≡ before ++ Receive end None ∷ later →
    IsEmptied (before ++ Receive end None ∷ [])
none_empties all before later end loses emptied is = after_none before end emptied (loses before later (Receive end None) is)

-- At an arrival

-- the calls up to the one that sends
abbrev sent_before : List LinkCall → ℕ → List ℕ → List LinkCall
sent_before before from octets = before ++ Send from (frame_of octets) ∷ []

in_one : (before : List LinkCall) (a b c : LinkCall) → ((before ++ a ∷ []) ++ b ∷ []) ++ c ∷ [] ≡ before ++ a ∷ (b ∷ (c ∷ []))
in_one before a b c = append_assoc (before ++ a ∷ []) (b ∷ []) (c ∷ []) ∙ append_assoc before (a ∷ []) (b ∷ (c ∷ []))

-- one datagram is taken, the one that was sent, and then all that was sent is received
pub taken : (all before later : List LinkCall) (from : ℕ) (octets : List ℕ) (got : List (ArrayVec ℕ)) → LosesNothing all → IsEmptied before →
    all ≡ before ++ (arrival_calls from (other_end from) octets got ++ later) →
    TakenOne (frame_of octets) got × IsEmptied (before ++ arrival_calls from (other_end from) octets got)
taken all before later from octets [] loses emptied is =
    absurd (none-some octets (first_taken all before later from (frame_of octets) None loses emptied is))
taken all before later from octets (frame ∷ []) loses emptied is =
    let end : ℕ = other_end from in
    let sent : List LinkCall = sent_before before from octets in
    let first : IsEmptied (sent ++ Receive end (Some frame) ∷ []) =
    first_empties all before (Receive end None ∷ later) from (frame_of octets) frame loses emptied is in
    let rest : all ≡ (sent ++ Receive end (Some frame) ∷ []) ++ Receive end None ∷ later =
    one_later all sent (Receive end None ∷ later) (Receive end (Some frame))
    (one_later all before (Receive end (Some frame) ∷ (Receive end None ∷ later)) (Send from (frame_of octets)) is) in (
      record {
        frame = frame;
        one = refl;
        same = same_Some frame.items octets (first_taken all before (Receive end None ∷ later) from (frame_of octets) (Some frame) loses emptied is);
      },
      subst IsEmptied (in_one before (Send from (frame_of octets)) (Receive end (Some frame)) (Receive end None))
          (none_empties all (sent ++ Receive end (Some frame) ∷ []) later end loses first rest),
    )
taken all before later from octets (frame ∷ (other ∷ got)) loses emptied is =
    let end : ℕ = other_end from in
    let sent : List LinkCall = sent_before before from octets in
    let more : List LinkCall = receptions end 14 got ++ later in
    let first : IsEmptied (sent ++ Receive end (Some frame) ∷ []) =
    first_empties all before (Receive end (Some other) ∷ more) from (frame_of octets) frame loses emptied is in
    let rest : all ≡ (sent ++ Receive end (Some frame) ∷ []) ++ Receive end (Some other) ∷ more =
    one_later all sent (Receive end (Some other) ∷ more) (Receive end (Some frame))
    (one_later all before (Receive end (Some frame) ∷ (Receive end (Some other) ∷ more)) (Send from (frame_of octets)) is) in
    absurd (none-some other.items (sym (none_taken all (sent ++ Receive end (Some frame) ∷ []) more end (Some other) loses first rest)))

-- the other end of a link, by the number of the link and by the number of the end
pub other_is : (k : ℕ) (r : Role) → end_number k (other_of r) ≡ other_end (end_number k r)
other_is k Master = grind arith
other_is k Slave = grind arith

-- the same, by the way of the frame
pub taken_by : (all before later made : List LinkCall) (way : Way) (octets : List ℕ) (got : List (ArrayVec ℕ)) → LosesNothing all → IsEmptied before →
    made ≡ arrival_calls (sending_end way) (receiving_end way) octets got → all ≡ before ++ (made ++ later) →
    TakenOne (frame_of octets) got × IsEmptied (before ++ made)
taken_by all before later made way octets got loses emptied are is =
    let from : ℕ = sending_end way in
    let made_is : made ≡ arrival_calls from (other_end from) octets got = are ∙ ap (λ (to : ℕ). arrival_calls from to octets got) (other_is way.link way.by) in
    let it = taken all before later from octets got loses emptied (is ∙ ap (λ (calls : List LinkCall). before ++ (calls ++ later)) made_is) in
    (it.0, subst (λ (calls : List LinkCall). IsEmptied (before ++ calls)) (sym made_is) it.1)
