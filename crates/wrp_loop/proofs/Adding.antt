-- What a link has shown since then, call by call.
use Rattle.std.proofs.Common.{◌≡◌, ◌∙◌, refl, ap, inr, ℕ, zero, suc, ◌<◌, List, [], ◌∷◌, ◌++◌, length, Bool, true, false, Option, None, Some, Result, Ok, Err, OnErr, append_assoc, arith}
use Rattle.std.specs.List.{AllByRecursion}
use Rattle.std.specs.Option.{option_map}
use Rattle.arrayvec.specs.ArrayVec.{ArrayVec}
use Rattle.wrp_io.specs.declared.link.LinkCall.{LinkCall}
use Rattle.wrp_io.specs.declared.link.LinkCall.TheVariants.{Send, Receive}
use Rattle.wrp_io.specs.Link.{answered, frame_of}
use Rattle.wrp_loop.specs.Calls.{Grew, AreCutCalls, AreCutTaken, IsFrame, IsFrameCall, receptions, taken_calls}

-- one call after others
pub adds_one : (before mid now : Option (List LinkCall)) (calls : List LinkCall) (call : LinkCall) → Grew before mid calls →
    now ≡ option_map (λ told. told ++ call ∷ []) mid → Grew before now (calls ++ call ∷ [])
adds_one None mid now calls call a e = e ∙ ap (option_map (λ told. told ++ call ∷ [])) a
adds_one (Some told) mid now calls call a e =
    e ∙ (ap (option_map (λ more. more ++ call ∷ [])) a ∙ ap Some (append_assoc told calls (call ∷ [])))

-- one call before others
pub adds_first : (before mid now : Option (List LinkCall)) (call : LinkCall) (calls : List LinkCall) →
    mid ≡ option_map (λ told. told ++ call ∷ []) before → Grew mid now calls → Grew before now (call ∷ calls)
adds_first None mid now call calls e a = a ∙ ap (option_map (λ told. told ++ calls)) e
adds_first (Some told) mid now call calls e a =
    a ∙ (ap (option_map (λ more. more ++ calls)) e ∙ ap Some (append_assoc told (call ∷ []) calls))

-- receptions that stopped at one that gave nothing
pub stopped : (to room : ℕ) (got : List (ArrayVec ℕ)) → length got < room → receptions to room got ≡ taken_calls to got ++ Receive to None ∷ []
stopped to zero got h = absurd (omega (arith, h))
stopped to (suc room) [] h = refl
stopped to (suc room) (frame ∷ got) h = ap (λ calls. Receive to (Some frame) ∷ calls) (stopped to room got (omega (arith, h)))

-- receptions that stopped at the last one that is allowed
pub filled : (to room : ℕ) (got : List (ArrayVec ℕ)) → length got ≡ room → receptions to room got ≡ taken_calls to got
filled to zero [] h = refl
filled to zero (frame ∷ got) h = absurd (omega (arith, h))
filled to (suc room) [] h = absurd (omega (arith, h))
filled to (suc room) (frame ∷ got) h = ap (λ calls. Receive to (Some frame) ∷ calls) (filled to room got (omega (arith, h)))

pub taken_more : (to : ℕ) (got : List (ArrayVec ℕ)) (frame : ArrayVec ℕ) → taken_calls to (got ++ frame ∷ []) ≡ taken_calls to got ++ Receive to (Some frame) ∷ []
taken_more to [] frame = refl
taken_more to (first ∷ got) frame = ap (λ calls. Receive to (Some first) ∷ calls) (taken_more to got frame)

-- a reception that gave nothing, as a link shows it
pub told_none : (to : ℕ) (answer : Bool) (octets : List ℕ) (before now : Option (List LinkCall)) → answer ≡ false →
    now ≡ option_map (λ told. told ++ Receive to (answered answer octets) ∷ []) before →
    now ≡ option_map (λ told. told ++ Receive to None ∷ []) before
told_none to true octets before now h e = absurd (let f : true ≡ false = h in cc)
told_none to false octets before now h e = e

-- a reception that gave a datagram
pub told_some : (to : ℕ) (answer : Bool) (frame : ArrayVec ℕ) (before now : Option (List LinkCall)) → answer ≡ true →
    now ≡ option_map (λ told. told ++ Receive to (answered answer frame.items) ∷ []) before →
    now ≡ option_map (λ told. told ++ Receive to (Some frame) ∷ []) before
told_some to true frame before now h e = e
told_some to false frame before now h e = absurd (let f : false ≡ true = h in cc)

-- a sending, and then receptions that were cut off
pub cut_more : {T E : Type 0} (result : Result T E) (from to : ℕ) (octets : List ℕ) (before mid now : Option (List LinkCall)) →
    mid ≡ option_map (λ told. told ++ Send from (frame_of octets) ∷ []) before →
    OnErr result ((calls : List LinkCall) × Grew mid now calls × AreCutTaken to calls × AllByRecursion IsFrameCall calls) →
    OnErr result ((calls : List LinkCall) × Grew before now calls × AreCutCalls from to octets calls × AllByRecursion IsFrameCall calls)
cut_more (Ok value) from to octets before mid now e h = tt
cut_more (Err fault) from to octets before mid now e h = (
  Send from (frame_of octets) ∷ h.0,
  adds_first before mid now (Send from (frame_of octets)) h.0 e h.1,
  inr (record { rest = h.0; taken = h.2; are = refl }),
  (tt, h.3),
)

-- Datagrams that were taken are frames

all_taken : (to : ℕ) (got : List (ArrayVec ℕ)) → AllByRecursion IsFrame got → AllByRecursion IsFrameCall (taken_calls to got)
all_taken to [] all = tt
all_taken to (frame ∷ got) all = (all.0, all_taken to got all.1)

pub all_received : (to room : ℕ) (got : List (ArrayVec ℕ)) → AllByRecursion IsFrame got → AllByRecursion IsFrameCall (receptions to room got)
all_received to zero got all = tt
all_received to (suc room) [] all = (tt, tt)
all_received to (suc room) (frame ∷ got) all = (all.0, all_received to room got all.1)

-- receptions that were cut off
pub cut_taken : {T E : Type 0} (result : Result T E) (to : ℕ) (got : List (ArrayVec ℕ)) (before mid now : Option (List LinkCall)) → Grew before mid (taken_calls to got) → now ≡ mid → length got < 16 → AllByRecursion IsFrame got →
    OnErr result ((calls : List LinkCall) × Grew before now calls × AreCutTaken to calls × AllByRecursion IsFrameCall calls)
cut_taken (Ok value) to got before mid now adds same few all = tt
cut_taken (Err fault) to got before mid now adds same few all = (taken_calls to got, same ∙ adds, record { got = got; few = few; are = refl }, all_taken to got all)
