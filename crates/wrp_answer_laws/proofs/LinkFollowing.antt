-- The calls at an arrival over a link that answers by the number of the call: they succeed, or one of them fails.
use Rattle.std.proofs.Common.{◌≡◌, ◌⊎◌, inl, inr, refl, sym, subst, ℕ, zero, suc, ◌+◌, ◌<◌, ◌≤◌, List, [], ◌∷◌, ◌++◌, length, None, Some, arith}
use Rattle.std.specs.List.{AllByRecursion}
use Rattle.arrayvec.specs.ArrayVec.{ArrayVec}
use Rattle.wrp_io.specs.declared.link.LinkCall.{LinkCall}
use Rattle.wrp_io.specs.declared.link.LinkCall.TheVariants.{Start, Send, Receive}
use Rattle.wrp_io.specs.Link.{frame_of}
use Rattle.wrp_loop.specs.Calls.{AreCutCalls, IsFrameCall, arrival_calls, most_taken, receptions, taken_calls}
use Rattle.wrp_answer_laws.specs.LinkAnswers.{AnswersCall, CallAnswer, Fails, FailsNext, FollowsFrom, Gives, GivesFrames, IsFrameGiven, LinkAnswers, Nothing}

-- Numbers of calls

-- the number of the call after these, the first of which has this number
abbrev pub number_after : ℕ → List LinkCall → ℕ
number_after number [] = number
number_after number (call ∷ calls) = number_after (suc number) calls

pub number_later : (number : ℕ) (xs ys : List LinkCall) → number_after number (xs ++ ys) ≡ number_after (number_after number xs) ys
number_later number [] ys = refl
number_later number (x ∷ xs) ys = number_later (suc number) xs ys

number_is : (number : ℕ) (calls : List LinkCall) → number_after number calls ≡ length calls + number
number_is number [] = omega arith
number_is number (call ∷ calls) = let rest = number_is (suc number) calls in omega (arith, rest)

pub fails_next : (link : LinkAnswers) (calls : List LinkCall) → link (number_after 1 calls) ≡ Fails → FailsNext link calls
fails_next link calls fails = subst (λ (number : ℕ). link number ≡ Fails) (number_is 1 calls) fails

pub follows_on : (link : LinkAnswers) (number : ℕ) (xs ys : List LinkCall) → FollowsFrom link number xs →
    FollowsFrom link (number_after number xs) ys → FollowsFrom link number (xs ++ ys)
follows_on link number [] ys h k = k
follows_on link number (x ∷ xs) ys h k = (h.0, follows_on link (suc number) xs ys h.1 k)

-- Calls that give nothing succeed, or fail

pub starts_or_fails : (link : LinkAnswers) (number ends : ℕ) → AnswersCall (link number) (Start ends) ⊎ (link number ≡ Fails)
starts_or_fails link number ends = go (link number) refl
  where
    go : (answer : CallAnswer) → link number ≡ answer → AnswersCall (link number) (Start ends) ⊎ (link number ≡ Fails)
    go (Gives frame) is = inl (subst (λ (a : CallAnswer). AnswersCall a (Start ends)) (sym is) tt)
    go Nothing is = inl (subst (λ (a : CallAnswer). AnswersCall a (Start ends)) (sym is) tt)
    go Fails is = inr is

sends_or_fails : (link : LinkAnswers) (number from : ℕ) (frame : ArrayVec ℕ) →
    AnswersCall (link number) (Send from frame) ⊎ (link number ≡ Fails)
sends_or_fails link number from frame = go (link number) refl
  where
    go : (answer : CallAnswer) → link number ≡ answer → AnswersCall (link number) (Send from frame) ⊎ (link number ≡ Fails)
    go (Gives given) is = inl (subst (λ (a : CallAnswer). AnswersCall a (Send from frame)) (sym is) tt)
    go Nothing is = inl (subst (λ (a : CallAnswer). AnswersCall a (Send from frame)) (sym is) tt)
    go Fails is = inr is

-- Receptions

-- they gave these frames
record Taken (link : LinkAnswers) (number to room : ℕ) : Type 0 where
  pub got : List (ArrayVec ℕ)
  pub few : length got ≤ room
  pub follows : FollowsFrom link number (receptions to room got)
  pub frames : AllByRecursion IsFrameCall (receptions to room got)

-- one failed after these
record TakenCut (link : LinkAnswers) (number to room : ℕ) : Type 0 where
  pub got : List (ArrayVec ℕ)
  pub few : length got < room
  pub follows : FollowsFrom link number (taken_calls to got)
  pub frames : AllByRecursion IsFrameCall (taken_calls to got)
  pub fails : link (number_after number (taken_calls to got)) ≡ Fails

abbrev Takes : LinkAnswers → (number to room : ℕ) → Type 0
Takes link number to room = Taken link number to room ⊎ TakenCut link number to room

gives_frame : (link : LinkAnswers) (number to : ℕ) (frame : ArrayVec ℕ) → link number ≡ Gives frame →
    AnswersCall (link number) (Receive to (Some frame))
gives_frame link number to frame is = subst (λ (a : CallAnswer). AnswersCall a (Receive to (Some frame))) (sym is) refl

gives_nothing : (link : LinkAnswers) (number to : ℕ) → link number ≡ Nothing → AnswersCall (link number) (Receive to None)
gives_nothing link number to is = subst (λ (a : CallAnswer). AnswersCall a (Receive to None)) (sym is) refl

takes_one : (link : LinkAnswers) → GivesFrames link → (number to room : ℕ) (answer : CallAnswer) → link number ≡ answer →
    Takes link (suc number) to room → Takes link number to (suc room)
takes_one link given number to room (Gives frame) is (inl rest) =
    inl (record {
      got = frame ∷ rest.got;
      few = let few = rest.few in omega (arith, few);
      follows = (gives_frame link number to frame is, rest.follows);
      frames = (subst IsFrameGiven is (given number), rest.frames);
    })
takes_one link given number to room (Gives frame) is (inr rest) =
    inr (record {
      got = frame ∷ rest.got;
      few = let few = rest.few in omega (arith, few);
      follows = (gives_frame link number to frame is, rest.follows);
      frames = (subst IsFrameGiven is (given number), rest.frames);
      fails = rest.fails;
    })
takes_one link given number to room Nothing is rest =
    inl (record { got = []; few = omega arith; follows = (gives_nothing link number to is, tt); frames = (tt, tt) })
takes_one link given number to room Fails is rest =
    inr (record { got = []; few = omega arith; follows = tt; frames = tt; fails = is })

takes : (link : LinkAnswers) → GivesFrames link → (to room number : ℕ) → Takes link number to room
takes link given to zero number = inl (record { got = []; few = omega arith; follows = tt; frames = tt })
takes link given to (suc room) number = takes_one link given number to room (link number) refl (takes link given to room (suc number))

-- All calls at an arrival

-- they succeeded
pub record Exchanged (link : LinkAnswers) (number from to : ℕ) (octets : List ℕ) : Type 0 where
  pub got : List (ArrayVec ℕ)
  pub few : length got ≤ most_taken
  pub follows : FollowsFrom link number (arrival_calls from to octets got)
  pub frames : AllByRecursion IsFrameCall (arrival_calls from to octets got)

-- one failed after these
pub record CutOff (link : LinkAnswers) (number from to : ℕ) (octets : List ℕ) : Type 0 where
  pub calls : List LinkCall
  pub cut : AreCutCalls from to octets calls
  pub follows : FollowsFrom link number calls
  pub frames : AllByRecursion IsFrameCall calls
  pub fails : link (number_after number calls) ≡ Fails

pub exchanges : (link : LinkAnswers) → GivesFrames link → (number from to : ℕ) (octets : List ℕ) →
    Exchanged link number from to octets ⊎ CutOff link number from to octets
exchanges link given number from to octets =
    elim (sends_or_fails link number from (frame_of octets)) [
      | inr fails ↦ inr (record { calls = []; cut = inl refl; follows = tt; frames = tt; fails = fails })
      | inl sent ↦ elim (takes link given to most_taken (suc number)) [
        | inl taken ↦ inl (record {
          got = taken.got;
          few = taken.few;
          follows = (sent, taken.follows);
          frames = (tt, taken.frames);
        })
        | inr taken ↦ inr (record {
          calls = Send from (frame_of octets) ∷ taken_calls to taken.got;
          cut = inr (record {
            rest = taken_calls to taken.got;
            taken = record { got = taken.got; few = taken.few; are = refl };
            are = refl;
          });
          follows = (sent, taken.follows);
          frames = (tt, taken.frames);
          fails = taken.fails;
        })
      ]
    ]
