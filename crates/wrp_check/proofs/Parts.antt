-- The stretches of a history are its parts outside IDLE.
use Rattle.std.proofs.Common.{◌≡◌, ◌≢◌, ◌⊎◌, refl, sym, ap, ◌∙◌, subst, inl, inr, true, false, List, [], ◌∷◌}
use Rattle.std.specs.List.{AllByRecursion}
use Rattle.wrp_base.specs.declared.link.LinkState.{LinkState}
use Rattle.wrp_base.specs.declared.link.LinkState.TheVariants.{Idle}
use Rattle.wrp_base.specs.declared.link.Mark.{Mark}
use Rattle.wrp_check.specs.Laws.{state_after, EndsInIdle, AreParts, StretchesAreParts}
use Rattle.wrp_check.specs.Stretches.{is_idle, joined, stretches_of}

idle_or_not : (s : LinkState) → ((s ≡ Idle) × (is_idle s ≡ true)) ⊎ ((s ≢ Idle) × (is_idle s ≡ false))
idle_or_not Idle = inl (refl, refl)
idle_or_not _ = inr (λ e. cc, refl)

-- the state after a whole list of parts is the one that its newest led to
newest_ended : (parts : List (List Mark)) (marks : List Mark) → AreParts marks parts → state_after marks ≡ Idle → AllByRecursion (λ part. EndsInIdle part) parts
newest_ended [] marks h e = tt
newest_ended ([] ∷ older) marks h e = absurd h.outside.0
newest_ended ((mark ∷ part) ∷ older) marks h e =
    let to : state_after marks ≡ mark.to = ap state_after h.whole in
    (sym to ∙ e, h.ended)

-- a mark that leaves IDLE is a part of its own
begins : (mark : Mark) (marks : List Mark) (parts : List (List Mark)) → mark.from ≡ Idle → mark.from ≡ state_after marks → AreParts marks parts → AreParts (mark ∷ marks) ((mark ∷ []) ∷ parts)
begins mark marks parts idle from h =
    record {
      whole = ap (λ ms. mark ∷ ms) h.whole;
      outside = (idle, h.outside);
      ended = newest_ended parts marks h (sym from ∙ idle);
    }

-- any other belongs to the newest part
joins : (mark : Mark) (marks : List Mark) (parts : List (List Mark)) → mark.from ≢ Idle → mark.from ≡ state_after marks → AreParts marks parts → AreParts (mark ∷ marks) (joined mark parts)
joins mark marks [] other from h = absurd (other (from ∙ ap state_after h.whole))
joins mark marks ([] ∷ older) other from h = absurd h.outside.0
joins mark marks ((m ∷ part) ∷ older) other from h =
    let to : mark.from ≡ m.to = from ∙ ap state_after h.whole in
    record {
      whole = ap (λ ms. mark ∷ ms) h.whole;
      outside = ((λ e. other (to ∙ e), h.outside.0), h.outside.1);
      ended = h.ended;
    }

pub stretches_are_parts : StretchesAreParts
stretches_are_parts [] h = record { whole = refl; outside = tt; ended = tt }
stretches_are_parts (mark ∷ marks) h =
    let parts : AreParts marks (stretches_of marks) = stretches_are_parts marks h.2 in
    elim (idle_or_not mark.from) [
      | inl (idle, test) ↦ subst (λ (ps : List (List Mark)). AreParts (mark ∷ marks) ps) (rw test refl) (begins mark marks (stretches_of marks) idle h.0 parts)
      | inr (other, test) ↦ subst (λ (ps : List (List Mark)). AreParts (mark ∷ marks) ps) (rw test refl) (joins mark marks (stretches_of marks) other h.0 parts)
    ]
