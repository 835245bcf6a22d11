-- The call fails if and only if it is listed or the link is used up, and moves its frame in the queue.
use Rattle.std.proofs.Common.{inl, inr, ap, subst, sym, rules}
use Rattle.wrp_io.specs.Calls.{IsListed}
use Rattle.wrp_io.specs.FramesWaiting.{IsNext}
use Rattle.wrp_io.proofs.memory_link.MemLink.make.Goals as goal

pub returns-in_err-next-clause-fails : goal.returns-in_err-next-clause-fails
returns-in_err-next-clause-fails c =
    let is_err = c.from_residual.ensures.0 in
    ((λ _. elim (c.next.ensures.fails.0 (search rules)) [ inl listed ↦ inl (subst IsListed (ap (λ s. s.calls) c.self.view_is) listed) | inr t ↦ inr (search (rules, t)) ]), (λ _. is_err))

pub returns-clause-moves : goal.returns-clause-moves
returns-clause-moves c =
    let told = ap (λ s. s.told) c.self.view_is in
    let moved = c.move_frame.ensures.moves c.self.inside.told.items c.self.invariant.carries
    (subst (λ calls. IsNext calls c.args.call) (sym told) c.requires) in
    search (rules, moved, told)

pub returns-clause-fails : goal.returns-clause-fails
returns-clause-fails c = (
  (λ e. cc e),
  (λ fails. c.in_ok-next.ensures.fails.1 (elim fails [
    | inl listed ↦ inl (subst IsListed (sym (ap (λ s. s.calls) c.self.view_is)) listed)
    | inr over ↦ inr (search (rules, over))
  ])),
)
