-- A write fails if and only if the call is listed, or it has octets and the room is used up.
use Rattle.std.proofs.Common.{◌≡◌, inl, inr, ◌<◌, ◌≤◌, length, true, ap, subst, rules}
use Rattle.wrp_io.specs.Calls.{IsListed}
use Rattle.wrp_io.proofs.memory_sink.MemSinkSink.write.Goals as goal
use Rattle.wrp_io.proofs.memory_sink.MemSinkSink.write.Goals.{then-not-is_empty, else-not-is_empty}

pub returns-in_err-next-clause-fails : goal.returns-in_err-next-clause-fails
returns-in_err-next-clause-fails c =
    let used : c.if-not-is_empty.next ≡ true → (0 < length c.args.piece.now) × (c.args.self.now.room ≤ length c.args.self.now.held) =
    elim c.if-not-is_empty.branch [ then-not-is_empty w ↦ (λ t. search rules) | else-not-is_empty w ↦ (λ t. search rules) ] in
    let is_err = c.from_residual.ensures.0 in
    ((λ _. elim (c.next.ensures.fails.0 (search rules)) [ inl listed ↦ inl (subst IsListed (ap (λ s. s.calls) c.self.view_is) listed) | inr t ↦ inr (used t) ]), (λ _. is_err))
