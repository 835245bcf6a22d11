-- One frame more.
use Rattle.std.proofs.Common.{◌∙◌, ap, ap₂, subst, ℕ, pos, ◌<◌, ◌++◌, ◌∷◌, [], List, length, slice_index_or, arith}
use Rattle.wrp_base.specs.declared.message.Body.TheVariants.{Sync}
use Rattle.wrp_base.specs.declared.message.PtpMsg.{PtpMsg}
use Rattle.wrp_node.specs.declared.interface.Output.{Output}
use Rattle.wrp_node.specs.NodeRun.{frame_out}
use Rattle.wrp_node.specs.Spelled.{IsSpelled}
use Rattle.wrp_node.proofs.Lists.{all_more, pushed_more}
use Rattle.wrp_node.proofs.place.PortPlace.put_frames.Goals as goal

-- the message at an unused place
abbrev nothing : PtpMsg
nothing = record {
  head = record { domain = 0; flags = 0; correction = pos 0; source = record { clock = 0; port = 0 }; seq = 0; interval = 0 };
  body = Sync (record { seconds = 0; nanos = 0 });
}

pub loop-message-preserved : goal.loop-message-preserved
loop-message-preserved c =
    let i : ℕ = c.loop-message.message-index in
    let number : ℕ = c.args.self.now.number in
    let below : i < length c.args.self.now.sends.items = omega (arith, ap length c.as_slice-message-items.ensures.value) in (
      c.put_frame.ensures.items
          ∙ ap₂ (λ (a : List Output) (x : Output). a ++ (x ∷ [])) c.loop-message.invariant.0
          (ap (λ (xs : List PtpMsg). frame_out number (slice_index_or xs i nothing)) c.as_slice-message-items.ensures.value)
          ∙ pushed_more (frame_out number) c.args.self.now.sends.items i nothing c.args.outs.now.items below,
      omega (arith, c.put_frame.ensures.room, c.loop-message.invariant.1),
      all_more IsSpelled c.args.self.now.sends.items i nothing below
          (subst (λ (xs : List PtpMsg). IsSpelled (slice_index_or xs i nothing)) c.as_slice-message-items.ensures.value c.put_frame.ensures.spelled)
          c.loop-message.invariant.2,
    )
