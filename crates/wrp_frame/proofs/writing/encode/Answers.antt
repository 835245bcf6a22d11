use Rattle.std.proofs.Common.{sym, subst}
use Rattle.wrp_frame.specs.Grammar.{Spells}
use Rattle.wrp_frame.specs.Sent.{IsFrameOf}
use Rattle.wrp_frame.proofs.Encoded.{IsSendable, octets_spell, octets_are_frame}
use Rattle.wrp_frame.proofs.writing.encode.Goals as goal

sendable : (c : goal.After-frame_of) → IsSendable c.args.m.now
sendable c = record {
  sound = c.requires;
  size = c.frame_of.ensures.size;
  head = c.frame_of.ensures.head;
  body = c.frame_of.ensures.body;
  back = c.frame_of.ensures.read_back;
}

pub returns-clause-spelled : goal.returns-clause-spelled
returns-clause-spelled c =
    subst (λ octets. Spells octets c.args.m.now) (sym c.frame_of.ensures.items) (octets_spell c.args.m.now (sendable c))

pub returns-clause-frame : goal.returns-clause-frame
returns-clause-frame c =
    subst (IsFrameOf c.args.m.now) (sym c.frame_of.ensures.items) (octets_are_frame c.args.m.now (sendable c))

pub returns-clause-read_back : goal.returns-clause-read_back
returns-clause-read_back c answer exactly = (exactly c.args.m.now).1 (returns-clause-spelled c)
