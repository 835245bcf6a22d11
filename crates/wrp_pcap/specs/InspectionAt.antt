-- The packets that an inspection represents, by what they carry, the newest first (this project's profile).
use Rattle.std.specs.Prelude.{◌≡◌, ℕ, ◌+◌, List, ◌∷◌, ◌++◌, length}
use Rattle.std.specs.List.{count_by}
use Rattle.wrp_pcap.specs.declared.counts.Counts.{Counts}
use Rattle.wrp_pcap.specs.declared.inspection.Inspection.{Inspection}
use Rattle.wrp_pcap.specs.declared.pairs.Pairs.{Pairs}
use Rattle.wrp_pcap.specs.declared.content.Content.{Content}
use Rattle.wrp_pcap.specs.declared.content.Content.TheVariants.{Message}
use Rattle.wrp_pcap.specs.Content.{HasContent, messages_of}
use Rattle.wrp_pcap.specs.PacketLines.{packet_lines, is_message, is_other, is_faulty, complete_count}
use Rattle.wrp_pcap.specs.StandsFor.{StandsFor, Kept}

-- the counts of packets that carry this
pub record AreCounts (counts : Counts) (contents : List Content) : Type 0 where
  pub packets : counts.packets ≡ length contents
  pub messages : counts.messages ≡ count_by is_message contents
  pub others : counts.others ≡ count_by is_other contents
  pub faults : counts.faults ≡ count_by is_faulty contents
  pub complete : counts.complete ≡ complete_count contents

-- the inspection represents packets that carry this
pub record HasTaken (inspection : Inspection) (contents : List Content) : Type 0 where
  pub stands : StandsFor inspection.pairs (messages_of contents)
  pub counts : AreCounts inspection.counts contents

-- how many packets an inspection counts
abbrev pub packets_taken : Inspection → ℕ
packets_taken inspection = inspection.counts.packets

-- a packet was taken: its lines follow a text, and the inspection represents one more packet
pub record Took (packet : List ℕ) (old new : Inspection) (was now : List ℕ) : Type 0 where
  pub content : Content
  pub has : HasContent packet content
  pub stands : (before : List Content) → HasTaken old before → HasTaken new (content ∷ before)
  pub written : (before : List Content) → HasTaken old before
      → now ≡ was ++ packet_lines (length before + 1) (messages_of before) content

-- what a packet carries is kept for later ones: a message, and nothing else
abbrev pub KeepsContent : ℕ → Content → Pairs → Pairs → Type 0
KeepsContent number (Message message) old new =
    Kept number message.head.source message.body old new
KeepsContent number _ old new = new ≡ old
