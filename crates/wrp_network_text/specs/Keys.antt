-- The rows of a network file: of `network`, of a node, and of the text itself (this project's profile).
use Rattle.std.specs.Prelude.{ℕ, ℤ, pos, List, [], ◌∷◌, Option, Some, None, codes, if◌then◌else◌, unwrap_or}
use Rattle.std.specs.Ordering.{int_eq}
use Rattle.toml.specs.Data.{Data, Members, no_members, as_table, get_member}
use Rattle.wrp_base.specs.declared.time.Clock.{Clock}
use Rattle.wrp_base.specs.declared.time.Clock.TheVariants.{Mhz125, Mhz62}
use Rattle.wrp_caldb.specs.Calibration.{version_key, module_key, fibre_key}
use Rattle.wrp_caldb.specs.Database.{number_at}
use Rattle.wrp_caldb.specs.Key.{Key, required_key, optional_key, default_key, defaulted_key, name_key}
use Rattle.wrp_caldb.specs.declared.row.Sort.TheVariants as so
use Rattle.wrp_network_text.specs.declared.settings.NetworkKey.{NetworkKey}
use Rattle.wrp_network_text.specs.declared.settings.NetworkKey.TheVariants as se

-- the text

-- the numbers of the network, which may be missing
abbrev pub network_key : Key
network_key = optional_key (codes "network") so.Table

-- the nodes, of which there is at least one and at most 64
abbrev pub node_key : Key
node_key = optional_key (codes "node") (so.Tables 0 (Some 64))

-- the links, at most 63, which may be missing
abbrev pub link_key : Key
link_key = optional_key (codes "link") (so.Tables 0 (Some 63))

-- the keys of the text itself
abbrev pub top_keys : List Key
top_keys =
    version_key ∷ network_key ∷ node_key ∷ link_key ∷ module_key ∷ fibre_key ∷ []

-- the network

-- a number of `network`, from least to greatest, and its value if it is missing
abbrev pub number : List ℕ → ℕ → ℕ → ℕ → Key
number name least greatest default = default_key name (pos least) (pos greatest) (pos default)

-- the row of a number of `network`
abbrev pub key_of : NetworkKey → Key
key_of se.Epoch = number (codes "epoch") 1_000_000 34_359_738_368 1_000_000
key_of se.Domain = number (codes "domain") 0 255 0
key_of se.DminNs = number (codes "dmin_ns") 1_000 1_000_000_000 9_000_000
key_of se.DmaxNs = number (codes "dmax_ns") 1_000 1_000_000_000 11_000_000
key_of se.LifeNs = number (codes "life_ns") 1 10_000_000_000 100_000_000
key_of se.ReachNs = number (codes "reach_ns") 1 1_000_000_000 100_000
key_of se.Quiet = number (codes "quiet") 2 1_000_000 24
key_of se.Holdover = number (codes "holdover") 2 1_000_000 320
key_of se.Wait = number (codes "wait") 1 1_000_000 30
key_of se.LockWait = number (codes "lock_wait") 1 1_000_000 1_500
key_of se.Holdoff = number (codes "holdoff") 1 1_000_000 300
key_of se.Lease = number (codes "lease") 1 1_000_000 250
key_of se.Age = number (codes "age") 1 1_000_000 300
key_of se.Report = number (codes "report") 1 1_000_000 100
key_of se.Stable = number (codes "stable") 1 1_000_000 50
key_of se.LockSamples = number (codes "lock_samples") 1 1_000_000 100
key_of se.Retries = number (codes "retries") 0 100 3
key_of se.Gap = number (codes "gap") 1 100 2
key_of se.Announce = number (codes "announce") 1 10_000 100
key_of se.Sync = number (codes "sync") 1 10_000 25
key_of se.Delay = number (codes "delay") 1 10_000 25
key_of se.Ring = number (codes "ring") 1 4_096 64
key_of se.TrackTau = number (codes "track_tau") 1 1_000_000_000 3_276_800
key_of se.LoopTau = number (codes "loop_tau") 1 1_000_000_000 3_276_800
key_of se.PhaseStep = number (codes "phase_step") 1 1_000_000_000 100_000
key_of se.Kp = number (codes "kp") 0 65_535 125
key_of se.Ki = number (codes "ki") 0 65_535 5
key_of se.Bias = number (codes "bias") 0 65_535 32_768
key_of se.Threshold = number (codes "threshold") 1 1_048_576 6_400
key_of se.DelockSamples = number (codes "delock_samples") 0 1_000_000 50

-- the period of the clock, in ps
abbrev pub period_key : Key
period_key = defaulted_key (codes "period_ps") (so.OneOf (pos 8_000) (pos 16_000)) (pos 8_000)

-- the clock of a period
abbrev pub clock_of_period : ℤ → Clock
clock_of_period ps = if int_eq ps (pos 16_000) then Mhz62 else Mhz125

-- the keys of `network`
abbrev pub network_keys : List Key
network_keys =
    key_of se.Epoch ∷ key_of se.Domain ∷ key_of se.DminNs ∷ key_of se.DmaxNs ∷ key_of se.LifeNs
    ∷ key_of se.ReachNs ∷ key_of se.Quiet ∷ key_of se.Holdover ∷ key_of se.Wait ∷ key_of se.LockWait
    ∷ key_of se.Holdoff ∷ key_of se.Lease ∷ key_of se.Age ∷ key_of se.Report ∷ key_of se.Stable
    ∷ key_of se.LockSamples ∷ key_of se.Retries ∷ key_of se.Gap ∷ key_of se.Announce ∷ key_of se.Sync
    ∷ key_of se.Delay ∷ key_of se.Ring ∷ key_of se.TrackTau ∷ key_of se.LoopTau ∷ key_of se.PhaseStep
    ∷ key_of se.Kp ∷ key_of se.Ki ∷ key_of se.Bias ∷ key_of se.Threshold ∷ key_of se.DelockSamples
    ∷ period_key ∷ []

-- the members of a value, if it is a table
abbrev pub members_of : Option Data → Members
members_of None = no_members
members_of (Some d) = unwrap_or (as_table d) no_members

-- the table `network`; without members if it is missing
abbrev pub network_in : Members → Members
network_in doc = members_of (get_member (codes "network") doc)

-- the clock of a network
abbrev pub clock_in : Members → Clock
clock_in doc = clock_of_period (number_at period_key (network_in doc))

-- a node

-- the clockIdentity
abbrev pub identity_key : Key
identity_key = required_key (codes "identity") so.Identity

-- the error of a send stamp, in tau
abbrev pub e_tx_key : Key
e_tx_key = number (codes "e_tx") 1_000 1_000_000_000 655_360

-- the error of a tag, in tau: at least one step of the detector
abbrev pub e_tag_key : Clock → Key
e_tag_key Mhz125 = number (codes "e_tag") 32_000 65_535_999 64_000
e_tag_key Mhz62 = number (codes "e_tag") 64_000 65_535_999 64_000

-- how far the edge may flicker, in steps of the detector
abbrev pub beat_key : Key
beat_key = number (codes "beat") 0 24 4

-- the greatest rate of a locked clock, in 10^-12
abbrev pub slew_key : Key
slew_key = number (codes "slew") 0 1_000_000_000 500

-- the greatest rate of a clock in HOLDOVER, in 10^-12
abbrev pub held_key : Key
held_key = number (codes "held") 0 1_000_000_000 10

-- the keys of a node
abbrev pub node_keys : Clock → List Key
node_keys clock =
    name_key ∷ identity_key ∷ e_tx_key ∷ e_tag_key clock ∷ beat_key ∷ slew_key ∷ held_key ∷ []
