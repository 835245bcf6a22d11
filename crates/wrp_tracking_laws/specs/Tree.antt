-- The bound on the way to the grandmaster, hop by hop (this project's profile).
use Rattle.std.specs.Prelude.{ℕ, ℤ, pos, ◌≡◌, ◌*◌, ◌+◌, ◌<◌, ◌≤◌, ◌⊎◌, ◌+ℤ◌, ◌-ℤ◌, ◌≤ℤ◌, unsigned_abs, Some, None}
use Rattle.wrp_network.specs.declared.configuration.NetCfg.{NetCfg}
use Rattle.wrp_network.specs.declared.network.LinkCfg.{LinkCfg}
use Rattle.wrp_base.specs.declared.link.ServoState.{ServoState}
use Rattle.wrp_base.specs.declared.link.ServoState.TheVariants.{Track, Holdover}
use Rattle.wrp_network.specs.Network.{IsTree, link_above, node_count}
use Rattle.wrp_base.specs.Closeness.{IsWithin}
use Rattle.wrp_bounds.specs.Bounds.{hop_of, path_of, holdover_of}
use Rattle.wrp_bounds.specs.Motion.{motion}

-- what one moment shows of all nodes: the offset and the servo's state of each
pub record Offsets : Type 0 where
  pub off : ℕ → ℤ
  pub state : ℕ → ServoState

-- the tracking bound of a node: its path in TRACK, and with the motion of HOLDOVER in HOLDOVER
pub record IsBounded (net : NetCfg) (w : Offsets) (n : ℕ) : Type 0 where
  pub track : w.state n ≡ Track → unsigned_abs (w.off n) ≤ path_of net n
  pub held : w.state n ≡ Holdover → unsigned_abs (w.off n) ≤ holdover_of net n

-- a node that its children may follow: the grandmaster, or one in TRACK or HOLDOVER
abbrev pub IsSource : NetCfg → Offsets → ℕ → Type 0
IsSource net w n = (link_above net n ≡ None) ⊎ ((w.state n ≡ Track) ⊎ (w.state n ≡ Holdover))

-- what each hop keeps at one moment: the grandmaster gives the time, a node in TRACK is within its hop of
-- a parent that it may follow, and a node in HOLDOVER is within its bound
pub record HopsHold (net : NetCfg) (w : Offsets) : Type 0 where
  pub top : (n : ℕ) → link_above net n ≡ None → w.off n ≡ pos 0
  pub hop :
      (n : ℕ) (link : LinkCfg) → link_above net n ≡ Some link → w.state n ≡ Track →
      IsWithin (hop_of net n) (w.off n) (w.off link.upper)
  pub source :
      (n : ℕ) (link : LinkCfg) → link_above net n ≡ Some link → w.state n ≡ Track →
      IsSource net w link.upper
  pub held : (n : ℕ) → w.state n ≡ Holdover → unsigned_abs (w.off n) ≤ holdover_of net n

-- so the hops add up from the grandmaster downwards
abbrev pub TreeSum : Type 0
TreeSum =
    (net : NetCfg) (w : Offsets) (n : ℕ) →
    IsTree net → n < node_count net → HopsHold net w → IsBounded net w n

-- a clock moved from one offset to another, at most at this rate in 10^-12, in at most this time
pub record Drifts (rate time : ℕ) (then_time now_time then_off now_off : ℤ) : Type 0 where
  pub order : then_time ≤ℤ now_time
  pub slow :
      unsigned_abs (now_off -ℤ then_off) * 1_000_000_000_000
      ≤ rate * unsigned_abs (now_time -ℤ then_time)
  pub soon : now_time ≤ℤ (then_time +ℤ pos time)

-- a node that was within a path when it entered HOLDOVER is within that and its motion since
abbrev pub HeldWithin : Type 0
HeldWithin =
    (rate time path : ℕ) (then_time now_time then_off now_off : ℤ) →
    Drifts rate time then_time now_time then_off now_off →
    unsigned_abs then_off ≤ path →
    unsigned_abs now_off ≤ path + motion rate time
