-- How the first port is found at which a waiting frame was put out now: by going through the ports at the ends of
-- links, link by link (this project's profile).
use Rattle.std.specs.Prelude.{ℕ, zero, suc, ◌+◌, ◌*◌, nat_lt, if◌then◌else◌, Option, None, Some}
use Rattle.wrp_base.specs.declared.link.Role.{Role}
use Rattle.wrp_base.specs.declared.link.Role.TheVariants.{Master, Slave}
use Rattle.wrp_network.specs.Network.{End}
use Rattle.wrp_course.specs.Setting.{Setting, end_at}
use Rattle.wrp_course.specs.WorldAt.{WorldAt}
use Rattle.wrp_plant.specs.PutOut.{puts_out_at}

-- a port's place in the order by node, then by port number: port numbers are below 32
abbrev pub rank : ℕ × ℕ → ℕ
rank port = 32 * port.0 + port.1

-- the earlier of two ports; the second if there is no first one
abbrev pub sooner : Option (ℕ × ℕ) → ℕ × ℕ → ℕ × ℕ
sooner None port = port
sooner (Some first) port = if nat_lt (rank first) (rank port) then first else port

-- the earlier of this port and the port at an end, if there is such an end
abbrev pub with_port : Option (ℕ × ℕ) → Option End → Option (ℕ × ℕ)
with_port first None = first
with_port first (Some end) = Some (sooner first (end.node, end.port))

-- the same, if the oldest frame that waits there was put out now
abbrev pub with_end : Setting → WorldAt → Option (ℕ × ℕ) → ℕ → Role → Option (ℕ × ℕ)
with_end s w first k r = if puts_out_at w k r then with_port first (end_at s k r) else first

-- the same at both ends of a link
abbrev pub with_link : Setting → WorldAt → Option (ℕ × ℕ) → ℕ → Option (ℕ × ℕ)
with_link s w first k = with_end s w (with_end s w first k Master) k Slave

-- the same at the ends of the first k links
abbrev pub first_among : Setting → WorldAt → ℕ → Option (ℕ × ℕ)
first_among s w zero = None
first_among s w (suc k) = with_link s w (first_among s w k) k
