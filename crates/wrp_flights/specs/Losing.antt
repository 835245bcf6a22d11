-- Which frames on fibres are lost, and what becomes of frames when one arrives (this project's
-- profile).
use Rattle.std.specs.Prelude.{◌==◌, ◌||◌, ◌&&◌, nat_lt, ℕ, Bool, true, false, if◌then◌else◌, List, slice_get}
use Rattle.std.specs.Option.{option_map_or}
use Rattle.wrp_base.specs.declared.link.Role.{Role}
use Rattle.wrp_base.specs.declared.link.Role.TheVariants.{Master, Slave}
use Rattle.wrp_network.specs.declared.network.LinkCfg.{LinkCfg}
use Rattle.wrp_flights.specs.declared.departed.Departed.{Departed}
use Rattle.wrp_flights.specs.declared.departed.OnFibre.{OnFibre}
use Rattle.wrp_flights.specs.declared.departed.Reception.{Reception}
use Rattle.wrp_flights.specs.declared.losing.Loss.{Loss}
use Rattle.wrp_flights.specs.declared.losing.Loss.TheVariants.{Link, Node, Older}
use Rattle.wrp_flights.specs.Departed.{lost, receive}

abbrev pub is_role : Role → Role → Bool
is_role Master Master = true
is_role Slave Slave = true
is_role _ _ = false

-- one of the two ends of a link is this node's
abbrev pub touches : ℕ → LinkCfg → Bool
touches n link = (link.upper == n) || (link.lower == n)

-- the link with this number is one of the node's
abbrev pub is_at_node : ℕ → List LinkCfg → ℕ → Bool
is_at_node n links k = option_map_or (touches n) (slice_get links k) false

-- a frame with a lower number that the same end sent
abbrev pub is_older : (j link : ℕ) → Role → ℕ → Departed → Bool
is_older j link by q d = nat_lt q j && ((d.link == link) && is_role d.by by)

-- the frame with this number is one of those that are lost
abbrev pub meets : List LinkCfg → Loss → ℕ → Departed → Bool
meets links (Link k) q d = d.link == k
meets links (Node n) q d = is_at_node n links d.link
meets links (Older j link by) q d = is_older j link by q d

-- a frame that is listed so is one of those that are lost
abbrev pub hits : List LinkCfg → Loss → OnFibre → Bool
hits links (Link k) it = it.link == k
hits links (Node n) it = is_at_node n links it.link
hits links (Older j link by) it = nat_lt it.number j && ((it.link == link) && is_role it.by by)

abbrev pub lost_by : List LinkCfg → Loss → ℕ → Departed → Departed
lost_by links loss q d = lost (meets links loss q d) d

-- What becomes of the frame with a number

-- if what is on the fibre of this link is lost
abbrev pub loses_link : ℕ → ℕ → Departed → Departed
loses_link k q d = lost (d.link == k) d

-- if what is on the fibres of this node's links is lost
abbrev pub loses_node : ℕ → List LinkCfg → ℕ → Departed → Departed
loses_node n links q d = lost (is_at_node n links d.link) d

-- if frame j, which this end of this link sent, arrives, and the older ones from there are lost
abbrev pub arrives_by : (j : ℕ) → Reception → (link : ℕ) → Role → ℕ → Departed → Departed
arrives_by j reception link by q d = lost (is_older j link by q d) (if q == j then receive reception d else d)
