-- What the port of a number reports, if there is one.
use Rattle.std.specs.Prelude.{ℕ, ◌%◌, pos, nat_lt, Bool, false, Option, None, Some}
use Rattle.wrp_base.specs.declared.link.Deltas.{Deltas}
use Rattle.wrp_base.specs.declared.link.LinkWord.{LinkWord}
use Rattle.wrp_base.specs.declared.link.LinkWord.TheVariants.{Down}
use Rattle.wrp_base.specs.declared.measurement.Four.{Four}
use Rattle.wrp_base.specs.declared.time.Clock.{Clock}
use Rattle.wrp_base.specs.declared.time.Raw.{Raw}
use Rattle.wrp_base.specs.declared.time.Stamp.{Stamp}
use Rattle.wrp_base.specs.Clock.{steps_of_period}
use Rattle.wrp_data.specs.Counters.{count_at}
use Rattle.wrp_link.specs.Table.{word_of}
use Rattle.wrp_node.specs.declared.place.PortPlace.{PortPlace}
use Rattle.wrp_port.specs.PortAt.{deltas_of}
use Rattle.wrp_stamp.specs.Merge.{merged, transition_of}

-- whether the lease of the port is fresh, that is, has turns left; false if there is no port
abbrev pub lease_in : Option PortPlace → Bool
lease_in None = false
lease_in (Some place) = nat_lt 0 place.port.line.lease

-- the four delays of the port's link, in tau: only of a slave port in WR_LINK_ON
abbrev pub deltas_in : Option PortPlace → Option Deltas
deltas_in None = None
deltas_in (Some place) = deltas_of place.port.set.ds.role place.port.line.link

-- the tag at which the counters of the port change over, in steps of the detector, below 16384; 0 if the port's
-- module is not listed, or if there is no port
abbrev pub transition_in : Option PortPlace → ℕ
transition_in None = 0
transition_in (Some place) = transition_of place.port.line.link.own_module % steps_of_period

-- the stamp of a reception there
abbrev pub stamp_in : Clock → Raw → ℕ → Option PortPlace → Stamp
stamp_in clock raw sample place = record { value = pos (merged clock raw (transition_in place)); sample = sample }

-- the four stamps of the measurement that the newest message at the port made, if it made one
abbrev pub measured_in : Option PortPlace → Option Four
measured_in None = None
measured_in (Some place) = place.lent.measured

-- the word of the port; down if there is no port
abbrev pub word_in : Option PortPlace → LinkWord
word_in None = Down
word_in (Some place) = word_of place.port.line.link

-- how often the port dropped something for the reason of this number; 0 if there is no port
abbrev pub times_in : ℕ → Option PortPlace → ℕ
times_in reason None = 0
times_in reason (Some place) = count_at place.counters reason
