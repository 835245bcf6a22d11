-- The lines of outputs and of counters (this project's profile).
use Rattle.std.specs.Prelude.{◌≡◌, ℕ, ℤ, pos, List, [], ◌∷◌, ◌++◌, Option, None, Some, codes, length, take}
use Rattle.std.specs.Fmt.{decimal, signed_decimal}
use Rattle.hex.specs.Hex.{encode_lower}
use Rattle.wrp_network.specs.declared.configuration.NetCfg.{NetCfg}
use Rattle.wrp_base.specs.declared.link.ServoState.{ServoState}
use Rattle.wrp_network.specs.Network.{name_at}
use Rattle.wrp_bounds.specs.Bounds.{path_of}
use Rattle.wrp_node.specs.declared.interface.Output.{Output}
use Rattle.wrp_node.specs.declared.interface.Output.TheVariants as output
use Rattle.wrp_node.specs.declared.interface.Report.{Report}
use Rattle.wrp_node.specs.declared.interface.Report.TheVariants.{Link, Servo, Track}
use Rattle.wrp_records.specs.Words.{line_of}
use Rattle.wrp_lines.specs.Words.{link_word, reason_word, servo_word}

-- What a line says of an output, after the node's name and tick

-- a frame that a port sends, in hex
abbrev pub send_words : ℕ → List ℕ → List (List ℕ)
send_words port octets = codes "send" ∷ decimal port ∷ encode_lower octets ∷ []

-- a step of the clock, in periods
abbrev pub step_words : ℤ → List (List ℕ)
step_words cycles = codes "step" ∷ signed_decimal cycles ∷ []

-- a DAC value
abbrev pub dac_words : ℕ → List (List ℕ)
dac_words value = codes "dac" ∷ decimal value ∷ []

-- the true offset, if it is known
abbrev pub truth_words : Option ℤ → List (List ℕ)
truth_words None = []
truth_words (Some off) = codes "true" ∷ signed_decimal off ∷ []

-- the estimated offset and the bound
abbrev pub track_words : ℤ → ℤ → Option ℤ → List (List ℕ)
track_words est bound truth =
    codes "track" ∷ signed_decimal est ∷ signed_decimal bound ∷ truth_words truth

-- a port, by how its number and its word are written
abbrev pub link_words : List ℕ → List ℕ → List (List ℕ)
link_words port word = codes "link" ∷ port ∷ word ∷ []

-- a servo, by how its state is written
abbrev pub servo_words : List ℕ → List (List ℕ)
servo_words state = codes "servo" ∷ state ∷ []

-- a report
abbrev pub report_words : Report → ℤ → Option ℤ → List (List ℕ)
report_words (Link port word) bound truth = link_words (decimal port) (link_word word)
report_words (Servo state) bound truth = servo_words (servo_word state)
report_words (Track est) bound truth = track_words est bound truth

-- an output
abbrev pub output_words : Output → ℤ → Option ℤ → List (List ℕ)
output_words (output.Send port frame) bound truth = send_words port frame.items
output_words (output.Step cycles) bound truth = step_words cycles
output_words (output.Dac value) bound truth = dac_words value
output_words (output.Report report) bound truth = report_words report bound truth

-- What a line says of a node, after its name

-- a counter at a port, and how its reason is written
abbrev pub count_words : ℕ → List ℕ → ℕ → List (List ℕ)
count_words port reason value = codes "count" ∷ decimal port ∷ reason ∷ decimal value ∷ []

-- its run: its tick count, how many track lines it has, the greatest distance of its true offset from 0
-- at one of them, in tau, its bound, and how the state of its servo is written
abbrev pub sum_words : ℕ → ℕ → ℕ → ℤ → List ℕ → List (List ℕ)
sum_words ticks tracks worst bound state =
    codes "sum" ∷ decimal ticks ∷ decimal tracks ∷ decimal worst ∷ signed_decimal bound ∷ state ∷ []

-- Lines

-- the line of an output, at a tick of the node with this name and this bound
abbrev pub output_line_of : List ℕ → ℕ → Output → ℤ → Option ℤ → List ℕ
output_line_of name tick o bound truth =
    line_of (name ∷ decimal tick ∷ output_words o bound truth)

-- the line of an output of the node with this number: the bound is the node's bound in TRACK
abbrev pub output_line : NetCfg → ℕ → ℕ → Output → Option ℤ → List ℕ
output_line cfg n tick o truth = output_line_of (name_at cfg n) tick o (pos (path_of cfg n)) truth

-- the line of a counter at a port of the node with this name
abbrev pub count_line_of : List ℕ → ℕ → ℕ → ℕ → List ℕ
count_line_of name port reason value =
    line_of (name ∷ count_words port (reason_word reason) value)

-- the line of a counter at a port of the node with this number
abbrev pub count_line : NetCfg → ℕ → ℕ → ℕ → ℕ → List ℕ
count_line cfg n port reason value = count_line_of (name_at cfg n) port reason value

-- the line that sums up the run of the node with this name and this bound
abbrev pub sum_line_of : List ℕ → ℕ → ℕ → ℕ → ℤ → ServoState → List ℕ
sum_line_of name ticks tracks worst bound state =
    line_of (name ∷ sum_words ticks tracks worst bound (servo_word state))

-- the same for the node with this number: the bound is the node's bound in TRACK
abbrev pub sum_line : NetCfg → ℕ → ℕ → ℕ → ℕ → ServoState → List ℕ
sum_line cfg n ticks tracks worst state =
    sum_line_of (name_at cfg n) ticks tracks worst (pos (path_of cfg n)) state
