-- The ticks of a link in WR_LINK_ON, by looking back over its inputs, the newest first: the ticks since the state was
-- entered, however many they are; the link's running value gives which state it is. The names of the states are those
-- of the White Rabbit Specification 2.0; the count is this project's profile.
use Rattle.std.specs.Prelude.{◌≡◌, ◌^◌, ◌<◌, ◌+◌, ℕ, Bool, true, false, if◌then◌else◌, min, List, [], ◌∷◌}
use Rattle.wrp_base.specs.declared.link.LinkState.{LinkState}
use Rattle.wrp_base.specs.declared.link.LinkState.TheVariants.{LinkOn}
use Rattle.wrp_base.specs.declared.link.Role.{Role}
use Rattle.wrp_link.specs.declared.interface.LinkIn.{LinkIn}
use Rattle.wrp_link.specs.declared.interface.LinkIn.TheVariants.{Tick}
use Rattle.wrp_link.specs.declared.interface.LinkSet.{LinkSet}
use Rattle.wrp_link.specs.LinkAt.{LinkAt, new_link}
use Rattle.wrp_link.specs.Rows.{row_of}
use Rattle.wrp_link.specs.Table.{run_of}

abbrev pub is_on : LinkState → Bool
is_on LinkOn = true
is_on _ = false

-- the link after these inputs
abbrev pub link_after : Role → LinkSet → List LinkIn → LinkAt
link_after role set inputs = run_of (new_link role set) inputs

abbrev pub one_more : LinkIn → ℕ → ℕ
one_more (Tick locked) ticks = ticks + 1
one_more _ ticks = ticks

-- the ticks that came since WR_LINK_ON was entered, if the link is there
abbrev pub ticks_on : Role → LinkSet → List LinkIn → ℕ
ticks_on role set [] = 0
ticks_on role set (input ∷ before) =
    if is_on (link_after role set before).state then one_more input (ticks_on role set before) else 0

-- the link with that count in place of its own
abbrev pub told_ticks : Role → LinkSet → List LinkIn → LinkAt
told_ticks role set inputs = record (link_after role set inputs) { on_ticks = ticks_on role set inputs }

-- the count that a link holds is this one, held at the end of its type
abbrev pub CountIsHeld : Type 0
CountIsHeld =
    (role : Role) (set : LinkSet) (inputs : List LinkIn) → is_on (link_after role set inputs).state ≡ true →
    (link_after role set inputs).on_ticks ≡ min (ticks_on role set inputs) 4_294_967_295

-- holding it there has no effect: each input has the row that it has with the whole count
abbrev pub WholeCountDecides : Type 0
WholeCountDecides =
    (role : Role) (set : LinkSet) (inputs : List LinkIn) (input : LinkIn) → set.quiet < 2 ^ 32 →
    row_of (link_after role set inputs) input ≡ row_of (told_ticks role set inputs) input
