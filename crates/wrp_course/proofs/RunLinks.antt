-- A link by itself: what it is set to stays, and without a carrier it is as new.
use Rattle.std.proofs.Common.{◌≡◌, ◌∙◌, refl, sym, subst, Bool, true, false, List, [], ◌∷◌}
use Rattle.wrp_base.specs.declared.link.LinkState.{LinkState}
use Rattle.wrp_base.specs.declared.link.LinkState.TheVariants.{Idle, LinkOn}
use Rattle.wrp_base.specs.declared.link.Role.{Role}
use Rattle.wrp_base.proofs.Booleans.{not_both}
use Rattle.wrp_link.specs.declared.interface.LinkIn.{LinkIn}
use Rattle.wrp_link.specs.declared.interface.LinkIn.TheVariants.{Msg, Announce, Tick, CarrierDown, CarrierUp}
use Rattle.wrp_link.specs.declared.interface.LinkSet.{LinkSet}
use Rattle.wrp_link.specs.LinkAt.{LinkAt, new_link}
use Rattle.wrp_link.specs.Rows.{Row, Counts, CarrierComes, CarrierGoes, announce_row, message_row, row_of, tick_row, under}
use Rattle.wrp_link.specs.Table.{after, by_row, counted, run_of}
use Rattle.wrp_link.proofs.Runs.{by_row_set}

-- What stays

pub run_set : (l : LinkAt) (inputs : List LinkIn) → (run_of l inputs).set ≡ l.set
run_set l [] = refl
run_set l (input ∷ before) = by_row_set (run_of l before) (row_of (run_of l before) input) ∙ run_set l before

-- Without a carrier

-- a link without a carrier is as new
abbrev pub IsDark : LinkAt → Type 0
IsDark l = l.carrier ≡ false → l ≡ new_link l.role l.set

pub counted_carrier : (l : LinkAt) (s : LinkState) → (counted l s).carrier ≡ l.carrier
counted_carrier l Idle = refl
counted_carrier l LinkOn = refl
counted_carrier l _ = refl

-- a carrier goes only by the row of a carrier that goes
lit_row : (l : LinkAt) (row : Row) → l.carrier ≡ true → IsDark (by_row l row)
lit_row l Counts e = λ f. absurd (not_both l.carrier e (sym (counted_carrier l l.state) ∙ f))
lit_row l CarrierGoes e = λ f. refl
lit_row l (CarrierComes own_module) e = λ f. absurd (not_both true refl f)
lit_row l _ e = λ f. absurd (not_both l.carrier e f)

-- without one, a carrier comes or nothing changes
dark_row : (l : LinkAt) (input : LinkIn) → l.carrier ≡ false → IsDark l → IsDark (after l input)
dark_row l (CarrierUp own_module) e h = λ f. absurd (not_both true refl f)
dark_row l (Msg message) e h = subst (λ b. IsDark (by_row l (under b (message_row l l.role message)))) (sym e) h
dark_row l (Announce suffix) e h = subst (λ b. IsDark (by_row l (under b (announce_row l l.role l.state suffix)))) (sym e) h
dark_row l (Tick locked) e h = subst (λ b. IsDark (by_row l (under b (tick_row l l.state locked)))) (sym e) h
dark_row l CarrierDown e h = subst (λ b. IsDark (by_row l (under b CarrierGoes))) (sym e) h

either_dark : (l : LinkAt) (input : LinkIn) (b : Bool) → l.carrier ≡ b → IsDark l → IsDark (after l input)
either_dark l input true e h = lit_row l (row_of l input) e
either_dark l input false e h = dark_row l input e h

pub run_dark : (role : Role) (set : LinkSet) (inputs : List LinkIn) → IsDark (run_of (new_link role set) inputs)
run_dark role set [] = λ f. refl
run_dark role set (input ∷ before) =
    either_dark (run_of (new_link role set) before) input (run_of (new_link role set) before).carrier refl (run_dark role set before)
