-- A link over a list of inputs: its state is one of its role, it passed the states in their order, and it knows the
-- peer's delays in the states after RESP_CALIB_REQ and in no others.
use Rattle.std.proofs.Common.{◌≡◌, ◌≢◌, refl, ap, sym, ◌∙◌, subst, false, is_some, List, [], ◌∷◌, Option, None, Some}
use Rattle.wrp_base.specs.declared.link.LinkState.{LinkState}
use Rattle.wrp_base.specs.declared.link.LinkState.TheVariants.{Idle, LinkOn}
use Rattle.wrp_base.specs.declared.link.Role.{Role}
use Rattle.wrp_base.specs.declared.link.Role.TheVariants.{Master, Slave}
use Rattle.wrp_link.specs.declared.interface.LinkIn.{LinkIn}
use Rattle.wrp_link.specs.declared.interface.LinkSet.{LinkSet}
use Rattle.wrp_link.specs.Laws.{OneMessageTurnsOn, EachStateInItsTurn, IdleKeepsNoDeltas, TurnsOn}
use Rattle.wrp_link.specs.LinkAt.{LinkAt, new_link}
use Rattle.wrp_link.specs.Order.{order_of, up_to, passing, passed_by}
use Rattle.wrp_link.specs.Rows.{Row, Moves, Keeps, Fails, Counts, CarrierComes, CarrierGoes, row_of}
use Rattle.wrp_link.specs.Table.{counted, by_row, after, run_of, StandsFor}
use Rattle.wrp_link.proofs.Fits.{Belongs, knows, Fits, Follows, row_fits}
use Rattle.wrp_link.proofs.Runs.{by_row_role}

-- a link in a state of its role that knows the peer's delays if and only if it should
pub record IsOrdered (l : LinkAt) : Type 0 where
  pub belongs : Belongs l.role l.state
  pub known : is_some l.deltas ≡ knows l.role l.state

pub idle_belongs : (role : Role) → Belongs role Idle
idle_belongs Slave = tt
idle_belongs Master = tt

idle_unknown : (role : Role) → false ≡ knows role Idle
idle_unknown Slave = refl
idle_unknown Master = refl

pub idle_way : (role : Role) → Idle ∷ [] ≡ up_to Idle (order_of role)
idle_way Slave = refl
idle_way Master = refl

counted_ordered : (l : LinkAt) (state : LinkState) → IsOrdered l → IsOrdered (counted l state)
counted_ordered l Idle o = record { belongs = o.belongs; known = o.known }
counted_ordered l LinkOn o = record { belongs = o.belongs; known = o.known }
counted_ordered l _ o = o

-- counting a tick leaves state and deltas
pub counted_state : (l : LinkAt) (state : LinkState) → (counted l state).state ≡ l.state
counted_state l Idle = refl
counted_state l _ = refl

pub counted_deltas : (l : LinkAt) (state : LinkState) → (counted l state).deltas ≡ l.deltas
counted_deltas l Idle = refl
counted_deltas l _ = refl

pub by_row_ordered :
    (l : LinkAt) (input : LinkIn) (row : Row) →
    Fits l.role l.state input row → IsOrdered l → IsOrdered (by_row l row)
by_row_ordered l input (Moves next sends) f o =
    record { belongs = f.follows.belongs; known = o.known ∙ sym f.known }
by_row_ordered l input (Keeps tx rx next sends) f o =
    record { belongs = f.follows.belongs; known = sym f.known }
by_row_ordered l input Fails f o = record { belongs = idle_belongs l.role; known = idle_unknown l.role }
by_row_ordered l input Counts f o = counted_ordered l l.state o
by_row_ordered l input (CarrierComes own_module) f o =
    record { belongs = idle_belongs l.role; known = idle_unknown l.role }
by_row_ordered l input CarrierGoes f o = record { belongs = idle_belongs l.role; known = idle_unknown l.role }
by_row_ordered l input _ f o = record { belongs = o.belongs; known = o.known }

pub after_ordered : (l : LinkAt) (input : LinkIn) → IsOrdered l → IsOrdered (after l input)
after_ordered l input o = by_row_ordered l input (row_of l input) (row_fits l input o.belongs) o

pub run_ordered : (l : LinkAt) (inputs : List LinkIn) → IsOrdered l → IsOrdered (run_of l inputs)
run_ordered l [] o = o
run_ordered l (input ∷ before) o = after_ordered (run_of l before) input (run_ordered l before o)

pub new_ordered : (role : Role) (set : LinkSet) → IsOrdered (new_link role set)
new_ordered role set = record { belongs = idle_belongs role; known = idle_unknown role }

pub stands_ordered : (l : LinkAt) (inputs : List LinkIn) → StandsFor l inputs → IsOrdered l
stands_ordered l inputs stood =
    subst IsOrdered (sym stood) (run_ordered (new_link l.role l.set) inputs (new_ordered l.role l.set))

pub run_role : (l : LinkAt) (inputs : List LinkIn) → (run_of l inputs).role ≡ l.role
run_role l [] = refl
run_role l (input ∷ before) = by_row_role (run_of l before) (row_of (run_of l before) input) ∙ run_role l before

-- a state that stays passes nothing
passing_same : (role : Role) (s : LinkState) → passing (up_to s (order_of role)) s s ≡ up_to s (order_of role)
passing_same Slave Idle = refl
passing_same Master Idle = refl
passing_same _ _ = refl

passing_idle : (passed : List LinkState) (from : LinkState) (role : Role) → passing passed from Idle ≡ up_to Idle (order_of role)
passing_idle passed from role = idle_way role

-- a state that follows is passed next
passing_next :
    (role : Role) (from next : LinkState) →
    Follows role from next → passing (up_to from (order_of role)) from next ≡ up_to next (order_of role)
passing_next role from next f = rw (f.out, f.leaves) (sym f.order)

passing_by_row :
    (l : LinkAt) (input : LinkIn) (row : Row) →
    Fits l.role l.state input row →
    passing (up_to l.state (order_of l.role)) l.state (by_row l row).state
    ≡ up_to (by_row l row).state (order_of l.role)
passing_by_row l input (Moves next sends) f = passing_next l.role l.state next f.follows
passing_by_row l input (Keeps tx rx next sends) f = passing_next l.role l.state next f.follows
passing_by_row l input Fails f = passing_idle (up_to l.state (order_of l.role)) l.state l.role
passing_by_row l input Counts f = rw (counted_state l l.state) (passing_same l.role l.state)
passing_by_row l input (CarrierComes own_module) f = passing_idle (up_to l.state (order_of l.role)) l.state l.role
passing_by_row l input CarrierGoes f = passing_idle (up_to l.state (order_of l.role)) l.state l.role
passing_by_row l input _ f = passing_same l.role l.state

-- over all inputs the states are passed in their order
passed_in_order :
    (l : LinkAt) (inputs : List LinkIn) →
    IsOrdered l → l.state ≡ Idle → passed_by l inputs ≡ up_to (run_of l inputs).state (order_of l.role)
passed_in_order l [] o idle = idle_way l.role ∙ ap (λ s. up_to s (order_of l.role)) (sym idle)
passed_in_order l (input ∷ before) o idle =
    let k : LinkAt = run_of l before in
    let next : LinkAt = after k input in
    let here : passing (up_to k.state (order_of k.role)) k.state next.state ≡ up_to next.state (order_of k.role) =
    passing_by_row k input (row_of k input) (row_fits k input (run_ordered l before o).belongs) in
    let P : Role → Type 0 = λ r. passing (up_to k.state (order_of r)) k.state next.state ≡ up_to next.state (order_of r) in
    ap (λ p. passing p k.state next.state) (passed_in_order l before o idle) ∙ subst P (run_role l before) here

pub each_state_in_its_turn : EachStateInItsTurn
each_state_in_its_turn l inputs stood =
    passed_in_order (new_link l.role l.set) inputs (new_ordered l.role l.set) refl
    ∙ ap (λ k. up_to k.state (order_of l.role)) (sym stood)

-- no link that is in IDLE knows the delays
pub idle_unknown_of : (l : LinkAt) → IsOrdered l → l.state ≡ Idle → is_some l.deltas ≡ false
idle_unknown_of l o e = o.known ∙ ap (λ s. knows l.role s) e ∙ sym (idle_unknown l.role)

none_of : {A : Type 0} (o : Option A) → is_some o ≡ false → o ≡ None
none_of None e = refl
none_of (Some a) e = cc

pub idle_keeps_no_deltas : IdleKeepsNoDeltas
idle_keeps_no_deltas l inputs stood e = none_of l.deltas (idle_unknown_of l (stands_ordered l inputs stood) e)

-- a row that ends in WR_LINK_ON
turned_on :
    (l : LinkAt) (input : LinkIn) (row : Row) →
    Fits l.role l.state input row → l.state ≢ LinkOn → (by_row l row).state ≡ LinkOn → TurnsOn l.role l.state input
turned_on l input (Moves next sends) f off on = f.turns on
turned_on l input (Keeps tx rx next sends) f off on = f.turns on
turned_on l input Fails f off on = cc
turned_on l input Counts f off on = absurd (off (sym (counted_state l l.state) ∙ on))
turned_on l input (CarrierComes own_module) f off on = cc
turned_on l input CarrierGoes f off on = cc
turned_on l input _ f off on = absurd (off on)

pub one_message_turns_on : OneMessageTurnsOn
one_message_turns_on l inputs input stood off on =
    turned_on l input (row_of l input) (row_fits l input (stands_ordered l inputs stood).belongs) off on
