-- The delays that a link keeps come from the CALIBRATED that moved it in its present handshake.
use Rattle.std.proofs.Common.{◌≡◌, ◌≢◌, ◌⊎◌, ◌↔◌, refl, ap, sym, ◌∙◌, subst, inl, inr, ℕ, Bool, true, false, is_some, List, [], ◌∷◌, ◌++◌, Option, None, Some}
use Rattle.wrp_base.specs.declared.link.LinkState.{LinkState}
use Rattle.wrp_base.specs.declared.link.LinkState.TheVariants.{Idle, RespCalib}
use Rattle.wrp_base.specs.declared.link.Role.{Role}
use Rattle.wrp_base.specs.declared.link.Role.TheVariants.{Master, Slave}
use Rattle.wrp_base.specs.declared.message.WrMsg.TheVariants.{Calibrated as CALIBRATED}
use Rattle.wrp_link.specs.declared.interface.LinkIn.{LinkIn}
use Rattle.wrp_link.specs.declared.interface.LinkIn.TheVariants.{Msg}
use Rattle.wrp_link.specs.LinkAt.{LinkAt, new_link}
use Rattle.wrp_link.specs.Order.{StaysOut, Told}
use Rattle.wrp_link.specs.Rows.{Row, Keeps, Fails, Counts, CarrierComes, CarrierGoes, under, slave_row, master_row, message_row, row_of}
use Rattle.wrp_link.specs.Table.{by_row, after, run_of, StandsFor, is_same}
use Rattle.wrp_link.proofs.Fits.{Fits, row_fits}
use Rattle.wrp_link.proofs.Orders.{IsOrdered, counted_deltas, after_ordered, run_ordered, new_ordered, idle_unknown_of}

-- the delays that are kept are in a link that is out of IDLE
pub out_of_idle : (l : LinkAt) (tx rx : ℕ) → IsOrdered l → l.deltas ≡ Some (tx, rx) → l.state ≢ Idle
out_of_idle l tx rx o e idle =
    let known : is_some l.deltas ≡ true = ap (λ d. is_some d) e in
    let unknown : is_some l.deltas ≡ false = idle_unknown_of l o idle in
    cc

pub is_same_self : (s : LinkState) → is_same s s ≡ true
is_same_self Idle = refl
is_same_self _ = refl

pub differs : (a b : LinkState) → is_same a b ≡ false → a ≢ b
differs a b h e =
    let same : is_same a b ≡ true = ap (λ s. is_same a s) (sym e) ∙ is_same_self a in
    cc

-- the delays of a pair that is kept
abbrev delays_of : Option (ℕ × ℕ) → ℕ × ℕ
delays_of (Some d) = d
delays_of None = (0, 0)

-- what an input is to delays that are kept after it: they were kept before, or it gave them
pub record Tells (l : LinkAt) (input : LinkIn) (tx rx : ℕ) : Type 0 where
  pub is : input ≡ Msg (CALIBRATED tx rx)
  pub moved : l.state ≢ (after l input).state

-- delays that are kept after a row were kept before it, or come from the message
stood_or_told :
    (l : LinkAt) (input : LinkIn) (row : Row) (tx rx : ℕ) →
    row_of l input ≡ row →
    Fits l.role l.state input row →
    (by_row l row).deltas ≡ Some (tx, rx) → (l.deltas ≡ Some (tx, rx)) ⊎ Tells l input tx rx
stood_or_told l input (Keeps tx' rx' next sends) tx rx is f e =
    let moved : l.state ≢ (after l input).state =
    rw is (differs l.state next f.follows.leaves) in
    let told : input ≡ Msg (CALIBRATED tx rx) = f.told ∙ ap (λ d. Msg (CALIBRATED d.0 d.1)) (ap delays_of e) in
    inr (record { is = told; moved = moved })
stood_or_told l input Fails tx rx is f e = cc
stood_or_told l input Counts tx rx is f e = inl (sym (counted_deltas l l.state) ∙ e)
stood_or_told l input (CarrierComes own_module) tx rx is f e = cc
stood_or_told l input CarrierGoes tx rx is f e = cc
stood_or_told l input _ tx rx is f e = inl e

-- delays that are kept before a row are kept after it, out of IDLE
stand_on :
    (l : LinkAt) (input : LinkIn) (row : Row) (tx rx : ℕ) →
    Fits l.role l.state input row →
    IsOrdered l →
    l.deltas ≡ Some (tx, rx) → (by_row l row).state ≢ Idle → (by_row l row).deltas ≡ Some (tx, rx)
stand_on l input (Keeps tx' rx' next sends) tx rx f o e out =
    let known : is_some l.deltas ≡ true = ap (λ d. is_some d) e in
    let unknown : is_some l.deltas ≡ false = o.known ∙ f.unknown in
    cc
stand_on l input Fails tx rx f o e out = absurd (out refl)
stand_on l input Counts tx rx f o e out = counted_deltas l l.state ∙ e
stand_on l input (CarrierComes own_module) tx rx f o e out = absurd (out refl)
stand_on l input CarrierGoes tx rx f o e out = absurd (out refl)
stand_on l input _ tx rx f o e out = e

-- a CALIBRATED that moves is kept
abbrev KeepsWhatMoves : LinkAt → ℕ → ℕ → Row → Type 0
KeepsWhatMoves l tx rx row = l.state ≢ (by_row l row).state → (by_row l row).deltas ≡ Some (tx, rx)

under_keeps : (l : LinkAt) (tx rx : ℕ) (b : Bool) (row : Row) → KeepsWhatMoves l tx rx row → KeepsWhatMoves l tx rx (under b row)
under_keeps l tx rx true row h = h
under_keeps l tx rx false row h = λ moved. absurd (moved refl)

slave_keeps : (l : LinkAt) (s : LinkState) (tx rx : ℕ) → KeepsWhatMoves l tx rx (slave_row s (CALIBRATED tx rx))
slave_keeps l RespCalib tx rx = λ moved. refl
slave_keeps l _ tx rx = λ moved. absurd (moved refl)

master_keeps : (l : LinkAt) (s : LinkState) (tx rx : ℕ) → KeepsWhatMoves l tx rx (master_row l s (CALIBRATED tx rx))
master_keeps l RespCalib tx rx = λ moved. refl
master_keeps l _ tx rx = λ moved. absurd (moved refl)

message_keeps :
    (l : LinkAt) (role : Role) (tx rx : ℕ) → KeepsWhatMoves l tx rx (message_row l role (CALIBRATED tx rx))
message_keeps l Slave tx rx = slave_keeps l l.state tx rx
message_keeps l Master tx rx = master_keeps l l.state tx rx

kept :
    (l : LinkAt) (tx rx : ℕ) →
    l.state ≢ (after l (Msg (CALIBRATED tx rx))).state →
    (after l (Msg (CALIBRATED tx rx))).deltas ≡ Some (tx, rx)
kept l tx rx =
    under_keeps l tx rx l.carrier (message_row l l.role (CALIBRATED tx rx)) (message_keeps l l.role tx rx)

none_is_not_some : {A : Type 0} {a : A} → None ≡ Some a → ⊥
none_is_not_some e = cc

-- delays are kept as long as the link stays out of IDLE
stand_over :
    (l : LinkAt) (since before : List LinkIn) (tx rx : ℕ) →
    IsOrdered l →
    (run_of l before).deltas ≡ Some (tx, rx) →
    StaysOut l since before → (run_of l (since ++ before)).deltas ≡ Some (tx, rx)
stand_over l [] before tx rx o e out = e
stand_over l (input ∷ since) before tx rx o e out =
    let k : LinkAt = run_of l (since ++ before) in
    let ordered : IsOrdered k = run_ordered l (since ++ before) o in
    stand_on k input (row_of k input) tx rx
    (row_fits k input ordered.belongs)
    ordered
    (stand_over l since before tx rx o e out.1)
    out.0

-- the delays that are kept after inputs were given in one of them
pub stand_told :
    (l : LinkAt) (inputs : List LinkIn) (tx rx : ℕ) →
    IsOrdered l → l.deltas ≡ None → (run_of l inputs).deltas ≡ Some (tx, rx) → Told l inputs tx rx
stand_told l [] tx rx o none e = absurd (none_is_not_some (sym none ∙ e))
stand_told l (input ∷ before) tx rx o none e =
    let k : LinkAt = run_of l before in
    let ordered : IsOrdered k = run_ordered l before o in
    let out : (after k input).state ≢ Idle = out_of_idle (after k input) tx rx (after_ordered k input ordered) e in
    elim (stood_or_told k input (row_of k input) tx rx refl (row_fits k input ordered.belongs) e) [
      | inl stood ↦
          let t : Told l before tx rx = stand_told l before tx rx o none stood in
          record {
            since = input ∷ t.since;
            before = t.before;
            splits = ap (λ xs. input ∷ xs) t.splits;
            moved = t.moved;
            stays = (subst (λ xs. (run_of l (input ∷ xs)).state ≢ Idle) t.splits out, t.stays);
          }
      | inr t ↦
          record {
            since = [];
            before = before;
            splits = ap (λ i. i ∷ before) t.is;
            moved = subst (λ i. k.state ≢ (after k i).state) t.is t.moved;
            stays = subst (λ i. (after k i).state ≢ Idle) t.is out;
          }
    ]

-- the delays of a link are those that the peer gave
pub deltas_are_told :
    (l : LinkAt) (inputs : List LinkIn) →
    StandsFor l inputs → (tx rx : ℕ) → (l.deltas ≡ Some (tx, rx)) ↔ Told (new_link l.role l.set) inputs tx rx
deltas_are_told l inputs stood tx rx =
    let start : LinkAt = new_link l.role l.set in
    let o : IsOrdered start = new_ordered l.role l.set in (
      λ e. stand_told start inputs tx rx o refl (ap (λ k. k.deltas) (sym stood) ∙ e),
      λ t.
          ap (λ k. k.deltas) stood
          ∙ ap (λ xs. (run_of start xs).deltas) t.splits
          ∙ stand_over start t.since (Msg (CALIBRATED tx rx) ∷ t.before) tx rx o (kept (run_of start t.before) tx rx t.moved) t.stays,
    )
