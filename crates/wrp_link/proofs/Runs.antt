-- A link over one more input: it keeps its role and what it is set to.
use Rattle.std.proofs.Common.{◌≡◌, refl, ap, ap₂, ◌∙◌, sym}
use Rattle.wrp_base.specs.Calls.{Adds}
use Rattle.wrp_base.specs.declared.link.LinkState.{LinkState}
use Rattle.wrp_base.specs.declared.link.LinkState.TheVariants.{Idle, LinkOn}
use Rattle.wrp_base.specs.declared.link.Role.{Role}
use Rattle.wrp_link.specs.declared.interface.LinkIn.{LinkIn}
use Rattle.wrp_link.specs.declared.interface.LinkSet.{LinkSet}
use Rattle.wrp_link.specs.LinkAt.{LinkAt, new_link}
use Rattle.wrp_link.specs.Rows.{Row, Counts, row_of}
use Rattle.wrp_link.specs.Table.{counted, by_row, after, run_of, StandsFor}

pub counted_role : (l : LinkAt) (state : LinkState) → (counted l state).role ≡ l.role
counted_role l Idle = refl
counted_role l _ = refl

pub counted_set : (l : LinkAt) (state : LinkState) → (counted l state).set ≡ l.set
counted_set l Idle = refl
counted_set l LinkOn = refl
counted_set l _ = refl

-- no row changes the role
pub by_row_role : (l : LinkAt) (row : Row) → (by_row l row).role ≡ l.role
by_row_role l Counts = counted_role l l.state
by_row_role l _ = refl

-- no row changes the set
pub by_row_set : (l : LinkAt) (row : Row) → (by_row l row).set ≡ l.set
by_row_set l Counts = counted_set l l.state
by_row_set l _ = refl

-- an input goes in front of those that a link stands for
pub stands_after : (l next : LinkAt) (input : LinkIn) → next ≡ after l input → Adds StandsFor l next input
stands_after l next input moved inputs stood =
    let role : l.role ≡ next.role = sym (ap (λ k. k.role) moved ∙ by_row_role l (row_of l input)) in
    let set : l.set ≡ next.set = sym (ap (λ k. k.set) moved ∙ by_row_set l (row_of l input)) in
    moved
    ∙ ap (λ k. after k input) stood
    ∙ ap₂ (λ (r : Role) (s : LinkSet). after (run_of (new_link r s) inputs) input) role set
