-- When the oldest frame that waits at an end was put out.
use Rattle.std.proofs.Common.{◌≡◌, ◌∙◌, refl, ap, sym, subst, ℕ, ◌<◌, ◌^◌, ℤ, List, [], ◌∷◌, slice_get, Option, Some, IfSome, option_map}
use Rattle.std.specs.List.{AllZip}
use Rattle.wrp_base.specs.declared.link.Role.{Role}
use Rattle.wrp_base.specs.declared.link.Role.TheVariants.{Master, Slave}
use Rattle.wrp_plant.specs.declared.ends.PutOut.{PutOut}
use Rattle.wrp_plant.specs.declared.ends.Span.{Span}
use Rattle.wrp_plant.specs.Plant.{Each, EndIs, FitsEnd, FitsSpan, PutOutIs, SpanIs, end_in}
use Rattle.wrp_plant.specs.Sizes.{IsTimeBy, IsTime}
use Rattle.wrp_course.specs.WorldAt.{Sending, WorldAt}
use Rattle.wrp_plant.proofs.Sizing.{time_size}
use Rattle.wrp_plant.proofs.Standing.{end_told}
use Rattle.wrp_course.specs.Views.{oldest_of}

pub fits_end : (e : ℕ) (span : Span) (role : Role) → FitsSpan e span → FitsEnd e (end_in span role)
fits_end e span Master h = h.master
fits_end e span Slave h = h.slave

first_waits : (sent : List Sending) (outs : List PutOut) → AllZip PutOutIs sent outs → option_map (λ out. out.at) (slice_get outs 0) ≡ oldest_of sent
first_waits [] [] h = refl
first_waits [] (y ∷ ys) h = absurd h
first_waits (x ∷ xs) [] h = absurd h
first_waits (x ∷ xs) (y ∷ ys) h = ap (λ t. Some t) h.0.at

pub oldest_told : (w : WorldAt) (k : ℕ) (span : Span) (role : Role) (r : Option ℤ) → SpanIs w k span →
    r ≡ option_map (λ out. out.at) (slice_get (end_in span role).waiting.items 0) → r ≡ oldest_of (w.end_at k role).waiting
oldest_told w k span role r h e =
    let end : EndIs (w.end_at k role) (end_in span role) = end_told w k span role h in
    e ∙ first_waits (w.end_at k role).waiting (end_in span role).waiting.items end.waiting

first_fits : (events : ℕ) (outs : List PutOut) → events < 2 ^ 32 → Each (λ i out. IsTimeBy events out.at) outs →
    IfSome (option_map (λ (out : PutOut). out.at) (slice_get outs 0)) IsTime
first_fits events [] few h = tt
first_fits events (out ∷ outs) few h = time_size events out.at few (h 0 out refl)

pub oldest_fits : (events : ℕ) (span : Span) (role : Role) (r : Option ℤ) → events < 2 ^ 32 → FitsSpan events span →
    r ≡ option_map (λ out. out.at) (slice_get (end_in span role).waiting.items 0) → IfSome r IsTime
oldest_fits events span role r few h e =
    let fits : FitsEnd events (end_in span role) = fits_end events span role h in
    subst (λ o. IfSome o IsTime) (sym e) (first_fits events (end_in span role).waiting.items few fits.waiting)
