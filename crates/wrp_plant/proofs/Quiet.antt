-- If the last frame was not put out now, no waiting frame was put out now.
use Rattle.std.proofs.Common.{◌≡◌, ◌∙◌, refl, ap, sym, subst, ◌||◌, ℕ, zero, suc, ◌+◌, ◌<◌, ℤ, ◌≤ℤ◌, Bool, true, false, List, [], ◌∷◌, length, Some, slice_get, arith}
use Rattle.std.proofs.lemmas.Bool.Decides.{Decides-int_eq}
use Rattle.std.proofs.lemmas.Int.{ints}
use Rattle.std.specs.List.{AllZip, list_any}
use Rattle.std.specs.Ordering.{int_eq}
use Rattle.wrp_network.specs.declared.configuration.NetCfg.{NetCfg}
use Rattle.wrp_base.specs.declared.link.Role.TheVariants.{Master, Slave}
use Rattle.wrp_course.specs.Setting.{Setting, from_on}
use Rattle.wrp_course.specs.Views.{oldest_of}
use Rattle.wrp_course.specs.WorldAt.{EndAt, Sending, WorldAt}
use Rattle.wrp_plant.specs.declared.ends.EndState.{EndState}
use Rattle.wrp_plant.specs.declared.ends.PutOut.{PutOut}
use Rattle.wrp_plant.specs.declared.ends.Span.{Span}
use Rattle.wrp_plant.specs.declared.plant.Plant.{Plant}
use Rattle.wrp_plant.specs.EndRoom.{PutBy, SpanPutBy}
use Rattle.wrp_plant.specs.Plant.{EndIs, FitsPlant, PlantIs, PutOutIs, SpanIs}
use Rattle.wrp_plant.specs.PutOut.{is_now, puts_out, puts_out_at}

-- what is not after a time before now is not now
same_time : (last time at : ℤ) → at ≡ time → at ≤ℤ last → last ≤ℤ time → last ≡ time
same_time last time at e h k = omega (arith, ints, e, h, k)

not_now : (last time at : ℤ) → (last ≡ time → ⊥) → last ≤ℤ time → at ≤ℤ last → int_eq at time ≡ false
not_now last time at differ later h = by_test (int_eq at time) refl where
  by_test : (b : Bool) → int_eq at time ≡ b → int_eq at time ≡ false
  by_test false e = e
  by_test true e =
      absurd (differ (same_time last time at ((Decides-int_eq at time).0 e) h later))

oldest_not_now : (w : WorldAt) (last : ℤ) (sent : List Sending) (outs : List PutOut) → AllZip PutOutIs sent outs →
    ((i : ℕ) (out : PutOut) → slice_get outs i ≡ Some out → out.at ≤ℤ last) → (last ≡ w.time → ⊥) → last ≤ℤ w.time →
    is_now w (oldest_of sent) ≡ false
oldest_not_now w last [] outs z h differ later = refl
oldest_not_now w last (m ∷ ms) [] z h differ later = absurd z
oldest_not_now w last (m ∷ ms) (o ∷ os) z h differ later =
    subst (λ t. int_eq t w.time ≡ false) z.0.at (not_now last w.time o.at differ later (h zero o refl))

end_not_now : (w : WorldAt) (last : ℤ) (at : EndAt) (end : EndState) → EndIs at end → PutBy last end → (last ≡ w.time → ⊥) → last ≤ℤ w.time →
    is_now w (oldest_of at.waiting) ≡ false
end_not_now w last at end is h differ later = oldest_not_now w last at.waiting end.waiting.items is.waiting h differ later

neither : (a b : Bool) → a ≡ false → b ≡ false → (a || b) ≡ false
neither a b e f = ap (λ x. x || b) e ∙ f

none_any : (p : ℕ → Bool) (count first : ℕ) → ((i : ℕ) → i < count → p (first + i) ≡ false) → list_any p (from_on count first) ≡ false
none_any p zero first h = refl
none_any p (suc count) first h =
    let here : first + 0 ≡ first = omega arith in
    neither (p first) (list_any p (from_on count (first + 1))) (sym (ap p here) ∙ h 0 (omega arith))
    (none_any p count (first + 1) (λ i l. next i l)) where
      next : (i : ℕ) → i < count → p ((first + 1) + i) ≡ false
      next i l = let there : first + suc i ≡ (first + 1) + i = omega arith in sym (ap p there) ∙ h (suc i) (omega (arith, l))

span_at : (xs : List Span) (k : ℕ) → k < length xs → (x : Span) × (slice_get xs k ≡ Some x)
span_at [] k h = absurd (omega arith)
span_at (x ∷ xs) zero h = (x, refl)
span_at (x ∷ xs) (suc k) h = span_at xs k (omega arith)

pub quiet : (s : Setting) (w : WorldAt) (plant : Plant) → FitsPlant plant → PlantIs s w plant → (plant.last_put ≡ plant.time → ⊥) → puts_out s w ≡ false
quiet s w plant f h differ = none_any (λ k. puts_out_at w k Master || puts_out_at w k Slave) (length s.cfg.links.items) 0 (λ i l. at_link i l) where
  now_not : plant.last_put ≡ w.time → ⊥
  now_not e = differ (e ∙ sym h.time)

  later : plant.last_put ≤ℤ w.time
  later = subst (λ t. plant.last_put ≤ℤ t) h.time f.put

  count : length plant.spans.items ≡ length s.cfg.links.items
  count = f.span_count ∙ ap (λ (cfg : NetCfg). length cfg.links.items) h.cfg

  at_number : (k : ℕ) → k < length s.cfg.links.items → (puts_out_at w k Master || puts_out_at w k Slave) ≡ false
  at_number k l =
      let it : (x : Span) × (slice_get plant.spans.items k ≡ Some x) = span_at plant.spans.items k (subst (λ n. k < n) (sym count) l) in
      let is : SpanIs w k it.0 = h.spans k it.0 it.1 in
      let put : SpanPutBy plant.last_put it.0 = f.puts k it.0 it.1 in
      neither (puts_out_at w k Master) (puts_out_at w k Slave)
      (end_not_now w plant.last_put (w.end_at k Master) it.0.master is.master put.master now_not later)
      (end_not_now w plant.last_put (w.end_at k Slave) it.0.slave is.slave put.slave now_not later)

  at_link : (i : ℕ) → i < length s.cfg.links.items → (puts_out_at w (0 + i) Master || puts_out_at w (0 + i) Slave) ≡ false
  at_link i l = let plain : 0 + i ≡ i = omega arith in subst (λ k. (puts_out_at w k Master || puts_out_at w k Slave) ≡ false) (sym plain) (at_number i l)
