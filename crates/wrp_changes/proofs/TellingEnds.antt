-- How the step of a node changes the ends of links: the plant changes as its state does.
use Rattle.std.proofs.Common.{◌≡◌, ◌∙◌, refl, ap, sym, subst, ℕ, ◌+◌, ◌==◌, ℤ, Bool, true, false, if◌then◌else◌, List, [], ◌∷◌, ◌++◌, map, reverse, Option, None, Some, option_map}
use Rattle.std.proofs.lemmas.List.{reverse-append, append-nil}
use Rattle.std.specs.List.{AllZip}
use Rattle.std.specs.Option.{option_map_or}
use Rattle.std.proofs.lemmas.Bool.{eqb-true}
use Rattle.wrp_base.specs.declared.link.LinkState.{LinkState}
use Rattle.wrp_base.specs.declared.link.Mark.{Mark}
use Rattle.wrp_base.specs.declared.link.Role.{Role}
use Rattle.wrp_base.specs.declared.link.Role.TheVariants.{Master, Slave}
use Rattle.wrp_base.specs.declared.message.PtpMsg.{PtpMsg}
use Rattle.wrp_base.specs.declared.message.WrMsg.{WrMsg}
use Rattle.wrp_network.specs.declared.network.LinkCfg.{LinkCfg}
use Rattle.wrp_network.specs.Network.{End}
use Rattle.wrp_handshake_laws.specs.Ends.{marked}
use Rattle.wrp_link.specs.Table.{is_same}
use Rattle.wrp_node.specs.declared.interface.Output.{Output}
use Rattle.wrp_node.specs.NodeAt.{link_at}
use Rattle.wrp_node.specs.Sends.{frames_at}
use Rattle.wrp_node.specs.States.{state_in}
use Rattle.wrp_node.specs.Telling.{Step}
use Rattle.wrp_plant.specs.declared.ends.EndState.{EndState}
use Rattle.wrp_plant.specs.declared.ends.PutOut.{PutOut}
use Rattle.wrp_plant.specs.declared.ends.Span.{Span}
use Rattle.wrp_course.specs.declared.fibres.FibreState.{FibreState}
use Rattle.wrp_changes.specs.declared.telling.News.{News}
use Rattle.wrp_changes.proofs.Listing.{zip_append}
use Rattle.wrp_course.specs.Given.{Given, end_told, mover_of, sending}
use Rattle.wrp_changes.specs.Moves.{EachBecame, Where}
use Rattle.wrp_plant.specs.Plant.{EndIs, PutOutIs}
use Rattle.wrp_changes.specs.PlantTold.{IsPortOf, IsSent, TellsAt, TellsIn, TellsPort, mark_of, put_at}
use Rattle.wrp_plant.specs.EndRoom.{HasSpanRoom}
use Rattle.wrp_course.specs.Setting.{Setting, end_of, is_of}
use Rattle.wrp_course.specs.WorldAt.{WorldAt, EndAt}

-- Lists that stand for one another, appended

put_out_is : (v : WorldAt) (now : ℤ) (m : PtpMsg) (f : List ℕ) → now ≡ v.time → IsSent m f → PutOutIs (sending v m) (put_at now f)
put_out_is v now m f t h = record { octets = h.octets; says = h.says; at = t }

sent_zip : (v : WorldAt) (now : ℤ) → now ≡ v.time → (ms : List PtpMsg) (fs : List (List ℕ)) → AllZip IsSent ms fs →
    AllZip PutOutIs (map (sending v) ms) (map (put_at now) fs)
sent_zip v now t [] [] h = tt
sent_zip v now t [] (f ∷ fs) h = absurd h
sent_zip v now t (m ∷ ms) [] h = absurd h
sent_zip v now t (m ∷ ms) (f ∷ fs) h = (put_out_is v now m f t h.0, sent_zip v now t ms fs h.1)

-- Marks

marks_by : (b : Bool) (mark : Mark) (marks : List Mark) (ms : List Mark) → ms ≡ reverse marks →
    ms ++ (if b then [] else mark ∷ []) ≡ reverse (if b then marks else mark ∷ marks)
marks_by true mark marks ms e = append-nil ms ∙ e
marks_by false mark marks ms e = ap (λ l. l ++ (mark ∷ [])) e ∙ sym (reverse-append (mark ∷ []) marks)

abbrev mark_at : ℤ → LinkState → LinkState → Option (WrMsg × ℤ) → Mark
mark_at now from to by = record { at = now; from = from; to = to; by = by }

marks_are : (now time : ℤ) (a b from to : LinkState) (by mover : Option (WrMsg × ℤ)) (marks ms : List Mark) → now ≡ time → a ≡ from → b ≡ to → by ≡ mover →
    ms ≡ reverse marks → ms ++ mark_of now a b by ≡ reverse (marked time from to mover marks)
marks_are now time a b from to by mover marks ms t e f g h =
    ap (λ n. ms ++ mark_of n a b by) t ∙ ap (λ x. ms ++ mark_of time x b by) e ∙ ap (λ x. ms ++ mark_of time from x by) f ∙ ap (λ x. ms ++ mark_of time from to x) g
    ∙ marks_by (is_same from to) (mark_at time from to mover) marks ms h

-- Ends

abbrev given_end : Setting → WorldAt → Given → Step → EndAt → ℕ → EndAt
given_end s v g step at p =
    end_told v g (link_at (s.set g.to) (v.node g.to) p).state (link_at (s.set g.to) step.node p).state (step.sends p) at

end_is : (s : Setting) (v : WorldAt) (g : Given) (step : Step) (news : News) (outs : List Output) (p : ℕ) (now : ℤ) (at : EndAt) (x y : EndState) →
    now ≡ v.time → news.by ≡ mover_of g g.input → IsPortOf s v g step news outs p → TellsPort now news outs p x y → EndIs at x →
    EndIs (given_end s v g step at p) y
end_is s v g step news outs p now at x y t m q r h = record {
  name = ap (λ n. n.bytes) r.name ∙ h.name;
  tx = r.tx ∙ h.tx;
  rx = r.rx ∙ h.rx;
  waiting =
      subst (λ (l : List PutOut). AllZip PutOutIs (at.waiting ++ map (sending v) (step.sends p)) l) (sym r.waiting)
      (zip_append PutOutIs at.waiting (map (sending v) (step.sends p)) x.waiting.items (map (put_at now) (frames_at p outs)) h.waiting
      (sent_zip v now t (step.sends p) (frames_at p outs) q.frames));
  marks = r.marks ∙ marks_are now v.time (state_in p news.before.now.items) (state_in p news.after.now.items) _ _ news.by (mover_of g g.input) at.marks x.marks.items t q.before q.after m h.marks;
}

end_where : (b : Bool) (s : Setting) (v : WorldAt) (g : Given) (step : Step) (news : News) (outs : List Output) (p : ℕ) (now : ℤ) (at : EndAt) (x y : EndState) →
    now ≡ v.time → news.by ≡ mover_of g g.input → (b ≡ true → IsPortOf s v g step news outs p) → Where b (TellsPort now news outs p) x y → EndIs at x →
    EndIs (if b then given_end s v g step at p else at) y
end_where true s v g step news outs p now at x y t m q r h = end_is s v g step news outs p now at x y t m (q refl) r h
end_where false s v g step news outs p now at x y t m q r h = subst (EndIs at) (sym r) h

abbrev pub told_end : Setting → WorldAt → Given → Step → Role → Option LinkCfg → EndAt → EndAt
told_end s v g step r o at =
    if is_of g.to (option_map (end_of r) o) then option_map_or (λ (end : End). given_end s v g step at end.port) (option_map (end_of r) o) at else at

pub span_is : (s : Setting) (v : WorldAt) (g : Given) (step : Step) (news : News) (outs : List Output) (now : ℤ) (o : Option LinkCfg) (f : FibreState) (m a : EndAt) (x y : Span) →
    now ≡ v.time → g.to ≡ news.node → news.by ≡ mover_of g g.input →
    ((r : Role) (end : End) → option_map (end_of r) o ≡ Some end → end.node ≡ g.to → IsPortOf s v g step news outs end.port) →
    TellsIn now news outs o x y → x.fibre ≡ f → EndIs m x.master → EndIs a x.slave →
    (y.fibre ≡ f) × EndIs (told_end s v g step Master o m) y.master × EndIs (told_end s v g step Slave o a) y.slave
span_is s v g step news outs now None f m a x y t n b q r e h k =
    (ap (λ (z : Span). z.fibre) r ∙ e, subst (λ (z : Span). EndIs m z.master) (sym r) h, subst (λ (z : Span). EndIs a z.slave) (sym r) k)
span_is s v g step news outs now (Some link) f m a x y t n b q r e h k = (
  r.fibre ∙ e,
  end_where (link.upper == g.to) s v g step news outs link.upper_port now m x.master y.master t b
      (λ i. q Master (end_of Master link) refl (eqb-true link.upper g.to i))
      (subst (λ d. Where (link.upper == d) (TellsPort now news outs link.upper_port) x.master y.master) (sym n) r.master) h,
  end_where (link.lower == g.to) s v g step news outs link.lower_port now a x.slave y.slave t b
      (λ i. q Slave (end_of Slave link) refl (eqb-true link.lower g.to i))
      (subst (λ d. Where (link.lower == d) (TellsPort now news outs link.lower_port) x.slave y.slave) (sym n) r.slave) k,
)

-- A link takes its part of the step, and has room for one step less
pub record TellsWithRoom (now : ℤ) (news : News) (outs : List Output) (links : List LinkCfg) (k : ℕ) (old new : Span) : Type 0 where
  pub told : TellsAt now news outs links k old new
  pub room : (j : ℕ) → HasSpanRoom (j + 1) old → HasSpanRoom j new

pub told_of_turned : (now : ℤ) (news : News) (outs : List Output) (links : List LinkCfg) (xs ys : List Span) →
    EachBecame (TellsWithRoom now news outs links) xs ys → EachBecame (TellsAt now news outs links) xs ys
told_of_turned now news outs links xs ys t = (t.0, λ n y e. let it = t.1 n y e in (it.0, it.1, it.2.told))
