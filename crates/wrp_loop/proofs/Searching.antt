-- What is found among the frames that arrived is the frame that the rule names.
use Rattle.std.proofs.Common.{◌≡◌, ◌∙◌, ◌⊎◌, inl, inr, refl, ap, sym, subst, ℕ, ◌<◌, ◌≤◌, ◌==◌, ◌&&◌, min, max, nat_eq, Bool, true, false, if◌then◌else◌, List, [], ◌∷◌, Option, None, Some, option_map, arith}
use Rattle.std.proofs.lemmas.Bool.{and_parts, cases_lt, eqb-true, eq-eqb}
use Rattle.std.proofs.lemmas.Option.{none-some}
use Rattle.std.specs.Cmp.Lexicographic.{pointwise}
use Rattle.std.specs.Option.{option_map_or}
use Rattle.wrp_base.specs.declared.link.Role.{Role}
use Rattle.wrp_base.specs.declared.link.Role.TheVariants.{Master, Slave}
use Rattle.wrp_base.proofs.Booleans.{not_both}
use Rattle.wrp_course.specs.Run.{Happened, world_after}
use Rattle.wrp_course.specs.Setting.{Setting}
use Rattle.wrp_course.specs.Views.{is_kept, octets_at}
use Rattle.wrp_course.specs.WorldAt.{FrameAt, WorldAt}
use Rattle.wrp_frame.specs.SentOctets.{octets_of}
use Rattle.wrp_loop.specs.declared.index.Came.{Came}
use Rattle.wrp_loop.specs.declared.index.Choice.{Choice}
use Rattle.wrp_loop.specs.Datagrams.{Chooses, IsFrameOf, IsSuch, Way, end_number, handed_in, sending_end}
use Rattle.wrp_loop.specs.Index.{In, IsEntry, IsIndex, came_at, chosen, fits, greater, has_number, has_octets, lesser, no_choice, with_all, with_frame}
use Rattle.wrp_loop.proofs.Choices.{choice_same}
use Rattle.wrp_loop.proofs.Frames.{kept_young, young_octets}

-- What a choice says of the frames that were seen: each is such, the open one is the least of those that are open,
-- and the last one is the greatest

abbrev TellsOpen : (Such Seen : ℕ → Type 0) → (handed : ℕ → Bool) → Option ℕ → Type 0
TellsOpen Such Seen handed None = (j : ℕ) → Seen j → handed j ≡ true
TellsOpen Such Seen handed (Some i) = Such i × (handed i ≡ false) × ((j : ℕ) → Seen j → handed j ≡ false → i ≤ j)

abbrev TellsLast : (Such Seen : ℕ → Type 0) → Option ℕ → Type 0
TellsLast Such Seen None = (j : ℕ) → Seen j → ⊥
TellsLast Such Seen (Some i) = Such i × ((j : ℕ) → Seen j → j ≤ i)

record Tells (Such Seen : ℕ → Type 0) (handed : ℕ → Bool) (choice : Choice) : Type 0 where
  pub open_is : TellsOpen Such Seen handed choice.least
  pub last_is : TellsLast Such Seen choice.greatest

-- one more was seen
abbrev SeenToo : (ℕ → Type 0) → ℕ → ℕ → Type 0
SeenToo Seen n j = Seen j ⊎ (j ≡ n)

open_kept : (Such Seen : ℕ → Type 0) (handed : ℕ → Bool) (n : ℕ) (o : Option ℕ) → handed n ≡ true → TellsOpen Such Seen handed o → TellsOpen Such (SeenToo Seen n) handed o
open_kept Such Seen handed n None t h = λ j seen. elim seen [ inl old ↦ h j old | inr same ↦ ap handed same ∙ t ]
open_kept Such Seen handed n (Some i) t h =
    (h.0, h.1, λ j seen free. elim seen [ inl old ↦ h.2 j old free | inr same ↦ absurd (not_both (handed n) t (sym (ap handed same) ∙ free)) ])

open_less : (Such Seen : ℕ → Type 0) (handed : ℕ → Bool) (n : ℕ) (o : Option ℕ) → Such n → handed n ≡ false → TellsOpen Such Seen handed o → TellsOpen Such (SeenToo Seen n) handed (Some (lesser o n))
open_less Such Seen handed n None s free h =
    (s, free, λ j seen other. elim seen [ inl old ↦ absurd (not_both (handed j) (h j old) other) | inr same ↦ omega (arith, same) ])
open_less Such Seen handed n (Some i) s free h =
    elim (cases_lt n i) [
      | inl less ↦
          let is : n ≡ min i n = omega (arith, less) in
          (subst Such is s, subst (λ k. handed k ≡ false) is free, λ j seen other. elim seen [ inl old ↦ (let low = h.2 j old other in omega (arith, low)) | inr same ↦ omega (arith, same) ])
      | inr more ↦
          let is : i ≡ min i n = omega (arith, more) in
          (subst Such is h.0, subst (λ k. handed k ≡ false) is h.1, λ j seen other. elim seen [ inl old ↦ (let low = h.2 j old other in omega (arith, low)) | inr same ↦ omega (arith, same) ])
    ]

last_more : (Such Seen : ℕ → Type 0) (n : ℕ) (o : Option ℕ) → Such n → TellsLast Such Seen o → TellsLast Such (SeenToo Seen n) (Some (greater o n))
last_more Such Seen n None s h = (s, λ j seen. elim seen [ inl old ↦ absurd (h j old) | inr same ↦ omega (arith, same) ])
last_more Such Seen n (Some i) s h =
    elim (cases_lt n i) [
      | inl less ↦
          let is : i ≡ max i n = omega (arith, less) in
          (subst Such is h.0, λ j seen. elim seen [ inl old ↦ (let high = h.1 j old in omega (arith, high)) | inr same ↦ omega (arith, same) ])
      | inr more ↦
          let is : n ≡ max i n = omega (arith, more) in
          (subst Such is s, λ j seen. elim seen [ inl old ↦ (let high = h.1 j old in omega (arith, high)) | inr same ↦ omega (arith, same) ])
    ]

-- all frames of a list that fit were seen
abbrev SeenIn : (fits : Came → Bool) → List Came → ℕ → Type 0
SeenIn fits [] j = ⊥
SeenIn fits (c ∷ came) j = ((j ≡ c.number) × (fits c ≡ true)) ⊎ SeenIn fits came j

seen_less : (Such Seen Others : ℕ → Type 0) (handed : ℕ → Bool) (choice : Choice) → ((j : ℕ) → Others j → Seen j) → Tells Such Seen handed choice → Tells Such Others handed choice
seen_less Such Seen Others handed choice fewer h = record { open_is = open_fewer choice.least h.open_is; last_is = last_fewer choice.greatest h.last_is }
  where
    open_fewer : (o : Option ℕ) → TellsOpen Such Seen handed o → TellsOpen Such Others handed o
    open_fewer None k = λ j other. k j (fewer j other)
    open_fewer (Some i) k = (k.0, k.1, λ j other free. k.2 j (fewer j other) free)

    last_fewer : (o : Option ℕ) → TellsLast Such Seen o → TellsLast Such Others o
    last_fewer None k = λ j other. k j (fewer j other)
    last_fewer (Some i) k = (k.0, λ j other. k.1 j (fewer j other))

one_seen : (Such Seen : ℕ → Type 0) (handed : ℕ → Bool) (n : ℕ) (b h : Bool) (choice : Choice) → (b ≡ true → Such n) → handed n ≡ h → Tells Such Seen handed choice →
    Tells Such (λ j. Seen j ⊎ ((j ≡ n) × (b ≡ true))) handed (with_frame b h n choice)
one_seen Such Seen handed n false h choice such is t =
    seen_less Such Seen (λ j. Seen j ⊎ ((j ≡ n) × (false ≡ true))) handed choice
    (λ j seen. elim seen [ inl old ↦ old | inr new ↦ absurd (let e : false ≡ true = new.1 in cc) ]) t
one_seen Such Seen handed n true true choice such is t =
    seen_less Such (SeenToo Seen n) (λ j. Seen j ⊎ ((j ≡ n) × (true ≡ true))) handed (with_frame true true n choice)
    (λ j seen. elim seen [ inl old ↦ inl old | inr new ↦ inr new.0 ])
    (record { open_is = open_kept Such Seen handed n choice.least is t.open_is; last_is = last_more Such Seen n choice.greatest (such refl) t.last_is })
one_seen Such Seen handed n true false choice such is t =
    seen_less Such (SeenToo Seen n) (λ j. Seen j ⊎ ((j ≡ n) × (true ≡ true))) handed (with_frame true false n choice)
    (λ j seen. elim seen [ inl old ↦ inl old | inr new ↦ inr new.0 ])
    (record { open_is = open_less Such Seen handed n choice.least (such refl) is t.open_is; last_is = last_more Such Seen n choice.greatest (such refl) t.last_is })

all_seen : (Such Seen : ℕ → Type 0) (test : Came → Bool) (handed : ℕ → Bool) (came : List Came) (choice : Choice) → ((c : Came) → In c came → test c ≡ true → Such c.number) → Tells Such Seen handed choice →
    Tells Such (λ j. Seen j ⊎ SeenIn test came j) handed (with_all test handed came choice)
all_seen Such Seen test handed [] choice such t =
    seen_less Such Seen (λ j. Seen j ⊎ SeenIn test [] j) handed choice (λ j seen. elim seen [ inl old ↦ old | inr never ↦ absurd never ]) t
all_seen Such Seen test handed (c ∷ came) choice such t =
    let one = one_seen Such Seen handed c.number (test c) (handed c.number) choice (such c (inl refl)) refl t in
    let rest = all_seen Such (λ j. Seen j ⊎ ((j ≡ c.number) × (test c ≡ true))) test handed came (with_frame (test c) (handed c.number) c.number choice) (λ d listed. such d (inr listed)) one in
    seen_less Such _ (λ j. Seen j ⊎ SeenIn test (c ∷ came) j) handed (with_all test handed came (with_frame (test c) (handed c.number) c.number choice))
    (λ j seen. elim seen [
      | inl old ↦ inl (inl old)
      | inr new ↦ elim new [ inl here ↦ inl (inr here) | inr more ↦ inr more ]
    ]) rest

open_or_handed : (handed : ℕ → Bool) (i j : ℕ) → (handed j ≡ false → i ≤ j) → j < i → handed j ≡ true
open_or_handed handed i j least less = go (handed j) refl
  where
    go : (b : Bool) → handed j ≡ b → handed j ≡ true
    go true is = is
    go false is = absurd (let low = least is in omega (arith, low, less))

answers : (Such Seen : ℕ → Type 0) (handed : ℕ → Bool) (first last : Option ℕ) → ((j : ℕ) → Such j → Seen j) → TellsOpen Such Seen handed first → TellsLast Such Seen last →
    Chooses Such handed (chosen (record { least = first; greatest = last }))
answers Such Seen handed (Some i) last all h k =
    record { such = h.0; which = inl (h.1, λ j s less. open_or_handed handed i j (h.2 j (all j s)) less) }
answers Such Seen handed None (Some i) all h k = record { such = k.0; which = inr (λ j s. (h j (all j s), k.1 j (all j s))) }
answers Such Seen handed None None all h k = λ j s. k j (all j s)

-- The frames that arrived

same_octets : (a b : List ℕ) → pointwise nat_eq a b ≡ true → a ≡ b
same_octets [] [] h = refl
same_octets [] (y ∷ b) h = absurd (let e : false ≡ true = h in cc)
same_octets (x ∷ a) [] h = absurd (let e : false ≡ true = h in cc)
same_octets (x ∷ a) (y ∷ b) h =
    let both = and_parts (nat_eq x y) (pointwise nat_eq a b) h in
    (λ i. eqb-true x y both.0 i ∷ same_octets a b both.1 i)

octets_same : (a : List ℕ) → pointwise nat_eq a a ≡ true
octets_same [] = refl
octets_same (x ∷ a) = (λ i. eq-eqb x x refl i && octets_same a i)

has_some : (o : Option (List ℕ)) (octets : List ℕ) → option_map_or (λ found. pointwise nat_eq found octets) o false ≡ true → (found : List ℕ) × (o ≡ Some found) × (found ≡ octets)
has_some None octets h = absurd (let e : false ≡ true = h in cc)
has_some (Some found) octets h = (found, refl, same_octets found octets h)

pub one_end : (k n : ℕ) (r q : Role) → end_number k r ≡ end_number n q → (k ≡ n) × (r ≡ q)
one_end k n Master Master e = (omega (arith, e), refl)
one_end k n Slave Slave e = (omega (arith, e), refl)
one_end k n Master Slave e = absurd (omega (arith, e))
one_end k n Slave Master e = absurd (omega (arith, e))

such_of : (s : Setting) (w : WorldAt) (way : Way) (octets : List ℕ) (c : Came) (f : FrameAt) (found : List ℕ) → IsEntry w c → w.frame c.number ≡ Some f → c.from ≡ sending_end way → octets_at s w c.number ≡ Some found → found ≡ octets →
    IsSuch s w way octets c.number
such_of s w way octets c f found entry is from kept same =
    let arrived = entry.here.arrived f is in
    let ends = one_end f.link way.link f.by way.by (sym (entry.sent f is) ∙ from) in
    let young = kept_young s w c.number f found is arrived kept in
    record { frame = f; is = is; link_is = ends.0; by_is = ends.1; arrived = arrived; young = young.0; equals = young.1 ∙ same }

frame_there : (s : Setting) (w : WorldAt) (i : ℕ) (found : List ℕ) (o : Option FrameAt) → w.frame i ≡ o → octets_at s w i ≡ Some found → (f : FrameAt) × (w.frame i ≡ Some f)
frame_there s w i found (Some f) is kept = (f, is)
frame_there s w i found None is kept =
    absurd (none-some found (sym (ap (λ (o : Option FrameAt). option_map (λ (k : FrameAt). octets_of k.sending.message) (if is_kept s w o then o else None)) is) ∙ kept))

entry_such : (s : Setting) (w : WorldAt) (way : Way) (from : ℕ) (octets : List ℕ) (c : Came) → from ≡ sending_end way → IsEntry w c → fits s w from octets c ≡ true → IsSuch s w way octets c.number
entry_such s w way from octets c is entry test =
    let both = and_parts (c.from == from) (has_octets s w octets c.number) test in
    let found = has_some (octets_at s w c.number) octets both.1 in
    let there = frame_there s w c.number found.0 (w.frame c.number) refl found.1 in
    such_of s w way octets c there.0 found.0 entry there.1 (eqb-true c.from from both.0 ∙ is) found.1 found.2

seen_such : (test : Came → Bool) (came : List Came) (c : Came) → In c came → test c ≡ true → SeenIn test came c.number
seen_such test [] c listed fit = absurd listed
seen_such test (d ∷ came) c (inl same) fit = inl (ap (λ (k : Came). k.number) same, ap test (sym same) ∙ fit)
seen_such test (d ∷ came) c (inr more) fit = inr (seen_such test came c more fit)

fits_such : (s : Setting) (w : WorldAt) (way : Way) (from : ℕ) (octets : List ℕ) (i : ℕ) → from ≡ sending_end way → (such : IsSuch s w way octets i) → fits s w from octets (came_at i (end_number such.frame.link such.frame.by)) ≡ true
fits_such s w way from octets i is such =
    let ends : end_number such.frame.link such.frame.by ≡ from = (λ j. end_number (such.link_is j) (such.by_is j)) ∙ sym is in
    let kept : octets_at s w i ≡ Some octets = young_octets s w i such.frame such.is such.young ∙ ap Some such.equals in
    let told : has_octets s w octets i ≡ true = ap (λ (o : Option (List ℕ)). option_map_or (λ found. pointwise nat_eq found octets) o false) kept ∙ octets_same octets in
    (λ j. eq-eqb (end_number such.frame.link such.frame.by) from ends j && told j)

-- what is found is the frame that the rule names
pub finds : (s : Setting) (events : List Happened) (way : Way) (from : ℕ) (octets : List ℕ) (came handed : List Came) → from ≡ sending_end way → IsIndex s events came handed →
    IsFrameOf s events way octets (chosen (with_all (fits s (world_after s events) from octets) (has_number handed) came no_choice))
finds s events way from octets came handed is h =
    let w : WorldAt = world_after s events in
    let Such : ℕ → Type 0 = IsSuch s w way octets in
    let test : Came → Bool = fits s w from octets in
    let told : Tells Such (λ j. (⊥) ⊎ SeenIn test came j) (has_number handed) (with_all test (has_number handed) came no_choice) =
    all_seen Such (λ j. ⊥) test (has_number handed) came no_choice (λ c listed fit. entry_such s w way from octets c is (h.each c listed) fit)
    (record { open_is = λ j never. absurd never; last_is = λ j never. never }) in
    choice_same Such (has_number handed) (handed_in events) _ (λ i such. h.told i such.frame such.is such.arrived such.young)
    (answers Such (λ j. (⊥) ⊎ SeenIn test came j) (has_number handed) (with_all test (has_number handed) came no_choice).least (with_all test (has_number handed) came no_choice).greatest
    (λ j such. inr (seen_such test came (came_at j (end_number such.frame.link such.frame.by)) (h.all j such.frame such.is such.arrived such.young) (fits_such s w way from octets j is such)))
    told.open_is told.last_is)
