-- Lines say one list of events, and one more line says one more event.
use Rattle.std.proofs.Common.{◌≡◌, ◌∙◌, ap, ap₂, sym, refl, ℕ, Result, Ok, Err, List, [], ◌∷◌, ◌++◌, map, reverse}
use Rattle.std.proofs.lemmas.List.{map-append, reverse-append, reverse-reverse}
use Rattle.wrp_base.specs.declared.fault.TraceFault.{TraceFault}
use Rattle.wrp_l1sync.specs.declared.event.L1Event.{L1Event}
use Rattle.wrp_l1sync.specs.declared.event.Limits.{Limits}
use Rattle.wrp_l1sync.specs.LineReading.{event_read}
use Rattle.wrp_l1sync.specs.LineRecords.{Say}

-- an event as it is read
abbrev ok : L1Event → Result L1Event TraceFault
ok event = Ok event

turned : (event : L1Event) (events : List L1Event) → reverse (event ∷ events) ≡ reverse events ++ event ∷ []
turned event events = reverse-append (event ∷ []) events

-- one more line says one more event
pub say_more : (first : List ℕ) (later : List (List ℕ)) (limits : Limits) (events : List L1Event) (line : List ℕ) (event : L1Event) →
    Say (first ∷ later) limits events → event_read line ≡ Ok event → Say (first ∷ (later ++ line ∷ [])) limits (event ∷ events)
say_more first later limits events line event say is = (
  say.0,
  map-append event_read later (line ∷ [])
      ∙ ap₂ (λ (a b : List (Result L1Event TraceFault)). a ++ b) say.1 (ap (λ (r : Result L1Event TraceFault). r ∷ []) is)
      ∙ sym (ap (map ok) (turned event events) ∙ map-append ok (reverse events) (event ∷ [])),
)

same_list : (a b : List L1Event) → map ok a ≡ map ok b → a ≡ b
same_list [] [] e = refl
same_list [] (y ∷ b) e = absurd cc
same_list (x ∷ a) [] e = absurd cc
same_list (x ∷ a) (y ∷ b) e =
    let head : ok x ≡ ok y = cc in
    let one : x ≡ y = cc in
    let rest : map ok a ≡ map ok b = cc in
    ap₂ (λ (h : L1Event) (t : List L1Event). h ∷ t) one (same_list a b rest)

-- lines say one list of events
pub one_list : (lines : List (List ℕ)) (a b : Limits) (x y : List L1Event) → Say lines a x → Say lines b y → (a ≡ b) × (x ≡ y)
one_list [] a b x y p q = absurd p
one_list (first ∷ later) a b x y p q =
    let both : Ok a ≡ Ok b = sym p.0 ∙ q.0 in
    let turned_same : reverse x ≡ reverse y = same_list (reverse x) (reverse y) (sym p.1 ∙ q.1) in
    (cc, sym (reverse-reverse x) ∙ ap reverse turned_same ∙ reverse-reverse y)

-- ---- the first lines

-- events, of which the first are read from the first lines, and the rest from the others
record Divided (later behind : List (List ℕ)) (all : List L1Event) : Type 0 where
  one : List L1Event
  two : List L1Event
  is : all ≡ one ++ two
  front : map event_read later ≡ map ok one
  rest : map event_read behind ≡ map ok two

divided_more : (line : List ℕ) (later behind : List (List ℕ)) (event : L1Event) (all : List L1Event) → event_read line ≡ ok event →
    Divided later behind all → Divided (line ∷ later) behind (event ∷ all)
divided_more line later behind event all head more = record {
  one = event ∷ more.one;
  two = more.two;
  is = ap (λ (es : List L1Event). event ∷ es) more.is;
  front = ap₂ (λ (h : Result L1Event TraceFault) (t : List (Result L1Event TraceFault)). h ∷ t) head more.front;
  rest = more.rest;
}

divided : (later behind : List (List ℕ)) (all : List L1Event) → map event_read (later ++ behind) ≡ map ok all → Divided later behind all
divided [] behind all e = record { one = []; two = all; is = refl; front = refl; rest = e }
divided (line ∷ later) behind [] e = absurd cc
divided (line ∷ later) behind (event ∷ all) e =
    let head : event_read line ≡ ok event = cc in
    let tail : map event_read (later ++ behind) ≡ map ok all = cc in
    divided_more line later behind event all head (divided later behind all tail)

-- the first of some lines say the first of their events, which are last in the list, newest first
pub say_front : (first : List ℕ) (later behind : List (List ℕ)) (limits : Limits) (events : List L1Event) →
    Say (first ∷ (later ++ behind)) limits events →
    (newer : List L1Event) × (older : List L1Event) × (events ≡ newer ++ older) × Say (first ∷ later) limits older
say_front first later behind limits events say =
    let parts : Divided later behind (reverse events) = divided later behind (reverse events) say.1 in (
      reverse parts.two,
      reverse parts.one,
      sym (reverse-reverse events) ∙ ap reverse parts.is ∙ reverse-append parts.one parts.two,
      (say.0, parts.front ∙ ap (map ok) (sym (reverse-reverse parts.one))),
    )

-- a line that says no event is not among lines that do
pub never_among : (later behind : List (List ℕ)) (line : List ℕ) (fault : TraceFault) (events : List L1Event) →
    map event_read (later ++ line ∷ behind) ≡ map (λ (event : L1Event). Ok event) events → event_read line ≡ Err fault → ⊥
never_among [] behind line fault [] are is = absurd cc
never_among [] behind line fault (event ∷ events) are is = let head : event_read line ≡ ok event = cc in absurd cc
never_among (first ∷ later) behind line fault [] are is = absurd cc
never_among (first ∷ later) behind line fault (event ∷ events) are is =
    let rest : map event_read (later ++ line ∷ behind) ≡ map ok events = cc in
    never_among later behind line fault events rest is
