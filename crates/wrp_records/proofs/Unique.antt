-- One status and one text are expected for the lines of some records, if the machine is exact.
use Rattle.std.proofs.Common.{◌≡◌, ◌⊎◌, inl, inr, ℕ, ◌+◌, ◌<◌, ◌≤◌, List, [], ◌∷◌, ◌++◌, length, map, refl, sym, ap, ap₂, ◌∙◌, subst, length-append, arith}
use Rattle.std.specs.List.{AllByRecursion}
use Rattle.std.proofs.lemmas.List.{map-append}
use Rattle.wrp_records.specs.declared.status.Status.{Status}
use Rattle.wrp_records.specs.declared.status.Status.TheVariants.{Done, BadTrace, Broken, TooLarge, BadCalib}
use Rattle.wrp_records.specs.declared.machine.Refusal.{Refusal}
use Rattle.wrp_records.specs.declared.machine.Refusal.TheVariants as refusals
use Rattle.wrp_records.specs.Lines.{content_of}
use Rattle.wrp_records.specs.Stream.{Accepting, Refusing, Handles, IsWithin, size_of, line_limit, number_limit, large_line}
use Rattle.wrp_records.specs.LineMeaning.{LineMeaning, bars_none, breaks_by, meaning_by}
use Rattle.wrp_records.specs.RecordsAnswer.{RecordsAnswer}

-- what is written at the end, after all lines: whole, or broken off if a number is too great
abbrev pub EndsWith : LineMeaning → List (List ℕ) → Status → List ℕ → Type 0
EndsWith M lines Done text = M.closes lines text
EndsWith M lines TooLarge text = M.breaks_off lines TooLarge text
EndsWith M lines BadCalib text = M.breaks_off lines BadCalib text
EndsWith M lines _ text = ⊥

-- if it never breaks off
pub ends_once : (M : LineMeaning) → ((lines : List (List ℕ)) (status : Status) (text : List ℕ) → M.breaks_off lines status text → ⊥) → ((lines : List (List ℕ)) (t u : List ℕ) → M.closes lines t → M.closes lines u → t ≡ u)
    → (lines : List (List ℕ)) (a b : Status) (t u : List ℕ) → EndsWith M lines a t → EndsWith M lines b u → (a ≡ b) × (t ≡ u)
ends_once M never one lines Done Done t u p q = (refl, one lines t u p q)
ends_once M never one lines Done TooLarge t u p q = absurd (never lines TooLarge u q)
ends_once M never one lines Done BadCalib t u p q = absurd (never lines BadCalib u q)
ends_once M never one lines Done _ t u p q = absurd q
ends_once M never one lines TooLarge b t u p q = absurd (never lines TooLarge t p)
ends_once M never one lines BadCalib b t u p q = absurd (never lines BadCalib t p)
ends_once M never one lines _ b t u p q = absurd p

-- if no lines fail to give an answer
pub never_barred : (lines : List (List ℕ)) (status : Status) (text : List ℕ) → breaks_by bars_none lines status text → ⊥
never_barred lines BadCalib text is = is
never_barred lines status text is = is

-- if a machine's lines are closed in one way, or give no answer in one way, and never both
pub closes_once : (A : Accepting) (R : Refusing) (C B : Accepting) → ((lines : List (List ℕ)) (t u : List ℕ) → C lines t → C lines u → t ≡ u)
    → ((lines : List (List ℕ)) (t u : List ℕ) → B lines t → B lines u → t ≡ u) → ((lines : List (List ℕ)) (t u : List ℕ) → C lines t → B lines u → ⊥)
    → (lines : List (List ℕ)) (a b : Status) (t u : List ℕ) → EndsWith (meaning_by A R C B) lines a t → EndsWith (meaning_by A R C B) lines b u → (a ≡ b) × (t ≡ u)
closes_once A R C B one two other lines Done Done t u p q = (refl, one lines t u p q)
closes_once A R C B one two other lines BadCalib BadCalib t u p q = (refl, two lines t u p q)
closes_once A R C B one two other lines Done BadCalib t u p q = absurd (other lines t u p q)
closes_once A R C B one two other lines BadCalib Done t u p q = absurd (other lines u t q p)
closes_once A R C B one two other lines Done _ t u p q = absurd q
closes_once A R C B one two other lines BadCalib _ t u p q = absurd q
closes_once A R C B one two other lines _ b t u p q = absurd p

-- what the relations of an exact machine keep
pub record IsExact (M : LineMeaning) : Type 0 where
  pub one_text : (lines : List (List ℕ)) (t u : List ℕ) → M.accepts lines t → M.accepts lines u → t ≡ u
  pub not_both : (before behind : List (List ℕ)) (line t last : List ℕ) (refusal : Refusal) → M.accepts (before ++ line ∷ behind) t → M.refuses before line refusal last → ⊥
  pub one_refusal : (before : List (List ℕ)) (line t u : List ℕ) (a b : Refusal) → M.refuses before line a t → M.refuses before line b u → (a ≡ b) × (t ≡ u)
  pub one_end : (lines : List (List ℕ)) (a b : Status) (t u : List ℕ) → EndsWith M lines a t → EndsWith M lines b u → (a ≡ b) × (t ≡ u)

-- a line at which the handling stops, and how
abbrev pub Stops : LineMeaning → List (List ℕ) → List ℕ → Status → List ℕ → Type 0
Stops M before line BadTrace last = IsWithin line × (length before + 1 < number_limit) × M.refuses (map content_of before) (content_of line) refusals.BadTrace last
Stops M before line Broken last = IsWithin line × (length before + 1 < number_limit) × M.refuses (map content_of before) (content_of line) refusals.Broken last
Stops M before line TooLarge last = ((line_limit < size_of line) ⊎ (length before + 1 ≡ number_limit)) × (last ≡ large_line (length before + 1))
Stops M before line _ last = ⊥

-- if it stops
pub record Stopped (M : LineMeaning) (lines : List (List ℕ)) (status : Status) (octets : List ℕ) : Type 0 where
  pub before : List (List ℕ)
  pub line : List ℕ
  pub behind : List (List ℕ)
  pub written : List ℕ
  pub last : List ℕ
  pub divided : lines ≡ before ++ line ∷ behind
  pub handled : Handles M.accepts before written
  pub stops : Stops M before line status last
  pub is : octets ≡ written ++ last

-- if it comes to the end of the lines
record Ended (M : LineMeaning) (lines : List (List ℕ)) (status : Status) (octets : List ℕ) : Type 0 where
  written : List ℕ
  last : List ℕ
  handled : Handles M.accepts lines written
  ends : EndsWith M (map content_of lines) status last
  is : octets ≡ written ++ last

-- an answer comes to the end, or stops
answer_is : (M : LineMeaning) (lines : List (List ℕ)) (status : Status) (octets : List ℕ)
    → RecordsAnswer M lines status octets
    → Ended M lines status octets ⊎ Stopped M lines status octets
answer_is M lines Done octets p = inl (record { written = p.written; last = p.last; handled = p.handled; ends = p.closed; is = p.is })
answer_is M lines BadTrace octets p = inr (record { before = p.before; line = p.line; behind = p.behind; written = p.written; last = p.last; divided = p.divided; handled = p.handled; stops = (p.within, p.number, p.refused); is = p.is })
answer_is M lines Broken octets p = inr (record { before = p.before; line = p.line; behind = p.behind; written = p.written; last = p.last; divided = p.divided; handled = p.handled; stops = (p.within, p.number, p.refused); is = p.is })
answer_is M lines TooLarge octets (inl p) = inr (record { before = p.before; line = p.line; behind = p.behind; written = p.written; last = large_line (length p.before + 1); divided = p.divided; handled = p.handled; stops = (p.large, refl); is = p.is })
answer_is M lines TooLarge octets (inr p) = inl (record { written = p.written; last = p.last; handled = p.handled; ends = p.broken; is = p.is })
answer_is M lines BadCalib octets p = inl (record { written = p.written; last = p.last; handled = p.handled; ends = p.broken; is = p.is })
answer_is M lines _ octets p = absurd p

-- of two places in one list, one is before the other, or they are the same
places : (p q b c : List (List ℕ)) (x y : List ℕ) → p ++ x ∷ b ≡ q ++ y ∷ c
    → ((p ≡ q) × (x ≡ y)) ⊎ (((m : List (List ℕ)) × (q ≡ p ++ x ∷ m)) ⊎ ((m : List (List ℕ)) × (p ≡ q ++ y ∷ m)))
places [] [] b c x y e = inl (refl, cc)
places [] (l ∷ q) b c x y e = inr (inl (q, let same : x ≡ l = cc in ap (λ k. k ∷ q) (sym same)))
places (l ∷ p) [] b c x y e = inr (inr (p, let same : l ≡ y = cc in ap (λ k. k ∷ p) same))
places (l ∷ p) (k ∷ q) b c x y e =
    let head : l ≡ k = cc in
    let tail : p ++ x ∷ b ≡ q ++ y ∷ c = cc in
    elim (places p q b c x y tail) [
      | inl (same, line) ↦ inl (ap₂ (λ h t. h ∷ t) head same, line)
      | inr other ↦ elim other [
        | inl (m, is) ↦ inr (inl (m, ap₂ (λ h t. h ∷ t) (sym head) is))
        | inr (m, is) ↦ inr (inr (m, ap₂ (λ h t. h ∷ t) head is))
      ]
    ]

-- a line among others has what they all have
among : (p m : List (List ℕ)) (x : List ℕ) → AllByRecursion IsWithin (p ++ x ∷ m) → IsWithin x
among [] m x all = all.0
among (l ∷ p) m x all = among p m x all.1

-- no line at which the handling stops is handled
never_inside : (M : LineMeaning) → IsExact M
    → (p m : List (List ℕ)) (x t last : List ℕ) (status : Status) → Handles M.accepts (p ++ x ∷ m) t → Stops M p x status last → ⊥
never_inside M exact p m x t last BadTrace handled stops =
    exact.not_both (map content_of p) (map content_of m) (content_of x) t last refusals.BadTrace (subst (λ (ls : List (List ℕ)). M.accepts ls t) (map-append content_of p (x ∷ m)) handled.accepted) stops.2
never_inside M exact p m x t last Broken handled stops =
    exact.not_both (map content_of p) (map content_of m) (content_of x) t last refusals.Broken (subst (λ (ls : List (List ℕ)). M.accepts ls t) (map-append content_of p (x ∷ m)) handled.accepted) stops.2
never_inside M exact p m x t last TooLarge handled stops =
    let size : length (p ++ x ∷ m) ≡ length p + length (x ∷ m) = length-append p (x ∷ m) in
    let fits : length (p ++ x ∷ m) < number_limit = handled.count in
    elim stops.0 [
      | inl long ↦ let within : size_of x ≤ line_limit = among p m x handled.sizes in absurd (omega (arith, long, within))
      | inr number ↦ absurd (omega (arith, number, size, fits))
    ]
never_inside M exact p m x t last _ handled stops = absurd stops

-- at one place it stops in one way
one_stop : (M : LineMeaning) → IsExact M
    → (p : List (List ℕ)) (x t u : List ℕ) (a b : Status) → Stops M p x a t → Stops M p x b u → (a ≡ b) × (t ≡ u)
one_stop M exact p x t u BadTrace BadTrace f g = (refl, (exact.one_refusal _ _ t u refusals.BadTrace refusals.BadTrace f.2 g.2).1)
one_stop M exact p x t u Broken Broken f g = (refl, (exact.one_refusal _ _ t u refusals.Broken refusals.Broken f.2 g.2).1)
one_stop M exact p x t u BadTrace Broken f g = let e = (exact.one_refusal _ _ t u refusals.BadTrace refusals.Broken f.2 g.2).0 in absurd (cc)
one_stop M exact p x t u Broken BadTrace f g = let e = (exact.one_refusal _ _ t u refusals.Broken refusals.BadTrace f.2 g.2).0 in absurd (cc)
one_stop M exact p x t u TooLarge TooLarge f g = (refl, f.1 ∙ sym g.1)
one_stop M exact p x t u TooLarge BadTrace f g = absurd (elim f.0 [ inl long ↦ let within = g.0 in omega (arith, long, within) | inr number ↦ let below = g.1 in omega (arith, number, below) ])
one_stop M exact p x t u TooLarge Broken f g = absurd (elim f.0 [ inl long ↦ let within = g.0 in omega (arith, long, within) | inr number ↦ let below = g.1 in omega (arith, number, below) ])
one_stop M exact p x t u BadTrace TooLarge f g = absurd (elim g.0 [ inl long ↦ let within = f.0 in omega (arith, long, within) | inr number ↦ let below = f.1 in omega (arith, number, below) ])
one_stop M exact p x t u Broken TooLarge f g = absurd (elim g.0 [ inl long ↦ let within = f.0 in omega (arith, long, within) | inr number ↦ let below = f.1 in omega (arith, number, below) ])
one_stop M exact p x t u BadTrace _ f g = absurd g
one_stop M exact p x t u Broken _ f g = absurd g
one_stop M exact p x t u TooLarge _ f g = absurd g
one_stop M exact p x t u _ b f g = absurd f

-- one status and one text are expected
pub one_records_answer : (M : LineMeaning) → IsExact M
    → (lines : List (List ℕ)) (a b : Status) (t u : List ℕ) → RecordsAnswer M lines a t → RecordsAnswer M lines b u → (a ≡ b) × (t ≡ u)
one_records_answer M exact lines a b t u f g =
    elim (answer_is M lines a t f) [
      | inl done ↦ elim (answer_is M lines b u g) [
        | inl done' ↦
            let end = exact.one_end _ a b done.last done'.last done.ends done'.ends in
            (end.0, done.is ∙ ap₂ (λ k l. k ++ l) (exact.one_text _ done.written done'.written done.handled.accepted done'.handled.accepted) end.1 ∙ sym done'.is)
        | inr stop ↦ absurd (never_inside M exact stop.before stop.behind stop.line done.written stop.last b (subst (λ (ls : List (List ℕ)). Handles M.accepts ls done.written) stop.divided done.handled) stop.stops)
      ]
      | inr stop ↦ elim (answer_is M lines b u g) [
        | inl done ↦ absurd (never_inside M exact stop.before stop.behind stop.line done.written stop.last a (subst (λ (ls : List (List ℕ)). Handles M.accepts ls done.written) stop.divided done.handled) stop.stops)
        | inr stop' ↦
            elim (places stop.before stop'.before stop.behind stop'.behind stop.line stop'.line (sym stop.divided ∙ stop'.divided)) [
              | inl (same, line) ↦
                  let moved : Stops M stop'.before stop'.line a stop.last =
                  subst (λ (x : List ℕ). Stops M stop'.before x a stop.last) line (subst (λ (p : List (List ℕ)). Stops M p stop.line a stop.last) same stop.stops) in
                  let one = one_stop M exact stop'.before stop'.line stop.last stop'.last a b moved stop'.stops in
                  let text : stop.written ≡ stop'.written = exact.one_text _ stop.written stop'.written (subst (λ (p : List (List ℕ)). M.accepts (map content_of p) stop.written) same stop.handled.accepted) stop'.handled.accepted in
                  (one.0, stop.is ∙ ap₂ (λ k l. k ++ l) text one.1 ∙ sym stop'.is)
              | inr other ↦ elim other [
                | inl (m, is) ↦ absurd (never_inside M exact stop.before m stop.line stop'.written stop.last a (subst (λ (p : List (List ℕ)). Handles M.accepts p stop'.written) is stop'.handled) stop.stops)
                | inr (m, is) ↦ absurd (never_inside M exact stop'.before m stop'.line stop.written stop'.last b (subst (λ (p : List (List ℕ)). Handles M.accepts p stop.written) is stop.handled) stop'.stops)
              ]
            ]
      ]
    ]
