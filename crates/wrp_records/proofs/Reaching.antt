-- How far the handling of records has come, and what the output is when it stops.
use Rattle.std.proofs.Common.{◌≡◌, ◌⊎◌, inl, inr, true, false, ℕ, ◌+◌, ◌<◌, ◌≤◌, Bool, Option, None, Some, List, [], ◌∷◌, ◌++◌, length, map, take, refl, sym, ap, ◌∙◌, subst, append_assoc, append-nil, length-append, arith}
use Rattle.std.specs.List.{concat, AllByRecursion}
use Rattle.std.specs.Io.KnownBytes.{Appends, Consumes}
use Rattle.std.proofs.KnownBytes.{Appends-trans, Consumes-trans}
use Rattle.std.proofs.lemmas.List.{map-append}
use Rattle.std.proofs.Math.Seq.{take-add, take-append_seam, drop-append_seam}
use Rattle.std.proofs.lemmas.List.Folds.{concat-append}
use Rattle.wrp_base.proofs.Lists.{all_append}
use Rattle.wrp_io.specs.Faults.{Rose}
use Rattle.wrp_records.specs.declared.engine.Ended.{Ended}
use Rattle.wrp_records.specs.declared.engine.Ended.TheVariants as ended
use Rattle.wrp_records.specs.declared.machine.Refusal.{Refusal}
use Rattle.wrp_records.specs.declared.machine.Refusal.TheVariants as refusals
use Rattle.wrp_records.specs.declared.status.Status.{Status}
use Rattle.wrp_records.specs.declared.status.Status.TheVariants.{Done, Usage, BadNetwork, BadTrace, Broken, ReadFault, WriteFault, LinkFault, TooLarge, OutOfMemory, BadCapture, BadCalib}
use Rattle.wrp_records.specs.Engine.{Waits, LineOutcome, TellsFaults, TellsLarge, Finishes, MostAt, status_by}
use Rattle.wrp_records.specs.Lines.{lines_of, content_of, IsWhole}
use Rattle.wrp_records.specs.Reached.{Reached, Stopped}
use Rattle.wrp_records.specs.Reader.{ReaderAt, Takes, IsNext, IsCut, IsLast, piece_limit}
use Rattle.wrp_records.specs.Stream.{Accepting, Refusing, Handles, IsWithin, IsTooLarge, IsLargeNext, IsCutWithin, line_limit, number_limit, large_line, FirstHandled, RefusedAt, Due, Handling}
use Rattle.wrp_records.specs.Taking.{AppendsPart}
use Rattle.wrp_records.proofs.Feeds.{lines_of-whole, lines_of-open, size_plain}
use Rattle.wrp_records.proofs.LineEnds.{whole_size}

-- one more, with all of them
pub all_more : {X : Type 0} (P : X → Type 0) (xs : List X) (x : X) → AllByRecursion P xs → P x → AllByRecursion P (xs ++ x ∷ [])
all_more P xs x all is = all_append P xs (x ∷ []) all (is, tt)

-- whole lines, and what follows
pub lines_behind : (lines : List (List ℕ)) (rest : List ℕ) → AllByRecursion IsWhole lines → lines_of (concat lines ++ rest) ≡ lines ++ lines_of rest
lines_behind [] rest whole = refl
lines_behind (line ∷ lines) rest whole =
    let here : (r : List ℕ) → lines_of (line ++ r) ≡ line ∷ lines_of r =
    λ r. subst (λ (l : List ℕ). lines_of (l ++ r) ≡ l ∷ lines_of r) (sym whole.0.is) (lines_of-whole whole.0.front r whole.0.plain) in
    ap lines_of (append_assoc line (concat lines) rest) ∙ here (concat lines ++ rest) ∙ ap (λ ls. line ∷ ls) (lines_behind lines rest whole.1)

-- whole lines alone
pub lines_alone : (lines : List (List ℕ)) → AllByRecursion IsWhole lines → lines_of (concat lines) ≡ lines
lines_alone lines whole = ap lines_of (sym (append-nil (concat lines))) ∙ lines_behind lines [] whole ∙ append-nil lines

-- one more line
pub concat-snoc : (lines : List (List ℕ)) (line : List ℕ) → concat (lines ++ line ∷ []) ≡ concat lines ++ line
concat-snoc lines line = concat-append lines (line ∷ []) ∙ ap (λ l. concat lines ++ l) (append-nil line)

pub next_some : (line : List ℕ) (r : ReaderAt) → IsNext line r → 0 < length line
next_some line r next = elim next [ inl whole ↦ whole_size line whole | inr last ↦ last.some ]

-- a line that is cut and exceeds what is taken of it
pub large_cut : (line : List ℕ) (r : ReaderAt) (number most : ℕ) → IsCut line r → MostAt number most → most < length line → IsLargeNext line r number
large_cut line r number most cut at past = (
  inr cut,
  omega (arith, past),
  elim at [
    | inl last ↦ inr last.0
    | inr more ↦
        let long : line_limit < length line = omega (arith, more.1, past) in
        inl (subst (λ n. line_limit < n) (sym (size_plain line cut.plain)) long)
  ],
)

-- a line that is cut and does not exceed it
pub cut_within : (line : List ℕ) (r : ReaderAt) (number most : ℕ) → IsCut line r → MostAt number most → length line ≤ most → r.ended ≡ false → IsCutWithin line r number
cut_within line r number most cut at within goes =
    elim at [
      | inl none ↦ (cut, omega (arith, within, none), λ some. absurd (omega (arith, within, none, some)), goes)
      | inr more ↦ (cut, omega (arith, within, more), λ some. more.0, goes)
    ]

-- a line that came and is too large
pub large_whole : (line : List ℕ) (r : ReaderAt) (number : ℕ) → IsNext line r → IsTooLarge line number → IsLargeNext line r number
large_whole line r number next large = (inl next, next_some line r next, large)

-- the same, and something was taken after them
pub record Coming (H : Accepting) (T : List (List ℕ) → Type 0) (start line : List ℕ) (r : ReaderAt) (left rest held now : Option (List ℕ)) (waiting : List ℕ) (number : ℕ) : Type 0 where
  pub given : List ℕ
  pub lines : List (List ℕ)
  pub text : List ℕ
  pub out : List ℕ
  pub taken : Consumes left rest given
  pub written : Appends held now out
  pub waits : text ≡ out ++ waiting
  pub all : start ++ given ≡ concat lines ++ (line ++ r.rest)
  pub first : AllByRecursion IsWhole lines ⊎ ((r.ended ≡ true) × (line ++ r.rest ≡ []) × (lines_of (start ++ given) ≡ lines))
  pub handled : H lines text
  pub has : T (map content_of lines)
  pub count : number ≡ length lines

-- before the first line
pub begins : (A : Accepting) (T : List (List ℕ) → Type 0) (r : ReaderAt) (left held : Option (List ℕ)) (waiting : List ℕ) → A [] [] → T []
    → Consumes left left [] → Appends held held [] → waiting ≡ [] → Reached (Handles A) T r.rest r left left held held waiting 0
begins A T r left held waiting accepted has taken written none = record {
  given = [];
  lines = [];
  text = [];
  out = [];
  taken = taken;
  written = written;
  waits = sym none;
  all = append-nil r.rest;
  first = inl tt;
  handled = record { sizes = tt; count = omega arith; accepted = accepted };
  has = has;
  count = refl;
}

-- something was taken
unfoldable pub comes : (A : Accepting) (T : List (List ℕ) → Type 0) (start line : List ℕ) (r s : ReaderAt) (left rest further held now : Option (List ℕ)) (waiting : List ℕ) (number : ℕ)
    → Reached A T start r left rest held now waiting number → Takes rest further r.rest r.ended s line
    → Coming A T start line s left further held now waiting number
comes A T start line r s left rest further held now waiting number so_far more =
    let joined : start ++ (so_far.given ++ more.0) ≡ concat so_far.lines ++ (line ++ s.rest) =
    sym (append_assoc start so_far.given more.0) ∙ ap (λ l. l ++ more.0) so_far.all ∙ append_assoc (concat so_far.lines) r.rest more.0
    ∙ ap (λ l. concat so_far.lines ++ l) (sym more.2) in
    record {
      given = so_far.given ++ more.0;
      lines = so_far.lines;
      text = so_far.text;
      out = so_far.out;
      taken = Consumes-trans left rest further so_far.given more.0 so_far.taken more.1;
      written = so_far.written;
      waits = so_far.waits;
      all = joined;
      first = elim so_far.first [
        | inl whole ↦ inl whole
        | inr last ↦
            let end = more.3 last.0 in
            let same : start ++ (so_far.given ++ more.0) ≡ start ++ so_far.given = ap (λ l. start ++ (so_far.given ++ l)) end.0 ∙ ap (λ l. start ++ l) (append-nil so_far.given) in
            inr (end.1, more.2 ∙ ap (λ l. r.rest ++ l) end.0 ∙ append-nil r.rest ∙ last.1, ap lines_of same ∙ last.2)
      ];
      handled = so_far.handled;
      has = so_far.has;
      count = so_far.count;
    }

-- some of what waits was written
unfoldable pub writes_on : (A : Accepting) (T : List (List ℕ) → Type 0) (start line : List ℕ) (r : ReaderAt) (left rest held now then_ : Option (List ℕ)) (was will : List ℕ) (number : ℕ)
    → Coming A T start line r left rest held now was number → Waits now then_ was will → Coming A T start line r left rest held then_ will number
writes_on A T start line r left rest held now then_ was will number so_far more = record {
  given = so_far.given;
  lines = so_far.lines;
  text = so_far.text;
  out = so_far.out ++ more.0;
  taken = so_far.taken;
  written = Appends-trans held now then_ so_far.out more.0 so_far.written more.1;
  waits = so_far.waits ∙ ap (λ l. so_far.out ++ l) more.2 ∙ sym (append_assoc so_far.out more.0 will);
  all = so_far.all;
  first = so_far.first;
  handled = so_far.handled;
  has = so_far.has;
  count = so_far.count;
}

-- if a line came, the lines before it are whole
pub whole_before : (A : Accepting) (T : List (List ℕ) → Type 0) (start line : List ℕ) (r : ReaderAt) (left rest held now : Option (List ℕ)) (waiting : List ℕ) (number : ℕ)
    → (so_far : Coming A T start line r left rest held now waiting number) → 0 < length line → AllByRecursion IsWhole so_far.lines
whole_before A T start line r left rest held now waiting number so_far some =
    elim so_far.first [
      | inl whole ↦ whole
      | inr last ↦ let size : length line + length r.rest ≡ 0 = sym (length-append line r.rest) ∙ ap length last.1 in absurd (omega arith)
    ]

-- what is written if nothing waits
all_written : (A : Accepting) (T : List (List ℕ) → Type 0) (start line : List ℕ) (r : ReaderAt) (left rest held now : Option (List ℕ)) (waiting : List ℕ) (number : ℕ)
    → (so_far : Coming A T start line r left rest held now waiting number) → waiting ≡ [] → Appends held now so_far.text
all_written A T start line r left rest held now waiting number so_far none =
    subst (λ l. Appends held now l) (sym (so_far.waits ∙ ap (λ l. so_far.out ++ l) none ∙ append-nil so_far.out)) so_far.written

-- at the end
pub ends : (A : Accepting) (R : Refusing) (T : List (List ℕ) → Type 0) (start line : List ℕ) (r : ReaderAt) (left rest held now : Option (List ℕ)) (waiting : List ℕ) (number : ℕ)
    → Coming (Handles A) T start line r left rest held now waiting number → waiting ≡ [] → IsLast r → line ≡ [] → Handling A R T start r left rest held now Done
ends A R T start line r left rest held now waiting number so_far written last none =
    let nothing : line ++ r.rest ≡ [] = ap (λ l. l ++ r.rest) none ∙ last.none in
    let are : lines_of (start ++ so_far.given) ≡ so_far.lines =
    elim so_far.first [
      | inl whole ↦ ap lines_of (so_far.all ∙ ap (λ l. concat so_far.lines ++ l) nothing) ∙ lines_behind so_far.lines [] whole ∙ append-nil so_far.lines
      | inr end ↦ end.2
    ] in
    record {
      given = so_far.given;
      text = so_far.text;
      taken = so_far.taken;
      written = all_written (Handles A) T start line r left rest held now waiting number so_far written;
      stands = (last, subst (λ (ls : List (List ℕ)). Handles A ls so_far.text) (sym are) so_far.handled);
      done = λ _. subst (λ (ls : List (List ℕ)). T (map content_of ls)) (sym are) so_far.has;
    }

-- if the source failed
pub fails : (A : Accepting) (R : Refusing) (T : List (List ℕ) → Type 0) (start line : List ℕ) (r : ReaderAt) (left rest held now : Option (List ℕ)) (waiting : List ℕ) (number : ℕ)
    → Coming (Handles A) T start line r left rest held now waiting number → waiting ≡ [] → IsCutWithin line r number → Handling A R T start r left rest held now ReadFault
fails A R T start line r left rest held now waiting number so_far written cut =
    let count : number ≡ length so_far.lines = so_far.count in
    let whole : AllByRecursion IsWhole so_far.lines = elim so_far.first [ inl whole ↦ whole | inr last ↦ let never = sym last.0 ∙ cut.3 in cc ] in
    record {
      given = so_far.given;
      text = so_far.text;
      taken = so_far.taken;
      written = all_written (Handles A) T start line r left rest held now waiting number so_far written;
      stands = record {
        lines = so_far.lines;
        cut = line;
        all = so_far.all ∙ ap (λ l. concat so_far.lines ++ (line ++ l)) cut.0.none ∙ ap (λ l. concat so_far.lines ++ l) (append-nil line);
        whole = whole;
        plain = cut.0.plain;
        size = cut.1;
        number = λ some. let below = cut.2 some in omega arith;
        handled = so_far.handled;
      };
      done = λ other. cc;
    }

-- an expected text of two parts, and what was written of it
pub take_two : (front back : List ℕ) (count : ℕ) → front ++ take count back ≡ take (length front + count) (front ++ back)
take_two front back count =
    ap (λ l. l ++ take count back) (sym (take-append_seam front back))
    ∙ ap (λ l. take (length front) (front ++ back) ++ take count l) (sym (drop-append_seam front back))
    ∙ sym (take-add (length front) count (front ++ back))

-- a part of what is expected was written
unwritten_of : (A : Accepting) (R : Refusing) (U : List (List ℕ) → Type 0) (start : List ℕ) (r : ReaderAt) (left rest held now then_ : Option (List ℕ)) (given out waiting text : List ℕ) (status : Status)
    → Consumes left rest given → Appends held now out → text ≡ out ++ waiting → Due A R (start ++ given) r status text → AppendsPart now then_ waiting
    → Handling A R U start r left rest held then_ WriteFault
unwritten_of A R U start r left rest held now then_ given out waiting text status taken written waits due cut = record {
  given = given;
  text = out ++ take cut.0 waiting;
  taken = taken;
  written = Appends-trans held now then_ out (take cut.0 waiting) written cut.1;
  stands = (status, text, length out + cut.0, due, take_two out waiting cut.0 ∙ ap (take (length out + cut.0)) (sym waits));
  done = λ other. cc;
}

-- everything that is expected was written
told_of : (A : Accepting) (R : Refusing) (U : List (List ℕ) → Type 0) (start : List ℕ) (r : ReaderAt) (left rest held now then_ : Option (List ℕ)) (given out waiting text : List ℕ) (status : Status)
    → Consumes left rest given → Appends held now out → text ≡ out ++ waiting → Due A R (start ++ given) r status text → Appends now then_ waiting
    → Handling A R U start r left rest held then_ status
told_of A R U start r left rest held now then_ given out waiting text BadTrace taken written waits due more = record {
  given = given;
  text = text;
  taken = taken;
  written = subst (λ l. Appends held then_ l) (sym waits) (Appends-trans held now then_ out waiting written more);
  stands = due;
  done = λ other. cc;
}
told_of A R U start r left rest held now then_ given out waiting text Broken taken written waits due more = record {
  given = given;
  text = text;
  taken = taken;
  written = subst (λ l. Appends held then_ l) (sym waits) (Appends-trans held now then_ out waiting written more);
  stands = due;
  done = λ other. cc;
}
told_of A R U start r left rest held now then_ given out waiting text TooLarge taken written waits due more = record {
  given = given;
  text = text;
  taken = taken;
  written = subst (λ l. Appends held then_ l) (sym waits) (Appends-trans held now then_ out waiting written more);
  stands = due;
  done = λ other. cc;
}
told_of A R U start r left rest held now then_ given out waiting text OutOfMemory taken written waits due more = record {
  given = given;
  text = text;
  taken = taken;
  written = subst (λ l. Appends held then_ l) (sym waits) (Appends-trans held now then_ out waiting written more);
  stands = due;
  done = λ other. cc;
}
told_of A R U start r left rest held now then_ given out waiting text Done taken written waits due more = absurd due
told_of A R U start r left rest held now then_ given out waiting text Usage taken written waits due more = absurd due
told_of A R U start r left rest held now then_ given out waiting text BadNetwork taken written waits due more = absurd due
told_of A R U start r left rest held now then_ given out waiting text ReadFault taken written waits due more = absurd due
told_of A R U start r left rest held now then_ given out waiting text WriteFault taken written waits due more = absurd due
told_of A R U start r left rest held now then_ given out waiting text LinkFault taken written waits due more = absurd due
told_of A R U start r left rest held now then_ given out waiting text BadCapture taken written waits due more = absurd due
told_of A R U start r left rest held now then_ given out waiting text BadCalib taken written waits due more = absurd due

-- what is expected was written, or the sink failed
finishes : (A : Accepting) (R : Refusing) (U : List (List ℕ) → Type 0) (start : List ℕ) (r : ReaderAt) (left rest held now then_ : Option (List ℕ)) (given out waiting text : List ℕ) (status result : Status)
    → Consumes left rest given → Appends held now out → text ≡ out ++ waiting → Due A R (start ++ given) r status text → Finishes status result now then_ waiting
    → Handling A R U start r left rest held then_ result
finishes A R U start r left rest held now then_ given out waiting text status result taken written waits due how =
    elim how [
      | inl told ↦ subst (λ (s : Status). Handling A R U start r left rest held then_ s) (sym told.0) (told_of A R U start r left rest held now then_ given out waiting text status taken written waits due told.1)
      | inr cut ↦ subst (λ (s : Status). Handling A R U start r left rest held then_ s) (sym cut.0) (unwritten_of A R U start r left rest held now then_ given out waiting text status taken written waits due cut.1)
    ]

-- some first lines
first_of : (A : Accepting) (T : List (List ℕ) → Type 0) (start line : List ℕ) (r : ReaderAt) (left rest held now : Option (List ℕ)) (waiting : List ℕ) (number : ℕ)
    → (so_far : Coming (Handles A) T start line r left rest held now waiting number) → FirstHandled A (start ++ so_far.given) r so_far.text
first_of A T start line r left rest held now waiting number so_far = record {
  lines = so_far.lines;
  more = line ++ r.rest;
  all = so_far.all;
  first = so_far.first;
  handled = so_far.handled;
}

-- if the sink failed before the source was asked
pub unwritten : (A : Accepting) (R : Refusing) (T U : List (List ℕ) → Type 0) (start line : List ℕ) (r : ReaderAt) (left rest held now then_ : Option (List ℕ)) (waiting : List ℕ) (number : ℕ)
    → Coming (Handles A) T start line r left rest held now waiting number → AppendsPart now then_ waiting → Handling A R U start r left rest held then_ WriteFault
unwritten A R T U start line r left rest held now then_ waiting number so_far cut =
    unwritten_of A R U start r left rest held now then_ so_far.given so_far.out waiting so_far.text OutOfMemory so_far.taken so_far.written so_far.waits
    (first_of A T start line r left rest held now waiting number so_far) cut

-- without memory
pub no_memory : (A : Accepting) (R : Refusing) (T U : List (List ℕ) → Type 0) (start line : List ℕ) (r : ReaderAt) (left rest held now then_ : Option (List ℕ)) (waiting was : List ℕ) (number : ℕ) (result : Status)
    → Coming (Handles A) T start line r left rest held now was number → waiting ≡ was → Finishes OutOfMemory result now then_ waiting → Handling A R U start r left rest held then_ result
no_memory A R T U start line r left rest held now then_ waiting was number result so_far same how =
    finishes A R U start r left rest held now then_ so_far.given so_far.out waiting so_far.text OutOfMemory result so_far.taken so_far.written
    (so_far.waits ∙ ap (λ l. so_far.out ++ l) (sym same)) (first_of A T start line r left rest held now was number so_far) how

-- one more part waits
pub more_waits : (text out was now last : List ℕ) → text ≡ out ++ was → now ≡ was ++ last → text ++ last ≡ out ++ now
more_waits text out was now last waits is = ap (λ l. l ++ last) waits ∙ append_assoc out was last ∙ ap (λ l. out ++ l) (sym is)

-- a line that is too large
pub too_large : (A : Accepting) (R : Refusing) (T U : List (List ℕ) → Type 0) (start line : List ℕ) (r : ReaderAt) (left rest held now then_ : Option (List ℕ)) (was waiting : List ℕ) (number : ℕ) (e : Ended) (result : Status)
    → Coming (Handles A) T start line r left rest held now was number → IsLargeNext line r number → TellsLarge (number + 1) was waiting e
    → Finishes (status_by e) result now then_ waiting → Handling A R U start r left rest held then_ result
too_large A R T U start line r left rest held now then_ was waiting number ended.TooLarge result so_far large tells how =
    finishes A R U start r left rest held now then_ so_far.given so_far.out waiting (so_far.text ++ large_line (number + 1)) TooLarge result so_far.taken so_far.written
    (more_waits so_far.text so_far.out was waiting (large_line (number + 1)) so_far.waits tells)
    (record {
      lines = so_far.lines;
      line = line;
      before = so_far.text;
      all = so_far.all;
      whole = whole_before (Handles A) T start line r left rest held now was number so_far large.1;
      next = large.0;
      some = large.1;
      large = subst (IsTooLarge line) so_far.count large.2;
      handled = so_far.handled;
      is = ap (λ n. so_far.text ++ large_line (n + 1)) so_far.count;
    }) how
too_large A R T U start line r left rest held now then_ was waiting number ended.Memory result so_far large tells how =
    no_memory A R T U start line r left rest held now then_ waiting was number result so_far tells how
too_large A R T U start line r left rest held now then_ was waiting number (ended.Refused refusal) result so_far large tells how = absurd tells

-- a line that is refused
refused_at : (A : Accepting) (R : Refusing) (T : List (List ℕ) → Type 0) (start line said : List ℕ) (r : ReaderAt) (left rest held now : Option (List ℕ)) (waiting : List ℕ) (number : ℕ) (refusal : Refusal) (last : List ℕ)
    → (so_far : Coming (Handles A) T start line r left rest held now waiting number) → IsNext line r × (length r.rest ≤ piece_limit) × IsWithin line × (number + 1 < number_limit)
    → said ≡ content_of line → R (map content_of so_far.lines) said refusal last
    → RefusedAt A R refusal (start ++ so_far.given) r (so_far.text ++ last)
refused_at A R T start line said r left rest held now waiting number refusal last so_far next is refused = record {
  lines = so_far.lines;
  line = line;
  before = so_far.text;
  last = last;
  stands = record { all = so_far.all; whole = whole_before (Handles A) T start line r left rest held now waiting number so_far (next_some line r next.0); piece = next.1 };
  next = next.0;
  within = next.2;
  number = subst (λ n. n + 1 < number_limit) so_far.count next.3;
  handled = so_far.handled;
  refused = subst (λ (l : List ℕ). R (map content_of so_far.lines) l refusal last) is refused;
  is = refl;
}

-- without memory nothing more is expected
pub stops_short : (A : Accepting) (R : Refusing) (T : List (List ℕ) → Type 0) (start line : List ℕ) (r : ReaderAt) (left rest held now : Option (List ℕ)) (was waiting : List ℕ) (number : ℕ)
    → Coming (Handles A) T start line r left rest held now was number → waiting ≡ was → Stopped A R start r left rest held now waiting OutOfMemory
stops_short A R T start line r left rest held now was waiting number so_far same = record {
  given = so_far.given;
  text = so_far.text;
  out = so_far.out;
  taken = so_far.taken;
  written = so_far.written;
  waits = so_far.waits ∙ ap (λ l. so_far.out ++ l) (sym same);
  due = first_of A T start line r left rest held now was number so_far;
}

-- if a line's handling ends the run
pub stopped : (A : Accepting) (R : Refusing) (T U : List (List ℕ) → Type 0) (start line said : List ℕ) (r : ReaderAt) (left rest held now : Option (List ℕ)) (was waiting : List ℕ) (number : ℕ) (e : Ended)
    → (so_far : Coming (Handles A) T start line r left rest held now was number) → IsNext line r × (length r.rest ≤ piece_limit) × IsWithin line × (number + 1 < number_limit)
    → said ≡ content_of line → LineOutcome A R U (map content_of so_far.lines) said so_far.text was waiting (Some e)
    → Stopped A R start r left rest held now waiting (status_by e)
stopped A R T U start line said r left rest held now was waiting number (ended.Refused refusals.BadTrace) so_far next is refused = record {
  given = so_far.given;
  text = so_far.text ++ refused.0;
  out = so_far.out;
  taken = so_far.taken;
  written = so_far.written;
  waits = more_waits so_far.text so_far.out was waiting refused.0 so_far.waits refused.1;
  due = refused_at A R T start line said r left rest held now was number refusals.BadTrace refused.0 so_far next is refused.2;
}
stopped A R T U start line said r left rest held now was waiting number (ended.Refused refusals.Broken) so_far next is refused = record {
  given = so_far.given;
  text = so_far.text ++ refused.0;
  out = so_far.out;
  taken = so_far.taken;
  written = so_far.written;
  waits = more_waits so_far.text so_far.out was waiting refused.0 so_far.waits refused.1;
  due = refused_at A R T start line said r left rest held now was number refusals.Broken refused.0 so_far next is refused.2;
}
stopped A R T U start line said r left rest held now was waiting number ended.Memory so_far next is same =
    stops_short A R T start line r left rest held now was waiting number so_far same
stopped A R T U start line said r left rest held now was waiting number ended.TooLarge so_far next is never = absurd never

-- what is expected is written, or the sink fails
pub closes_by : (A : Accepting) (R : Refusing) (U : List (List ℕ) → Type 0) (start : List ℕ) (r : ReaderAt) (left rest held now then_ : Option (List ℕ)) (waiting : List ℕ) (status result : Status)
    → Stopped A R start r left rest held now waiting status → Finishes status result now then_ waiting → Handling A R U start r left rest held then_ result
closes_by A R U start r left rest held now then_ waiting status result at_end how =
    finishes A R U start r left rest held now then_ at_end.given at_end.out waiting at_end.text status result at_end.taken at_end.written at_end.waits at_end.due how

-- one more line is handled
unfoldable pub goes_on_with : (H : Accepting) (T U : List (List ℕ) → Type 0) (start line : List ℕ) (r : ReaderAt) (left rest held now : Option (List ℕ)) (was waiting more : List ℕ) (number : ℕ)
    → (so_far : Coming H T start line r left rest held now was number) → IsNext line r
    → U (map content_of (so_far.lines ++ line ∷ [])) → H (so_far.lines ++ line ∷ []) (so_far.text ++ more) → waiting ≡ was ++ more
    → Reached H U start r left rest held now waiting (number + 1)
goes_on_with H T U start line r left rest held now was waiting more number so_far next has handled waits =
    let whole : AllByRecursion IsWhole so_far.lines = whole_before H T start line r left rest held now was number so_far (next_some line r next) in
    let joined : concat (so_far.lines ++ line ∷ []) ++ r.rest ≡ concat so_far.lines ++ (line ++ r.rest) =
    ap (λ l. l ++ r.rest) (concat-snoc so_far.lines line) ∙ append_assoc (concat so_far.lines) line r.rest in
    let size : length (so_far.lines ++ line ∷ []) ≡ length so_far.lines + 1 = length-append so_far.lines (line ∷ []) in
    let count : number ≡ length so_far.lines = so_far.count in
    record {
      given = so_far.given;
      lines = so_far.lines ++ line ∷ [];
      text = so_far.text ++ more;
      out = so_far.out;
      taken = so_far.taken;
      written = so_far.written;
      waits = more_waits so_far.text so_far.out was waiting more so_far.waits waits;
      all = so_far.all ∙ sym joined;
      first = elim next [
        | inl one ↦ inl (all_more IsWhole so_far.lines line whole one)
        | inr end ↦
            let alone : start ++ so_far.given ≡ concat so_far.lines ++ line =
            so_far.all ∙ ap (λ l. concat so_far.lines ++ (line ++ l)) end.last.none ∙ ap (λ l. concat so_far.lines ++ l) (append-nil line) in
            inr (
              end.last.ended,
              end.last.none,
              ap lines_of alone ∙ lines_behind so_far.lines line whole ∙ ap (λ ls. so_far.lines ++ ls) (lines_of-open line end.some end.plain),
            )
      ];
      handled = handled;
      has = has;
      count = omega arith;
    }

-- one more record is handled
pub goes_on : (A : Accepting) (R : Refusing) (T U : List (List ℕ) → Type 0) (start line said : List ℕ) (r : ReaderAt) (left rest held now : Option (List ℕ)) (was waiting : List ℕ) (number : ℕ)
    → (so_far : Coming (Handles A) T start line r left rest held now was number) → IsNext line r × (length r.rest ≤ piece_limit) × IsWithin line × (number + 1 < number_limit)
    → said ≡ content_of line → LineOutcome A R U (map content_of so_far.lines) said so_far.text was waiting None
    → Reached (Handles A) U start r left rest held now waiting (number + 1)
goes_on A R T U start line said r left rest held now was waiting number so_far next is more =
    let said_all : map content_of so_far.lines ++ said ∷ [] ≡ map content_of (so_far.lines ++ line ∷ []) =
    ap (λ l. map content_of so_far.lines ++ l ∷ []) is ∙ sym (map-append content_of so_far.lines (line ∷ [])) in
    let size : length (so_far.lines ++ line ∷ []) ≡ length so_far.lines + 1 = length-append so_far.lines (line ∷ []) in
    let count : number ≡ length so_far.lines = so_far.count in
    let room : number + 1 < number_limit = next.3 in
    goes_on_with (Handles A) T U start line r left rest held now was waiting more.0 number so_far next.0 (subst U said_all more.2) (record {
      sizes = all_more IsWithin so_far.lines line so_far.handled.sizes next.2;
      count = omega arith;
      accepted = subst (λ (ls : List (List ℕ)). A ls (so_far.text ++ more.0)) said_all more.3;
    }) more.1

-- what holds of one of two equal things holds of the other
pub moved : {X : Type 0} (P : X → Type 0) (s t : X) → s ≡ t → P s → P t
moved {X} P s t e p = subst (λ (x : X). P x) e p

-- what a status says of the faults, if the last part of a text was written after other writes
pub told_by_finish : (status : Status) (read read_now write mid write_now : ℕ) (ended : Bool) → read_now ≡ read → mid ≡ write
    → (status ≡ WriteFault → Rose mid write_now) → ((status ≡ WriteFault → ⊥) → write_now ≡ mid)
    → ((status ≡ Done → ⊥) × (status ≡ ReadFault → ⊥) × (status ≡ Usage → ⊥) × (status ≡ BadNetwork → ⊥) × (status ≡ LinkFault → ⊥) × (status ≡ BadCapture → ⊥) × (status ≡ BadCalib → ⊥))
    → TellsFaults status read read_now write write_now ended
told_by_finish status read read_now write mid write_now ended same before rose kept never =
    (λ is. absurd (never.1 is), λ other. same, λ is. moved (λ n. Rose n write_now) _ _ before (rose is), λ other. kept other ∙ before, never.2, never.3, never.4, never.5, never.6)
