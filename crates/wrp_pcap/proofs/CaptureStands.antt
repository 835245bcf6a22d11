-- What is left when the inspection of a capture ends.
use Rattle.std.proofs.Common.{◌≡◌, ◌⊎◌, ◌<◌, ◌≤◌, ◌+◌, ◌^◌, ℕ, Bool, true, false, Option, List, [], ◌++◌, length, take, drop, inl, inr, refl, sym, ap, ◌∙◌, subst, arith, append_assoc, append-nil, length-append, length-drop}
use Rattle.std.specs.Io.KnownBytes.{Appends, Consumes, IsAtEnd}
use Rattle.wrp_io.specs.Faults.{Rose}
use Rattle.std.proofs.KnownBytes.{Appends-trans, Consumes-trans}
use Rattle.std.proofs.Math.Seq.{drop-append_seam}
use Rattle.std.proofs.lemmas.Bool.{cases_lt}
use Rattle.std.proofs.lemmas.List.{take-append-drop, drop-append-le, length-take}
use Rattle.wrp_records.specs.declared.status.Status.{Status}
use Rattle.wrp_records.specs.declared.status.Status.TheVariants.{Done, ReadFault, WriteFault, TooLarge, OutOfMemory, BadCapture}
use Rattle.wrp_records.specs.After.{After, GoesOn, IsDue, IsFirst, StopsNear}
use Rattle.wrp_records.specs.Engine.{Finishes}
use Rattle.wrp_records.specs.Passages.{FailsBy, Passage, Passes}
use Rattle.wrp_records.specs.Stream.{large_line}
use Rattle.wrp_records.specs.Taking.{AppendsPart}
use Rattle.wrp_records.proofs.Reaching.{take_two}
use Rattle.wrp_pcap.specs.declared.capture.CaptureFault.{CaptureFault}
use Rattle.wrp_pcap.specs.declared.capture.CaptureFault.TheVariants.{Magic, LinkType, Header, Packet, Long}
use Rattle.wrp_pcap.specs.declared.capture.Order.{Order}
use Rattle.wrp_pcap.specs.declared.content.Content.{Content}
use Rattle.wrp_pcap.specs.declared.inspection.Inspection.{Inspection}
use Rattle.wrp_pcap.specs.Capture.{captured, StoredPacket, HasHeader, HasHeaderFault, Begins, HasPacketFault, IsCut}
use Rattle.wrp_pcap.specs.Inspected.{Carry, bad_capture_line, IsBadCapture, IsInspected, IsTooMany, InspectFirst, capture}
use Rattle.wrp_pcap.specs.Inspecting.{Goes, Reached, Tells, TellsBehind, TellsHeader, piece_limit}
use Rattle.wrp_pcap.specs.PacketLines.{text_of, sum_line}
use Rattle.wrp_pcap.proofs.CaptureCut.{begins_before, header_before, header_fault_before}
use Rattle.wrp_pcap.proofs.CaptureGoing.{carry_length}
use Rattle.wrp_pcap.proofs.CaptureLaws.{stay, number_stays, header_fault_stays}

-- ---- however the input goes on

-- nothing comes after the end
nothing_more : (octets more : List ℕ) → GoesOn true more → octets ++ more ≡ octets
nothing_more octets more goes = ap (λ m. octets ++ m) (goes refl) ∙ append-nil octets

pub begins_stay : (order : Order) (packets : List StoredPacket) (rest octets more : List ℕ) → 24 ≤ length octets → Begins order packets rest (drop 24 octets)
    → Begins order packets (rest ++ more) (drop 24 (octets ++ more))
begins_stay order packets rest octets more enough begins =
    subst (λ (o : List ℕ). Begins order packets (rest ++ more) o) (sym (drop-append-le 24 octets more enough)) (stay.packets order packets rest (drop 24 octets) more begins)

-- the first packets
first_answer : (order : Order) (taken out rest waiting more : List ℕ) (inspection : Inspection) (reached : Reached order taken out inspection rest waiting)
    → InspectFirst (taken ++ more) (text_of reached.contents)
first_answer order taken out rest waiting more inspection reached = inr (record {
  order = order;
  packets = reached.packets;
  contents = reached.contents;
  rest = rest ++ more;
  header = stay.header order taken more reached.header;
  begins = begins_stay order reached.packets rest taken more reached.header.whole reached.begins;
  few = reached.few;
  carry = reached.carry;
  is = refl;
})

-- all packets
done_answer : (order : Order) (taken out rest waiting more : List ℕ) (inspection : Inspection) (reached : Reached order taken out inspection rest waiting)
    → rest ≡ [] → GoesOn true more → IsInspected (taken ++ more) (text_of reached.contents ++ sum_line reached.contents)
done_answer order taken out rest waiting more inspection reached none goes =
    subst (λ (o : List ℕ). IsInspected o (text_of reached.contents ++ sum_line reached.contents)) (sym (nothing_more taken more goes))
    (record {
      packets = reached.packets;
      contents = reached.contents;
      file = record { order = order; header = reached.header; reading = record { rest = rest; begins = reached.begins; ends = none } };
      few = reached.few;
      carry = reached.carry;
      is = refl;
    })

-- a packet that is refused
bad_at : (order : Order) (octets rest : List ℕ) (packets : List StoredPacket) (contents : List Content) (fault : CaptureFault)
    → HasHeader order octets → Begins order packets rest (drop 24 octets) → HasPacketFault fault order rest → length contents + 1 < 2 ^ 32 → Carry packets contents
    → IsBadCapture octets (text_of contents ++ bad_capture_line (record { packet = length contents + 1; fault = fault }))
bad_at order octets rest packets contents fault header begins has room carry =
    let count = carry_length packets contents carry in
    record {
      packets = packets;
      contents = contents;
      refusal = record { packet = length contents + 1; fault = fault };
      refused = inr (ap (λ n. n + 1) (sym count), record { order = order; header = header; reading = record { rest = rest; begins = begins; ends = has } });
      few = omega (arith, count, room);
      carry = carry;
      is = refl;
    }

bad_answer : (order : Order) (taken out rest waiting more : List ℕ) (inspection : Inspection) (reached : Reached order taken out inspection rest waiting)
    (ended : Bool) (fault : CaptureFault) → HasPacketFault fault order rest → (ended ≡ true) ⊎ (fault ≡ Long) → length reached.contents + 1 < 2 ^ 32 → GoesOn ended more
    → IsBadCapture (taken ++ more) (text_of reached.contents ++ bad_capture_line (record { packet = length reached.contents + 1; fault = fault }))
bad_answer order taken out rest waiting more inspection reached ended fault has (inl end) room goes =
    subst (λ (o : List ℕ). IsBadCapture o (text_of reached.contents ++ bad_capture_line (record { packet = length reached.contents + 1; fault = fault })))
    (sym (nothing_more taken more (λ same. goes end)))
    (bad_at order taken rest reached.packets reached.contents fault reached.header reached.begins has room reached.carry)
bad_answer order taken out rest waiting more inspection reached ended fault has (inr is) room goes =
    let long = subst (λ (f : CaptureFault). HasPacketFault f order rest) is has in
    bad_at order (taken ++ more) (rest ++ more) reached.packets reached.contents fault (stay.header order taken more reached.header)
    (begins_stay order reached.packets rest taken more reached.header.whole reached.begins)
    (subst (λ (f : CaptureFault). HasPacketFault f order (rest ++ more)) (sym is) (stay.long order rest more long)) room reached.carry

-- a packet with too great a number
large_answer : (order : Order) (taken out rest waiting more : List ℕ) (inspection : Inspection) (reached : Reached order taken out inspection rest waiting)
    → 0 < length rest → length reached.contents + 1 ≡ 2 ^ 32 → IsTooMany (taken ++ more) (text_of reached.contents ++ large_line (2 ^ 32))
large_answer order taken out rest waiting more inspection reached some last = record {
  order = order;
  packets = reached.packets;
  contents = reached.contents;
  rest = rest ++ more;
  header = stay.header order taken more reached.header;
  begins = begins_stay order reached.packets rest taken more reached.header.whole reached.begins;
  last = ap (λ n. n + 1) (carry_length reached.packets reached.contents reached.carry) ∙ last;
  some = let all = length-append rest more in omega (arith, some, all);
  carry = reached.carry;
  is = refl;
}

-- ---- where a refusal ends

ends_at : (order : Order) (taken out rest waiting : List ℕ) (inspection : Inspection) → (reached : Reached order taken out inspection rest waiting)
    → (fault : CaptureFault) → HasPacketFault fault order rest → length reached.contents + 1 < 2 ^ 32 → (fault ≡ Long → ⊥) → StopsNear capture BadCapture taken
ends_at order taken out rest waiting inspection reached fault has room other = record {
  front = taken;
  past = [];
  all = sym (append-nil taken);
  piece = omega arith;
  refused = inr (record {
    order = order;
    packets = reached.packets;
    rest = rest;
    fault = fault;
    header = reached.header;
    begins = reached.begins;
    few = let count = carry_length reached.packets reached.contents reached.carry in omega (arith, count, room);
    has = has;
    ends = λ long. absurd (other long);
  });
}

-- after the numbers of a packet that is too long
long_at : (order : Order) (taken out rest waiting : List ℕ) (inspection : Inspection) → (reached : Reached order taken out inspection rest waiting)
    → HasPacketFault Long order rest → length reached.contents + 1 < 2 ^ 32 → StopsNear capture BadCapture taken
long_at order taken out rest waiting inspection reached long room =
    let numbers = take 16 rest in
    let past = drop 16 rest in
    let near = reached.near.long long in
    let whole = reached.header.whole in
    let sixteen : length numbers ≡ 16 = let least = length-take 16 rest in omega (arith, least, long.0) in
    let head_size : length (take 24 taken) ≡ 24 = let least = length-take 24 taken in omega (arith, least, whole) in
    let behind = begins_before order reached.packets numbers past (drop 24 taken)
    (subst (λ (r : List ℕ). Begins order reached.packets r (drop 24 taken)) (sym (take-append-drop 16 rest)) reached.begins) in
    let front = take 24 taken ++ behind.front in
    let all : taken ≡ front ++ past =
    sym (take-append-drop 24 taken) ∙ ap (λ l. take 24 taken ++ l) behind.all ∙ sym (append_assoc (take 24 taken) behind.front past) in
    let enough : 24 ≤ length front = let parts = length-append (take 24 taken) behind.front in omega (arith, parts, head_size) in
    let behind_is : drop 24 front ≡ behind.front = ap (λ n. drop n front) (sym head_size) ∙ drop-append_seam (take 24 taken) behind.front in
    let stays = number_stays order 8 numbers past (omega (arith, sixteen)) in
    let same = ap (captured order) (take-append-drop 16 rest) in
    record {
      front = front;
      past = past;
      all = all;
      piece = let left = length-drop 16 rest in omega (arith, left, near);
      refused = inr (record {
        order = order;
        packets = reached.packets;
        rest = numbers;
        fault = Long;
        header = header_before order front past enough (subst (HasHeader order) all reached.header);
        begins = subst (λ (o : List ℕ). Begins order reached.packets numbers o) (sym behind_is) behind.begins;
        few = let count = carry_length reached.packets reached.contents reached.carry in omega (arith, count, room);
        has = (omega (arith, sixteen), omega (arith, long.1, stays, same));
        ends = λ is. sixteen;
      });
    }

stops_near : (order : Order) (taken out rest waiting : List ℕ) (inspection : Inspection) → (reached : Reached order taken out inspection rest waiting)
    → (fault : CaptureFault) → HasPacketFault fault order rest → length reached.contents + 1 < 2 ^ 32 → StopsNear capture BadCapture taken
stops_near order taken out rest waiting inspection reached Magic has room = absurd has
stops_near order taken out rest waiting inspection reached LinkType has room = absurd has
stops_near order taken out rest waiting inspection reached Header has room = ends_at order taken out rest waiting inspection reached Header has room (λ is. cc)
stops_near order taken out rest waiting inspection reached Packet has room = ends_at order taken out rest waiting inspection reached Packet has room (λ is. cc)
stops_near order taken out rest waiting inspection reached Long has room = long_at order taken out rest waiting inspection reached has room

-- ---- what is left

-- what is expected, or the lines of the first packets
abbrev pub PartDue : List ℕ → Bool → List ℕ → Type 0
PartDue taken ended due = ((status : Status) × IsDue capture taken ended [] status due) ⊎ IsFirst capture taken ended [] due

first_due : (order : Order) (taken out rest waiting : List ℕ) (inspection : Inspection) (ended : Bool) (reached : Reached order taken out inspection rest waiting)
    → IsFirst capture taken ended [] (text_of reached.contents)
first_due order taken out rest waiting inspection ended reached more goes = (refl, first_answer order taken out rest waiting more inspection reached)

-- if all is reported
told_after : (order : Order) (taken out rest waiting last : List ℕ) (inspection : Inspection) (ended : Bool) (status : Status)
    → (reached : Reached order taken out inspection rest waiting) → Tells order reached.contents rest ended status last
    → After capture taken ended [] status (text_of reached.contents ++ last)
told_after order taken out rest waiting last inspection ended Done reached (end, none, is) =
    let goes : GoesOn true [] = λ same. refl in
    let whole = done_answer order taken out rest waiting [] inspection reached none goes in
    let text = ap (λ l. text_of reached.contents ++ l) (sym is) in (
      end,
      (
        refl,
        subst (λ (o : List ℕ). IsInspected o (text_of reached.contents ++ last)) (append-nil taken)
            (subst (λ (t : List ℕ). IsInspected (taken ++ []) t) text whole),
      ),
    )
told_after order taken out rest waiting last inspection ended BadCapture reached (fault, has, how, room, is) =
    let text = ap (λ l. text_of reached.contents ++ l) (sym is) in (
      λ more goes. (
        refl,
        subst (λ (t : List ℕ). IsBadCapture (taken ++ more) t) text
            (bad_answer order taken out rest waiting more inspection reached ended fault has how room goes),
      ),
      stops_near order taken out rest waiting inspection reached fault has room,
    )
told_after order taken out rest waiting last inspection ended TooLarge reached (some, number, is) =
    λ more goes. (
      refl,
      subst (λ (t : List ℕ). IsTooMany (taken ++ more) t) (ap (λ l. text_of reached.contents ++ l) (sym is))
          (large_answer order taken out rest waiting more inspection reached some number),
    )
told_after order taken out rest waiting last inspection ended OutOfMemory reached is =
    λ more goes. (
      refl,
      subst (λ (t : List ℕ). InspectFirst (taken ++ more) t) (sym (ap (λ l. text_of reached.contents ++ l) is ∙ append-nil (text_of reached.contents)))
          (first_answer order taken out rest waiting more inspection reached),
    )
told_after order taken out rest waiting last inspection ended _ reached never = absurd never

-- if a part of it may be left
told_part : (order : Order) (taken out rest waiting last : List ℕ) (inspection : Inspection) (ended : Bool) (status : Status)
    → (reached : Reached order taken out inspection rest waiting) → Tells order reached.contents rest ended status last
    → PartDue taken ended (text_of reached.contents ++ last)
told_part order taken out rest waiting last inspection ended Done reached (end, none, is) =
    inl (
      Done,
      λ more goes. (
        refl,
        subst (λ (t : List ℕ). IsInspected (taken ++ more) t) (ap (λ l. text_of reached.contents ++ l) (sym is))
            (done_answer order taken out rest waiting more inspection reached none (λ same. goes end)),
      ),
    )
told_part order taken out rest waiting last inspection ended BadCapture reached told =
    inl (BadCapture, (told_after order taken out rest waiting last inspection ended BadCapture reached told).0)
told_part order taken out rest waiting last inspection ended TooLarge reached told =
    inl (TooLarge, told_after order taken out rest waiting last inspection ended TooLarge reached told)
told_part order taken out rest waiting last inspection ended OutOfMemory reached told =
    inr (told_after order taken out rest waiting last inspection ended OutOfMemory reached told)
told_part order taken out rest waiting last inspection ended _ reached never = absurd never

-- what was taken after these octets and written, and what is left by it
pub record Stands (start : List ℕ) (left left_now held held_now : Option (List ℕ)) (ended : Bool) (status : Status) : Type 0 where
  pub given : List ℕ
  pub octets : List ℕ
  pub taken : Consumes left left_now given
  pub wrote : Appends held held_now octets
  pub stands : After capture (start ++ given) ended [] status octets

-- if what is reported is written, or a part of it
pub finished : (order : Order) (start rest waiting text : List ℕ) (left left_now held held_now held_then : Option (List ℕ)) (inspection : Inspection)
    (ended : Bool) (due status : Status) → (goes : Goes order start left left_now held held_now inspection rest waiting)
    → TellsBehind order goes.reached.contents rest ended due waiting text → Finishes due status held_now held_then text
    → Stands start left left_now held held_then ended status
finished order start rest waiting text left left_now held held_now held_then inspection ended due status goes (last, tells, is) (inl (same, written)) =
    let reached = goes.reached in
    let all : text_of reached.contents ++ last ≡ goes.out ++ text =
    ap (λ l. l ++ last) reached.waits ∙ append_assoc goes.out waiting last ∙ ap (λ l. goes.out ++ l) (sym is) in
    record {
      given = goes.given;
      octets = goes.out ++ text;
      taken = goes.taken;
      wrote = Appends-trans held held_now held_then goes.out text goes.wrote written;
      stands = subst (λ (s : Status). After capture (start ++ goes.given) ended [] s (goes.out ++ text)) (sym same)
          (subst (λ (t : List ℕ). After capture (start ++ goes.given) ended [] due t) all
          (told_after order (start ++ goes.given) goes.out rest waiting last inspection ended due reached tells));
    }
finished order start rest waiting text left left_now held held_now held_then inspection ended due status goes (last, tells, is) (inr (same, cut)) =
    let reached = goes.reached in
    let all : text_of reached.contents ++ last ≡ goes.out ++ text =
    ap (λ l. l ++ last) reached.waits ∙ append_assoc goes.out waiting last ∙ ap (λ l. goes.out ++ l) (sym is) in
    record {
      given = goes.given;
      octets = goes.out ++ take cut.0 text;
      taken = goes.taken;
      wrote = Appends-trans held held_now held_then goes.out (take cut.0 text) goes.wrote cut.1;
      stands = subst (λ (s : Status). After capture (start ++ goes.given) ended [] s (goes.out ++ take cut.0 text)) (sym same) (
        goes.out ++ text,
        length goes.out + cut.0,
        take_two goes.out text cut.0,
        subst (λ (t : List ℕ). PartDue (start ++ goes.given) ended t) all
            (told_part order (start ++ goes.given) goes.out rest waiting last inspection ended due reached tells),
      );
    }

-- if a part of what waited is written
pub unwritten : (order : Order) (start rest waiting : List ℕ) (left left_now held held_now held_then : Option (List ℕ)) (inspection : Inspection)
    → Goes order start left left_now held held_now inspection rest waiting → AppendsPart held_now held_then waiting
    → Stands start left left_now held held_then false WriteFault
unwritten order start rest waiting left left_now held held_now held_then inspection goes cut =
    let reached = goes.reached in
    record {
      given = goes.given;
      octets = goes.out ++ take cut.0 waiting;
      taken = goes.taken;
      wrote = Appends-trans held held_now held_then goes.out (take cut.0 waiting) goes.wrote cut.1;
      stands = (
        goes.out ++ waiting,
        length goes.out + cut.0,
        take_two goes.out waiting cut.0,
        subst (λ (t : List ℕ). PartDue (start ++ goes.given) false t) reached.waits
            (inr (first_due order (start ++ goes.given) goes.out rest waiting inspection false reached)),
      );
    }

-- what is written if nothing waits
all_written : (order : Order) (taken out rest waiting : List ℕ) (inspection : Inspection) (reached : Reached order taken out inspection rest waiting)
    → waiting ≡ [] → text_of reached.contents ≡ out
all_written order taken out rest waiting inspection reached none = reached.waits ∙ ap (λ l. out ++ l) none ∙ append-nil out

-- if the source failed
pub unread : (order : Order) (start rest waiting : List ℕ) (left left_now further held held_now : Option (List ℕ)) (inspection : Inspection)
    → (goes : Goes order start left left_now held held_now inspection rest waiting) → waiting ≡ [] → Consumes left_now further []
    → IsCut order rest → (0 < length rest → length goes.reached.contents + 1 < 2 ^ 32)
    → Stands start left further held held_now false ReadFault
unread order start rest waiting left left_now further held held_now inspection goes none nothing cut next =
    let reached = goes.reached in
    let same = append-nil goes.given in
    record {
      given = goes.given ++ [];
      octets = goes.out;
      taken = Consumes-trans left left_now further goes.given [] goes.taken nothing;
      wrote = goes.wrote;
      stands = subst (λ (g : List ℕ). After capture (start ++ g) false [] ReadFault goes.out) (sym same) (
        refl,
        refl,
        inr (record {
          order = order;
          packets = reached.packets;
          contents = reached.contents;
          rest = rest;
          header = reached.header;
          begins = reached.begins;
          cut = cut;
          few = reached.few;
          next = λ some. let count = carry_length reached.packets reached.contents reached.carry in let room = next some in omega (arith, count, room);
          carry = reached.carry;
          is = sym (all_written order (start ++ goes.given) goes.out rest waiting inspection reached none);
        }),
      );
    }

-- if there was no memory for a piece
pub no_memory : (order : Order) (start rest waiting given : List ℕ) (left left_now further held held_now : Option (List ℕ)) (inspection : Inspection)
    → Goes order start left left_now held held_now inspection rest waiting → waiting ≡ [] → Consumes left_now further given
    → Stands start left further held held_now false OutOfMemory
no_memory order start rest waiting given left left_now further held held_now inspection goes none more_taken =
    let reached = goes.reached in
    record {
      given = goes.given ++ given;
      octets = goes.out;
      taken = Consumes-trans left left_now further goes.given given goes.taken more_taken;
      wrote = goes.wrote;
      stands = λ more on. (
        refl,
        subst (λ (t : List ℕ). InspectFirst ((start ++ (goes.given ++ given)) ++ more) t)
            (all_written order (start ++ goes.given) goes.out rest waiting inspection reached none)
            (subst (λ (o : List ℕ). InspectFirst o (text_of reached.contents))
            (append_assoc start goes.given (given ++ more) ∙ ap (λ l. start ++ l) (sym (append_assoc goes.given given more)) ∙ sym (append_assoc start (goes.given ++ given) more))
            (first_answer order (start ++ goes.given) goes.out rest waiting (given ++ more) inspection reached)),
      );
    }

-- ---- what passes

-- an object that did not fail
pub is_sound : {A : Type 0} (fault status : Status) (p : Passage A) → p.faults_now ≡ p.faults → (status ≡ fault → ⊥) → FailsBy fault status p
is_sound fault status p same other = record { failed = λ is. absurd (other is); sound = λ not. same }

-- an object that failed
pub has_failed : {A : Type 0} (fault status : Status) (p : Passage A) → Rose p.faults p.faults_now → status ≡ fault → FailsBy fault status p
has_failed fault status p rose is = record { failed = λ same. rose; sound = λ other. absurd (other is) }

-- an object that had not failed before the last call
pub fails_last : {A : Type 0} (fault status : Status) (p : Passage A) (middle : ℕ) → middle ≡ p.faults
    → (status ≡ fault → Rose middle p.faults_now) → ((status ≡ fault → ⊥) → p.faults_now ≡ middle) → FailsBy fault status p
fails_last fault status p middle same rose kept = record {
  failed = λ is. subst (λ (n : ℕ). Rose n p.faults_now) same (rose is);
  sound = λ other. kept other ∙ same;
}

-- what is reported is no fault of the source
pub never_read : (order : Order) (contents : List Content) (rest was now text : List ℕ) (ended : Bool) (due status : Status) (held held_now : Option (List ℕ))
    → TellsBehind order contents rest ended due was now → Finishes due status held held_now text → status ≡ ReadFault → ⊥
never_read order contents rest was now text ended due status held held_now (last, tells, is) (inl (same, written)) read =
    subst (λ (s : Status). Tells order contents rest ended s last) (sym same ∙ read) tells
never_read order contents rest was now text ended due status held held_now told (inr (same, cut)) read = let never = sym same ∙ read in cc

pub passes : (source sink : Passage (List ℕ)) (start : List ℕ) (ended : Bool) (status : Status) → Stands start source.before source.now sink.before sink.now ended status
    → (ended ≡ true → IsAtEnd source.now) → FailsBy ReadFault status source → FailsBy WriteFault status sink → Passes capture source sink start false ended [] status
passes source sink start ended status stands at_end read write = record {
  given = stands.given;
  octets = stands.octets;
  taken = stands.taken;
  wrote = stands.wrote;
  stands = stands.stands;
  at_end = at_end;
  stays = λ never. absurd (cc);
  read = read;
  write = write;
}

-- ---- the header

bad_header : (octets : List ℕ) (fault : CaptureFault) → HasHeaderFault fault octets → IsBadCapture octets (bad_capture_line (record { packet = 0; fault = fault }))
bad_header octets fault has = record {
  packets = [];
  contents = [];
  refusal = record { packet = 0; fault = fault };
  refused = inl (refl, refl, has);
  few = omega arith;
  carry = tt;
  is = refl;
}

header_due : (held : List ℕ) (ended : Bool) (fault : CaptureFault) → HasHeaderFault fault held → (24 ≤ length held) ⊎ (ended ≡ true)
    → IsDue capture held ended [] BadCapture (bad_capture_line (record { packet = 0; fault = fault }))
header_due held ended fault has (inl enough) more goes = (refl, bad_header (held ++ more) fault (header_fault_stays fault held more enough has))
header_due held ended fault has (inr end) more goes =
    (refl, bad_header (held ++ more) fault (subst (HasHeaderFault fault) (sym (nothing_more held more (λ same. goes end))) has))

header_near : (held : List ℕ) (fault : CaptureFault) → HasHeaderFault fault held → length held ≤ 24 + piece_limit → StopsNear capture BadCapture held
header_near held fault has piece = elim (cases_lt (length held) 24) [
  | inl few ↦ record {
    front = held;
    past = [];
    all = sym (append-nil held);
    piece = omega arith;
    refused = inl (record { fault = fault; has = has; ends = omega (arith, few) });
  }
  | inr enough ↦
      let least = length-take 24 held in
      let left = length-drop 24 held in
      record {
        front = take 24 held;
        past = drop 24 held;
        all = sym (take-append-drop 24 held);
        piece = omega (arith, left, piece);
        refused = inl (record {
          fault = fault;
          has = header_fault_before fault (take 24 held) (drop 24 held) (omega (arith, least, enough)) (subst (HasHeaderFault fault) (sym (take-append-drop 24 held)) has);
          ends = omega (arith, least);
        });
      }
]

-- what is left if a header is refused
pub header_stands : (held : List ℕ) (ended : Bool) (fault : CaptureFault) (status : Status) (before now : Option (List ℕ)) → HasHeaderFault fault held
    → length held ≤ 24 + piece_limit → (24 ≤ length held) ⊎ (ended ≡ true) → TellsHeader fault status before now
    → (octets : List ℕ) × Appends before now octets × After capture held ended [] status octets
header_stands held ended fault status before now has piece how (inl (full, nothing)) =
    ([], nothing, subst (λ (s : Status). After capture held ended [] s []) (sym full) (λ more goes. (refl, inl refl)))
header_stands held ended fault status before now has piece how (inr (inl (bad, written))) =
    let line = bad_capture_line (record { packet = 0; fault = fault }) in
    (line, written, subst (λ (s : Status). After capture held ended [] s line) (sym bad) (header_due held ended fault has how, header_near held fault has piece))
header_stands held ended fault status before now has piece how (inr (inr (unwritten_, cut))) =
    let line = bad_capture_line (record { packet = 0; fault = fault }) in (
      take cut.0 line,
      cut.1,
      subst (λ (s : Status). After capture held ended [] s (take cut.0 line)) (sym unwritten_)
          (line, cut.0, refl, inl (BadCapture, header_due held ended fault has how)),
    )

pub header_never_read : (fault : CaptureFault) (status : Status) (before now : Option (List ℕ)) → TellsHeader fault status before now → status ≡ ReadFault → ⊥
header_never_read fault status before now (inl (full, nothing)) read = let never = sym full ∙ read in cc
header_never_read fault status before now (inr (inl (bad, written))) read = let never = sym bad ∙ read in cc
header_never_read fault status before now (inr (inr (cut, part))) read = let never = sym cut ∙ read in cc

-- after octets that were taken before
pub passes_behind : (source middle sink : Passage (List ℕ)) (held : List ℕ) (ended : Bool) (status : Status) → Passes capture middle sink held false ended [] status
    → Consumes source.before middle.before held → middle.now ≡ source.now → middle.faults ≡ source.faults → middle.faults_now ≡ source.faults_now
    → Passes capture source sink [] false ended [] status
passes_behind source middle sink held ended status p taken now_is faults now_faults = record {
  given = held ++ p.given;
  octets = p.octets;
  taken = Consumes-trans source.before middle.before source.now held p.given taken (subst (λ (n : Option (List ℕ)). Consumes middle.before n p.given) now_is p.taken);
  wrote = p.wrote;
  stands = p.stands;
  at_end = λ end. subst IsAtEnd now_is (p.at_end end);
  stays = λ never. absurd (cc);
  read = fails_last ReadFault status source middle.faults faults (λ is. subst (λ (n : ℕ). Rose middle.faults n) now_faults (p.read.failed is))
      (λ other. sym now_faults ∙ p.read.sound other);
  write = p.write;
}
