-- How a replayed node begins, goes on with a line, and ends.
use Rattle.std.proofs.Common.{◌≡◌, ◌∙◌, refl, ap, ap₂, sym, subst, ℕ, ℤ, pos, ◌+◌, ◌<◌, ◌≤◌, ◌≤ℤ◌, ◌^◌, Bool, true, false, if◌then◌else◌, Ok, Err, length, List, [], ◌∷◌, ◌++◌, Option, None, Some, IfSome, is_some, unsigned_abs, arith}
use Rattle.std.proofs.lemmas.Int.{ints}
use Rattle.std.specs.List.{flat_map}
use Rattle.wrp_base.specs.declared.fault.TraceFault.{TraceFault}
use Rattle.wrp_network.specs.declared.network.LinkCfg.{LinkCfg}
use Rattle.wrp_network.specs.Network.{link_above, name_at}
use Rattle.wrp_bounds.specs.Bounds.{path_of}
use Rattle.wrp_config.proofs.Bare.{above_some}
use Rattle.wrp_config.specs.Same.{bare_cfg}
use Rattle.wrp_caldb.specs.Database.{Database}
use Rattle.wrp_law.specs.Law.{LawOf, KeepsFact}
use Rattle.wrp_law.specs.declared.link_law.LinkLaw.{LinkLaw}
use Rattle.wrp_law.specs.LinkLaw.{down_of}
use Rattle.wrp_lines.specs.Lines.{output_line_of}
use Rattle.wrp_node.specs.Control.{law_in}
use Rattle.wrp_node.specs.declared.interface.Input.{Input}
use Rattle.wrp_node.specs.declared.interface.Input.TheVariants.{Tick, Sample, Frame, Sent, Carrier, Reset}
use Rattle.wrp_node.specs.declared.interface.NodeSet.{NodeSet}
use Rattle.wrp_node.specs.declared.interface.Output.{Output}
use Rattle.wrp_node.specs.New.{node_setting_of}
use Rattle.wrp_node.specs.Node.{FitsInput, IsValid}
use Rattle.wrp_node.specs.NodeAt.{NodeSetting, Taken}
use Rattle.wrp_node.specs.NodeRun.{node_after}
use Rattle.wrp_node.specs.OneRun.{OneRun, OneNode}
use Rattle.wrp_node.specs.Set.{set_of}
use Rattle.wrp_node.specs.StandsFor.{NodeOf, StandsFor, Took}
use Rattle.wrp_trace.specs.InputAt.{IsInputAt}
use Rattle.wrp_trace.specs.Inputs.{read_of}
use Rattle.wrp_fields.specs.Reading.{IsReading}
use Rattle.wrp_trace.specs.LineSetting.{LineSetting}
use Rattle.wrp_records.specs.declared.machine.Refusal.{Refusal}
use Rattle.wrp_records.specs.declared.machine.Taken as machine
use Rattle.wrp_records.specs.declared.machine.Taken.TheVariants.{Refused}
use Rattle.wrp_replay.specs.declared.replayed_node.ReplayedNode.{ReplayedNode}
use Rattle.wrp_replay.specs.declared.replayed.Replayed.{Replayed}
use Rattle.wrp_replay.specs.DownLaw.{AnswersBy, IsLawAt, least_over, greatest_over, law_at, node_setting_at}
use Rattle.wrp_replay.specs.LinkLaw.{IsLawOver}
use Rattle.wrp_replay.specs.NodeText.{Writes, node_counts}
use Rattle.wrp_records.specs.Refusals.{RefusesLine}
use Rattle.wrp_records.proofs.LineParts.{read_fault, refused_line}
use Rattle.wrp_replay.specs.Replays.{AreInputs, Accepts, Closes, Refuses}
use Rattle.wrp_replay.specs.StandsFor.{HasTaken, IsReady, OwnsPorts, TookInput, line_setting_at}
use Rattle.wrp_replay.proofs.BareSetting.{bare_setting, fixed_bare, law_bare, port_bare, read_bare, set_bare}
use Rattle.wrp_replay.proofs.OneReplay.{one_more, one_text}
use Rattle.wrp_replay.proofs.OwnPorts.{is_among_own}
use Rattle.wrp_replay.proofs.Runs.{node_run, one_tick, run_of}

-- A new node

pub fixed_is : {F : Type 0} {pre : F → ℤ → Type 0} {post : F → ℤ → ℤ → Type 0} (replayed : Replayed) (set : NodeSet) (law : Option (LawOf F)) → set ≡ set_of replayed.net.now.cfg replayed.node
    → IsLawAt pre post (line_setting_at replayed) law → node_setting_of set law ≡ node_setting_at (line_setting_at replayed)
fixed_is replayed set law is at =
    ap (λ (s : NodeSet). node_setting_of s law) (is ∙ sym (set_bare replayed.net.now.cfg replayed.node)) ∙ at.range

pub owns_ports : {F : Type 0} {post : F → ℤ → ℤ → Type 0} (site : LineSetting) (node : NodeOf F) (inputs : List Taken) → StandsFor post (node_setting_at site) node inputs → OwnsPorts site node.parts.ports
owns_ports site node inputs stands p has = is_among_own site (node_after (node_setting_at site) inputs) node.parts p stands.is_at.parts has

new_stands : {F : Type 0} {pre : F → ℤ → Type 0} {post : F → ℤ → ℤ → Type 0} (replayed : Replayed) (set : NodeSet) (law : Option (LawOf F)) (node : NodeOf F)
    → set ≡ set_of replayed.net.now.cfg replayed.node → IsLawAt pre post (line_setting_at replayed) law → StandsFor post (node_setting_of set law) node [] → StandsFor post (node_setting_at (line_setting_at replayed)) node []
new_stands {post = post} replayed set law node is at stands = subst (λ (f : NodeSetting). StandsFor post f node []) (fixed_is replayed set law is at) stands

pub new_ready : {F : Type 0} {pre : F → ℤ → Type 0} {post : F → ℤ → ℤ → Type 0} (held : ReplayedNode F) (set : NodeSet) (law : Option (LawOf F))
    → set ≡ set_of held.replayed.net.now.cfg held.replayed.node → IsLawAt pre post (line_setting_at held.replayed) law → StandsFor post (node_setting_of set law) held.node []
    → IsValid pre post held.node → law_in held.node.control ≡ law → held.name.now ≡ name_at (line_setting_at held.replayed).cfg held.replayed.node
    → held.bound ≡ pos (path_of (line_setting_at held.replayed).cfg held.replayed.node) → IsReady pre post held
new_ready {F = F} {post = post} held set law is at stands valid kept named bounded = record {
  valid = valid;
  law = subst (λ (l : Option (LawOf F)). IfSome l (AnswersBy post (law_at (line_setting_at held.replayed)))) (sym kept) at.answers;
  ports = owns_ports (line_setting_at held.replayed) held.node [] (new_stands held.replayed set law held.node is at stands);
  name = named;
  bound = bounded;
}

pub nothing_taken : {F : Type 0} {pre : F → ℤ → Type 0} {post : F → ℤ → ℤ → Type 0} (held : ReplayedNode F) (set : NodeSet) (law : Option (LawOf F))
    → set ≡ set_of held.replayed.net.now.cfg held.replayed.node → IsLawAt pre post (line_setting_at held.replayed) law → StandsFor post (node_setting_of set law) held.node []
    → HasTaken post held []
nothing_taken held set law is at stands =
    ([], [], record { are = refl; writes = refl; stands = new_stands held.replayed set law held.node is at stands })

-- An input that a line says can be taken

is_time : (value : ℤ) → pos 0 ≤ℤ value → unsigned_abs value ≤ 2 ^ 92 → value ≤ℤ pos (2 ^ 93)
is_time value least most = omega (arith, ints, least, most)

pub fits_input : {F : Type 0} (site : LineSetting) (node : NodeOf F) (input : Input) → OwnsPorts (bare_setting site) node.parts.ports → node.parts.ticks + 1 < 2 ^ 32 → IsInputAt site input → FitsInput node input
fits_input site node Tick own room is = room
fits_input site node (Sample n base bits) own room is = let small = is.1 in omega (arith, small)
fits_input site node (Frame p octets raw sample) own room is =
    let rising = is.1.rising.0 in
    let rising_most = is.1.rising.1 in
    let falling = is.1.falling.0 in
    let falling_most = is.1.falling.1 in
    let tag = is.1.tag in (
      own p (port_bare site p ∙ is.0),
      record {
        rising_least = omega (arith, rising);
        rising_most = omega (arith, rising_most);
        falling_least = omega (arith, falling);
        falling_most = omega (arith, falling_most);
        tag = omega (arith, tag);
      },
    )
fits_input site node (Sent p seq delay stamp) own room is = (own p (port_bare site p ∙ is.0), (is.1.least, is_time stamp.value is.1.least is.1.greatest))
fits_input site node (Carrier p up entry) own room is = own p (port_bare site p ∙ is.0)
fits_input site node Reset own room is = tt

-- A step

pub tick_more : {F : Type 0} {post : F → ℤ → ℤ → Type 0} (fixed : NodeSetting) (old new : NodeOf F) (before : List Taken) (input : Input) (outs : List Output) → StandsFor post fixed old before → Took post old new input outs
    → new.parts.ticks ≤ old.parts.ticks + 1
tick_more fixed old new before input outs stood took =
    let t : Taken = record { input = input; says = took.0; answer = took.1 } in
    let now = (took.2.stands fixed before stood).is_at.parts.ticks in
    let was = stood.is_at.parts.ticks in
    let more = one_tick fixed t (node_after fixed before) in
    omega (arith, now, was, more)

pub took_input : {F : Type 0} {pre : F → ℤ → Type 0} {post : F → ℤ → ℤ → Type 0} (held : ReplayedNode F) (new : NodeOf F) (input : Input) (outs lent : List Output) (ticks : ℕ) (bound : ℤ) (old text : List ℕ) → IsReady pre post held
    → Took post held.node new input outs → law_in new.control ≡ law_in held.node.control
    → ((fixed : NodeSetting) (inputs : List Taken) → StandsFor post fixed new inputs → ticks ≡ (node_after fixed inputs).ticks)
    → old ≡ [] → lent ≡ outs → bound ≡ held.bound → text ≡ old ++ flat_map (λ (o : Output). output_line_of held.name.now ticks o bound None) lent
    → (inputs : List Taken) → StandsFor post (node_setting_at (line_setting_at held.replayed)) held.node inputs → TookInput post held new input inputs text
took_input {F = F} {post = post} held new input outs lent ticks bound old text ready took same tells none lends bounded wrote inputs stood =
    let site : LineSetting = line_setting_at held.replayed in
    let fixed : NodeSetting = node_setting_at site in
    let t : Taken = record { input = input; says = took.0; answer = took.1 } in
    let stands = took.2.stands fixed inputs stood in
    let law = subst (λ (l : Option (LawOf F)). IfSome l (AnswersBy post (law_at site))) (sym same) ready.law in
    record {
      taken = t;
      is = refl;
      outs = outs;
      stands = stands;
      run = node_run (law_at site) fixed held.node new inputs t outs stood took.2 law;
      wrote = wrote ∙ ap₂ (λ (k : List ℕ) (os : List Output). k ++ flat_map (λ (o : Output). output_line_of held.name.now ticks o bound None) os) none lends ∙ ap (λ (k : ℕ). flat_map (λ (o : Output). output_line_of held.name.now k o bound None) outs) (tells fixed (t ∷ inputs) stands)
          ∙ ap₂ (λ (name : List ℕ) (b : ℤ). flat_map (λ (o : Output). output_line_of name (node_after fixed (t ∷ inputs)).ticks o b None) outs) ready.name (bounded ∙ ready.bound);
    }

-- A line

-- a node that holds another input has taken what it had
pub taken_with : {F : Type 0} {post : F → ℤ → ℤ → Type 0} (held : ReplayedNode F) (input : Input) (lines : List (List ℕ)) → HasTaken post held lines → HasTaken post (record held { input = input }) lines
taken_with held input lines (inputs, text, so) = (inputs, text, record { are = so.are; writes = so.writes; stands = so.stands })

pub goes_on : {F : Type 0} {post : F → ℤ → ℤ → Type 0} → OneRun → OneNode → (held now : ReplayedNode F) (lines : List (List ℕ)) (line before text : List ℕ) (input : Input)
    → read_of (line_setting_at held.replayed) line ≡ Ok input → now.replayed ≡ held.replayed
    → ((inputs : List Taken) → StandsFor post (node_setting_at (line_setting_at held.replayed)) held.node inputs → TookInput post held now.node input inputs text)
    → HasTaken post held lines → Accepts (line_setting_at held.replayed) lines before
    → HasTaken post now (lines ++ line ∷ []) × Accepts (line_setting_at held.replayed) (lines ++ line ∷ []) (before ++ text)
goes_on {post = post} runs nodes held now lines line before text input is same took taken accepted =
    let site : LineSetting = line_setting_at held.replayed in
    let so = taken.2 in
    let more = took taken.0 so.stands in
    let inputs : List Taken = more.taken ∷ taken.0 in
    let one : before ≡ taken.1 = one_text runs nodes site lines before taken.1 accepted (taken.0, so.are, so.writes) in
    let are : AreInputs site (lines ++ line ∷ []) inputs = one_more site lines taken.0 line more.taken so.are (is ∙ ap (λ (i : Input). Ok i) (sym more.is)) in
    let writes : Writes site inputs (before ++ text) =
    (taken.1, more.outs, so.writes, more.run, ap₂ (λ (k l : List ℕ). k ++ l) one more.wrote) in (
      (
        inputs,
        before ++ text,
        record {
          are = subst (λ (r : Replayed). AreInputs (line_setting_at r) (lines ++ line ∷ []) inputs) (sym same) are;
          writes = subst (λ (r : Replayed). Writes (line_setting_at r) inputs (before ++ text)) (sym same) writes;
          stands = subst (λ (r : Replayed). StandsFor post (node_setting_at (line_setting_at r)) now.node inputs) (sym same) more.stands;
        },
      ),
      (inputs, are, writes),
    )

-- The end

pub closes_so : {F : Type 0} {pre : F → ℤ → Type 0} {post : F → ℤ → ℤ → Type 0} (held : ReplayedNode F) (old text : List ℕ) → IsReady pre post held → old ≡ []
    → ((fixed : NodeSetting) (inputs : List Taken) → StandsFor post fixed held.node inputs → text ≡ old ++ node_counts (line_setting_at held.replayed) (node_after fixed inputs))
    → (lines : List (List ℕ)) → HasTaken post held lines → Closes (line_setting_at held.replayed) lines text
closes_so held old text ready none counts lines taken =
    let site : LineSetting = line_setting_at held.replayed in
    let so = taken.2 in (
      taken.0,
      so.are,
      run_of (law_at site) (node_setting_at site) held.node taken.0 so.stands ready.law,
      counts (node_setting_at site) taken.0 so.stands ∙ ap (λ (k : List ℕ). k ++ node_counts site (node_after (node_setting_at site) taken.0)) none,
    )

-- A refusal

pub refuses_so : (site : LineSetting) (lines : List (List ℕ)) (line old new : List ℕ) (number : ℕ) (fault : TraceFault) (taken : machine.Taken) (refusal : Refusal) → RefusesLine fault number old new taken → old ≡ []
    → IsReading (read_of site line) (Err fault) → taken ≡ Refused refusal → number ≡ length lines + 1 → Refuses (bare_setting site) lines line refusal new
refuses_so site lines line old new number fault taken refusal refuses none reads is counts =
    let told = refused_line fault number (length lines + 1) old new taken refusal refuses is none counts in
    subst (λ (r : Refusal). Refuses (bare_setting site) lines line r new) told.0
    (fault, read_bare site line ∙ read_fault (read_of site line) fault refuses.cause reads, told.1)

-- The law of a node

none_least : (db : Database) (o : Option LinkCfg) → is_some o ≡ false → pos 0 ≡ least_over db o
none_least db None e = refl
none_least db (Some link) e = absurd (cc)

none_greatest : (db : Database) (o : Option LinkCfg) → is_some o ≡ false → pos 0 ≡ greatest_over db o
none_greatest db None e = refl
none_greatest db (Some link) e = absurd (cc)

abbrev range_of : NodeSet → ℤ → ℤ → NodeSetting
range_of set lo hi = record { set = set; lo = lo; hi = hi }

pub law_if : {F : Type 0} {pre : F → ℤ → Type 0} {post : F → ℤ → ℤ → Type 0} (site : LineSetting) (has : Bool) (law : LawOf F) → has ≡ is_some (link_above site.cfg site.node) → KeepsFact pre post law
    → (has ≡ true → law.lo ≡ least_over site.db (link_above site.cfg site.node)) → (has ≡ true → law.hi ≡ greatest_over site.db (link_above site.cfg site.node))
    → (has ≡ true → AnswersBy post (law_at (bare_setting site)) law) → IsLawAt pre post (bare_setting site) (if has then Some law else None)
law_if site true law some fact least greatest answers = record {
  some = some ∙ sym (above_some site.cfg site.node);
  fact = fact;
  range = ap₂ (range_of (set_of (bare_cfg site.cfg) site.node)) (least refl) (greatest refl) ∙ ap₂ (range_of (set_of (bare_cfg site.cfg) site.node)) (sym (ap (λ (f : NodeSetting). f.lo) (fixed_bare site))) (sym (ap (λ (f : NodeSetting). f.hi) (fixed_bare site)));
  answers = answers refl;
}
law_if site false law some fact least greatest answers = record {
  some = some ∙ sym (above_some site.cfg site.node);
  fact = tt;
  range = ap₂ (range_of (set_of (bare_cfg site.cfg) site.node)) (none_least site.db (link_above site.cfg site.node) (sym some)) (none_greatest site.db (link_above site.cfg site.node) (sym some))
      ∙ ap₂ (range_of (set_of (bare_cfg site.cfg) site.node)) (sym (ap (λ (f : NodeSetting). f.lo) (fixed_bare site))) (sym (ap (λ (f : NodeSetting). f.hi) (fixed_bare site)));
  answers = tt;
}

-- If memory runs out for the node

pub nothing_accepted : (site : LineSetting) → Accepts site [] []
nothing_accepted site = ([], refl, refl)

-- What a described law answers is what the law of the node says

pub law_of_some : (db : Database) (above : Option LinkCfg) (o : Option LinkLaw) (link : LinkLaw) → is_some o ≡ true → IfSome o (IsLawOver db above) → IfSome o (λ (law : LinkLaw). link ≡ law)
    → IsLawOver db above link
law_of_some db above None link has over same = absurd (cc)
law_of_some db above (Some law) link has over same = subst (IsLawOver db above) (sym same) over

pub law_says : (site : LineSetting) (link : LinkLaw) (x y : ℤ) → IsLawOver site.db (link_above site.cfg site.node) link → y ≡ down_of link x → y ≡ law_at (bare_setting site) x
law_says site link x y over is = is ∙ over.down x ∙ sym (law_bare site x)
