-- The laws of all nodes, as they are made one after another, fit the network.
use Rattle.std.proofs.Common.{◌≡◌, ◌∙◌, refl, ap, ap₂, sym, subst, ℕ, ℤ, pos, ◌==◌, ◌≤ℤ◌, Bool, true, false, if◌then◌else◌, List, length, Option, None, Some, IfSome, is_some, option_map}
use Rattle.std.specs.Prelude.{slice_get}
use Rattle.wrp_network.specs.declared.network.LinkCfg.{LinkCfg}
use Rattle.wrp_network.specs.Network.{link_above, node_count}
use Rattle.wrp_base.proofs.Naturals.{le_of_same}
use Rattle.wrp_caldb.specs.Database.{Database}
use Rattle.wrp_config.proofs.Bare.{above_bare, above_some}
use Rattle.wrp_config.specs.Accepted.{IsAccepted}
use Rattle.wrp_config.specs.Same.{bare_link, IsSameNetwork}
use Rattle.wrp_config.specs.declared.network.Network.{Network}
use Rattle.wrp_law.specs.declared.link_law.LinkLaw.{LinkLaw}
use Rattle.wrp_law.specs.declared.delay.LawKind.{LawKind}
use Rattle.wrp_law.specs.Law.{IsNear, KeepsFact, LawOf}
use Rattle.wrp_law.specs.LinkLaw.{IsSound, down_of, error_of, kind_of, least_of, most_of}
use Rattle.wrp_node.specs.Set.{set_of}
use Rattle.wrp_trace.specs.LineSetting.{line_setting_in}
use Rattle.wrp_network_world.specs.NetworkSetting.{setting_in}
use Rattle.wrp_replay.specs.DownLaw.{node_setting_at}
use Rattle.wrp_network_world.specs.LawsFit.{FitsAt, HasNumbers, IsMade, LawsFit}
use Rattle.wrp_replay.specs.LinkLaw.{IsLawOver, error_over, kind_over}
use Rattle.wrp_network_world.proofs.WorldRuns.{found_in, Found}

-- A law that is made

made_if : {F : Type 0} (has : F → LinkLaw) (net : Network) (n : ℕ) (b : Bool) (law : LawOf F) → b ≡ is_some (link_above net.cfg n)
    → (b ≡ true → IsLawOver net.db (link_above net.cfg n) (has law.closure)) → HasNumbers (has law.closure) law
    → IsMade has net n (if b then Some law else None)
made_if has net n true law some over numbers = record { some = some; link = over refl; numbers = numbers }
made_if has net n false law some over numbers = record { some = some; link = tt; numbers = tt }

is_asked : (db : Database) (above : Option LinkCfg) (o : Option LinkLaw) (link : LinkLaw) → IfSome o (IsLawOver db above)
    → IfSome o (λ (law : LinkLaw). link ≡ law) → is_some o ≡ true → IsLawOver db above link
is_asked db above None link over same has = absurd (cc)
is_asked db above (Some law) link over same has = subst (IsLawOver db above) (sym same) over

-- the law of the next node
pub made_next : {F : Type 0} (has : F → LinkLaw) (net : Network) (n : ℕ) (o : Option LinkLaw) (link : LinkLaw) (law : LawOf F) (kept : Option (LawOf F))
    → is_some o ≡ is_some (link_above net.cfg n) → IfSome o (IsLawOver net.db (link_above net.cfg n)) → IfSome o (λ (k : LinkLaw). link ≡ k)
    → has law.closure ≡ link → law.kind ≡ kind_of link → law.lo ≡ least_of link → law.hi ≡ most_of link → law.err ≡ error_of link
    → kept ≡ (if is_some o then Some law else None) → IsMade has net n kept
made_next has net n o link law kept some over same closure kind least greatest error is =
    subst (IsMade has net n) (sym is)
    (made_if has net n (is_some o) law some
    (λ found. subst (IsLawOver net.db (link_above net.cfg n)) (sym closure) (is_asked net.db (link_above net.cfg n) o link over same found))
    (subst (λ (k : LinkLaw). HasNumbers k law) (sym closure) (record { kind = kind; least = least; greatest = greatest; error = error })))

-- The same in the same network

over_to : (db : Database) (o : Option LinkCfg) (law : LinkLaw) → IsLawOver db o law → IsLawOver db (option_map bare_link o) law
over_to db None law h = h
over_to db (Some link) law h = record { sound = h.sound; down = h.down; least = h.least; greatest = h.greatest; kind = h.kind; error = h.error }

over_from : (db : Database) (o : Option LinkCfg) (law : LinkLaw) → IsLawOver db (option_map bare_link o) law → IsLawOver db o law
over_from db None law h = h
over_from db (Some link) law h = record { sound = h.sound; down = h.down; least = h.least; greatest = h.greatest; kind = h.kind; error = h.error }

above_same : (net own : Network) (n : ℕ) → IsSameNetwork net own → option_map bare_link (link_above net.cfg n) ≡ option_map bare_link (link_above own.cfg n)
above_same net own n same = sym (above_bare net.cfg n) ∙ ap (λ cfg. link_above cfg n) same.0 ∙ above_bare own.cfg n

over_same : (net own : Network) (n : ℕ) (law : LinkLaw) → IsSameNetwork net own → IsLawOver net.db (link_above net.cfg n) law
    → IsLawOver own.db (link_above own.cfg n) law
over_same net own n law same h =
    over_from own.db (link_above own.cfg n) law
    (subst (λ (db : Database). IsLawOver db (option_map bare_link (link_above own.cfg n)) law) same.1
    (subst (λ (o : Option LinkCfg). IsLawOver net.db o law) (above_same net own n same) (over_to net.db (link_above net.cfg n) law h)))

some_same : (net own : Network) (n : ℕ) → IsSameNetwork net own → is_some (link_above net.cfg n) ≡ is_some (link_above own.cfg n)
some_same net own n same = sym (above_some net.cfg n) ∙ ap (λ cfg. is_some (link_above cfg n)) same.0 ∙ above_some own.cfg n

made_same : {F : Type 0} (has : F → LinkLaw) (net own : Network) (n : ℕ) (law : Option (LawOf F)) → IsSameNetwork net own → IsMade has net n law
    → IsMade has own n law
made_same has net own n None same made = record { some = made.some ∙ some_same net own n same; link = tt; numbers = tt }
made_same has net own n (Some law) same made = record { some = made.some ∙ some_same net own n same; link = over_same net own n (has law.closure) same made.link; numbers = made.numbers }

-- It fits

-- a closure that has a link's law may be called in its range, and answers as the law does
pub record CallsLaw {F : Type 0} (pre : F → ℤ → Type 0) (post : F → ℤ → ℤ → Type 0) (has : F → LinkLaw) : Type 0 where
  pub callable : (f : F) (x : ℤ) → IsSound (has f) → least_of (has f) ≤ℤ x → x ≤ℤ most_of (has f) → pre f x
  pub down : (f : F) (x y : ℤ) → post f x y → y ≡ down_of (has f) x
  pub near : (f : F) (x y : ℤ) → post f x y → IsNear (kind_of (has f)) (error_of (has f)) x y

fact_of : {F : Type 0} {pre : F → ℤ → Type 0} {post : F → ℤ → ℤ → Type 0} (has : F → LinkLaw) (law : LawOf F) → CallsLaw pre post has
    → IsSound (has law.closure) → HasNumbers (has law.closure) law → KeepsFact pre post law
fact_of {pre = pre} {post = post} has law calls sound numbers = record {
  callable = λ x low high.
      calls.callable law.closure x sound (subst (λ (l : ℤ). l ≤ℤ x) numbers.least low) (subst (λ (h : ℤ). x ≤ℤ h) numbers.greatest high);
  near = λ x y low high is.
      subst (λ (e : ℕ). IsNear law.kind e x y) (sym numbers.error)
      (subst (λ (k : LawKind). IsNear k (error_of (has law.closure)) x y) (sym numbers.kind) (calls.near law.closure x y is));
}

law_error_is : (net : Network) (n : ℕ) (link : LinkCfg) → IsAccepted net.cfg net.db → link_above net.cfg n ≡ Some link
    → error_over net.db (Some link) ≡ link.law_err
law_error_is net n link accepted is =
    let found : Found (λ (l : LinkCfg). l.lower == n) net.cfg.links.items link = found_in (λ (l : LinkCfg). l.lower == n) net.cfg.links.items link is in
    sym (accepted.links found.at link found.is).law_err

none_range : (net : Network) (n : ℕ) (o : Option LinkCfg) → link_above net.cfg n ≡ o → false ≡ is_some o
    → record { set = set_of net.cfg n; lo = pos 0; hi = pos 0 } ≡ node_setting_at (line_setting_in (setting_in net) n)
none_range net n None is none = rw is refl
none_range net n (Some link) is none = absurd (cc)

fits_at : {F : Type 0} {pre : F → ℤ → Type 0} {post : F → ℤ → ℤ → Type 0} (has : F → LinkLaw) (net : Network) (n : ℕ) (law : Option (LawOf F))
    → CallsLaw pre post has → IsAccepted net.cfg net.db → IsMade has net n law → FitsAt pre post net n law
fits_at {F} {pre} {post} has net n None calls accepted made = record {
  fits = record { place = made.some; fact = tt; kind = λ link is. tt; err = λ link is. tt };
  is = record { some = made.some; fact = tt; range = none_range net n (link_above net.cfg n) refl made.some; answers = tt };
}
fits_at {F} {pre} {post} has net n (Some law) calls accepted made =
    let over : IsLawOver net.db (link_above net.cfg n) (has law.closure) = made.link in
    let fact : KeepsFact pre post law = fact_of has law calls over.sound made.numbers in
    let kind : law.kind ≡ kind_over (link_above net.cfg n) = made.numbers.kind ∙ over.kind in
    let error : law.err ≡ error_over net.db (link_above net.cfg n) = made.numbers.error ∙ over.error in
    record {
      fits = record {
        place = made.some;
        fact = fact;
        kind = λ link is. kind ∙ ap kind_over is;
        err = λ link is. le_of_same law.err link.law_err (error ∙ ap (error_over net.db) is ∙ law_error_is net n link accepted is);
      };
      is = record {
        some = made.some;
        fact = fact;
        range =
            ap₂ (λ (lo hi : ℤ). record { set = set_of net.cfg n; lo = lo; hi = hi }) (made.numbers.least ∙ over.least) (made.numbers.greatest ∙ over.greatest);
        answers = record { answer = λ x y low high is. calls.down law.closure x y is ∙ over.down x };
      };
    }

pub fits_all : {F : Type 0} {pre : F → ℤ → Type 0} {post : F → ℤ → ℤ → Type 0} (has : F → LinkLaw) (net own : Network) (laws : List (Option (LawOf F)))
    → CallsLaw pre post has → IsAccepted own.cfg own.db → IsSameNetwork net own
    → length laws ≡ node_count own.cfg → ((n : ℕ) (law : Option (LawOf F)) → slice_get laws n ≡ Some law → IsMade has net n law) → LawsFit pre post own laws
fits_all {pre = pre} {post = post} has net own laws calls accepted same counted made = record {
  count = counted;
  each = λ n law is. fits_at {pre = pre} {post = post} has own n law calls accepted (made_same has net own n law same (made n law is));
}
