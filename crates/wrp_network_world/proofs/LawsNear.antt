-- What the laws of the links answer is near the exact fraction, in every network that is accepted.
use Rattle.std.proofs.Common.{◌≡◌, ◌∙◌, refl, ap, sym, subst, ℕ, ℤ, pos, ◌*◌, ◌≤◌, ◌^◌, ◌+ℤ◌, ◌-ℤ◌, ◌*ℤ◌, ◌≤ℤ◌, ◌<ℤ◌, unsigned_abs, length, Option, None, Some, IfSome, arith}
use Rattle.std.proofs.lemmas.Int.{ints}
use Rattle.wrp_network.specs.declared.configuration.NetCfg.{NetCfg}
use Rattle.wrp_network.specs.declared.network.LinkCfg.{LinkCfg}
use Rattle.wrp_base.specs.Division.{floor_quotient}
use Rattle.wrp_network.specs.Network.{link_above}
use Rattle.wrp_base.proofs.DivisionLaws.{floor_quotient-at_most, floor_quotient-next}
use Rattle.wrp_bounds.specs.Bounds.{numbers_of}
use Rattle.wrp_bounds.specs.declared.numbers.HopNumbers.{HopNumbers}
use Rattle.wrp_caldb.specs.Database.{Database, TableAt, table_at}
use Rattle.wrp_config.specs.Accepted.{IsAccepted, IsSoundTable, law_error}
use Rattle.wrp_law.specs.declared.delay.LawKind.TheVariants.{Linear}
use Rattle.wrp_law.specs.Law.{IsNear}
use Rattle.wrp_law.proofs.Tables.{table_value-near}
use Rattle.wrp_node.specs.NodeAt.{servo_setting_of}
use Rattle.wrp_tracking_laws.specs.ErrorSum.{IsShare}
use Rattle.wrp_bound_laws.specs.Fours.{IsNearAnswer}
use Rattle.wrp_course.specs.Run.{IsAnswered}
use Rattle.wrp_course.specs.Setting.{Setting, node_setting_of}
use Rattle.wrp_course.specs.WorldAt.{WorldAt}
use Rattle.wrp_bound_laws.proofs.Runs.NearAnswers.{HopOf, hop_of, near_calls}
use Rattle.wrp_world.proofs.NearLaws.{share_of}
use Rattle.wrp_network_world.specs.NetworkSetting.{answers_in, setting_at}
use Rattle.wrp_replay.specs.DownLaw.{down_by, down_over, greatest_by, greatest_over, least_by, least_over}
use Rattle.wrp_replay.proofs.LinkLaws.{above_is, kappa_fits, table_fits}

-- A link's law

between : (z n : ℤ) (b : ℕ) → z ≤ℤ n → n <ℤ (z +ℤ pos b) → unsigned_abs (z -ℤ n) ≤ b
between z n b h k = omega (arith, ints)

floor_near : (n : ℤ) → unsigned_abs ((pos (2 ^ 40) *ℤ floor_quotient n (pos (2 ^ 40))) -ℤ n) ≤ 2 ^ 40 * 1
floor_near n =
    between (pos (2 ^ 40) *ℤ floor_quotient n (pos (2 ^ 40))) n (2 ^ 40)
    (floor_quotient-at_most n (pos (2 ^ 40)) (omega (arith, ints)))
    (floor_quotient-next n (pos (2 ^ 40)) (omega (arith, ints)))

down_near : (table : Option TableAt) (kappa x : ℤ) → unsigned_abs kappa ≤ 2 ^ 38 → IfSome table (IsSoundTable kappa) → least_by table ≤ℤ x
    → x ≤ℤ greatest_by table →
    IsNear (Linear kappa) (law_error table) x (down_by table kappa x)
down_near None kappa x size sound low high = floor_near (x *ℤ (pos (2 ^ 39) +ℤ kappa))
down_near (Some table) kappa x size sound low high =
    let least : 2 ≤ length table.points = sound.points.least in
    table_value-near kappa table.err table.points x size (omega (arith, least)) sound.points.rises low high sound.near

table_sound : (cfg : NetCfg) (db : Database) (n : ℕ) (link : LinkCfg) (o : Option TableAt) → IsAccepted cfg db → link_above cfg n ≡ Some link
    → table_at db link.fibre.bytes ≡ o → IfSome o (IsSoundTable link.kappa)
table_sound cfg db n link None accepted is has = tt
table_sound cfg db n link (Some table) accepted is has = table_fits cfg db n link table accepted is has

-- A node's law

near_over : (cfg : NetCfg) (db : Database) (n : ℕ) (link : LinkCfg) (x : ℤ) → IsAccepted cfg db → link_above cfg n ≡ Some link → least_over db (Some link) ≤ℤ x
    → x ≤ℤ greatest_over db (Some link) →
    IsNear (Linear link.kappa) link.law_err x (down_over db (Some link) x)
near_over cfg db n link x accepted is low high =
    let at = above_is cfg n link is in
    subst (λ (e : ℕ). IsNear (Linear link.kappa) e x (down_over db (Some link) x)) (sym (accepted.links at.0 link at.1).law_err)
    (down_near (table_at db link.fibre.bytes) link.kappa x (kappa_fits cfg db n link accepted is) (table_sound cfg db n link (table_at db link.fibre.bytes) accepted is refl) low high)

le_self : (n : ℕ) → n ≤ n
le_self n = omega arith

-- what the laws answer in their ranges is near
abbrev pub LawsAreNear : Setting → Type 0
LawsAreNear s =
    (n : ℕ) (hop : HopNumbers) (x y : ℤ) → numbers_of s.cfg n ≡ Some hop → s.lo n ≤ℤ x → x ≤ℤ s.hi n → answers_in s n x y → IsShare hop hop.law_err y x

laws_of : (cfg : NetCfg) (db : Database) → IsAccepted cfg db → LawsAreNear (setting_at cfg db)
laws_of cfg db accepted n hop x y numbers low high answer =
    let it : HopOf cfg n hop = hop_of cfg n hop numbers in
    let from : least_over db (Some it.link) ≤ℤ x = subst (λ (o : Option LinkCfg). least_over db o ≤ℤ x) it.above low in
    let to : x ≤ℤ greatest_over db (Some it.link) = subst (λ (o : Option LinkCfg). x ≤ℤ greatest_over db o) it.above high in
    let is : y ≡ down_over db (Some it.link) x = answer ∙ ap (λ (o : Option LinkCfg). down_over db o x) it.above in
    share_of hop it.link.kappa it.link.law_err it.link.law_err x y it.kappa it.error (le_self it.link.law_err)
    (subst (IsNear (Linear it.link.kappa) it.link.law_err x) (sym is) (near_over cfg db n it.link x accepted it.above from to))

-- for an accepted network that has this setting
pub laws_near : (s : Setting) (cfg : NetCfg) (db : Database) → IsAccepted cfg db → s ≡ setting_at cfg db → LawsAreNear s
laws_near s cfg db accepted is = subst LawsAreNear (sym is) (laws_of cfg db accepted)

-- What was answered in a run

pub answers_near : (s : Setting) (w : WorldAt) → LawsAreNear s → IsAnswered (answers_in s) s w → IsAnswered (IsNearAnswer s) s w
answers_near s w near answered n =
    near_calls (answers_in s n) (IsNearAnswer s n) (servo_setting_of (node_setting_of s n)) (λ a y low high is hop numbers. near n hop a y numbers low high is)
    (w.node n).calls (answered n)
