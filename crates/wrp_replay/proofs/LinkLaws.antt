-- The law of a link of an accepted network.
use Rattle.std.proofs.Common.{◌≡◌, refl, ap, subst, ℕ, ℤ, ◌==◌, ◌≤◌, ◌^◌, unsigned_abs, List, Option, None, Some, IfSome, option_map, Bor}
use Rattle.std.specs.Prelude.{option_and_then}
use Rattle.wrp_network.specs.declared.configuration.NetCfg.{NetCfg}
use Rattle.wrp_base.specs.declared.link.Fibre.{Fibre}
use Rattle.wrp_network.specs.declared.network.LinkCfg.{LinkCfg}
use Rattle.wrp_network.specs.Network.{IsLink, link_above}
use Rattle.wrp_base.proofs.Lists.{found_at}
use Rattle.wrp_caldb.specs.Database.{Database, FibreAt, TableAt, fibre_at, fibre_named, table_at}
use Rattle.wrp_config.specs.Accepted.{IsAccepted, IsSoundFibre, IsSoundTable}
use Rattle.wrp_law.specs.declared.link_law.LinkLaw.TheVariants.{Fraction, Table}
use Rattle.wrp_replay.specs.LinkLaw.{IsLawOver}

-- the fibre of a link that is listed, with its table
table_found : (db : Database) (name : List ℕ) (kappa : ℤ) (err : ℕ) (table : TableAt) (o : Option FibreAt)
    → ((f : FibreAt) → o ≡ Some f → IsSoundFibre f) → option_map (λ (f : FibreAt). f.fibre) o ≡ Some (record { kappa = kappa; err = err }) → option_and_then (λ (f : FibreAt). f.table) o ≡ Some table
    → IsSoundTable kappa table
table_found db name kappa err table None sound fibre is = absurd (cc)
table_found db name kappa err table (Some f) sound fibre is =
    let same : f.fibre ≡ record { kappa = kappa; err = err } = cc in
    let fits = subst (λ (t : Option TableAt). IfSome t (IsSoundTable f.fibre.kappa)) is (sound f refl).table in
    subst (λ (k : ℤ). IsSoundTable k table) (ap (λ (g : Fibre). g.kappa) same) fits

-- the link above a node is in the network
pub above_is : (cfg : NetCfg) (n : ℕ) (link : LinkCfg) → link_above cfg n ≡ Some link → (l : ℕ) × IsLink cfg l link
above_is cfg n link is = found_at (λ (l : LinkCfg). l.lower == n) cfg.links.items link is

pub kappa_fits : (cfg : NetCfg) (db : Database) (n : ℕ) (link : LinkCfg) → IsAccepted cfg db → link_above cfg n ≡ Some link → unsigned_abs link.kappa ≤ 2 ^ 38
kappa_fits cfg db n link accepted is = let at = above_is cfg n link is in (accepted.ranges.links at.0 link at.1).kappa

pub table_fits : (cfg : NetCfg) (db : Database) (n : ℕ) (link : LinkCfg) (table : TableAt) → IsAccepted cfg db → link_above cfg n ≡ Some link → table_at db link.fibre.bytes ≡ Some table
    → IsSoundTable link.kappa table
table_fits cfg db n link table accepted is has =
    let at = above_is cfg n link is in
    let fibre : fibre_at db link.fibre.bytes ≡ Some (record { kappa = link.kappa; err = link.e_asym }) = (accepted.links at.0 link at.1).fibre in
    table_found db link.fibre.bytes link.kappa link.e_asym table (fibre_named db link.fibre.bytes)
    (λ f found. let place = found_at _ db.fibres f found in accepted.database.fibres place.0 f place.1) fibre has

-- the fraction
pub fraction_law : (cfg : NetCfg) (db : Database) (n : ℕ) (link : LinkCfg) → IsAccepted cfg db → link_above cfg n ≡ Some link → table_at db link.fibre.bytes ≡ None
    → IsLawOver db (Some link) (Fraction link.kappa)
fraction_law cfg db n link accepted is none = record {
  sound = kappa_fits cfg db n link accepted is;
  down = λ x. rw none refl;
  least = rw none refl;
  greatest = rw none refl;
  kind = refl;
  error = rw none refl;
}

-- a table
pub table_law : (cfg : NetCfg) (db : Database) (n : ℕ) (link : LinkCfg) (points : Bor (List (ℤ × ℤ))) (err : ℕ) → IsAccepted cfg db → link_above cfg n ≡ Some link
    → table_at db link.fibre.bytes ≡ Some (record { points = points.now; err = err }) → IsLawOver db (Some link) (Table link.kappa points err)
table_law cfg db n link points err accepted is has =
    let fits = table_fits cfg db n link (record { points = points.now; err = err }) accepted is has in
    record {
      sound = (kappa_fits cfg db n link accepted is, fits.err, fits.points, fits.near);
      down = λ x. rw has refl;
      least = rw has refl;
      greatest = rw has refl;
      kind = refl;
      error = rw has refl;
    }
