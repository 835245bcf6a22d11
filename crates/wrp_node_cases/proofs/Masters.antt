-- Ports of rising numbers, all of them masters.
use Rattle.std.proofs.Common.{◌≡◌, ◌≢◌, ◌<◌, ◌+◌, ◌∙◌, refl, ap, sym, subst, length, length-append, ℕ, false, List, [], ◌∷◌, ◌++◌, is_some, arith}
use Rattle.std.specs.List.{AllByRecursion}
use Rattle.wrp_base.specs.declared.link.Role.{Role}
use Rattle.wrp_base.specs.declared.link.Role.TheVariants.{Master, Slave}
use Rattle.wrp_data.specs.declared.datasets.PortDs.{PortDs}
use Rattle.wrp_node.specs.New.{OfDifferentNumbers}
use Rattle.wrp_node.specs.NodeAt.{is_slave, slave_in}

pub all_more : (P : PortDs → Type 0) (xs : List PortDs) (ds : PortDs) → AllByRecursion P xs → P ds → AllByRecursion P (xs ++ ds ∷ [])
all_more P [] ds h k = (k, tt)
all_more P (x ∷ xs) ds h k = (h.0, all_more P xs ds h.1 k)

pub all_of : (P Q : PortDs → Type 0) (xs : List PortDs) → ((x : PortDs) → P x → Q x) → AllByRecursion P xs → AllByRecursion Q xs
all_of P Q [] f h = tt
all_of P Q (x ∷ xs) f h = (f x h.0, all_of P Q xs f h.1)

pub differ_more : (xs : List PortDs) (ds : PortDs) → OfDifferentNumbers xs → AllByRecursion (λ x. x.own.port < ds.own.port) xs → OfDifferentNumbers (xs ++ ds ∷ [])
differ_more [] ds h k = (tt, tt)
differ_more (x ∷ xs) ds h k =
    let less : x.own.port < ds.own.port = k.0 in
    (all_more (λ y. y.own.port ≢ x.own.port) xs ds h.0 (λ e. omega arith), differ_more xs ds h.1 k.1)

not_slave : (role : Role) → role ≡ Master → is_slave role ≡ false
not_slave Master h = refl
not_slave Slave h = cc

pub no_slave : (xs : List PortDs) → AllByRecursion (λ x. x.role ≡ Master) xs → is_some (slave_in xs) ≡ false
no_slave [] h = refl
no_slave (x ∷ xs) h = rw (not_slave x.role h.0) (no_slave xs h.1)

-- masters of rising numbers, the next of which is n
pub record Rising (xs : List PortDs) (n : ℕ) : Type 0 where
  pub differ : OfDifferentNumbers xs
  pub below : AllByRecursion (λ x. x.own.port < n) xs
  pub masters : AllByRecursion (λ x. x.role ≡ Master) xs
  pub count : length xs + 1 ≡ n

-- one more
pub rises : (xs ys : List PortDs) (ds : PortDs) (n : ℕ) → ys ≡ xs ++ ds ∷ [] → ds.own.port ≡ n → ds.role ≡ Master → Rising xs n → Rising ys (n + 1)
rises xs ys ds n e port role h =
    let differ : OfDifferentNumbers (xs ++ ds ∷ []) = differ_more xs ds h.differ (all_of (λ x. x.own.port < n) (λ x. x.own.port < ds.own.port) xs (λ x k. omega arith) h.below) in
    let below : AllByRecursion (λ x. x.own.port < n + 1) (xs ++ ds ∷ []) =
    all_more (λ x. x.own.port < n + 1) xs ds (all_of (λ x. x.own.port < n) (λ x. x.own.port < n + 1) xs (λ x k. omega arith) h.below) (omega arith) in
    let count : length (xs ++ ds ∷ []) + 1 ≡ n + 1 = let k : length xs + 1 ≡ n = h.count in simp length-append (omega arith) in
    record {
      differ = subst OfDifferentNumbers (sym e) differ;
      below = subst (AllByRecursion (λ x. x.own.port < n + 1)) (sym e) below;
      masters = subst (AllByRecursion (λ x. x.role ≡ Master)) (sym e) (all_more (λ x. x.role ≡ Master) xs ds h.masters role);
      count = ap (λ (zs : List PortDs). length zs + 1) e ∙ count;
    }
