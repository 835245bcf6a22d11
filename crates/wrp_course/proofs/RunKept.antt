-- What is kept of every link of a world, and of its frames, when nodes are given inputs.
use Rattle.std.proofs.Common.{◌≡◌, ◌⊎◌, inl, inr, ◌∙◌, refl, ap, sym, subst, ℕ, ℤ, true, false, List, [], ◌∷◌, ◌++◌, Option, None, Some, option_map}
use Rattle.std.proofs.lemmas.Bool.Decides.{eqb_tells}
use Rattle.std.specs.List.{AllByRecursion}
use Rattle.std.specs.Option.{option_map_or}
use Rattle.std.proofs.lemmas.Option.{none-some, same_Some}
use Rattle.wrp_base.specs.declared.link.Module.{Module}
use Rattle.wrp_base.specs.declared.link.Role.{Role}
use Rattle.wrp_base.specs.declared.link.Role.TheVariants.{Master, Slave}
use Rattle.wrp_network.specs.declared.network.LinkCfg.{LinkCfg}
use Rattle.wrp_network.specs.Network.{End}
use Rattle.wrp_base.specs.Link.{other_of}
use Rattle.wrp_config.specs.Laws.{ChildIsDeeper}
use Rattle.wrp_handshake_laws.specs.Ends.{Port}
use Rattle.wrp_handshake_laws.specs.Laws.{OnInTheSameHandshake as OnAsOneLink, OnWithTheDeltas as DeltasAsOneLink, CarrierWithItsModule as ModuleAsOneLink}
use Rattle.wrp_node.specs.declared.interface.Input.{Input}
use Rattle.wrp_node.specs.declared.interface.Input.TheVariants.{Tick as TickInput, Sample as SampleInput, Frame, Sent, Carrier, Reset}
use Rattle.wrp_node.specs.LinkNews.{StepGivesLinks}
use Rattle.wrp_node.specs.Sends.{SignalsAreOfLink}
use Rattle.wrp_node.specs.SetLaws.{EndsAreSet}
use Rattle.wrp_course.specs.Given.{Given, comes_from, given_plain, gives, gives_all, goes_from}
use Rattle.wrp_course.specs.LinkEnds.{in_place, port_at}
use Rattle.wrp_course.specs.Runs.{IsNetwork}
use Rattle.wrp_course.specs.Setting.{Setting, end_of, link_of}
use Rattle.wrp_course.specs.WorldAt.{WorldAt}
use Rattle.wrp_course.proofs.RunCarriers.{both_in, comes_to, pair_away, pair_lights, pair_passes}
use Rattle.wrp_course.proofs.RunDark.{fair_quiet, given_dark, gone_here, goes_to}
use Rattle.wrp_course.proofs.RunFrames.{FramesKeep, given_frames}
use Rattle.wrp_course.proofs.RunGiven.{IsFair, LinkCan, end_is, given_keeps}
use Rattle.wrp_course.proofs.RunNetwork.{are_apart, two_nodes}

-- the laws that this rests on
pub record Laws : Type 0 where
  pub links : StepGivesLinks
  pub signals : SignalsAreOfLink
  pub ends : EndsAreSet
  pub deeper : ChildIsDeeper
  pub one_link : OnAsOneLink
  pub one_link_deltas : DeltasAsOneLink
  pub one_link_module : ModuleAsOneLink

-- the carrier of a port is not there
abbrev pub IsDarkAt : Setting → WorldAt → ℕ → Role → LinkCfg → Type 0
IsDarkAt s w k r link = (port_at s w k r (end_of r link)).link.carrier ≡ false

-- a link is one that can be, with modules of which something is known; and if it is said so, both its ports have no
-- carrier
pub record LinkKeeps (s : Setting) (R : ℕ → (Role → Option Module) → Type 0) (D : ℕ → Type 0) (w : WorldAt) (k : ℕ) (link : LinkCfg) : Type 0 where
  pub placed : Role → Option Module
  pub known : R k placed
  pub can : LinkCan s placed w k link
  pub dark : D k → (r : Role) → IsDarkAt s w k r link

-- all links, and frames that were put out by their port
pub record RunKeeps (s : Setting) (R : ℕ → (Role → Option Module) → Type 0) (D : ℕ → Type 0) (w : WorldAt) : Type 0 where
  pub links : (k : ℕ) (link : LinkCfg) → link_of s k ≡ Some link → LinkKeeps s R D w k link
  pub frames : FramesKeep w

abbrev pub Known : Type 1
Known = ℕ → (Role → Option Module) → Type 0

abbrev pub Where : Type 1
Where = ℕ → Type 0

-- less is known, of fewer links
pub weaker : (s : Setting) (R Q : Known) (D E : Where) (w : WorldAt) → ((k : ℕ) (placed : Role → Option Module) → R k placed → Q k placed) → ((k : ℕ) → E k → D k) → RunKeeps s R D w → RunKeeps s Q E w
weaker s R Q D E w f g h = record {
  links = λ k link is.
      let it : LinkKeeps s R D w k link = h.links k link is in
      record { placed = it.placed; known = f k it.placed it.known; can = it.can; dark = λ e. it.dark (g k e) };
  frames = h.frames;
}

-- One input

pub fair_keeps : Laws → (s : Setting) (R : Known) (D : Where) → IsNetwork s → (y : ℤ) (v : WorldAt) (g : Given) → IsFair s v g → RunKeeps s R D v → RunKeeps s R D (gives s y v g)
fair_keeps laws s R D net y v g f h = record {
  links = λ k link is.
      let it : LinkKeeps s R D v k link = h.links k link is in
      record {
        placed = it.placed;
        known = it.known;
        can = given_keeps laws.links laws.signals s it.placed y v g k link is (two_nodes laws.deeper s net k link is) f it.can;
        dark = λ d r. given_dark laws.links laws.signals s y v g k r (end_of r link) (end_is s k r link is) (fair_quiet s v g f) (it.dark d r);
      };
  frames = given_frames s y v g h.frames;
}

-- inputs that may always be given
abbrev pub IsFree : Input → Type 0
IsFree TickInput = ⊥
IsFree (Frame p octets raw sample) = ⊥
IsFree (Carrier p true own_module) = ⊥
IsFree _ = Unit {0}

pub free_fair : (s : Setting) (v : WorldAt) (g : Given) (input : Input) → g.input ≡ input → IsFree input → IsFair s v g
free_fair s v g TickInput e f = absurd f
free_fair s v g (Frame p octets raw sample) e f = absurd f
free_fair s v g (Carrier p true own_module) e f = absurd f
free_fair s v g (Carrier p false own_module) e f = rw e tt
free_fair s v g (SampleInput number base bits) e f = rw e tt
free_fair s v g (Sent p seq delay stamp) e f = rw e tt
free_fair s v g Reset e f = rw e tt

pub free_keep : Laws → (s : Setting) (R : Known) (D : Where) → IsNetwork s → (y : ℤ) (gs : List Given) (v : WorldAt) → AllByRecursion (λ g. IsFree g.input) gs → RunKeeps s R D v → RunKeeps s R D (gives_all s y v gs)
free_keep laws s R D net y [] v f h = h
free_keep laws s R D net y (g ∷ gs) v f h =
    free_keep laws s R D net y gs (gives s y v g) f.1 (fair_keeps laws s R D net y v g (free_fair s v g g.input refl f.0) h)

-- Carriers that come to a link

abbrev comes_pair : Role → LinkCfg → Option Module → Option Module → List Given
comes_pair r link m n = comes_to (end_of r link) m ∷ (comes_to (end_of (other_of r) link) n ∷ [])

pair_keeps : Laws → (s : Setting) (R Q : Known) (D : Where) → IsNetwork s → (y : ℤ) (v : WorldAt) (l : ℕ) (r : Role) (other : LinkCfg) (m n : Option Module) → link_of s l ≡ Some other → (D l → ⊥) → Q l (both_in r m n) →
    ((k : ℕ) (placed : Role → Option Module) → (k ≡ l → ⊥) → R k placed → Q k placed) → RunKeeps s R D v → RunKeeps s Q D (gives_all s y v (comes_pair r other m n))
pair_keeps laws s R Q D net y v l r other m n there lit now others h = record {
  links = λ k link is.
      let it : LinkKeeps s R D v k link = h.links k link is in
      elim (eqb_tells k l) [
        | inl x ↦
            let same : link ≡ other = same_Some link other (sym is ∙ ap (link_of s) x.1 ∙ there) in
            record {
              placed = both_in r m n;
              known = subst (λ i. Q i (both_in r m n)) (sym x.1) now;
              can =
                  subst (λ (z : LinkCfg). LinkCan s (both_in r m n) (gives_all s y v (comes_pair r z m n)) k link) same
                  (pair_lights laws.links laws.signals s it.placed y v k link r m n is (two_nodes laws.deeper s net k link is) it.can);
              dark = λ d. absurd (lit (subst D x.1 d));
            }
        | inr x ↦
            record {
              placed = it.placed;
              known = others k it.placed x.1 it.known;
              can = pair_passes laws.links laws.signals s it.placed y v k l link other r m n (are_apart s net) is there x.1 it.can;
              dark = λ d q.
                  ap (λ (t : Port). t.link.carrier) (pair_away laws.links laws.signals s y v k l link other r m n (are_apart s net) is there x.1 q) ∙ it.dark d q;
            }
      ];
  frames = given_frames s y (gives s y v (comes_to (end_of r other) m)) (comes_to (end_of (other_of r) other) n) (given_frames s y v (comes_to (end_of r other) m) h.frames);
}

both_are : (f : Role → Option Module) (r q : Role) → both_in r (f r) (f (other_of r)) q ≡ f q
both_are f Master Master = refl
both_are f Master Slave = refl
both_are f Slave Master = refl
both_are f Slave Slave = refl

abbrev pub come_at : Role → Option Module → Option LinkCfg → List Given
come_at r m o = option_map_or (λ (end : End). given_plain end.node (Carrier end.port true m) ∷ []) (option_map (end_of r) o) []

come_keep : Laws → (s : Setting) (R Q : Known) (D : Where) → IsNetwork s → (y : ℤ) (v : WorldAt) (l : ℕ) (r : Role) (m n : Option Module) (o : Option LinkCfg) → link_of s l ≡ o → (D l → ⊥) → Q l (both_in r m n) →
    ((k : ℕ) (placed : Role → Option Module) → (k ≡ l → ⊥) → R k placed → Q k placed) → RunKeeps s R D v → RunKeeps s Q D (gives_all s y v (come_at r m o ++ come_at (other_of r) n o))
come_keep laws s R Q D net y v l r m n None e lit now others h = record {
  links = λ k link is.
      let it : LinkKeeps s R D v k link = h.links k link is in
      record {
        placed = it.placed;
        known = others k it.placed (λ x. none-some link (sym e ∙ ap (link_of s) (sym x) ∙ is)) it.known;
        can = it.can;
        dark = it.dark;
      };
  frames = h.frames;
}
come_keep laws s R Q D net y v l r m n (Some other) e lit now others h = pair_keeps laws s R Q D net y v l r other m n e lit now others h

-- they come with the modules in place in the world w
pub comes_keep : Laws → (s : Setting) (R Q : Known) (D : Where) → IsNetwork s → (y : ℤ) (w v : WorldAt) (l : ℕ) (r : Role) → (D l → ⊥) →
    ((placed : Role → Option Module) → ((q : Role) → placed q ≡ in_place s w l q) → Q l placed) →
    ((k : ℕ) (placed : Role → Option Module) → (k ≡ l → ⊥) → R k placed → Q k placed) → RunKeeps s R D v → RunKeeps s Q D (gives_all s y v (comes_from s w l r))
comes_keep laws s R Q D net y w v l r lit now others h =
    come_keep laws s R Q D net y v l r (in_place s w l r) (in_place s w l (other_of r)) (link_of s l) refl lit
    (now (both_in r (in_place s w l r) (in_place s w l (other_of r))) (both_are (in_place s w l) r)) others h

-- Carriers that go from a link

abbrev goes_pair : Role → LinkCfg → List Given
goes_pair r link = goes_to (end_of r link) ∷ (goes_to (end_of (other_of r) link) ∷ [])

-- both ports have none then
both_dark : Laws → (s : Setting) (y : ℤ) (v : WorldAt) (k : ℕ) (r q : Role) (link : LinkCfg) → link_of s k ≡ Some link → IsDarkAt s (gives_all s y v (goes_pair r link)) k q link
both_dark laws s y v k Master Master link is =
    let first : WorldAt = gives s y v (goes_to (end_of Master link)) in
    given_dark laws.links laws.signals s y first (goes_to (end_of Slave link)) k Master (end_of Master link) (end_is s k Master link is) tt
    (gone_here laws.links laws.signals s y v k Master (end_of Master link) (end_is s k Master link is))
both_dark laws s y v k Master Slave link is =
    gone_here laws.links laws.signals s y (gives s y v (goes_to (end_of Master link))) k Slave (end_of Slave link) (end_is s k Slave link is)
both_dark laws s y v k Slave Master link is =
    gone_here laws.links laws.signals s y (gives s y v (goes_to (end_of Slave link))) k Master (end_of Master link) (end_is s k Master link is)
both_dark laws s y v k Slave Slave link is =
    let first : WorldAt = gives s y v (goes_to (end_of Slave link)) in
    given_dark laws.links laws.signals s y first (goes_to (end_of Master link)) k Slave (end_of Slave link) (end_is s k Slave link is) tt
    (gone_here laws.links laws.signals s y v k Slave (end_of Slave link) (end_is s k Slave link is))

abbrev pub go_at : Role → Option LinkCfg → List Given
go_at r o = option_map_or (λ (end : End). given_plain end.node (Carrier end.port false None) ∷ []) (option_map (end_of r) o) []

go_keep : Laws → (s : Setting) (R : Known) (D : Where) → IsNetwork s → (y : ℤ) (v : WorldAt) (l : ℕ) (r : Role) (o : Option LinkCfg) → link_of s l ≡ o → RunKeeps s R D v →
    RunKeeps s R (λ k. D k ⊎ (k ≡ l)) (gives_all s y v (go_at r o ++ go_at (other_of r) o))
go_keep laws s R D net y v l r None e h = record {
  links = λ k link is.
      let it : LinkKeeps s R D v k link = h.links k link is in
      record {
        placed = it.placed;
        known = it.known;
        can = it.can;
        dark = λ d. elim d [ inl x ↦ it.dark x | inr x ↦ absurd (none-some link (sym e ∙ ap (link_of s) (sym x) ∙ is)) ];
      };
  frames = h.frames;
}
go_keep laws s R D net y v l r (Some other) e h =
    let kept : RunKeeps s R D (gives_all s y v (goes_pair r other)) = free_keep laws s R D net y (goes_pair r other) v (tt, (tt, tt)) h in
    record {
      links = λ k link is.
          let it : LinkKeeps s R D (gives_all s y v (goes_pair r other)) k link = kept.links k link is in
          record {
            placed = it.placed;
            known = it.known;
            can = it.can;
            dark = λ d q. elim d [
              | inl x ↦ it.dark x q
              | inr x ↦
                  let same : link ≡ other = same_Some link other (sym is ∙ ap (link_of s) x ∙ e) in
                  subst (λ (z : LinkCfg). IsDarkAt s (gives_all s y v (goes_pair r z)) k q link) same (both_dark laws s y v k r q link is)
            ];
          };
      frames = kept.frames;
    }

pub goes_keep : Laws → (s : Setting) (R : Known) (D : Where) → IsNetwork s → (y : ℤ) (v : WorldAt) (l : ℕ) (r : Role) → RunKeeps s R D v → RunKeeps s R (λ k. D k ⊎ (k ≡ l)) (gives_all s y v (goes_from s l r))
goes_keep laws s R D net y v l r h = go_keep laws s R D net y v l r (link_of s l) refl h
