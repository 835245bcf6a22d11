-- A world before its first event, with laws that fit its network, can be audited and stands for no lines.
use Rattle.std.proofs.Common.{◌≡◌, ◌∙◌, ap, sym, subst, ℤ, ◌<◌, List, [], Option, IfSome}
use Rattle.wrp_network.specs.Network.{IsTree, node_count}
use Rattle.wrp_config.specs.declared.network.Network.{Network}
use Rattle.wrp_law.specs.Law.{LawOf}
use Rattle.wrp_world.specs.HasLaws.{HasLaws}
use Rattle.wrp_world.specs.New.{setting_of}
use Rattle.wrp_world.specs.StandsFor.{IsValid, StandsFor}
use Rattle.wrp_course.specs.WorldAt.{new_world}
use Rattle.wrp_audit.specs.declared.audit.AuditedNetwork.{AuditedNetwork}
use Rattle.wrp_audit.specs.AuditStands.{CanAudit, HasAudited}
use Rattle.wrp_network_world.specs.NetworkSetting.{setting_in}
use Rattle.wrp_network_world.specs.Bounds.{AreBounds}
use Rattle.wrp_network_world.specs.LawsFit.{LawsFit, HasLawOf}
use Rattle.wrp_audit.proofs.AuditSteps.{nothing_audited}
use Rattle.wrp_network_world.proofs.NewWorld.{laws_are, new_stands}

-- Before the first record

pub new_can : {F : Type 0} {pre : F → ℤ → Type 0} {post : F → ℤ → ℤ → Type 0} (net : Network) (laws : List (Option (LawOf F))) (held : AuditedNetwork F)
    → LawsFit pre post net laws → IsValid pre post held.world → HasLaws laws held.world
    → held.world.plant.net ≡ net → IfSome held.emit (λ n. n < node_count net.cfg) → AreBounds net.cfg held.bounds.items
    → CanAudit pre post held
new_can {pre = pre} {post = post} net laws held fit valid has is emit bounds = record {
  valid = valid;
  laws = subst (λ (k : Network). HasLawOf post (setting_in k) held.world) (sym is)
      (laws_are {pre = pre} {post = post} net laws held.world fit has (valid.node_count ∙ ap (λ (k : Network). node_count k.cfg) is));
  emit = subst (λ (k : Network). IfSome held.emit (λ n. n < node_count k.cfg)) (sym is) emit;
  bounds = subst (λ (k : Network). AreBounds k.cfg held.bounds.items) (sym is) bounds;
}

pub new_has : {F : Type 0} {pre : F → ℤ → Type 0} {post : F → ℤ → ℤ → Type 0} (net : Network) (laws : List (Option (LawOf F))) (held : AuditedNetwork F)
    → LawsFit pre post net laws → IsTree net.cfg
    → StandsFor post (setting_of net.cfg net.db laws) (new_world (setting_of net.cfg net.db laws)) held.world → held.world.plant.net ≡ net
    → HasAudited post held []
new_has {pre = pre} {post = post} net laws held fit tree stands is =
    let own : StandsFor post (setting_in net) (new_world (setting_in net)) held.world = new_stands {pre = pre} {post = post} net laws held.world fit tree stands in (
      [],
      record {
        audit = nothing_audited (setting_in held.world.plant.net);
        stands = subst (λ (k : Network). StandsFor post (setting_in k) (new_world (setting_in k)) held.world) (sym is) own;
      },
    )
