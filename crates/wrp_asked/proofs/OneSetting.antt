-- A text describes one network, whatever is in the unused room of its names.
use Rattle.std.proofs.Common.{◌≡◌, ◌∙◌, ap, ap₂, sym, ℕ, None, Some, Ok, List}
use Rattle.std.proofs.lemmas.Option.{same_Some}
use Rattle.wrp_network.specs.declared.configuration.NetCfg.{NetCfg}
use Rattle.wrp_network_text.proofs.OneReading.{one_reading}
use Rattle.wrp_config.specs.Names.{node_named}
use Rattle.wrp_network_text.specs.Reading.{IsReadingOf}
use Rattle.wrp_config.specs.declared.network.Network.{Network}
use Rattle.wrp_course.specs.Setting.{Setting}
use Rattle.wrp_network_world.specs.NetworkSetting.{IsSettingOf, setting_at}
use Rattle.wrp_network_world.proofs.BareWorld.{bare_is, bare_setting}
use Rattle.wrp_replay.proofs.BareSetting.{named_bare}
use Rattle.wrp_replay.specs.Replays.{IsAccepted}

pub one_setting : (text : List ℕ) (a b : Setting) → IsSettingOf text a → IsSettingOf text b → bare_setting a ≡ bare_setting b
one_setting text a b p q =
    let nets = one_reading text (Ok p.net) (Ok q.net) p.reads q.reads in
    ap bare_setting p.is ∙ sym (bare_is p.net.cfg p.net.db) ∙ ap₂ setting_at nets.0 nets.1 ∙ bare_is q.net.cfg q.net.db ∙ ap bare_setting (sym q.is)

pub accepted_setting : (text : List ℕ) (s : Setting) → IsSettingOf text s → IsAccepted text
accepted_setting text s setting = (setting.net, setting.reads)

-- the node of a name in it
pub one_node : (text name : List ℕ) (a b : Setting) (n m : ℕ) → IsSettingOf text a → IsSettingOf text b → node_named a.cfg name ≡ Some n
    → node_named b.cfg name ≡ Some m → n ≡ m
one_node text name a b n m p q here there =
    let same : bare_setting a ≡ bare_setting b = one_setting text a b p q in
    same_Some n m (sym here ∙ sym (named_bare a.cfg name) ∙ ap (λ (s : Setting). node_named s.cfg name) same ∙ named_bare b.cfg name ∙ there)

-- which is not missing
pub node_there : (text name : List ℕ) (net : Network) (s : Setting) (n : ℕ) → IsReadingOf text (Ok net) → IsSettingOf text s → node_named s.cfg name ≡ Some n
    → node_named net.cfg name ≡ None → ⊥
node_there text name net s n reads setting named none =
    let nets = one_reading text (Ok net) (Ok setting.net) reads setting.reads in
    let both : None ≡ Some n =
    sym none ∙ sym (named_bare net.cfg name) ∙ ap (λ (c : NetCfg). node_named c name) nets.0 ∙ named_bare setting.net.cfg name
    ∙ ap (λ (t : Setting). node_named t.cfg name) (sym setting.is) ∙ named in
    absurd (cc)
