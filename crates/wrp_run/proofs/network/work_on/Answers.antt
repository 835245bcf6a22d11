-- The laws are the laws of the links.
use Rattle.std.proofs.Common.{◌∙◌, ◌+◌, ℕ, Some, None, if◌then◌else◌, ap, subst, sym, arith, length, refl}
use Rattle.std.specs.Prelude.{slice_get}
use Rattle.std.proofs.lemmas.Int.{to_z-of_z}
use Rattle.std.specs.Int.{w64}
use Rattle.std.proofs.KnownBytes.{Appends-nil, Consumes-nil}
use Rattle.wrp_network.specs.Network.{node_count}
use Rattle.wrp_config.proofs.Bare.{count_bare}
use Rattle.wrp_plant.proofs.EachLists.{each_none, each_push, length_push}
use Rattle.wrp_records.proofs.Passed.{passes_nothing}
use Rattle.wrp_run.specs.Asked.{work_meaning}
use Rattle.wrp_network_world.specs.NetworkSetting.{setting_in}
use Rattle.wrp_network_world.specs.LawsFit.{IsMade}
use Rattle.wrp_run.proofs.AskingWork.{nothing_done}
use Rattle.wrp_network_world.proofs.LawsMade.{fits_all, made_next}
use Rattle.wrp_run.proofs.network.work_on.Goals as goal

pub loop-n-init : goal.loop-n-init
loop-n-init g c = record {
  within = omega arith;
  count = ap length c.new-laws.ensures.items;
  made = λ n x e. each_none (IsMade (λ f. f.0) c.args.net.now) n x (sym (ap (λ xs. slice_get xs n) c.new-laws.ensures.items) ∙ e);
}

pub loop-n-preserved : goal.loop-n-preserved
loop-n-preserved g c =
    let items = c.in-Ok.ensures.items in
    let test = c.loop-n-test.true in
    let count = c.count_of-count.ensures in
    let law = c.new-law.ensures in
    let made = made_next (λ f. f.0) c.args.net.now c.loop-n.n c.law_above-above.result c.asked-link.result c.new-law.result c.kept_if.result
    c.law_above-above.ensures.some c.law_above-above.ensures.law c.asked-link.ensures.same
    (ap (λ v. v.closure.0) law) (ap (λ v. v.kind) law ∙ c.kind.ensures)
    (ap (λ v. v.lo) law ∙ to_z-of_z w64 c.lo.result (record { sfits = c.lo.type_inv }) ∙ c.lo.ensures)
    (ap (λ v. v.hi) law ∙ to_z-of_z w64 c.hi.result (record { sfits = c.hi.type_inv }) ∙ c.hi.ensures) (ap (λ v. v.err) law ∙ c.err.ensures)
    (c.kept_if.ensures ∙ ap (λ b. if b then Some c.new-law.result else None) c.is_some.ensures) in
    record {
      within = omega (arith, test, count);
      count = ap length items ∙ length_push c.loop-n.laws.items c.kept_if.result ∙ ap (λ (k : ℕ). k + 1) c.loop-n.invariant.count;
      made = λ n x e.
          each_push (IsMade (λ f. f.0) c.args.net.now) c.loop-n.laws.items c.kept_if.result c.loop-n.invariant.made
          (subst (λ (k : ℕ). IsMade (λ f. f.0) c.args.net.now k c.kept_if.result) (sym c.loop-n.invariant.count) made) n x (sym (ap (λ xs. slice_get xs n) items) ∙ e);
    }

pub work_by-requires-clause-laws : goal.work_by-requires-clause-laws
work_by-requires-clause-laws g c =
    let same = sym (count_bare c.args.net.now.cfg) ∙ ap node_count c.requires.same.0 ∙ count_bare c.args.own.value.cfg in
    let count = c.count_of-count.ensures in
    let laws = c.loop-n.invariant.count in
    let within = c.loop-n.invariant.within in
    let test = c.loop-n-test.false in
    fits_all (λ f. f.0) c.args.net.now c.args.own.value c.loop-n.laws.items
    (record { callable = λ f x sound low high. (sound, (low, high)); down = λ f x y is. is.0; near = λ f x y is. is.1 })
    c.requires.own c.requires.same (omega (arith, same, count, laws, within, test)) c.loop-n.invariant.made

pub returns-in-Err : goal.returns-in-Err
returns-in-Err g c = record {
  passes =
      passes_nothing (work_meaning c.args.work (setting_in c.args.own.value)) _ _ c.args.reader.now.rest c.args.reader.now.ended
      (nothing_done c.args.work (setting_in c.args.own.value))
      (Consumes-nil _) (Appends-nil _) c.requires.at_end refl refl;
}
