use Rattle.std.proofs.Common.{◌≡◌, ◌∙◌, subst, sym, cond, true, false, to_z, of_z, rules}
use Rattle.std.specs.BTreeMap.{is_at}
use Rattle.std.specs.Int.{w128}
use Rattle.wrp_flights.specs.Ages.{age_cmp, has}
use Rattle.wrp_flights.proofs.Oldest.{taken_back}
use Rattle.wrp_flights.proofs.puts.keep_due.Goals as goal

pub returns-in-Ok-clause-dues : goal.returns-in-Ok-clause-dues
returns-in-Ok-clause-dues c = record {
  each = λ t k. subst (λ x. has t k c.insert.new.self.keys ≡ cond (is_at (age_cmp (x, c.args.number)) (t, k)) true (has t k c.args.dues.now.keys)) h
      (c.in_ok-insert.ensures.updates.0 (t, k));
  there = subst (λ x. has x c.args.number c.insert.new.self.keys ≡ true) h c.in_ok-insert.ensures.updates.1;
} where
  h : to_z w128 (of_z w128 c.args.frame.due) ≡ c.args.frame.due
  h = search rules

pub returns-in-Err-clause-old_dues : goal.returns-in-Err-clause-old_dues
returns-in-Err-clause-old_dues c = record {
  stays = λ t k e.
      let f = subst (λ x. is_at (age_cmp (x, c.args.number)) (t, k) ≡ false) (sym h) e in
      c.remove-taken.ensures.updates.2 (t, k) f ∙ c.in_ok-insert.ensures.updates.2 (t, k) f;
  fewer = λ t k e.
      taken_back (is_at (age_cmp (to_z w128 (of_z w128 c.args.frame.due), c.args.number)) (t, k)) (has t k c.remove-taken.new.self.keys) (has t k c.insert.new.self.keys)
      (has t k c.args.dues.now.keys) (c.remove-taken.ensures.updates.0 (t, k)) (c.in_ok-insert.ensures.updates.0 (t, k)) e;
} where
  h : to_z w128 (of_z w128 c.args.frame.due) ≡ c.args.frame.due
  h = search rules
