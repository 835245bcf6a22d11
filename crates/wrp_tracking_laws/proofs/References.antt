-- The reference network's numbers, computed.
use Rattle.std.proofs.Common.{refl, lit<}
use Rattle.wrp_bounds.specs.Motion.{rounded_up}
use Rattle.wrp_tracking_laws.specs.Reference.{SwitchTerms, ReferenceBounds}

switch_terms : SwitchTerms
unfolding rounded_up
switch_terms = record {
  detector = refl;
  gap = refl;
  reach = refl;
  down = refl;
  up = refl;
  age = refl;
  both_ways = refl;
  scaled = refl;
  estimate = refl;
  hop = refl;
  room = lit< tt;
}

pub reference-bounds : ReferenceBounds
unfolding rounded_up
reference-bounds = record {
  switch = switch_terms;
  leaf = refl;
  slow_switch = refl;
  slow_leaf = refl;
  held = refl;
}
