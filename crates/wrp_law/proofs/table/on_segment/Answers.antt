-- Each number on the way is the exact one, since it fits.
use Rattle.std.proofs.Common.{◌≡◌, ℤ, pos, ◌^◌, ◌≤◌, ◌≤ℤ◌, ◌<ℤ◌, ◌+ℤ◌, ◌-ℤ◌, ◌*ℤ◌, unsigned_abs, SFits, to_z, of_z, w64, ◌∙◌, arith}
use Rattle.std.proofs.lemmas.Int.{ints, to_z-of_z}
use Rattle.std.specs.Int.{w128}
use Rattle.wrp_base.specs.Division.{floor_quotient}
use Rattle.wrp_law.specs.Table.{FitsPoint}
use Rattle.wrp_law.proofs.Tables.{fits_x, fits_y}
use Rattle.wrp_law.proofs.table.on_segment.Goals as goal

-- a difference is the difference of the two numbers
apart : (from to result : ℤ) → SFits w64 from → SFits w64 to → SFits w128 result → result ≡ to_z w64 (of_z w64 to) -ℤ to_z w64 (of_z w64 from) → to_z w128 (of_z w128 result) ≡ to -ℤ from
apart from to result from_fits to_fits fits is =
    to_z-of_z w128 result fits ∙ is ∙ (λ i. to_z-of_z w64 to to_fits i -ℤ to_z-of_z w64 from from_fits i)

-- a sum with a number of 64 bits is the sum of the two numbers
joined : (y wide risen result : ℤ) → SFits w64 y → SFits w128 wide → SFits w128 risen → SFits w128 result → wide ≡ to_z w64 (of_z w64 y) → result ≡ to_z w128 (of_z w128 wide) +ℤ to_z w128 (of_z w128 risen) → to_z w128 (of_z w128 result) ≡ y +ℤ risen
joined y wide risen result y_fits wide_fits risen_fits fits wide_is is =
    to_z-of_z w128 result fits ∙ is ∙ (λ i. (to_z-of_z w128 wide wide_fits ∙ wide_is ∙ to_z-of_z w64 y y_fits) i +ℤ to_z-of_z w128 risen risen_fits i)

-- what rises no further than the segment is small
small : (y y' rise risen : ℤ) → unsigned_abs y ≤ 2 ^ 53 → unsigned_abs y' ≤ 2 ^ 53 → rise ≡ y' -ℤ y → unsigned_abs risen ≤ unsigned_abs rise → unsigned_abs risen ≤ 2 ^ 54
small y y' rise risen y_small y_small' is size =
    let most : unsigned_abs rise ≤ 2 ^ 54 = omega (arith, ints) in
    omega arith

-- and in the range of a sum
small_fits : (risen : ℤ) → unsigned_abs risen ≤ 2 ^ 54 → unsigned_abs risen ≤ 2 ^ 125
small_fits risen size = omega arith

-- and the number that it ends at fits
end_fits : (y risen : ℤ) → unsigned_abs y ≤ 2 ^ 53 → unsigned_abs risen ≤ 2 ^ 54 → SFits w64 (y +ℤ risen)
end_fits y risen y_small size = omega (arith, ints)

-- a number is not below one that is at most it
up : (a b : ℤ) → a ≤ℤ b → pos 0 ≤ℤ (b -ℤ a)
up a b h = omega (arith, ints)

-- and above one that is below it
wide : (a b : ℤ) → a <ℤ b → pos 0 <ℤ (b -ℤ a)
wide a b h = omega (arith, ints)

-- a place on a segment is no further along than the segment is wide
along-most : (a x b : ℤ) → x ≤ℤ b → (x -ℤ a) ≤ℤ (b -ℤ a)
along-most a x b h = omega (arith, ints)

-- a segment between two points of a table is not too wide
wide-most : (start end : ℤ × ℤ) → FitsPoint start → FitsPoint end → (end.0 -ℤ start.0) ≤ℤ pos (2 ^ 60)
wide-most start end from to = omega (arith, ints, from.least, to.most)

-- nor too high
high-most : (start end : ℤ × ℤ) → FitsPoint start → FitsPoint end → (end.1 -ℤ start.1) ≤ℤ pos (2 ^ 60)
high-most start end from to = omega (arith, ints, from.value, to.value)

pub risen-rise-requires : goal.risen-rise-requires
risen-rise-requires c =
    let start = c.args.start in
    let end = c.args.end in
    let along = apart start.0 c.args.x c.offset.result (fits_x _ c.requires.start) c.ranges.x (record { sfits = c.offset.type_inv }) c.offset.ensures.value in
    let whole = apart start.0 end.0 c.offset-2.result (fits_x _ c.requires.start) (fits_x _ c.requires.end) (record { sfits = c.offset-2.type_inv }) c.offset-2.ensures.value in
    let rise = apart start.1 end.1 c.offset-3.result (fits_y _ c.requires.start) (fits_y _ c.requires.end) (record { sfits = c.offset-3.type_inv }) c.offset-3.ensures.value in
    record {
      along = rw along (up start.0 c.args.x c.requires.after);
      end = rw along (rw whole (along-most start.0 c.args.x end.0 c.requires.before));
      whole = rw whole (wide start.0 end.0 c.requires.rises);
      most = rw whole (wide-most start end c.requires.start c.requires.end);
      stays = rw rise (up start.1 end.1 c.requires.stays);
      rise = rw rise (high-most start end c.requires.start c.requires.end);
    }

pub sum-requires-clause-b : goal.sum-requires-clause-b
sum-requires-clause-b c =
    let rise = apart c.args.start.1 c.args.end.1 c.offset-3.result (fits_y _ c.requires.start) (fits_y _ c.requires.end) (record { sfits = c.offset-3.type_inv }) c.offset-3.ensures.value in
    rw (to_z-of_z w128 c.risen-rise.result (record { sfits = c.risen-rise.type_inv }))
    (small_fits c.risen-rise.result (small c.args.start.1 c.args.end.1 _ c.risen-rise.result c.requires.start.value c.requires.end.value rise c.risen-rise.ensures.size))

pub narrow-requires : goal.narrow-requires
narrow-requires c =
    let start = c.args.start in
    let rise = apart start.1 c.args.end.1 c.offset-3.result (fits_y _ c.requires.start) (fits_y _ c.requires.end) (record { sfits = c.offset-3.type_inv }) c.offset-3.ensures.value in
    let sum_is = joined start.1 c.from.result c.risen-rise.result c.sum.result (fits_y _ c.requires.start) (record { sfits = c.from.type_inv }) (record { sfits = c.risen-rise.type_inv }) (record { sfits = c.sum.type_inv }) c.from.ensures c.sum.ensures.value in
    rw sum_is (end_fits start.1 c.risen-rise.result c.requires.start.value (small start.1 c.args.end.1 _ c.risen-rise.result c.requires.start.value c.requires.end.value rise c.risen-rise.ensures.size))

pub returns : goal.returns
returns c =
    let start = c.args.start in
    let end = c.args.end in
    let along = apart start.0 c.args.x c.offset.result (fits_x _ c.requires.start) c.ranges.x (record { sfits = c.offset.type_inv }) c.offset.ensures.value in
    let whole = apart start.0 end.0 c.offset-2.result (fits_x _ c.requires.start) (fits_x _ c.requires.end) (record { sfits = c.offset-2.type_inv }) c.offset-2.ensures.value in
    let rise = apart start.1 end.1 c.offset-3.result (fits_y _ c.requires.start) (fits_y _ c.requires.end) (record { sfits = c.offset-3.type_inv }) c.offset-3.ensures.value in
    let sum_is = joined start.1 c.from.result c.risen-rise.result c.sum.result (fits_y _ c.requires.start) (record { sfits = c.from.type_inv }) (record { sfits = c.risen-rise.type_inv }) (record { sfits = c.sum.type_inv }) c.from.ensures c.sum.ensures.value in
    to_z-of_z w64 c.narrow.result (record { sfits = c.narrow.type_inv }) ∙ c.narrow.ensures ∙ sum_is
    ∙ (λ i. start.1 +ℤ (c.risen-rise.ensures.value ∙ (λ j. floor_quotient (along j *ℤ rise j) (whole j))) i)
