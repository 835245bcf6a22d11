-- The runs of a calibration, and what each measured of the two directions (this project's profile).
use Rattle.std.specs.Prelude.{ℤ, pos, ◌+ℤ◌, ◌-ℤ◌, Bool, true, false, List, filter, slice_index_or}
use Rattle.wrp_calib.specs.declared.run.RunKind.{RunKind}
use Rattle.wrp_calib.specs.declared.run.RunKind.TheVariants.{Ref, Straight, Swapped}

-- a run's kind, its times T1 to T4, and the slave's offset as measured
pub record Run : Type 0 where
  pub kind : RunKind
  pub t1 : ℤ
  pub t2 : ℤ
  pub t3 : ℤ
  pub t4 : ℤ
  pub skew : ℤ

-- the run of this kind whose five numbers are T1 to T4 and the offset, in this order
abbrev pub run_of : RunKind → List ℤ → Run
run_of kind t = record {
  kind = kind;
  t1 = slice_index_or t 0 (pos 0);
  t2 = slice_index_or t 1 (pos 0);
  t3 = slice_index_or t 2 (pos 0);
  t4 = slice_index_or t 3 (pos 0);
  skew = slice_index_or t 4 (pos 0);
}

-- the measured delay from master to slave: f = T2 - T1 - SKEW
abbrev pub down_of : Run → ℤ
down_of run = (run.t2 -ℤ run.t1) -ℤ run.skew

-- the measured delay from slave to master: g = T4 - T3 + SKEW
abbrev pub up_of : Run → ℤ
up_of run = (run.t4 -ℤ run.t3) +ℤ run.skew

-- the run is of this kind
abbrev pub is_of : RunKind → RunKind → Bool
is_of Ref Ref = true
is_of Straight Straight = true
is_of Swapped Swapped = true
is_of kind other = false

-- the runs of this kind
abbrev pub runs_of : RunKind → List Run → List Run
runs_of kind runs = filter (λ run. is_of kind run.kind) runs
