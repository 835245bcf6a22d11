-- What is true after a call failed.
use Rattle.std.proofs.Common.{Ok, Err, Result, OnErr}

pub on_err : {A E P : Type 0} (r : Result A E) → P → OnErr r P
on_err (Ok x) p = tt
on_err (Err e) p = p
