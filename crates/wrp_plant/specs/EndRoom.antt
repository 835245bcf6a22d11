-- The room that the ends of a link have for what nodes send, and when what waits was put out (this project's profile).
use Rattle.std.specs.Prelude.{◌≡◌, ◌≤◌, ◌+◌, ◌*◌, ◌≤ℤ◌, ℕ, ℤ, Some, slice_get, vec_len, vec_capacity}
use Rattle.wrp_plant.specs.declared.ends.EndState.{EndState}
use Rattle.wrp_plant.specs.declared.ends.PutOut.{PutOut}
use Rattle.wrp_plant.specs.declared.ends.Span.{Span}

-- an end has room for what its port may send in this many steps of its node: at most four frames and one mark in each
-- step
pub record HasEndRoom (steps : ℕ) (end : EndState) : Type 0 where
  pub waiting : vec_len end.waiting + 4 * steps ≤ vec_capacity end.waiting
  pub marks : vec_len end.marks + steps ≤ vec_capacity end.marks

pub record HasSpanRoom (steps : ℕ) (span : Span) : Type 0 where
  pub master : HasEndRoom steps span.master
  pub slave : HasEndRoom steps span.slave

-- no frame that waits at an end was put out after this time
abbrev pub PutBy : ℤ → EndState → Type 0
PutBy last end = (i : ℕ) (out : PutOut) → slice_get end.waiting.items i ≡ Some out → out.at ≤ℤ last

pub record SpanPutBy (last : ℤ) (span : Span) : Type 0 where
  pub master : PutBy last span.master
  pub slave : PutBy last span.slave
