-- Octets appended to a frame, and the room that it has for them (this project's profile).
use Rattle.std.specs.Prelude.{◌≡◌, ◌+◌, ◌≤◌, ℕ, List, ◌++◌}
use Rattle.arrayvec.specs.ArrayVec.{ArrayVec, array_vec_len}
use Rattle.wrp_base.specs.Octets.{frame_room}

-- n more octets fit the frame
abbrev pub HasRoom : ℕ → ArrayVec ℕ → Type 0
HasRoom n frame = array_vec_len frame + n ≤ frame_room

-- the new frame is the old one with these octets after it
pub record Appends (old : ArrayVec ℕ) (octets : List ℕ) (new : ArrayVec ℕ) : Type 0 where
  pub items : new.items ≡ old.items ++ octets
