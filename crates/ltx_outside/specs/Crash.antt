-- What the disk in memory that tells of crashes shows, and which images may be had of it.
use Rattle.std.specs.Prelude.{ℕ, List, ◌≡◌, ◌<◌, ◌⊎◌, [], ◌∷◌, ◌++◌, min, max, length, get_or, cond, not, ◌&&◌, nat_lt}
use Rattle.ltx_model.specs.Disks.{Images, Crashes, is_written, only}
use Rattle.ltx_outside.specs.Memory.{CallCounts, no_calls}

-- Its bytes and their room, what a crash may leave, the images at the beginning and after each call, how many calls it makes, and its
-- calls.
pub record CrashState : Type 0 where
  pub bytes : List ℕ
  pub room : ℕ
  pub crashes : Crashes
  pub after : List Images
  pub most : ℕ
  pub calls : CallCounts

-- a disk with these bytes, on which nothing is pending
abbrev pub settled_disk : List ℕ → ℕ → ℕ → List ℕ → CrashState
settled_disk bytes room most failing = record {
  bytes = bytes;
  room = room;
  crashes = record { now = only bytes; past = [] };
  after = only bytes ∷ [];
  most = most;
  calls = no_calls failing;
}

-- the images after so many calls, or those of now where fewer were made
abbrev pub images_after : ℕ → CrashState → Images
images_after calls disk = get_or disk.after calls disk.crashes.now

-- the images after a call were kept, unless there was no memory for them
abbrev pub KeepsImages : CrashState → CrashState → Type 0
KeepsImages old new = (new.after ≡ old.after ++ new.crashes.now ∷ []) ⊎ (new.after ≡ old.after)

-- a length that an image has, the nearest one to that which is wanted
abbrev pub size_of : Images → ℕ → ℕ
size_of images size = max (length images.fixed) (min size images.longest)

-- the byte of an image that is filled with these bytes, and with zeros behind them
abbrev pub byte_of : Images → List ℕ → ℕ → ℕ
byte_of images fill place =
    cond (nat_lt place (length images.fixed) && not (is_written images.written place)) (get_or images.fixed place 0) (get_or fill place 0)

-- the image that is filled with these bytes
pub record IsFilled (images : Images) (wanted : ℕ) (fill image : List ℕ) : Type 0 where
  pub size : length image ≡ size_of images wanted
  pub bytes : (place : ℕ) → place < length image → get_or image place 0 ≡ byte_of images fill place
