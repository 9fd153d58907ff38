-- Bytes that a call puts into a buffer that the caller lends.
use Rattle.std.specs.Prelude.{◌≡◌, Bool, cond, ◌++◌, ℕ, ◌+◌, ◌≤◌, length, take, drop}
use Rattle.lines.specs.Bytes.{Bytes}

-- the buffer with these bytes at `at`, in the place of as many others
unfoldable pub put : Bytes → (at : ℕ) → Bytes → Bytes
put out at bs = take at out ++ (bs ++ drop (at + length bs) out)

-- bytes put at `at` in the buffer, so many at the most, which end at `r`
pub record PutWithin (most : ℕ) (bs out : Bytes) (at r : ℕ) (out' : Bytes) : Type 0 where
  pub end : r ≡ at + length bs
  pub within : r ≤ at + most
  pub bytes : out' ≡ put out at bs

-- bytes put at `at` in the buffer, so many at the most, and the end behind them; where they do not fit the buffer is as it was, and the end is `at`
pub record PutIf (fits : Bool) (most : ℕ) (bs out : Bytes) (at r : ℕ) (out' : Bytes) : Type 0 where
  pub end : r ≡ cond fits (at + length bs) at
  pub within : r ≤ at + most
  pub bytes : out' ≡ cond fits (put out at bs) out
