-- What the answer of the listing says of the lent buffer. Assumes nothing.
use Rattle.std.specs.Prelude.{ℕ, ◌≤◌, ◌<◌, ◌≡◌, List, ◌++◌, length, take, drop, Option, None, Some}
use Rattle.paper.specs.Listing.{listing_of}

-- the text has k bytes, which stand in front of what was there
pub record Whole (text out out' : List ℕ) (k : ℕ) : Type 0 where
  pub count : k ≡ length text
  pub room : k ≤ length out
  pub bytes : out' ≡ text ++ drop k out

-- the text is longer than the buffer, which holds as much of it as it has room for
pub record Cut (text out out' : List ℕ) : Type 0 where
  pub short : length out < length text
  pub bytes : out' ≡ take (length out) text

-- an answer for the input b, with the buffer as it came and as it is afterwards
unfoldable pub Listed : List ℕ → List ℕ → List ℕ → Option ℕ → Type 0
Listed b out out' (Some k) = Whole (listing_of b) out out' k
Listed b out out' None = Cut (listing_of b) out out'
