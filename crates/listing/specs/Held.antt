-- The array that holds a listing: its lines at the front, and 0 at every other place.
use Rattle.std.specs.Prelude.{ℕ, ◌-◌, List, ◌++◌, length, replicate}
use Rattle.listing.specs.Answer.{listing_room}

abbrev pub held : List ℕ → List ℕ
held lines = lines ++ replicate (listing_room - length lines) 0
