-- A rack's items, and the rack that holds a list and nothing else.
use Rattle.std.specs.Prelude.{ℕ, ◌≡◌, ◌-◌, List, length, take, replicate, ◌++◌}
use Rattle.layout.specs.declared.rack.Rack.{Rack}

-- as many of the places as are in use
unfoldable pub items : {T : Type 0} {room : ℕ} → Rack T room → List T
items r = take r.count r.places

-- the rack of a list: blanks stand behind the items
unfoldable pub rack_of : {T : Type 0} {room : ℕ} → T → List T → Rack T room
rack_of {T} {room} blank xs = record { places = xs ++ replicate (room - length xs) blank; count = length xs }

-- a rack that is the rack of its items
abbrev pub IsTidy : {T : Type 0} {room : ℕ} → T → Rack T room → Type 0
IsTidy blank r = r ≡ rack_of blank (items r)
