-- Positions of Z^3. A position is in range if each coordinate is at most 2^20 in absolute value. Code can hold exactly the positions in range.
use Rattle.std.specs.Prelude.{ℕ, ℤ, pos, negsuc, ◌+ℤ◌, ◌≤ℤ◌, int_le, Bool, ◌&&◌}

-- a position of Z^3, in range or not
pub record Place : Type 0 where
  pub x : ℤ
  pub y : ℤ
  pub z : ℤ

abbrev pub place : ℤ → ℤ → ℤ → Place
place x y z = record { x = x; y = y; z = z }

-- the sum of two positions
abbrev pub moved : Place → Place → Place
moved p by = place (p.x +ℤ by.x) (p.y +ℤ by.y) (p.z +ℤ by.z)

-- the greatest absolute value of a coordinate in range, 2^20
abbrev pub most_coordinate : ℕ
most_coordinate = 1048576

-- c is from -most_coordinate to most_coordinate; negsuc 1048575 stands for -most_coordinate
abbrev pub IsCoordinateInRange : ℤ → Type 0
IsCoordinateInRange c = (negsuc 1048575 ≤ℤ c) × (c ≤ℤ pos most_coordinate)

abbrev pub IsInRange : Place → Type 0
IsInRange p = IsCoordinateInRange p.x × IsCoordinateInRange p.y × IsCoordinateInRange p.z

-- the two properties above, as tests
abbrev pub is_coordinate_in_range : ℤ → Bool
is_coordinate_in_range c = int_le (negsuc 1048575) c && int_le c (pos most_coordinate)

abbrev pub is_in_range : Place → Bool
is_in_range p = is_coordinate_in_range p.x && is_coordinate_in_range p.y && is_coordinate_in_range p.z
