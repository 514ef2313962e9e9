-- Scope 2.4: the limits of the switch.
use Rattle.std.specs.Prelude.{ℕ, Bool, ◌&&◌, nat_le, nat_lt}

-- sixteen ports, eight flows
abbrev pub port_limit : ℕ
port_limit = 16

abbrev pub flow_limit : ℕ
flow_limit = 8

-- an input that has so many cells in the switch accepts no more
abbrev pub cell_limit : ℕ
cell_limit = 64

-- the cells of an input that a switch has room for, in whatever places: so far apart are the numbers of two inputs' entries
abbrev pub section_room : ℕ
section_room = 64

-- the largest number of 32 bits, at which the clock ends
abbrev pub clock_end : ℕ
clock_end = 4294967295

-- a number of 32 bits
unfoldable pub fits32 : ℕ → Bool
fits32 n = nat_le n 4294967295

-- N is 1 to 16
unfoldable pub ports_in_range : ℕ → Bool
ports_in_range n = nat_le 1 n && nat_le n port_limit

-- a flow is 0 to 7
abbrev pub flow_in_range : ℕ → Bool
flow_in_range f = nat_lt f flow_limit

-- an input with n cells in the switch may accept no more
abbrev pub input_full : ℕ → Bool
input_full n = nat_le cell_limit n
