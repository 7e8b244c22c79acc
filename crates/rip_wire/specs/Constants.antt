-- The constants of RFC 2453, and those of this project's profile, each by its name. One tick is one second.
use Rattle.std.specs.Prelude.{ℕ}

-- ---- messages (RFC 2453 section 4)

-- the command of a request (section 3.9.1)
abbrev pub request_command : ℕ
request_command = 1

-- the command of a response (section 3.9.2)
abbrev pub response_command : ℕ
response_command = 2

-- the version of RIP (section 4)
abbrev pub rip_version : ℕ
rip_version = 2

-- the bytes before the entries: command, version, and two that are zero (section 4)
abbrev pub header_bytes : ℕ
header_bytes = 4

-- the bytes of an entry (section 4)
abbrev pub bytes_per_entry : ℕ
bytes_per_entry = 20

-- the greatest number of entries in a message (section 3.6)
abbrev pub most_entries : ℕ
most_entries = 25

-- the address family of IP (section 3.6)
abbrev pub ip_family : ℕ
ip_family = 2

-- the family of the one entry that asks for the whole table (section 3.9.1)
abbrev pub whole_table_family : ℕ
whole_table_family = 0

-- the family of an entry of authentication, 0xffff (section 4.1)
abbrev pub authentication_family : ℕ
authentication_family = 65535

-- ---- routes (RFC 2453 sections 3.4 to 3.8)

-- the metric of a network that can't be reached (sections 3.4 and 3.6)
abbrev pub infinity : ℕ
infinity = 16

-- the ticks between two regular updates (section 3.8)
abbrev pub update_interval : ℕ
update_interval = 30

-- the ticks that a route lasts without being heard again (section 3.8)
abbrev pub timeout : ℕ
timeout = 180

-- the ticks that an unreachable route is still told of before it is removed (section 3.8)
abbrev pub garbage_collection : ℕ
garbage_collection = 120

-- ---- this project's own

-- the greatest number of routes in a table
abbrev pub most_routes : ℕ
most_routes = 65535

-- the greatest number of own networks that can be reached, as far as commands set them
abbrev pub most_own_networks : ℕ
most_own_networks = 32

-- the greatest metric that a command sets
abbrev pub greatest_own_metric : ℕ
greatest_own_metric = 15

-- the last tick that is taken
abbrev pub last_tick_taken : ℕ
last_tick_taken = 65535
