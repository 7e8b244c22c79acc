-- Flooding of an LSA (RFC 2328 section 13.3): what it does to the retransmission lists and to the database.
use Rattle.std.specs.Prelude.{◌+◌, ◌==◌, ℕ, [], ◌∷◌, if◌then◌else◌}
use Rattle.dn_guest.specs.Ports.{is_up}
use Rattle.ospf_lsdb.specs.declared.key.LsaKey.{LsaKey}
use Rattle.ospf_lsdb.specs.Kept.{sent_at}
use Rattle.ospf_lsdb.specs.Database.{Database, changed}
use Rattle.ospf_flood.specs.Retransmission.{OnPorts, with_lsa}

-- the lists of the ports from p on; those of the ports of this mask have the LSA, sent at this tick
abbrev pub put_from : ℕ → ℕ → LsaKey → ℕ → OnPorts → OnPorts
put_from p ports key tick [] = []
put_from p ports key tick (l ∷ ls) = (if is_up ports p then with_lsa l key tick else l) ∷ put_from (p + 1) ports key tick ls

-- the lists; those of the ports of this mask have the LSA, sent at this tick
abbrev pub put_on : ℕ → LsaKey → ℕ → OnPorts → OnPorts
put_on ports key tick ls = put_from 0 ports key tick ls

-- the database and the lists of a router
pub record State : Type 0 where
  pub db : Database
  pub lists : OnPorts

abbrev pub state : Database → OnPorts → State
state db lists = record { db = db; lists = lists }

-- where the mask has a port the LSA was sent now
abbrev pub note_flooded : ℕ → LsaKey → ℕ → Database → Database
note_flooded ports key now db = if ports == 0 then db else changed key (sent_at now) db

-- The LSA is flooded on the ports of this mask: it stands on their lists, and where there is such a port it was
-- sent now.
abbrev pub flooded : ℕ → LsaKey → ℕ → State → State
flooded ports key now s = record {
  db = note_flooded ports key now s.db;
  lists = put_on ports key now s.lists;
}
