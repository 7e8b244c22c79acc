-- What receiving an LSA does to the database and the retransmission lists (RFC 2328 sections 13 and 13.4).
use Rattle.std.specs.Prelude.{◌==◌, ◌&&◌, ℕ, Bool, true, false, not, if◌then◌else◌, slice_set}
use Rattle.dn_guest.specs.Ports.{with_down}
use Rattle.ospf_wire.specs.declared.lsa.Lsa.{Lsa}
use Rattle.ospf_lsdb.specs.declared.key.LsaKey.{LsaKey}
use Rattle.ospf_lsdb.specs.Keys.{key_of}
use Rattle.ospf_lsdb.specs.Kept.{with_max_age, fresh, sent_at}
use Rattle.ospf_lsdb.specs.Database.{changed, with_kept}
use Rattle.ospf_flood.specs.declared.verdict.Verdict.{Verdict}
use Rattle.ospf_flood.specs.declared.verdict.Verdict.TheVariants.{Discarded, Acked, Installed, SentBack, Implied}
use Rattle.ospf_flood.specs.declared.receiving.Step.{Step}
use Rattle.ospf_flood.specs.Retransmission.{list_of, without_lsa, without_lsa_anywhere}
use Rattle.ospf_flood.specs.Flooding.{State, flooded}
use Rattle.ospf_flood.specs.Verdicts.{with_capped_age, verdict_of}

-- an instance of the router's own LSA (section 13.4)
abbrev pub is_own_router_lsa : Lsa → ℕ → Bool
is_own_router_lsa l own = l.head.router == own && l.head.id == own

-- an LSA that has the router as its advertising router, and isn't its own LSA (section 13.4)
abbrev pub is_other_self_originated : Lsa → ℕ → Bool
is_other_self_originated l own = l.head.router == own && not (l.head.id == own)

-- the LSA as it is installed: with an age of at most MaxAge
abbrev pub to_install : Lsa → Lsa
to_install l = record l { head = with_capped_age l.head }

-- The old instance leaves all lists, the LSA is installed, and it is flooded on the ports of the mask but the one on
-- which it came (section 13, steps (5)(b) to (5)(d); this profile: (c) comes before (b)).
abbrev pub flood_received : State → ℕ → ℕ → Lsa → ℕ → ℕ → State
flood_received s full from l own now =
    let key = key_of l.head in
    flooded (with_down full from) key now (record {
      db = with_kept s.db key (fresh (to_install l) now true (is_own_router_lsa l own));
      lists = without_lsa_anywhere key s.lists;
    })

-- the LSA is set to MaxAge and flooded on all ports (section 14.1)
abbrev pub flushed : State → ℕ → LsaKey → ℕ → State
flushed s full key now = flooded full key now (record s { db = changed key (with_max_age now) s.db })

-- the verdict Installed: a stray LSA is flushed behind that
abbrev pub installed : State → ℕ → ℕ → Lsa → ℕ → ℕ → State
installed s full from l own now =
    if is_other_self_originated l own then flushed (flood_received s full from l own now) full (key_of l.head) now
    else flood_received s full from l own now

-- what each verdict does
abbrev pub apply_verdict : Verdict → State → ℕ → ℕ → Lsa → ℕ → ℕ → State
apply_verdict Discarded s full from l own now = s
apply_verdict Acked s full from l own now = s
apply_verdict Installed s full from l own now = installed s full from l own now
apply_verdict SentBack s full from l own now = record s { db = changed (key_of l.head) (sent_at now) s.db }
apply_verdict Implied s full from l own now = record s { lists = slice_set s.lists from (without_lsa (key_of l.head) (list_of s.lists from)) }

-- the state after an LSA came on the port `from`; `full` is the mask of the up ports with a full neighbour
abbrev pub received : State → ℕ → ℕ → Lsa → ℕ → ℕ → State
received s full from l own now = apply_verdict (verdict_of s.db (list_of s.lists from) l now) s full from l own now

-- the answer that belongs to a verdict
abbrev pub step_of : Verdict → Lsa → ℕ → Step
step_of Installed l own = record { verdict = Installed; flush = is_other_self_originated l own; renew = is_own_router_lsa l own }
step_of Discarded l own = record { verdict = Discarded; flush = false; renew = false }
step_of Acked l own = record { verdict = Acked; flush = false; renew = false }
step_of SentBack l own = record { verdict = SentBack; flush = false; renew = false }
step_of Implied l own = record { verdict = Implied; flush = false; renew = false }
