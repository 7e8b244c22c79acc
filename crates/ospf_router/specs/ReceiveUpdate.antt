-- A Link State Update that comes (RFC 2328 section 13): its LSAs are received in order, and one acknowledgement goes
-- back at its end.
use Rattle.std.specs.Prelude.{ℕ, ◌∷◌, ◌++◌, Bool, if◌then◌else◌, List, [], fold, Some}
use Rattle.dn_guest.specs.declared.outbox.Output.{Output}
use Rattle.dn_guest.specs.Ports.{with_down}
use Rattle.ospf_wire.specs.declared.lsa.Lsa.{Lsa}
use Rattle.ospf_wire.specs.declared.lsa.LsaHeader.{LsaHeader}
use Rattle.ospf_wire.specs.declared.packet.Body.TheVariants as body
use Rattle.ospf_wire.specs.Constants.{MaxAge}
use Rattle.ospf_lsdb.specs.Keys.{key_of}
use Rattle.ospf_flood.specs.declared.verdict.Verdict.{Verdict}
use Rattle.ospf_flood.specs.declared.verdict.Verdict.TheVariants.{Discarded, Acked, Installed, SentBack, Implied}
use Rattle.ospf_flood.specs.declared.receiving.Step.{Step}
use Rattle.ospf_flood.specs.PortMasks.{only_port}
use Rattle.ospf_flood.specs.Retransmission.{list_of}
use Rattle.ospf_flood.specs.Flooding.{state}
use Rattle.ospf_flood.specs.Verdicts.{with_capped_age, verdict_of}
use Rattle.ospf_flood.specs.Receiving.{received, step_of}
use Rattle.ospf_router.specs.declared.router.Router.{Router}
use Rattle.ospf_router.specs.State.{id_of}
use Rattle.ospf_router.specs.BuildUpdates.{copy_of, of_age, sent_age, update_on}
use Rattle.ospf_router.specs.Flooding.{send_packet, putting, with_state}

-- what the table says of an LSA on a port (section 13), and what is answered
unfoldable pub verdict_on : ℕ → Router → Lsa → Step
verdict_on port r l = step_of (verdict_of r.db (list_of r.interfaces.lists port) l r.tick) l (id_of r)

-- the database and the lists after it
unfoldable pub kept_by : ℕ → ℕ → Lsa → Router → Router
kept_by full port l r = with_state (received (state r.db r.interfaces.lists) full port l (id_of r) r.tick) r

-- an LSA that was installed goes to the other ports, and where it was flushed to all ports with MaxAge (section 14.1)
abbrev pub flood_received_outputs : ℕ → ℕ → ℕ → Bool → Lsa → List Output
flood_received_outputs full port number flush l =
    update_on (with_down full port) number (Some (of_age (sent_age (with_capped_age l.head).age) l))
    ++ (if flush then update_on full number (Some (of_age MaxAge l)) else [])

-- what goes out by the verdict: a copy that is newer goes back to where the LSA came from (section 13, step (8))
abbrev pub outs_by : ℕ → ℕ → Lsa → Router → Bool → Verdict → List Output
outs_by full port l r flush Discarded = []
outs_by full port l r flush Acked = []
outs_by full port l r flush Installed = flood_received_outputs full port r.number flush l
outs_by full port l r flush SentBack = update_on (only_port port) r.number (copy_of r.tick r.db (key_of l.head))
outs_by full port l r flush Implied = []

-- what is acknowledged by the verdict: the header as it came (section 13.5)
abbrev pub acks_by : Lsa → Verdict → List LsaHeader
acks_by l Discarded = []
acks_by l Acked = l.head ∷ []
acks_by l Installed = l.head ∷ []
acks_by l SentBack = []
acks_by l Implied = []

unfoldable pub answered : ℕ → ℕ → Lsa → Step → Router → Router
answered full port l step r = putting (outs_by full port l r step.flush step.verdict) r

-- the router, and the headers that are to be acknowledged
pub record Taken : Type 0 where
  pub router : Router
  pub acks : List LsaHeader

abbrev pub taken_of : Router → List LsaHeader → Taken
taken_of r acks = record { router = r; acks = acks }

-- one LSA of an Update on a port; `full` is the mask of the up ports with a Full neighbour
unfoldable pub receive_lsa : ℕ → ℕ → Taken → Lsa → Taken
receive_lsa full port t l =
    let step = verdict_on port t.router l in
    taken_of (answered full port l step (kept_by full port l t.router)) (t.acks ++ acks_by l step.verdict)

-- one Link State Acknowledgement, where there is anything to acknowledge (section 13.5)
unfoldable pub send_acknowledgement : ℕ → List LsaHeader → Router → Router
send_acknowledgement port [] r = r
send_acknowledgement port (h ∷ hs) r = send_packet port (body.Ack (h ∷ hs)) r

-- the router after an Update
unfoldable pub receive_update : ℕ → ℕ → List Lsa → Router → Router
receive_update full port ls r =
    let t = fold (receive_lsa full port) (taken_of r []) ls in
    send_acknowledgement port t.acks t.router
