-- What is on each port's list after a change, and what an LSA that comes leaves as it was: all other LSAs.
use Rattle.std.proofs.Common.{◌≡◌, ◌≢◌, ◌<◌, ◌+◌, ℕ, zero, suc, Bool, true, false, cond, [], ◌∷◌, length, refl, sym, ap, ◌∙◌, arith}
use Rattle.std.specs.Prelude.{◌==◌, slice_set}
use Rattle.std.proofs.lemmas.List.{get_or-set_same, get_or-set_other}
use Rattle.dn_guest.specs.Ports.{is_up, with_down}
use Rattle.ospf_wire.specs.declared.lsa.Lsa.{Lsa}
use Rattle.ospf_lsdb.specs.declared.key.LsaKey.{LsaKey}
use Rattle.ospf_lsdb.specs.declared.kept.Kept.{Kept}
use Rattle.ospf_lsdb.specs.Keys.{key_of}
use Rattle.ospf_lsdb.specs.Kept.{fresh, sent_at, with_max_age}
use Rattle.ospf_lsdb.specs.Database.{Database, changed, kept_at, with_kept}
use Rattle.ospf_flood.specs.declared.verdict.Verdict.{Verdict}
use Rattle.ospf_flood.specs.declared.verdict.Verdict.TheVariants.{Discarded, Acked, Installed, SentBack, Implied}
use Rattle.ospf_flood.specs.Retransmission.{OnPort, OnPorts, last_sent, list_of, with_lsa, without_lsa, without_lsa_anywhere}
use Rattle.ospf_flood.specs.Flooding.{State, flooded, put_from, put_on}
use Rattle.ospf_flood.specs.Verdicts.{verdict_of}
use Rattle.ospf_flood.specs.Receiving.{apply_verdict, flood_received, flushed, is_other_self_originated, is_own_router_lsa, received, to_install}

-- ---- the lists of ports

pub set_port : (ls : OnPorts) (port : ℕ) (l : OnPort) → port < length ls → list_of (slice_set ls port l) port ≡ l
set_port ls port l lt = get_or-set_same ls port l [] lt

pub set_other : (ls : OnPorts) (port other : ℕ) (l : OnPort) → port ≢ other → list_of (slice_set ls port l) other ≡ list_of ls other
set_other ls port other l differ = get_or-set_other ls port other l [] (λ e. differ (sym e))

abbrev put_one : Bool → OnPort → LsaKey → ℕ → OnPort
put_one b l key tick = cond b (with_lsa l key tick) l

put_at : (ls : OnPorts) (p mask port tick : ℕ) (key : LsaKey) → port < length ls → list_of (put_from p mask key tick ls) port ≡ put_one (is_up mask (p + port)) (list_of ls port) key tick
put_at [] p mask port tick key lt = absurd (omega arith)
put_at (l ∷ ls) p mask zero tick key lt =
    let same : p ≡ p + 0 = omega arith in
    ap (λ (q : ℕ). put_one (is_up mask q) l key tick) same
put_at (l ∷ ls) p mask (suc port) tick key lt =
    let same : p + 1 + port ≡ p + suc port = omega arith in
    put_at ls (p + 1) mask port tick key (omega arith) ∙ ap (λ (q : ℕ). put_one (is_up mask q) (list_of ls port) key tick) same

pub put_on_port : (ls : OnPorts) (mask port tick : ℕ) (key : LsaKey) → port < length ls → list_of (put_on mask key tick ls) port ≡ put_one (is_up mask port) (list_of ls port) key tick
put_on_port ls mask port tick key lt =
    let same : 0 + port ≡ port = omega arith in
    put_at ls 0 mask port tick key lt ∙ ap (λ (q : ℕ). put_one (is_up mask q) (list_of ls port) key tick) same

pub off_port : (ls : OnPorts) (key : LsaKey) (port : ℕ) → list_of (without_lsa_anywhere key ls) port ≡ without_lsa key (list_of ls port)
off_port [] key port = refl
off_port (l ∷ ls) key zero = refl
off_port (l ∷ ls) key (suc port) = off_port ls key port

-- ---- another LSA stays as it was

-- what the laws of the database say of a change at one name
pub record Laws : Type 0 where
  pub put : (l : OnPort) (key m : LsaKey) (tick : ℕ) → key ≢ m → last_sent (with_lsa l key tick) m ≡ last_sent l m
  pub taken : (l : OnPort) (key m : LsaKey) → key ≢ m → last_sent (without_lsa key l) m ≡ last_sent l m
  pub installed : (db : Database) (key m : LsaKey) (k : Kept) → key ≢ m → kept_at (with_kept db key k) m ≡ kept_at db m
  pub altered : (db : Database) (key m : LsaKey) (change : Kept → Kept) → key ≢ m → kept_at (changed key change db) m ≡ kept_at db m

put_one_elsewhere : (w : Laws) (b : Bool) (l : OnPort) (key other : LsaKey) (tick : ℕ) → key ≢ other → last_sent (put_one b l key tick) other ≡ last_sent l other
put_one_elsewhere w true l key other tick differ = w.put l key other tick differ
put_one_elsewhere w false l key other tick differ = refl

put_from_elsewhere : (w : Laws) (ls : OnPorts) (p mask tick : ℕ) (key other : LsaKey) → key ≢ other → (port : ℕ) → last_sent (list_of (put_from p mask key tick ls) port) other ≡ last_sent (list_of ls port) other
put_from_elsewhere w [] p mask tick key other differ port = refl
put_from_elsewhere w (l ∷ ls) p mask tick key other differ zero = put_one_elsewhere w (is_up mask p) l key other tick differ
put_from_elsewhere w (l ∷ ls) p mask tick key other differ (suc port) = put_from_elsewhere w ls (p + 1) mask tick key other differ port

off_elsewhere : (w : Laws) (ls : OnPorts) (key other : LsaKey) → key ≢ other → (port : ℕ) → last_sent (list_of (without_lsa_anywhere key ls) port) other ≡ last_sent (list_of ls port) other
off_elsewhere w ls key other differ port = ap (λ (l : OnPort). last_sent l other) (off_port ls key port) ∙ w.taken (list_of ls port) key other differ

set_elsewhere : (ls : OnPorts) (from : ℕ) (l : OnPort) (other : LsaKey) → last_sent l other ≡ last_sent (list_of ls from) other → (port : ℕ)
    → last_sent (list_of (slice_set ls from l) port) other ≡ last_sent (list_of ls port) other
set_elsewhere [] from l other same port = refl
set_elsewhere (x ∷ ls) zero l other same zero = same
set_elsewhere (x ∷ ls) zero l other same (suc port) = refl
set_elsewhere (x ∷ ls) (suc from) l other same zero = refl
set_elsewhere (x ∷ ls) (suc from) l other same (suc port) = set_elsewhere ls from l other same port

-- a database and its lists are as others, but at this name
record IsSameBut (key : LsaKey) (s t : State) : Type 0 where
  database : (other : LsaKey) → key ≢ other → kept_at s.db other ≡ kept_at t.db other
  lists : (other : LsaKey) → key ≢ other → (port : ℕ) → last_sent (list_of s.lists port) other ≡ last_sent (list_of t.lists port) other

same_itself : (key : LsaKey) (s : State) → IsSameBut key s s
same_itself key s = record { database = λ other differ. refl; lists = λ other differ port. refl }

noted_by : (w : Laws) (b : Bool) (key other : LsaKey) (now : ℕ) (db : Database) → key ≢ other → kept_at (cond b db (changed key (sent_at now) db)) other ≡ kept_at db other
noted_by w true key other now db differ = refl
noted_by w false key other now db differ = w.altered db key other (sent_at now) differ

flooded_elsewhere : (w : Laws) (mask : ℕ) (key : LsaKey) (now : ℕ) (s t : State) → IsSameBut key s t → IsSameBut key (flooded mask key now s) t
flooded_elsewhere w mask key now s t same = record {
  database = λ other differ. noted_by w (mask == 0) key other now s.db differ ∙ same.database other differ;
  lists = λ other differ port. put_from_elsewhere w s.lists 0 mask now key other differ port ∙ same.lists other differ port;
}

received_elsewhere : (w : Laws) (s : State) (full from : ℕ) (l : Lsa) (own now : ℕ) → IsSameBut (key_of l.head) (flood_received s full from l own now) s
received_elsewhere w s full from l own now =
    let key = key_of l.head in
    let k : Kept = fresh (to_install l) now true (is_own_router_lsa l own) in
    flooded_elsewhere w (with_down full from) key now _ s (record {
      database = λ other differ. w.installed s.db key other k differ;
      lists = λ other differ port. off_elsewhere w s.lists key other differ port;
    })

flushed_elsewhere : (w : Laws) (s t : State) (full : ℕ) (key : LsaKey) (now : ℕ) → IsSameBut key s t → IsSameBut key (flushed s full key now) t
flushed_elsewhere w s t full key now same =
    flooded_elsewhere w full key now _ t (record {
      database = λ other differ. w.altered s.db key other (with_max_age now) differ ∙ same.database other differ;
      lists = same.lists;
    })

chosen : (b : Bool) (key : LsaKey) (s t u : State) → IsSameBut key s u → IsSameBut key t u → IsSameBut key (cond b s t) u
chosen true key s t u one two = one
chosen false key s t u one two = two

applied_elsewhere : (w : Laws) (v : Verdict) (s : State) (full from : ℕ) (l : Lsa) (own now : ℕ) → IsSameBut (key_of l.head) (apply_verdict v s full from l own now) s
applied_elsewhere w Discarded s full from l own now = same_itself (key_of l.head) s
applied_elsewhere w Acked s full from l own now = same_itself (key_of l.head) s
applied_elsewhere w Installed s full from l own now =
    let here = received_elsewhere w s full from l own now in
    chosen (is_other_self_originated l own) (key_of l.head) _ _ s (flushed_elsewhere w (flood_received s full from l own now) s full (key_of l.head) now here) here
applied_elsewhere w SentBack s full from l own now = record {
  database = λ other differ. w.altered s.db (key_of l.head) other (sent_at now) differ;
  lists = λ other differ port. refl;
}
applied_elsewhere w Implied s full from l own now = record {
  database = λ other differ. refl;
  lists = λ other differ port. set_elsewhere s.lists from (without_lsa (key_of l.head) (list_of s.lists from)) other (w.taken (list_of s.lists from) (key_of l.head) other differ) port;
}

pub other_copy : (w : Laws) (s : State) (full from : ℕ) (l : Lsa) (own now : ℕ) (other : LsaKey) → key_of l.head ≢ other → kept_at (received s full from l own now).db other ≡ kept_at s.db other
other_copy w s full from l own now other differ = (applied_elsewhere w (verdict_of s.db (list_of s.lists from) l now) s full from l own now).database other differ

pub other_listed : (w : Laws) (s : State) (full from : ℕ) (l : Lsa) (own now port : ℕ) (other : LsaKey) → key_of l.head ≢ other
    → last_sent (list_of (received s full from l own now).lists port) other ≡ last_sent (list_of s.lists port) other
other_listed w s full from l own now port other differ = (applied_elsewhere w (verdict_of s.db (list_of s.lists from) l now) s full from l own now).lists other differ port
