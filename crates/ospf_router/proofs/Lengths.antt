-- No step of flooding changes how many lists there are.
use Rattle.std.proofs.Common.{◌≡◌, ℕ, Bool, true, false, suc, ◌+◌, [], ◌∷◌, length, refl, ap, ◌∙◌, cond}
use Rattle.std.proofs.lemmas.List.{length-map, length-set}
use Rattle.dn_guest.specs.Ports.{with_down}
use Rattle.ospf_wire.specs.declared.lsa.Lsa.{Lsa}
use Rattle.ospf_lsdb.specs.declared.key.LsaKey.{LsaKey}
use Rattle.ospf_lsdb.specs.Keys.{key_of}
use Rattle.ospf_flood.specs.declared.verdict.Verdict.{Verdict}
use Rattle.ospf_flood.specs.declared.verdict.Verdict.TheVariants.{Discarded, Acked, Installed, SentBack, Implied}
use Rattle.ospf_flood.specs.Retransmission.{OnPorts, list_of, without_lsa, without_lsa_anywhere}
use Rattle.ospf_flood.specs.Flooding.{State, flooded, put_from}
use Rattle.ospf_flood.specs.Verdicts.{verdict_of}
use Rattle.ospf_flood.specs.Receiving.{apply_verdict, is_other_self_originated, received, flood_received}

pub length-put_from : (p ports tick : ℕ) (key : LsaKey) (ls : OnPorts) → length (put_from p ports key tick ls) ≡ length ls
length-put_from p ports tick key [] = refl
length-put_from p ports tick key (l ∷ ls) = ap suc (length-put_from (p + 1) ports tick key ls)

pub length-flooded : (mask : ℕ) (key : LsaKey) (now : ℕ) (s : State) → length (flooded mask key now s).lists ≡ length s.lists
length-flooded mask key now s = length-put_from 0 mask now key s.lists

length-flood_received : (s : State) (full from : ℕ) (l : Lsa) (own now : ℕ) → length (flood_received s full from l own now).lists ≡ length s.lists
length-flood_received s full from l own now =
    length-put_from 0 (with_down full from) now (key_of l.head) (without_lsa_anywhere (key_of l.head) s.lists) ∙ length-map s.lists (without_lsa (key_of l.head))

installed_by : (b : Bool) (s t u : State) → length s.lists ≡ length u.lists → length t.lists ≡ length u.lists → length (cond b s t).lists ≡ length u.lists
installed_by true s t u one two = one
installed_by false s t u one two = two

after_by : (v : Verdict) (s : State) (full from : ℕ) (l : Lsa) (own now : ℕ) → length (apply_verdict v s full from l own now).lists ≡ length s.lists
after_by Discarded s full from l own now = refl
after_by Acked s full from l own now = refl
after_by Installed s full from l own now =
    installed_by (is_other_self_originated l own) _ _ s (length-put_from 0 full now (key_of l.head) (flood_received s full from l own now).lists ∙ length-flood_received s full from l own now) (length-flood_received s full from l own now)
after_by SentBack s full from l own now = refl
after_by Implied s full from l own now = length-set s.lists from (without_lsa (key_of l.head) (list_of s.lists from))

pub length-received : (s : State) (full from : ℕ) (l : Lsa) (own now : ℕ) → length (received s full from l own now).lists ≡ length s.lists
length-received s full from l own now = after_by (verdict_of s.db (list_of s.lists from) l now) s full from l own now
