use Rattle.std.proofs.Common.{◌≡◌, ℕ, Bool, length, ap, sym, ◌∙◌, true}
use Rattle.std.specs.Prelude.{Option, option_copied, is_some}
use Rattle.ospf_lsdb.specs.declared.kept.Kept.{Kept}
use Rattle.ospf_lsdb.specs.declared.key.LsaKey.{LsaKey}
use Rattle.ospf_lsdb.specs.Keys.{key_of}
use Rattle.ospf_lsdb.specs.Database.{kept_at}
use Rattle.ospf_flood.specs.Retransmission.{list_of, last_sent}
use Rattle.ospf_flood.specs.Verdicts.{has_right_sum, is_router_lsa, verdict_on_router_lsa}
use Rattle.ospf_flood.proofs.VerdictLaws.{table-router_lsa}
use Rattle.ospf_flood.proofs.verdict.verdict_of.Goals as goal

pub returns : goal.returns
returns c =
    let l = c.args.lsa.now in
    let db = c.args.db.now in
    let list = list_of c.args.lists.now c.args.from in
    let right : has_right_sum l ≡ true = sym c.has_right_sum.ensures ∙ c.if-not-has_right_sum.false in
    let router : is_router_lsa l ≡ true = sym c.is_router_lsa.ensures ∙ c.if-not-is_router_lsa.false in
    let copy : option_copied c.get.result ≡ kept_at db (key_of l.head) = c.get.ensures.kept ∙ ap (λ (k : LsaKey). kept_at db k) c.key_of-key.ensures in
    let count : c.len.result ≡ length db = c.len.ensures.count in
    let listed : c.is_some-listed.result ≡ is_some (last_sent list (key_of l.head)) =
    c.is_some-listed.ensures ∙ ap (λ (o : Option ℕ). is_some o) c.sent_at.ensures ∙ ap (λ (k : LsaKey). is_some (last_sent list k)) c.key_of-key.ensures in
    c.verdict_on_router_lsa.ensures
    ∙ ap (λ (o : Option Kept). verdict_on_router_lsa l.head c.args.now o c.len.result c.is_some-listed.result) copy
    ∙ ap (λ (n : ℕ). verdict_on_router_lsa l.head c.args.now (kept_at db (key_of l.head)) n c.is_some-listed.result) count
    ∙ ap (λ (b : Bool). verdict_on_router_lsa l.head c.args.now (kept_at db (key_of l.head)) (length db) b) listed
    ∙ table-router_lsa l c.args.now (kept_at db (key_of l.head)) (length db) (is_some (last_sent list (key_of l.head))) right router
