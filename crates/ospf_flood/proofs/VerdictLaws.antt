-- The receive table, its lines taken apart.
use Rattle.std.proofs.Common.{◌≡◌, ℕ, Bool, true, false, cond, ◌||◌, refl}
use Rattle.std.specs.Prelude.{Option, Some, None}
use Rattle.std.specs.declared.cmp.Ordering.{Ordering}
use Rattle.std.specs.declared.cmp.Ordering.TheVariants.{Less, Equal, Greater}
use Rattle.ospf_wire.specs.declared.lsa.Lsa.{Lsa}
use Rattle.ospf_wire.specs.Newer.{newer_of}
use Rattle.ospf_lsdb.specs.declared.kept.Kept.{Kept}
use Rattle.ospf_lsdb.specs.Kept.{header_now}
use Rattle.ospf_flood.specs.declared.verdict.Verdict.TheVariants.{Discarded, SentBack}
use Rattle.ospf_flood.specs.Verdicts.{receive_table, has_right_sum, is_router_lsa, verdict_on_router_lsa, with_capped_age, verdict_by_copy, is_wrapping, sent_this_tick}

older : (last went : Bool) → cond (last || went) Discarded SentBack ≡ cond last Discarded (cond went Discarded SentBack)
older true went = refl
older false went = refl

by_order : (o : Ordering) (l : Lsa) (now : ℕ) (k : Kept) (count : ℕ) (listed : Bool) → has_right_sum l ≡ true → is_router_lsa l ≡ true → newer_of (with_capped_age l.head) (header_now now k) ≡ o
    → verdict_by_copy o now k listed ≡ receive_table l now (Some k) count listed
by_order Less l now k count listed right router e = rw right (rw router (rw e (older (is_wrapping now k) (sent_this_tick now k))))
by_order Equal l now k count listed right router e = rw right (rw router (rw e refl))
by_order Greater l now k count listed right router e = rw right (rw router (rw e refl))

-- what passes the first two lines
pub table-router_lsa : (l : Lsa) (now : ℕ) (copy : Option Kept) (count : ℕ) (listed : Bool) → has_right_sum l ≡ true → is_router_lsa l ≡ true → verdict_on_router_lsa l.head now copy count listed ≡ receive_table l now copy count listed
table-router_lsa l now None count listed right router = rw right (rw router refl)
table-router_lsa l now (Some k) count listed right router = by_order (newer_of (with_capped_age l.head) (header_now now k)) l now k count listed right router refl
