-- The probe `lost`: a router has lost its route to a prefix.
use Rattle.std.specs.Prelude.{ℕ, Bool, false, List, codes, slice_get, Option, Some, None}
use Rattle.std.specs.Fmt.{decimal}
use Rattle.dn_model.specs.declared.event.Event.{Event}
use Rattle.dn_probe.specs.Meaning.{Memory, Rules, Saying}
use Rattle.dn_probe.specs.Reports.{counted, report_line}
use Rattle.dn_probe.specs.Routes.{routes, loses}
use Rattle.dn_probe.specs.Stations.{Standing, routes_at, opened_of, shown_at, memory_of, standings_of}

abbrev pub loses_by : Option Standing → List ℕ → Bool
loses_by None show = false
loses_by (Some s) show = loses (routes_at s) (routes s.rip show)

-- by this show of a router
abbrev pub is_lost : List Standing → ℕ → List ℕ → Bool
is_lost standings router show = loses_by (slice_get standings router) show

abbrev pub lost_rule : Memory → Event → List ℕ → Saying
lost_rule memory row show =
    let standings = standings_of memory in
    let answer = is_lost standings row.router show in
    record { yes = answer; memory = memory_of (counted memory answer) (shown_at standings row.router show) }

abbrev pub lost_rules : Rules
lost_rules = record {
  name = codes "lost";
  opening = λ header. memory_of (decimal 0) (opened_of header);
  rule = lost_rule;
  report = report_line (codes "lost");
}
