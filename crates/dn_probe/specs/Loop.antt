-- The probe `loop`: a packet that follows the routes comes back to the router at which it began.
use Rattle.std.specs.Prelude.{ℕ, zero, suc, Bool, false, ◌==◌, List, codes, slice_get, Option, Some, None}
use Rattle.std.specs.List.{list_any, range_with_len}
use Rattle.std.specs.Option.{option_and_then}
use Rattle.std.specs.Fmt.{decimal}
use Rattle.dn_model.specs.declared.event.Event.{Event}
use Rattle.dn_probe.specs.declared.routes.Route.{Route}
use Rattle.dn_probe.specs.Meaning.{Memory, Rules, Saying}
use Rattle.dn_probe.specs.Reports.{counted, report_line}
use Rattle.dn_probe.specs.Routes.{route_to}
use Rattle.dn_probe.specs.Stations.{Standing, routes_at, opened_of, shown_at, memory_of, standings_of}

-- the router at the far end of the port by which a route goes on: none where it is the router's own, or no link is at the port
abbrev pub far_end : Standing → Route → Option ℕ
far_end s route = option_and_then (λ port. slice_get s.far port) route.port

-- where a router sends a packet to the prefix
abbrev pub sends_to : List ℕ → Standing → Option ℕ
sends_to prefix s = option_and_then (far_end s) (route_to prefix (routes_at s))

-- a packet is at this router
abbrev pub is_at : ℕ → Option ℕ → Bool
is_at router None = false
is_at router (Some r) = r == router

module _ (standings : List Standing) where
  -- one hop
  unfoldable pub hop : List ℕ → ℕ → Option ℕ
  hop prefix router = option_and_then (sends_to prefix) (slice_get standings router)

  -- where a packet is that begins at this router, after so many hops: nowhere once its way has ended
  unfoldable pub after_hops : List ℕ → ℕ → ℕ → Option ℕ
  after_hops prefix router zero = Some router
  after_hops prefix router (suc n) = option_and_then (hop prefix) (after_hops prefix router n)

  -- it is back after 1 to 64 hops
  unfoldable pub comes_back : List ℕ → ℕ → Bool
  comes_back prefix router = list_any (λ n. is_at router (after_hops prefix router n)) (range_with_len 1 64)

  abbrev pub loops_by : ℕ → Option Standing → Bool
  loops_by router None = false
  loops_by router (Some s) = list_any (λ route. comes_back route.prefix router) (routes_at s)

  -- for some prefix
  unfoldable pub loops : ℕ → Bool
  loops router = loops_by router (slice_get standings router)

abbrev pub loop_rule : Memory → Event → List ℕ → Saying
loop_rule memory row show =
    let standings = shown_at (standings_of memory) row.router show in
    let answer = loops standings row.router in
    record { yes = answer; memory = memory_of (counted memory answer) standings }

abbrev pub loop_rules : Rules
loop_rules = record {
  name = codes "loop";
  opening = λ header. memory_of (decimal 0) (opened_of header);
  rule = loop_rule;
  report = report_line (codes "loop");
}
