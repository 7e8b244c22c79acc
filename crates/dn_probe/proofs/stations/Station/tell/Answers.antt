use Rattle.std.proofs.Common.{◌≡◌, ◌∙◌, ℕ, List, sym, ap, rules}
use Rattle.dn_probe.specs.Routes.{routes, loses}
use Rattle.dn_probe.specs.Stations.{routes_at}
use Rattle.dn_probe.proofs.Shows.{nothing_lost}
use Rattle.dn_probe.proofs.stations.Station.tell.Goals as goal

pub returns-then-eq-clause-lost : goal.returns-then-eq-clause-lost
returns-then-eq-clause-lost c =
    let s = c.args.self.now in
    let same : s.show ≡ c.args.show.now = search rules in
    sym (nothing_lost (routes_at s)) ∙ ap (λ (t : List ℕ). loses (routes_at s) (routes s.rip t)) same
