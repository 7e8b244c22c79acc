use Rattle.std.proofs.Common.{◌≡◌, ◌+◌, ◌-◌, ◌≤◌, Some}
use Rattle.dn_probe.specs.Loop.{after_hops, comes_back}
use Rattle.dn_probe.proofs.Hops.{is_back}
use Rattle.dn_probe.proofs.loop_probe.comes_back.Given as goal

abbrev pub invariant-hops : goal.invariant-hops
invariant-hops l = record {
  here : after_hops l.stations l.prefix l.router l.hops ≡ Some l.at;
  rest : is_back l.stations l.prefix l.router (l.hops + 1) (64 - l.hops) ≡ comes_back l.stations l.prefix l.router;
  few : l.hops ≤ 64;
}

abbrev pub decreases-hops : goal.decreases-hops
decreases-hops l = 64 - l.hops
