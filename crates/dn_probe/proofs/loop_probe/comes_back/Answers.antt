use Rattle.std.proofs.Common.{◌∙◌, sym, arith, rules}
use Rattle.dn_probe.proofs.Hops.{begins, whole, further, never_back, back_now, one_further}
use Rattle.dn_probe.proofs.loop_probe.comes_back.Goals as goal

pub hops-init : goal.hops-init
hops-init c = record {
  here = begins c.args.stations.now c.args.prefix.now c.args.router;
  rest = sym (whole c.args.stations.now c.args.prefix.now c.args.router);
  few = omega arith;
}

pub returns-in_default : goal.returns-in_default
returns-in_default c =
    sym (never_back c.args.stations.now c.args.prefix.now c.args.router c.hops.at c.hops.hops c.hops.invariant.here c.in_default.ensures) ∙ c.hops.invariant.rest

pub returns-then-next-router : goal.returns-then-next-router
returns-then-next-router c =
    sym (back_now c.args.stations.now c.args.prefix.now c.args.router c.hops.at c.hops.hops c.in-Some.next (search rules) c.hops.invariant.here c.in-Some.ensures (search rules)) ∙ c.hops.invariant.rest

pub hops-preserved : goal.hops-preserved
hops-preserved c = record {
  here = further c.args.stations.now c.args.prefix.now c.args.router c.hops.at c.hops.hops c.hops.invariant.here ∙ sym c.in-Some.ensures;
  rest = sym (one_further c.args.stations.now c.args.prefix.now c.args.router c.hops.at c.hops.hops c.in-Some.next (search rules) c.hops.invariant.here c.in-Some.ensures (search rules)) ∙ c.hops.invariant.rest;
  few = search rules;
}
