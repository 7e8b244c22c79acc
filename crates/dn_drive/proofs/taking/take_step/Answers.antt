use Rattle.std.proofs.Common.{◌≡◌, sym, ap, ◌∙◌, subst, OnOk}
use Rattle.dn_guest.specs.declared.input.Input.{Input}
use Rattle.dn_world.specs.declared.step.Step.{Step}
use Rattle.dn_world.specs.declared.step.Step.TheVariants.{Beacon, Inject, Close, Deliver, Handle, RollBack, Commit}
use Rattle.dn_world.specs.Steps.{is_injectable}
use Rattle.dn_fabric.specs.Fabrics.{HasStepped}
use Rattle.dn_drive.proofs.May.{may_here}
use Rattle.dn_drive.proofs.Stays.{driven_on, network_on, network_stopped}
use Rattle.dn_drive.proofs.taking.take_step.Goals as goal

pub beacon-requires-clause-unclosed : goal.beacon-requires-clause-unclosed
beacon-requires-clause-unclosed g c κs within = (may_here g.G.Guest.meaning c.args.fabric.now.live.header c.args.fabric.now.live.openings c.args.fabric.now.live.world c.args.step.now (Beacon) c.in-Beacon.is (c.networks.ensures g.G.Guest.meaning c.args.fabric.now.live.header c.args.fabric.now.live.openings c.requires.driven.some c.requires.driven.one_each) c.requires.enabled).0

pub beacon-requires-clause-left : goal.beacon-requires-clause-left
beacon-requires-clause-left g c κs within = (may_here g.G.Guest.meaning c.args.fabric.now.live.header c.args.fabric.now.live.openings c.args.fabric.now.live.world c.args.step.now (Beacon) c.in-Beacon.is (c.networks.ensures g.G.Guest.meaning c.args.fabric.now.live.header c.args.fabric.now.live.openings c.requires.driven.some c.requires.driven.one_each) c.requires.enabled).1

pub inject-requires-clause-unclosed : goal.inject-requires-clause-unclosed
inject-requires-clause-unclosed g c κs within = (may_here g.G.Guest.meaning c.args.fabric.now.live.header c.args.fabric.now.live.openings c.args.fabric.now.live.world c.args.step.now (Inject c.in-Inject.external) c.in-Inject.is (c.networks.ensures g.G.Guest.meaning c.args.fabric.now.live.header c.args.fabric.now.live.openings c.requires.driven.some c.requires.driven.one_each) c.requires.enabled).0

pub inject-requires-clause-inside : goal.inject-requires-clause-inside
inject-requires-clause-inside g c κs within = (may_here g.G.Guest.meaning c.args.fabric.now.live.header c.args.fabric.now.live.openings c.args.fabric.now.live.world c.args.step.now (Inject c.in-Inject.external) c.in-Inject.is (c.networks.ensures g.G.Guest.meaning c.args.fabric.now.live.header c.args.fabric.now.live.openings c.requires.driven.some c.requires.driven.one_each) c.requires.enabled).2

pub inject-requires-clause-asked : goal.inject-requires-clause-asked
inject-requires-clause-asked g c κs within =
    let may = may_here g.G.Guest.meaning c.args.fabric.now.live.header c.args.fabric.now.live.openings c.args.fabric.now.live.world c.args.step.now (Inject c.in-Inject.external) c.in-Inject.is (c.networks.ensures g.G.Guest.meaning c.args.fabric.now.live.header c.args.fabric.now.live.openings c.requires.driven.some c.requires.driven.one_each) c.requires.enabled in
    let input : c.in_ok-copy-in-Inject.field-0 ≡ c.in-Inject.external.input = c.in_ok-copy-in-Inject.ensures in
    ap (is_injectable c.args.fabric.now.live.header c.in-Inject.external.router) input ∙ may.3

pub close-requires-clause-unclosed : goal.close-requires-clause-unclosed
close-requires-clause-unclosed g c κs within = (may_here g.G.Guest.meaning c.args.fabric.now.live.header c.args.fabric.now.live.openings c.args.fabric.now.live.world c.args.step.now (Close) c.in-Close.is (c.networks.ensures g.G.Guest.meaning c.args.fabric.now.live.header c.args.fabric.now.live.openings c.requires.driven.some c.requires.driven.one_each) c.requires.enabled).0

pub close-requires-clause-last : goal.close-requires-clause-last
close-requires-clause-last g c κs within = (may_here g.G.Guest.meaning c.args.fabric.now.live.header c.args.fabric.now.live.openings c.args.fabric.now.live.world c.args.step.now (Close) c.in-Close.is (c.networks.ensures g.G.Guest.meaning c.args.fabric.now.live.header c.args.fabric.now.live.openings c.requires.driven.some c.requires.driven.one_each) c.requires.enabled).1

pub deliver-requires-clause-there : goal.deliver-requires-clause-there
deliver-requires-clause-there g c κs within = (may_here g.G.Guest.meaning c.args.fabric.now.live.header c.args.fabric.now.live.openings c.args.fabric.now.live.world c.args.step.now (Deliver c.in-Deliver.place) c.in-Deliver.is (c.networks.ensures g.G.Guest.meaning c.args.fabric.now.live.header c.args.fabric.now.live.openings c.requires.driven.some c.requires.driven.one_each) c.requires.enabled)

pub handle-requires-clause-inside : goal.handle-requires-clause-inside
handle-requires-clause-inside g c κs within = (may_here g.G.Guest.meaning c.args.fabric.now.live.header c.args.fabric.now.live.openings c.args.fabric.now.live.world c.args.step.now (Handle c.in-Handle.router) c.in-Handle.is (c.networks.ensures g.G.Guest.meaning c.args.fabric.now.live.header c.args.fabric.now.live.openings c.requires.driven.some c.requires.driven.one_each) c.requires.enabled).0

pub handle-requires-clause-ready : goal.handle-requires-clause-ready
handle-requires-clause-ready g c κs within = (may_here g.G.Guest.meaning c.args.fabric.now.live.header c.args.fabric.now.live.openings c.args.fabric.now.live.world c.args.step.now (Handle c.in-Handle.router) c.in-Handle.is (c.networks.ensures g.G.Guest.meaning c.args.fabric.now.live.header c.args.fabric.now.live.openings c.requires.driven.some c.requires.driven.one_each) c.requires.enabled).1

pub roll_back-requires-clause-inside : goal.roll_back-requires-clause-inside
roll_back-requires-clause-inside g c κs within = (may_here g.G.Guest.meaning c.args.fabric.now.live.header c.args.fabric.now.live.openings c.args.fabric.now.live.world c.args.step.now (RollBack c.in-RollBack.router) c.in-RollBack.is (c.networks.ensures g.G.Guest.meaning c.args.fabric.now.live.header c.args.fabric.now.live.openings c.requires.driven.some c.requires.driven.one_each) c.requires.enabled).0

pub roll_back-requires-clause-behind : goal.roll_back-requires-clause-behind
roll_back-requires-clause-behind g c κs within = (may_here g.G.Guest.meaning c.args.fabric.now.live.header c.args.fabric.now.live.openings c.args.fabric.now.live.world c.args.step.now (RollBack c.in-RollBack.router) c.in-RollBack.is (c.networks.ensures g.G.Guest.meaning c.args.fabric.now.live.header c.args.fabric.now.live.openings c.requires.driven.some c.requires.driven.one_each) c.requires.enabled).1

pub returns-in-Beacon-clause-driven : goal.returns-in-Beacon-clause-driven
returns-in-Beacon-clause-driven g c = driven_on g.G.Guest.meaning c.args.fabric.now c.beacon.new.self (Beacon) c.beacon.result c.requires.driven (c.networks.ensures g.G.Guest.meaning c.args.fabric.now.live.header c.args.fabric.now.live.openings c.requires.driven.some c.requires.driven.one_each) c.beacon.ensures.ok

pub returns-in-Beacon-clause-network : goal.returns-in-Beacon-clause-network
returns-in-Beacon-clause-network g c = network_on g.G.Guest.meaning c.args.fabric.now c.beacon.new.self (Beacon) c.beacon.result c.requires.driven (c.networks.ensures g.G.Guest.meaning c.args.fabric.now.live.header c.args.fabric.now.live.openings c.requires.driven.some c.requires.driven.one_each) c.beacon.ensures.ok (network_stopped c.args.fabric.now c.beacon.new.self c.beacon.result c.beacon.ensures.err)

pub returns-in-Close-clause-driven : goal.returns-in-Close-clause-driven
returns-in-Close-clause-driven g c = driven_on g.G.Guest.meaning c.args.fabric.now c.close.new.self (Close) c.close.result c.requires.driven (c.networks.ensures g.G.Guest.meaning c.args.fabric.now.live.header c.args.fabric.now.live.openings c.requires.driven.some c.requires.driven.one_each) c.close.ensures.ok

pub returns-in-Close-clause-network : goal.returns-in-Close-clause-network
returns-in-Close-clause-network g c = network_on g.G.Guest.meaning c.args.fabric.now c.close.new.self (Close) c.close.result c.requires.driven (c.networks.ensures g.G.Guest.meaning c.args.fabric.now.live.header c.args.fabric.now.live.openings c.requires.driven.some c.requires.driven.one_each) c.close.ensures.ok (network_stopped c.args.fabric.now c.close.new.self c.close.result c.close.ensures.err)

pub returns-in-Deliver-clause-driven : goal.returns-in-Deliver-clause-driven
returns-in-Deliver-clause-driven g c = driven_on g.G.Guest.meaning c.args.fabric.now c.deliver.new.self (Deliver c.in-Deliver.place) c.deliver.result c.requires.driven (c.networks.ensures g.G.Guest.meaning c.args.fabric.now.live.header c.args.fabric.now.live.openings c.requires.driven.some c.requires.driven.one_each) c.deliver.ensures.ok

pub returns-in-Deliver-clause-network : goal.returns-in-Deliver-clause-network
returns-in-Deliver-clause-network g c = network_on g.G.Guest.meaning c.args.fabric.now c.deliver.new.self (Deliver c.in-Deliver.place) c.deliver.result c.requires.driven (c.networks.ensures g.G.Guest.meaning c.args.fabric.now.live.header c.args.fabric.now.live.openings c.requires.driven.some c.requires.driven.one_each) c.deliver.ensures.ok (network_stopped c.args.fabric.now c.deliver.new.self c.deliver.result c.deliver.ensures.err)

pub returns-in-RollBack-clause-driven : goal.returns-in-RollBack-clause-driven
returns-in-RollBack-clause-driven g c = driven_on g.G.Guest.meaning c.args.fabric.now c.roll_back.new.self (RollBack c.in-RollBack.router) c.roll_back.result c.requires.driven (c.networks.ensures g.G.Guest.meaning c.args.fabric.now.live.header c.args.fabric.now.live.openings c.requires.driven.some c.requires.driven.one_each) c.roll_back.ensures.ok

pub returns-in-RollBack-clause-network : goal.returns-in-RollBack-clause-network
returns-in-RollBack-clause-network g c = network_on g.G.Guest.meaning c.args.fabric.now c.roll_back.new.self (RollBack c.in-RollBack.router) c.roll_back.result c.requires.driven (c.networks.ensures g.G.Guest.meaning c.args.fabric.now.live.header c.args.fabric.now.live.openings c.requires.driven.some c.requires.driven.one_each) c.roll_back.ensures.ok (network_stopped c.args.fabric.now c.roll_back.new.self c.roll_back.result c.roll_back.ensures.err)

pub returns-in-Handle-clause-driven : goal.returns-in-Handle-clause-driven
returns-in-Handle-clause-driven g c = driven_on g.G.Guest.meaning c.args.fabric.now c.handle.new.fabric (Handle c.in-Handle.router) c.handle.result c.requires.driven (c.networks.ensures g.G.Guest.meaning c.args.fabric.now.live.header c.args.fabric.now.live.openings c.requires.driven.some c.requires.driven.one_each) c.handle.ensures.ok

pub returns-in-Handle-clause-network : goal.returns-in-Handle-clause-network
returns-in-Handle-clause-network g c = network_on g.G.Guest.meaning c.args.fabric.now c.handle.new.fabric (Handle c.in-Handle.router) c.handle.result c.requires.driven (c.networks.ensures g.G.Guest.meaning c.args.fabric.now.live.header c.args.fabric.now.live.openings c.requires.driven.some c.requires.driven.one_each) c.handle.ensures.ok c.handle.ensures.err

pub returns-in-Commit-clause-driven : goal.returns-in-Commit-clause-driven
returns-in-Commit-clause-driven g c = driven_on g.G.Guest.meaning c.args.fabric.now c.commit.new.fabric (Commit) c.commit.result c.requires.driven (c.networks.ensures g.G.Guest.meaning c.args.fabric.now.live.header c.args.fabric.now.live.openings c.requires.driven.some c.requires.driven.one_each) c.commit.ensures.ok

pub returns-in-Commit-clause-network : goal.returns-in-Commit-clause-network
returns-in-Commit-clause-network g c = network_on g.G.Guest.meaning c.args.fabric.now c.commit.new.fabric (Commit) c.commit.result c.requires.driven (c.networks.ensures g.G.Guest.meaning c.args.fabric.now.live.header c.args.fabric.now.live.openings c.requires.driven.some c.requires.driven.one_each) c.commit.ensures.ok (network_stopped c.args.fabric.now c.commit.new.fabric c.commit.result c.commit.ensures.err)

pub returns-in_ok-copy-in-Inject-clause-driven : goal.returns-in_ok-copy-in-Inject-clause-driven
returns-in_ok-copy-in-Inject-clause-driven g c = driven_on g.G.Guest.meaning c.args.fabric.now c.inject.new.self (Inject (record { group = c.args.fabric.now.live.world.floor; router = c.in-Inject.external.router; input = c.in_ok-copy-in-Inject.field-0 })) c.inject.result c.requires.driven (c.networks.ensures g.G.Guest.meaning c.args.fabric.now.live.header c.args.fabric.now.live.openings c.requires.driven.some c.requires.driven.one_each) c.inject.ensures.ok

pub returns-in_ok-copy-in-Inject-clause-network : goal.returns-in_ok-copy-in-Inject-clause-network
returns-in_ok-copy-in-Inject-clause-network g c = network_on g.G.Guest.meaning c.args.fabric.now c.inject.new.self (Inject (record { group = c.args.fabric.now.live.world.floor; router = c.in-Inject.external.router; input = c.in_ok-copy-in-Inject.field-0 })) c.inject.result c.requires.driven (c.networks.ensures g.G.Guest.meaning c.args.fabric.now.live.header c.args.fabric.now.live.openings c.requires.driven.some c.requires.driven.one_each) c.inject.ensures.ok (network_stopped c.args.fabric.now c.inject.new.self c.inject.result c.inject.ensures.err)

pub returns-in_ok-copy-in-Inject-clause-ok : goal.returns-in_ok-copy-in-Inject-clause-ok
returns-in_ok-copy-in-Inject-clause-ok g c =
    λ net is.
    let may = may_here g.G.Guest.meaning c.args.fabric.now.live.header c.args.fabric.now.live.openings c.args.fabric.now.live.world c.args.step.now (Inject c.in-Inject.external) c.in-Inject.is (c.networks.ensures g.G.Guest.meaning c.args.fabric.now.live.header c.args.fabric.now.live.openings c.requires.driven.some c.requires.driven.one_each) c.requires.enabled in
    let x = c.in-Inject.external in
    let input : c.in_ok-copy-in-Inject.field-0 ≡ x.input = c.in_ok-copy-in-Inject.ensures in
    let same : Inject (record { group = c.args.fabric.now.live.world.floor; router = x.router; input = c.in_ok-copy-in-Inject.field-0 }) ≡ c.args.step.now =
    ap (λ n. Inject (record { group = n; router = x.router; input = c.in_ok-copy-in-Inject.field-0 })) (sym may.1)
    ∙ ap (λ (i : Input). Inject (record { group = x.group; router = x.router; input = i })) input
    ∙ sym c.in-Inject.is in
    subst (λ (s : Step). OnOk c.inject.result (HasStepped net c.args.fabric.now s c.inject.new.self)) same (c.inject.ensures.ok net is)
