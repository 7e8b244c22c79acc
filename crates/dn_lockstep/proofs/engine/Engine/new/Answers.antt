use Rattle.std.proofs.Common.{◌≡◌, false, None, List, [], ◌++◌, length, refl, sym, ap, ◌∙◌, subst, arith}
use Rattle.std.specs.List.Sorted.{IsPermutation}
use Rattle.dn_model.specs.declared.feed.External.{External}
use Rattle.dn_model.specs.Cases.{Heading, Recording, IsHeading}
use Rattle.dn_model.specs.Network.{externals}
use Rattle.dn_model.specs.SoFar.{all_injected}
use Rattle.dn_lockstep.specs.Agendas.{waiting_in, later_ticks}
use Rattle.dn_lockstep.specs.Running.{StandsIn}
use Rattle.dn_lockstep.specs.Steps.{AreInside}
use Rattle.dn_lockstep.proofs.Start.{Begins, inside_at_start, stands_at_start, opening_count}
use Rattle.dn_lockstep.proofs.engine.Engine.new.Goals as goal

pub invariant_of-result : goal.invariant_of-result
invariant_of-result g c =
    let header : c.in_ok-header.header ≡ c.case.inside.header = c.in_ok-header.ensures in
    let feed : c.as_slice.result.now ≡ c.case.inside.feed = c.as_slice.ensures in
    let count : length c.in_ok-nodes.nodes.items ≡ length c.args.guests.items = ap length c.in_ok-nodes.ensures ∙ opening_count c.in_ok-header.header.links 0 c.args.guests.items in
    let guests : length c.args.guests.items ≡ length c.in_ok-header.header.routers = c.requires ∙ ap (λ (r : Recording). length r.header.routers) (sym c.case.view_is) ∙ ap (λ (h : Heading). length h.routers) (sym header) in
    let whole : IsPermutation (externals 0 c.case.inside.feed ++ later_ticks 0 c.case.inside.header.groups (length c.case.inside.header.routers)) (waiting_in c.in_ok-agenda.agenda) =
    subst (λ (h : Heading). IsPermutation (externals 0 c.case.inside.feed ++ later_ticks 0 h.groups (length h.routers)) (waiting_in c.in_ok-agenda.agenda)) header
    (subst (λ (xs : List External). IsPermutation (externals 0 xs ++ later_ticks 0 c.in_ok-header.header.groups (length c.in_ok-header.header.routers)) (waiting_in c.in_ok-agenda.agenda)) feed c.in_ok-agenda.ensures.all) in
    record {
      rules = subst IsHeading (sym header) c.case.invariant.header;
      wired = c.in_ok-wiring.ensures;
      one_each = count ∙ guests;
      within = omega arith;
      last_at = (λ none. refl, λ start. refl);
      inside = λ unspent.
          subst (λ (h : Heading). AreInside (length h.routers) (waiting_in c.in_ok-agenda.agenda)) (sym header)
          (inside_at_start (record { header = c.case.inside.header; feed = c.case.inside.feed }) c.case.invariant (waiting_in c.in_ok-agenda.agenda) whole);
      fronted = λ unspent. c.in_ok-agenda.ensures.fronted;
    }

pub returns-clause-stands : goal.returns-clause-stands
returns-clause-stands g c =
    λ net same are openings.
    let case : Recording = record { header = c.case.inside.header; feed = c.case.inside.feed } in
    let header : c.in_ok-header.header ≡ c.case.inside.header = c.in_ok-header.ensures in
    let feed : c.as_slice.result.now ≡ c.case.inside.feed = c.as_slice.ensures in
    let waits : IsPermutation (externals 0 c.case.inside.feed ++ later_ticks 0 c.in_ok-header.header.groups (length c.in_ok-header.header.routers)) (waiting_in c.in_ok-agenda.agenda) =
    subst (λ (xs : List External). IsPermutation (externals 0 xs ++ later_ticks 0 c.in_ok-header.header.groups (length c.in_ok-header.header.routers)) (waiting_in c.in_ok-agenda.agenda)) feed c.in_ok-agenda.ensures.all in
    let same_header : net.header ≡ case.header = same ∙ ap (λ (r : Recording). r.header) (sym c.case.view_is) in
    let begins : Begins net case.feed =
    record {
      timed = c.cases_are_timed.ensures.timed net case c.case.invariant same_header;
      wired = c.cases_are_timed.ensures.wired net case c.case.invariant same_header;
      fed = c.cases_are_timed.ensures.fed net case c.case.invariant same_header;
      first = λ waiting moves. c.rows_one_by_one.ensures.in_any_order net case.feed [] (all_injected net case.feed) waiting (c.rows_one_by_one.ensures.first net case.feed) moves;
    } in
    subst (λ (r : Recording). StandsIn net r.feed (record { header = c.in_ok-header.header; nodes = c.in_ok-nodes.nodes.items; waiting = waiting_in c.in_ok-agenda.agenda; place = 0; last = None; spent = false })) c.case.view_is
    (stands_at_start (λ x y h. c.order_of_events.ensures.apart x y h) (λ n es inside. c.lists_of_routers.ensures.by_router n es inside) net case begins c.case.invariant same_header c.args.guests.items openings c.in_ok-header.header header c.in_ok-nodes.nodes.items c.in_ok-nodes.ensures (waiting_in c.in_ok-agenda.agenda) waits)
