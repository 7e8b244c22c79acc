use Rattle.std.proofs.Common.{◌≡◌, ◌<◌, List, ◌++◌, length, sym, ap, subst, arith}
use Rattle.std.specs.Prelude.{slice_index_or}
use Rattle.std.specs.List.{remove}
use Rattle.dn_guest.specs.declared.node.Sent.{Sent}
use Rattle.dn_model.specs.declared.event.Event.{Event}
use Rattle.dn_model.specs.Network.{emitted}
use Rattle.dn_lockstep.specs.Least.{IsUpTo}
use Rattle.dn_lockstep.proofs.Handling.{router_inside}
use Rattle.dn_plain.proofs.PlainSteps.{handled_plainly}
use Rattle.dn_plain.proofs.plain.handle_least.Goals as goal

pub returns : goal.returns
returns g c =
    let e = c.remove-event.result in
    let waiting = c.args.waiting.now.items in
    let at = c.place_of_least.result in
    let header = c.args.header.now in
    let seen : c.as_slice.result.now ≡ waiting = c.as_slice.ensures.value in
    let inside : at < length waiting = omega (arith, c.place_of_least.ensures.within, ap length seen) in
    let up_to : IsUpTo e waiting =
    subst (λ (x : Event). IsUpTo x waiting) (sym c.remove-event.ensures.value) (subst (λ (es : List Event). IsUpTo (slice_index_or es at e) es) seen (c.place_of_least.ensures.least e)) in
    let router = router_inside (length header.routers) waiting e at inside c.remove-event.ensures.value c.requires.inside in
    let within : c.from.result < length c.args.nodes.now = omega (arith, router, c.from.ensures, c.requires.one_each) in
    let sent : c.as_slice-2.result.now ≡ c.in_ok-sent.sent.items = c.as_slice-2.ensures.value in
    let more : c.in_ok-more.more.items ≡ emitted header e c.in_ok-sent.sent.items = subst (λ (s : List Sent). c.in_ok-more.more.items ≡ emitted header e s) sent c.in_ok-more.ensures in
    let done : c.append.new.self.items ≡ remove waiting at ++ emitted header e c.in_ok-sent.sent.items =
    subst (λ (es : List Event). c.append.new.self.items ≡ remove waiting at ++ es) more
    (subst (λ (es : List Event). c.append.new.self.items ≡ es ++ c.in_ok-more.more.items) c.remove-event.ensures.items c.in_ok-append.ensures.items) in
    handled_plainly g.G.Guest.meaning header c.args.nodes.now waiting c.append.new.self.items e at c.from.result c.index-nodes-from.result c.take.new.self c.in_ok-sent.sent.items inside c.remove-event.ensures.value up_to c.from.ensures within c.index-nodes-from.is c.in_ok-sent.ensures.state c.in_ok-sent.ensures.sent done
