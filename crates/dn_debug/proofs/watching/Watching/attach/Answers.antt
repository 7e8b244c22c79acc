use Rattle.std.proofs.Common.{◌≡◌, List, [], ◌∷◌, ◌++◌, get_or, ap, sym, ◌∙◌, refl, arith, length, map}
use Rattle.std.specs.List.{remove}
use Rattle.dn_debug.specs.Watching.{Kept, place_of}
use Rattle.dn_debug.proofs.Watchers.{none_attached, one_attached}
use Rattle.dn_debug.proofs.watching.Watching.attach.Goals as goal

pub returns-in_default : goal.returns-in_default
returns-in_default g c =
    let same : c.as_slice.result.now ≡ c.args.self.now.there = c.as_slice.ensures.value ∙ ap (λ (k : Kept g.row.P.Denot). k.there) c.self.view_is in
    (none_attached g.P.Probe.watcher c.args.header.now c.args.name.now c.args.self.now (sym c.in_default.is ∙ (c.place_of.ensures.place ∙ ap (λ (xs : List g.row.P.Denot). place_of c.args.name.now (map g.P.Probe.watcher xs)) same)), refl)

pub returns : goal.returns
returns g c =
    let W = g.P.Probe.watcher in
    let there : c.self.inside.there.items ≡ c.args.self.now.there = ap (λ (k : Kept g.row.P.Denot). k.there) c.self.view_is in
    let attached : c.self.inside.attached.items ≡ c.args.self.now.attached = ap (λ (k : Kept g.row.P.Denot). k.attached) c.self.view_is in
    let same : c.as_slice.result.now ≡ c.args.self.now.there = c.as_slice.ensures.value ∙ there in
    one_attached W c.args.header.now c.args.name.now c.args.self.now c.in-Some.place c.remove-probe.result c.begin.new.self c.push.new.self.items c.remove-probe.new.self.items
    (sym c.in-Some.is ∙ (c.place_of.ensures.place ∙ ap (λ (xs : List g.row.P.Denot). place_of c.args.name.now (map W xs)) same))
    (omega (arith, c.in-Some.ensures.within, ap length same))
    (c.remove-probe.ensures.value ∙ ap (λ (xs : List g.row.P.Denot). get_or xs c.in-Some.place c.remove-probe.result) there)
    c.in_ok-begin.ensures.ok
    (c.in_ok-push.ensures.items ∙ ap (λ (xs : List g.row.P.Denot). xs ++ c.begin.new.self ∷ []) attached)
    (c.remove-probe.ensures.items ∙ ap (λ (xs : List g.row.P.Denot). remove xs c.in-Some.place) there)
