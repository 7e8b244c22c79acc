use Rattle.std.proofs.Common.{◌≡◌, List, get_or, ap, sym, ◌∙◌, refl, arith, length, map}
use Rattle.std.specs.List.{remove}
use Rattle.dn_probe.specs.Meaning.{report_of}
use Rattle.dn_debug.specs.Watching.{Kept, Dropped, watched, place_of}
use Rattle.dn_debug.proofs.Watchers.{none_dropped, one_dropped}
use Rattle.dn_debug.proofs.watching.Watching.unwatch.Goals as goal

pub returns-in_default : goal.returns-in_default
returns-in_default g c =
    let same : c.as_slice.result.now ≡ c.args.self.now.attached = c.as_slice.ensures.value ∙ ap (λ (k : Kept g.row.P.Denot). k.attached) c.self.view_is in
    (none_dropped g.P.Probe.watcher c.args.name.now c.args.self.now (sym c.in_default.is ∙ (c.place_of.ensures.place ∙ ap (λ (xs : List g.row.P.Denot). place_of c.args.name.now (map g.P.Probe.watcher xs)) same)), refl, refl)

pub returns : goal.returns
returns g c =
    let W = g.P.Probe.watcher in
    let there : c.self.inside.there.items ≡ c.args.self.now.there = ap (λ (k : Kept g.row.P.Denot). k.there) c.self.view_is in
    let attached : c.self.inside.attached.items ≡ c.args.self.now.attached = ap (λ (k : Kept g.row.P.Denot). k.attached) c.self.view_is in
    let same : c.as_slice.result.now ≡ c.args.self.now.attached = c.as_slice.ensures.value ∙ attached in
    let left : Kept g.row.P.Denot = record { attached = c.remove-probe.new.self.items; there = c.self.inside.there.items } in
    let dropped : Dropped = record { report = report_of (W c.remove-probe.result); left = watched W left } in (
      dropped,
      one_dropped W c.args.name.now c.args.self.now c.in-Some.place c.remove-probe.result c.remove-probe.new.self.items c.self.inside.there.items
          (sym c.in-Some.is ∙ (c.place_of.ensures.place ∙ ap (λ (xs : List g.row.P.Denot). place_of c.args.name.now (map W xs)) same))
          (omega (arith, c.in-Some.ensures.within, ap length same))
          (c.remove-probe.ensures.value ∙ ap (λ (xs : List g.row.P.Denot). get_or xs c.in-Some.place c.remove-probe.result) attached)
          (c.remove-probe.ensures.items ∙ ap (λ (xs : List g.row.P.Denot). remove xs c.in-Some.place) attached)
          there,
      refl,
      c.in_ok-report.ensures.ok,
    )
