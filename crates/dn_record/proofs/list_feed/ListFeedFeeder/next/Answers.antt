use Rattle.std.proofs.Common.{◌≡◌, ◌+◌, ◌<◌, ◌∷◌, [], ◌++◌, length, false, get_or, ap, sym, subst, ◌∙◌}
use Rattle.dn_model.specs.Cases.{IsExternal}
use Rattle.dn_model.specs.declared.feed.External.{External}
use Rattle.dn_record.specs.Feeding.{ListFeeding, given_of, last_group}
use Rattle.dn_record.proofs.Lists.{each_external, take_more}
use Rattle.dn_record.proofs.list_feed.ListFeedFeeder.next.Goals as goal

pub returns-clause-ok : goal.returns-clause-ok
returns-clause-ok c =
    let f = c.self.inside in
    let x : External = record { group = c.in-Some.external.now.group; router = c.in-Some.external.now.router; input = c.in_ok-input.input } in
    let copied : c.in-Some.external.now ≡ x = λ i. record { group = c.in-Some.external.now.group; router = c.in-Some.external.now.router; input = sym c.in_ok-input.ensures i } in
    let list : c.as_slice.result.now ≡ f.feed = c.as_slice.ensures in
    let within : f.place < length f.feed = subst (λ l. f.place < length l) list c.in-Some.ensures.lookup.3.0 in
    let there : x ≡ get_or f.feed f.place x = sym copied ∙ (c.in-Some.ensures.lookup.3.1 x ∙ ap (λ l. get_or l f.place x) list) in
    let after : ListFeeding = record { header = f.header; feed = f.feed; place = f.place + 1; closed = f.closed } in
    subst (λ (v : ListFeeding). (given_of after ≡ given_of v ++ x ∷ []) × (f.closed ≡ false) × IsExternal v.header (last_group 0 (given_of v)) x) c.self.view_is
    (take_more f.feed f.place x within there, ap (λ (v : ListFeeding). v.closed) c.self.view_is ∙ c.requires.open, each_external f.header 0 f.feed f.place x c.self.invariant.case.feed within there)
