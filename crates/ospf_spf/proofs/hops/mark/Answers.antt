use Rattle.std.proofs.Common.{ℕ, take, List, [], ◌∷◌, ◌++◌, get_or, sym, subst}
use Rattle.std.specs.BTreeSet.{BTreeSet}
use Rattle.std.proofs.lemmas.List.{take_more, take_all}
use Rattle.ospf_wire.specs.declared.router_lsa.RouterLink.{RouterLink}
use Rattle.ospf_spf.specs.Hops.{IsMarked}
use Rattle.ospf_spf.proofs.Hopping.{marked_skip, marked_more}
use Rattle.std.proofs.lemmas.Bool.{both_ways}
use Rattle.ospf_spf.proofs.hops.mark.Goals as goal
use Rattle.ospf_spf.proofs.hops.mark.Goals.{then-leads+in_ok-insert, else-leads}

pub loop-link-preserved : goal.loop-link-preserved
loop-link-preserved c =
    let d : RouterLink = record { id = 0; «data» = 0; kind = 0; metric = 0 } in
    let ls = c.args.links.now in
    let i = c.loop-link.link-index in
    let l = get_or ls i d in
    subst (λ (ms : List RouterLink). IsMarked c.args.from ms c.args.ways.now c.if-leads.ways) (sym (take_more ls i d c.loop-link-test.true))
    (elim c.if-leads.branch [
      | then-leads+in_ok-insert w ↦
          subst (λ (t : BTreeSet (ℕ × ℕ)). IsMarked c.args.from (take i ls ++ l ∷ []) c.args.ways.now t) (sym w.ways-is)
          (marked_more c.args.from (take i ls) l c.args.ways.now c.loop-link.ways w.insert.new.self c.loop-link.invariant (c.leads.ensures.0 w.if-leads.true) w.in_ok-insert.ensures.updates)
      | else-leads w ↦
          subst (λ (t : BTreeSet (ℕ × ℕ)). IsMarked c.args.from (take i ls ++ l ∷ []) c.args.ways.now t) (sym w.ways-is)
          (marked_skip c.args.from (take i ls) l c.args.ways.now c.loop-link.ways c.loop-link.invariant (λ y. both_ways c.leads.result w.if-leads.false (c.leads.ensures.1 y)))
    ])

pub returns : goal.returns
returns c = subst (λ (ls : List RouterLink). IsMarked c.args.from ls c.args.ways.now c.loop-link.ways) (take_all c.loop-link.link-index c.args.links.now c.loop-link-test.false) c.loop-link.invariant
