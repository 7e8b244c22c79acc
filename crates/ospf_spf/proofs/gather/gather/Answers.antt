use Rattle.std.proofs.Common.{List, sym, subst}
use Rattle.std.specs.Global.{Vec}
use Rattle.std.proofs.lemmas.Result.{IfOk-weaker}
use Rattle.ospf_spf.specs.declared.route.Route.{Route}
use Rattle.ospf_spf.specs.Offers.{AreGathered}
use Rattle.ospf_spf.proofs.Gathering.{gathered}
use Rattle.ospf_spf.proofs.gather.gather.Goals as goal

pub returns : goal.returns
returns c =
    let os = c.args.offers.now in
    let all = gathered os c.in_ok-best.best c.in_ok-best.ensures.best c.in_ok-best.ensures.ordered in
    IfOk-weaker c.listed.result _ (λ (v : Vec Route). AreGathered os v.items) (λ v e. subst (λ (rs : List Route). AreGathered os rs) (sym e) all) c.listed.ensures
