use Rattle.std.proofs.Common.{◌≡◌, sym, ap, ◌∙◌, subst}
use Rattle.dn_fabric.specs.Fabrics.{Fabric}
use Rattle.dn_workers.specs.Holds.{HasGoneOn}
use Rattle.dn_workers.proofs.Going.{gone_further}
use Rattle.dn_workers.proofs.holding.go_on.Goals as goal
use Rattle.dn_workers.proofs.holding.go_on.Goals.{then-commits+in_ok-commit_ahead, else-commits}

pub loop-init : goal.loop-init
loop-init g c =
    elim c.if-commits.branch [
      | then-commits+in_ok-commit_ahead w ↦ record {
        gone_on = subst (λ (f : Fabric g.row.G.Denot). HasGoneOn c.args.fabric.now f) (sym w.fabric-is) (gone_further c.args.fabric.now c.bring_back.new.fabric w.commit_ahead.new.fabric c.in_ok-bring_back.ensures.gone_on w.in_ok-commit_ahead.ensures.gone_on);
        running = ap (λ (f : Fabric g.row.G.Denot). f.live.stopped) w.fabric-is ∙ w.in_ok-commit_ahead.ensures.running;
      }
      | else-commits w ↦ record {
        gone_on = subst (λ (f : Fabric g.row.G.Denot). HasGoneOn c.args.fabric.now f) (sym w.fabric-is) c.in_ok-bring_back.ensures.gone_on;
        running = ap (λ (f : Fabric g.row.G.Denot). f.live.stopped) w.fabric-is ∙ c.in_ok-bring_back.ensures.running;
      }
    ]
