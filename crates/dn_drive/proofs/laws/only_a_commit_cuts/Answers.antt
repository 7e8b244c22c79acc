use Rattle.dn_drive.proofs.Cutting.{only_commit_cuts}
use Rattle.dn_drive.proofs.laws.only_a_commit_cuts.Goals as goal

pub returns : goal.returns
returns g c = λ net w s h b p un cu. only_commit_cuts net (λ w s h b p e. c.growth.ensures.stay net w s h b p e) w s h b p un cu
