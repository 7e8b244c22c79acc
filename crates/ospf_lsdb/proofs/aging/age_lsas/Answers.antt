use Rattle.std.proofs.Common.{rules, cond}
use Rattle.std.proofs.lemmas.Map.Made.{map_same_pairs}
use Rattle.ospf_lsdb.specs.Kept.{reaches_max_age, with_max_age}
use Rattle.ospf_lsdb.proofs.aging.age_lsas.Goals as goal

pub returns : goal.returns
returns c = map_same_pairs _ (λ v. cond (reaches_max_age c.args.now v) (with_max_age c.args.now v) v) _ (λ k v b w f' t. search rules) _ _ c.retain.ensures.filtered
