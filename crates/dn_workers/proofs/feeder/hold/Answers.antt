use Rattle.std.proofs.Common.{◌≡◌, ◌⊎◌, true, false, Bool, List, rules, sym, ap, ◌∙◌, subst, inl, inr}
use Rattle.dn_model.specs.declared.feed.External.{External}
use Rattle.dn_world.specs.Logs.{is_stopped}
use Rattle.dn_fabric.specs.Fabrics.{log_in}
use Rattle.dn_record.specs.declared.feeder.Fed.TheVariants.{Closed}
use Rattle.dn_workers.specs.declared.feeding.Round.TheVariants.{GoesOn, Over}
use Rattle.dn_workers.specs.Feed.{IsFedWith, IsFedUpTo, IsDue, EndsWithClose}
use Rattle.dn_workers.proofs.Feeds.{if_ok, grown_self, may_put_grown, put_back, due_here, fed_idle}
use Rattle.dn_workers.proofs.feeder.hold.Goals as goal

pub put-requires-clause-value : goal.put-requires-clause-value
put-requires-clause-value g c κs within = may_put_grown c.args.seat.now c.args.fabric c.args.fabric c.requires.taken c.requires.feeds (grown_self c.args.fabric)

pub returns-then-stopped-clause-put_back : goal.returns-then-stopped-clause-put_back
returns-then-stopped-clause-put_back g c = put_back c.args.seat.now c.put.new.seat c.args.fabric c.args.fabric c.requires.taken (grown_self c.args.fabric) c.put.ensures.put

pub returns-then-stopped-clause-fed : goal.returns-then-stopped-clause-fed
returns-then-stopped-clause-fed g c =
    let f = c.args.fabric in
    let stopped : is_stopped (log_in f) ≡ true = c.logs.ensures.stopped f.journal f.live.stopped ∙ (search rules) in
    λ given closed due. subst (λ s. IsFedWith given closed s.seen) (sym c.put.ensures.put)
    (fed_idle f.live.header (log_in f) c.args.fed given closed stopped (due_here c.args.seat.now f c.args.fed given closed c.requires.taken c.requires.feeds due))

pub returns-then-stopped-clause-more : goal.returns-then-stopped-clause-more
returns-then-stopped-clause-more g c = λ is. absurd (cc is)

pub returns-then-stopped-clause-over : goal.returns-then-stopped-clause-over
returns-then-stopped-clause-over g c =
    let f = c.args.fabric in
    let stopped : is_stopped (log_in f) ≡ true = c.logs.ensures.stopped f.journal f.live.stopped ∙ (search rules) in
    λ _. inl (ap (λ s. is_stopped s.seen) c.put.ensures.put ∙ stopped)

pub pass_on-passed-requires-clause-due : goal.pass_on-passed-requires-clause-due
pass_on-passed-requires-clause-due g c κs within =
    let due = c.requires.due in (due.0, due.1, due_here c.args.seat.now c.args.fabric c.args.fed due.0 due.1 c.requires.taken c.requires.feeds due.2)

pub put-requires-2-clause-value : goal.put-requires-2-clause-value
put-requires-2-clause-value g c κs within = may_put_grown c.args.seat.now c.args.fabric c.pass_on-passed.new.fabric c.requires.taken c.requires.feeds c.pass_on-passed.ensures.grown

pub returns-clause-put_back : goal.returns-clause-put_back
returns-clause-put_back g c = put_back c.args.seat.now c.put-2.new.seat c.args.fabric c.pass_on-passed.new.fabric c.requires.taken c.pass_on-passed.ensures.grown c.put-2.ensures.put

pub returns-clause-fed : goal.returns-clause-fed
returns-clause-fed g c =
    λ given closed due. subst (λ s. IsFedWith given closed s.seen) (sym c.put-2.ensures.put)
    (c.pass_on-passed.ensures.fed given closed (due_here c.args.seat.now c.args.fabric c.args.fed given closed c.requires.taken c.requires.feeds due))

pub returns-clause-more : goal.returns-clause-more
returns-clause-more g c =
    let v = c.args.seat.now in let f = c.args.fabric in
    if_ok
    (λ round. round ≡ GoesOn → (given : List External) (closed : Bool) → IsDue f.live.header (log_in f) c.args.fed given closed → (closed ≡ false) × IsFedUpTo given (log_in c.pass_on-passed.new.fabric))
    (λ round. round ≡ GoesOn → (given : List External) (closed : Bool) → IsDue v.header v.seen c.args.fed given closed → (closed ≡ false) × IsFedUpTo given c.put-2.new.seat.seen)
    c.pass_on-passed.result
    (λ round h is given closed due. subst (λ s. (closed ≡ false) × IsFedUpTo given s.seen) (sym c.put-2.ensures.put) (h is given closed (due_here v f c.args.fed given closed c.requires.taken c.requires.feeds due)))
    c.pass_on-passed.ensures.more

pub returns-clause-over : goal.returns-clause-over
returns-clause-over g c =
    if_ok
    (λ round. round ≡ Over → (c.args.fed ≡ Closed) × EndsWithClose (log_in c.pass_on-passed.new.fabric))
    (λ round. round ≡ Over → (is_stopped c.put-2.new.seat.seen ≡ true) ⊎ ((c.args.fed ≡ Closed) × EndsWithClose c.put-2.new.seat.seen))
    c.pass_on-passed.result
    (λ round h is. inr (subst (λ s. (c.args.fed ≡ Closed) × EndsWithClose s.seen) (sym c.put-2.ensures.put) (h is)))
    c.pass_on-passed.ensures.over
