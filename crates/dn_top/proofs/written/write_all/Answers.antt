use Rattle.std.proofs.Common.{Option, List, ℕ, ap, ◌∙◌}
use Rattle.dn_io.specs.Streams.{behind}
use Rattle.dn_top.specs.Promises.{written}
use Rattle.dn_top.proofs.written.write_all.Goals as goal

pub returns-in_err-ending-clause-front : goal.returns-in_err-ending-clause-front
returns-in_err-ending-clause-front g c = c.fronts.ensures.longer _ _ _ c.args.more.now c.write_both.ensures.front

pub returns-in_err-put_text-clause-front : goal.returns-in_err-put_text-clause-front
returns-in_err-put_text-clause-front g c = c.fronts.ensures.both _ _ _ (written c.args.case.now) _ c.in_ok-ending.ensures.whole c.put_text.ensures.front

pub returns-clause-front : goal.returns-clause-front
returns-clause-front g c = c.fronts.ensures.both _ _ _ (written c.args.case.now) _ c.in_ok-ending.ensures.whole c.put_text.ensures.front

pub returns-clause-whole : goal.returns-clause-whole
returns-clause-whole g c =
    c.in_ok-put_text.ensures.all
    ∙ ap (λ (told : Option (List ℕ)). behind told c.args.more.now) c.in_ok-ending.ensures.whole
    ∙ c.one_behind_the_other.ensures (g.K.Sink.holds c.args.sink.now) (written c.args.case.now) c.args.more.now
