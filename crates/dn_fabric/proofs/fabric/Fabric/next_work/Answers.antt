use Rattle.std.proofs.Common.{◌<◌, ◌≤◌, refl, sym, ap, ◌∙◌, subst}
use Rattle.dn_fabric.specs.declared.asking.Asked.TheVariants as asked
use Rattle.dn_fabric.specs.declared.work.Work.TheVariants.{Deliver}
use Rattle.dn_fabric.specs.Rosters.{asked_by}
use Rattle.dn_fabric.proofs.Conditions.{known_of, has_work, only_work}
use Rattle.dn_fabric.proofs.Taken.{fab}
use Rattle.dn_fabric.proofs.Working.{to_deliver, to_answer}
use Rattle.dn_fabric.proofs.fabric.Fabric.next_work.Goals as goal

pub returns-then-flying-gt0 : goal.returns-then-flying-gt0
returns-then-flying-gt0 g c =
    let some = subst (λ n. 0 < n) c.flying.ensures c.if-flying-gt0.true in
    record { work = to_deliver c.args.self.now some; has = (refl, some); only = only_work c.args.self.now (Deliver 0) (refl, some) }

pub returns-in-RollBack : goal.returns-in-RollBack
returns-in-RollBack g c =
    let f = c.args.self.now in
    let none = subst (λ n. n ≤ 0) c.flying.ensures c.if-flying-gt0.false in
    let known = known_of g.G.Guest.meaning c.reached_fabrics.ensures.ahead (λ a b p q. c.horizon.ensures.only a b p q) (fab c.self.inside.world c.self.inside.journal.items c.self.inside.leased.items) f c.self.view_is c.self.invariant c.asked.ensures.count in
    let leased = c.as_slice.ensures.value ∙ ap (λ b. b.leased) c.self.view_is in
    let is = to_answer f none (asked.RollBack c.in-RollBack.router) (sym c.in-RollBack.is ∙ c.asked.ensures.asked ∙ (λ i. asked_by (c.self.view_is i).live.world.parts (leased i))) in
    let has = has_work f known _ is in
    record { work = is; has = has; only = only_work f _ has }

pub returns-in-Handle : goal.returns-in-Handle
returns-in-Handle g c =
    let f = c.args.self.now in
    let none = subst (λ n. n ≤ 0) c.flying.ensures c.if-flying-gt0.false in
    let known = known_of g.G.Guest.meaning c.reached_fabrics.ensures.ahead (λ a b p q. c.horizon.ensures.only a b p q) (fab c.self.inside.world c.self.inside.journal.items c.self.inside.leased.items) f c.self.view_is c.self.invariant c.asked.ensures.count in
    let leased = c.as_slice.ensures.value ∙ ap (λ b. b.leased) c.self.view_is in
    let is = to_answer f none (asked.Handle c.in-Handle.router) (sym c.in-Handle.is ∙ c.asked.ensures.asked ∙ (λ i. asked_by (c.self.view_is i).live.world.parts (leased i))) in
    let has = has_work f known _ is in
    record { work = is; has = has; only = only_work f _ has }

pub returns-in-Nothing : goal.returns-in-Nothing
returns-in-Nothing g c =
    let f = c.args.self.now in
    let none = subst (λ n. n ≤ 0) c.flying.ensures c.if-flying-gt0.false in
    let known = known_of g.G.Guest.meaning c.reached_fabrics.ensures.ahead (λ a b p q. c.horizon.ensures.only a b p q) (fab c.self.inside.world c.self.inside.journal.items c.self.inside.leased.items) f c.self.view_is c.self.invariant c.asked.ensures.count in
    let leased = c.as_slice.ensures.value ∙ ap (λ b. b.leased) c.self.view_is in
    let is = c.committing.ensures ∙ to_answer f none asked.Nothing (sym c.in-Nothing.is ∙ c.asked.ensures.asked ∙ (λ i. asked_by (c.self.view_is i).live.world.parts (leased i))) in
    let has = has_work f known _ is in
    record { work = is; has = has; only = only_work f _ has }
