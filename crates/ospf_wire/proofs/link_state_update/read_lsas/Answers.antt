use Rattle.std.proofs.Common.{◌≡◌, ℕ, [], ◌∷◌, ◌++◌, drop, Some, None, sym, ap, ◌∙◌, rules}
use Rattle.ospf_wire.specs.Reading.{lsa_at, lsas_at}
use Rattle.ospf_wire.proofs.LsaLaws.{lsas_more, lsas_none}
use Rattle.ospf_wire.proofs.link_state_update.read_lsas.Goals as goal

pub loop-place-preserved : goal.loop-place-preserved
loop-place-preserved c =
    let l = c.in-Some.lsa in
    let front = c.loop-place.lsas.items in
    let rest = c.loop-place.rest.now in
    let total = lsas_at c.args.count c.args.bytes.now in
    let items : c.push.new.self.items ≡ front ++ l ∷ [] = c.in_ok-push.ensures.items in
    let found : Some l ≡ lsa_at rest = sym c.in-Some.is ∙ c.in_ok-lsa.ensures.found in
    let after : c.bytes_from-rest.result.now ≡ drop l.head.length rest = c.bytes_from-rest.ensures ∙ ap (λ (n : ℕ). drop n rest) c.from.ensures in
    rw (items, after) (lsas_more front c.args.count c.loop-place.place rest l total c.loop-place-test.true found c.loop-place.invariant)

pub returns-in_default : goal.returns-in_default
returns-in_default c =
    let rest = c.loop-place.rest.now in
    let missing : None ≡ lsa_at rest = sym c.in_default.is ∙ c.in_ok-lsa.ensures.found in
    lsas_none c.loop-place.lsas.items c.args.count c.loop-place.place rest (lsas_at c.args.count c.args.bytes.now) c.loop-place-test.true missing c.loop-place.invariant

pub returns : goal.returns
unfolding lsas_at
returns c = search rules
