use Rattle.std.proofs.Common.{◌≡◌, ap, sym, ◌∙◌}
use Rattle.ospf_lsdb.specs.declared.kept.Kept.{Kept}
use Rattle.ospf_lsdb.specs.Keys.{key_of}
use Rattle.ospf_lsdb.proofs.DatabaseLaws.{named-with}
use Rattle.ospf_lsdb.proofs.lsdb.Lsdb.install.Goals as goal

pub invariant_of-self-2 : goal.invariant_of-self-2
invariant_of-self-2 c =
    let named : c.key_of-key.result ≡ key_of c.new.result.lsa.head = c.key_of-key.ensures ∙ ap (λ (k : Kept). key_of k.lsa.head) (sym c.new.ensures) in
    rw c.in_ok-insert.ensures.entries (named-with c.self.inside.kept.entries c.key_of-key.result c.new.result named c.self.invariant)
