use Rattle.std.proofs.Common.{◌≡◌, ◌++◌, take}
use Rattle.std.specs.List.{flat_map}
use Rattle.dn_guest.specs.KeepsFront.{KeepsFront}
use Rattle.dn_case.specs.Spelling.{spelled, prefix_line}
use Rattle.dn_case.proofs.write.push_prefixes.Given as goal

abbrev pub invariant-loop-prefix : goal.invariant-loop-prefix
invariant-loop-prefix l = record {
  text : l.out ≡ l.fn.out ++ flat_map (λ p. spelled (prefix_line l.router.name p)) (take l.prefix-index l.router.prefixes);
  kept : KeepsFront l.fn.out l.out;
}
