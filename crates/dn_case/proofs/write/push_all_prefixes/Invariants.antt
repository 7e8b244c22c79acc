use Rattle.std.proofs.Common.{◌≡◌, ◌++◌, take}
use Rattle.std.specs.List.{flat_map}
use Rattle.dn_guest.specs.KeepsFront.{KeepsFront}
use Rattle.dn_case.specs.Spelling.{prefixes_text}
use Rattle.dn_case.proofs.write.push_all_prefixes.Given as goal

abbrev pub invariant-loop-router : goal.invariant-loop-router
invariant-loop-router l = record {
  text : l.out ≡ l.fn.out ++ flat_map prefixes_text (take l.router-index l.routers);
  kept : KeepsFront l.fn.out l.out;
}
