use Rattle.std.proofs.Common.{◌<◌, length}
use Rattle.dn_plain.proofs.PlainSteps.{IsUpToFirst}
use Rattle.dn_plain.proofs.plain.place_of_least.Given as goal

abbrev pub invariant-loop-place : goal.invariant-loop-place
invariant-loop-place l = record {
  within : l.least < length l.events;
  up_to : IsUpToFirst l.events l.place l.least;
}
