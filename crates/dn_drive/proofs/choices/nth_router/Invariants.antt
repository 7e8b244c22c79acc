use Rattle.std.proofs.Common.{◌≡◌, drop}
use Rattle.std.specs.Prelude.{slice_get}
use Rattle.dn_drive.specs.Choices.{passing}
use Rattle.dn_drive.specs.Counting.{test_of}
use Rattle.dn_drive.proofs.choices.nth_router.Given as goal

abbrev pub invariant-loop-router : goal.invariant-loop-router
invariant-loop-router g l =
    slice_get (passing (test_of l.fn.wanted) l.router (drop l.router l.fn.fabric.live.world.parts)) l.left
    ≡ slice_get (passing (test_of l.fn.wanted) 0 l.fn.fabric.live.world.parts) l.fn.place
