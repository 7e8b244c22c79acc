-- Where the steps of a journal stop.
use Rattle.std.specs.Prelude.{◌≡◌, ◌⊎◌, ℕ, suc, true, false, List, ◌∷◌, ◌++◌, length}
use Rattle.dn_model.specs.declared.feed.External.{External}
use Rattle.dn_model.specs.Network.{Network, routers}
use Rattle.dn_world.specs.declared.step.Step.{Step}
use Rattle.dn_world.specs.World.{opening, is_quiet}
use Rattle.dn_world.specs.Runs.{IsLegalOf, injects, is_cut_off, world}
use Rattle.dn_fabric.specs.Work.{can_commit}
use Rattle.dn_drive.specs.Allowed.{is_allowed, legal_front}

module _ {S : Type 0} (net : Network S) (feed : List External) (steps : List Step) where
  -- the step of the number n, from 1, isn't allowed in the world that those before it reach, with what they leave of the feed. Those before it are taken: they are a legal run of the case, and the world isn't cut
  pub record StopsAt (n : ℕ) : Type 0 where
    pub before : List Step
    pub refused : Step
    pub behind : List Step
    pub whole : before ++ refused ∷ behind ≡ steps
    pub number : n ≡ suc (length before)
    pub taken : legal_front net (opening (routers net)) feed steps ≡ before
    pub legal : IsLegalOf net feed before
    pub rest : List External
    pub fed : injects before ++ rest ≡ feed
    pub not_allowed : is_allowed net (world net before) rest refused ≡ false
    pub uncut : is_cut_off net (world net before) ≡ false

  -- all steps are taken: they are a legal run of the case. The world that they reach isn't cut, and it isn't quiet (it isn't closed, or something waits or flies in it) or has its horizon above its boundary
  pub record StaysOpen : Type 0 where
    pub taken : legal_front net (opening (routers net)) feed steps ≡ steps
    pub legal : IsLegalOf net feed steps
    pub uncut : is_cut_off net (world net steps) ≡ false
    pub left : (is_quiet (world net steps) ≡ false) ⊎ (can_commit net.header (world net steps) ≡ true)
