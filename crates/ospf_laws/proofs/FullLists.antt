-- The list of a port whose neighbour isn't Full stays empty: what is done to lists, and what is done to neighbours.
use Rattle.std.proofs.Common.{◌≡◌, ◌≢◌, ◌⊎◌, inl, inr, ℕ, zero, suc, Bool, true, false, cond, ◌+◌, ◌<◌, List, [], ◌∷◌, length, refl, sym, ap, subst, ◌∙◌, arith}
use Rattle.std.specs.Prelude.{slice_set}
use Rattle.dn_guest.specs.Ports.{is_up}
use Rattle.ospf_lsdb.specs.declared.key.LsaKey.{LsaKey}
use Rattle.ospf_flood.specs.Retransmission.{OnPort, OnPorts, list_of, with_lsa, without_lsa, without_lsa_anywhere}
use Rattle.ospf_flood.specs.Flooding.{put_from, put_on}
use Rattle.ospf_flood.proofs.OneLsa.{off_port}
use Rattle.ospf_router.specs.declared.interfaces.Port.{Port}
use Rattle.ospf_laws.proofs.Masks.{Covers, FullAt, first_or}

-- each port has a Full neighbour or an empty list
abbrev pub Only : List Port → OnPorts → Type 0
Only xs ls = (p : ℕ) → FullAt xs p ⊎ (list_of ls p ≡ [])

-- ---- lists

set_empty : (ls : OnPorts) (port : ℕ) (l : OnPort) (p : ℕ) → list_of ls p ≡ [] → (port ≡ p → l ≡ []) → list_of (slice_set ls port l) p ≡ []
set_empty [] port l p none here = none
set_empty (x ∷ ls) zero l zero none here = here refl
set_empty (x ∷ ls) zero l (suc p) none here = none
set_empty (x ∷ ls) (suc port) l zero none here = none
set_empty (x ∷ ls) (suc port) l (suc p) none here = set_empty ls port l p none (λ e. here (ap (λ (k : ℕ). suc k) e))

set_by : (xs : List Port) (ls : OnPorts) (port : ℕ) (l : OnPort) (p : ℕ) → FullAt xs port → list_of ls p ≡ [] → FullAt xs p ⊎ (list_of (slice_set ls port l) p ≡ [])
set_by xs ls port l p full none = elim (first_or port p) [
  | inl same ↦ inl (subst (FullAt xs) same full)
  | inr differ ↦ inr (set_empty ls port l p none (λ e. absurd (differ e)))
]

-- a list is put in place of another, at a port with a Full neighbour or where it is empty if that one was
pub only-set : (xs : List Port) (ls : OnPorts) (port : ℕ) (l : OnPort) → FullAt xs port ⊎ (list_of ls port ≡ [] → l ≡ []) → Only xs ls → Only xs (slice_set ls port l)
only-set xs ls port l new only p = elim (only p) [
  | inl full ↦ inl full
  | inr none ↦ elim new [
    | inr keeps ↦ inr (set_empty ls port l p none (λ e. keeps (subst (λ (q : ℕ). list_of ls q ≡ []) (sym e) none)))
    | inl full ↦ set_by xs ls port l p full none
  ]
]

put_off : (q mask tick : ℕ) (key : LsaKey) (ls : OnPorts) (p : ℕ) → is_up mask (q + p) ≡ false → list_of (put_from q mask key tick ls) p ≡ list_of ls p
put_off q mask tick key [] p down = refl
put_off q mask tick key (l ∷ ls) zero down =
    let here : is_up mask q ≡ false = subst (λ (k : ℕ). is_up mask k ≡ false) (omega arith) down in
    ap (λ (b : Bool). cond b (with_lsa l key tick) l) here
put_off q mask tick key (l ∷ ls) (suc p) down = put_off (q + 1) mask tick key ls p (subst (λ (k : ℕ). is_up mask k ≡ false) (omega arith) down)

from_zero : (mask p : ℕ) → is_up mask p ≡ false → is_up mask (0 + p) ≡ false
from_zero mask p down = subst (λ (k : ℕ). is_up mask k ≡ false) (omega arith) down

put_by : (b : Bool) (xs : List Port) (mask tick : ℕ) (key : LsaKey) (ls : OnPorts) (p : ℕ) → is_up mask p ≡ b → Covers mask xs → list_of ls p ≡ [] → FullAt xs p ⊎ (list_of (put_on mask key tick ls) p ≡ [])
put_by true xs mask tick key ls p t covers none = inl (covers p t)
put_by false xs mask tick key ls p t covers none = inr (put_off 0 mask tick key ls p (from_zero mask p t) ∙ none)

pub only-put : (xs : List Port) (mask tick : ℕ) (key : LsaKey) (ls : OnPorts) → Covers mask xs → Only xs ls → Only xs (put_on mask key tick ls)
only-put xs mask tick key ls covers only p = elim (only p) [
  | inl full ↦ inl full
  | inr none ↦ put_by (is_up mask p) xs mask tick key ls p refl covers none
]

pub only-off : (xs : List Port) (key : LsaKey) (ls : OnPorts) → Only xs ls → Only xs (without_lsa_anywhere key ls)
only-off xs key ls only p = elim (only p) [
  | inl full ↦ inl full
  | inr none ↦ inr (off_port ls key p ∙ ap (without_lsa key) none)
]

-- ---- neighbours

-- the neighbour at a port is changed, and its list is emptied
emptied_at : (ls : OnPorts) (port : ℕ) → list_of (slice_set ls port []) port ≡ []
emptied_at [] port = refl
emptied_at (x ∷ ls) zero = refl
emptied_at (x ∷ ls) (suc port) = emptied_at ls port

set_full : (xs : List Port) (port : ℕ) (x : Port) (p : ℕ) → port ≢ p → FullAt xs p → FullAt (slice_set xs port x) p
set_full [] port x p differ full = full
set_full (y ∷ xs) zero x zero differ full = absurd (differ refl)
set_full (y ∷ xs) zero x (suc p) differ full = full
set_full (y ∷ xs) (suc port) x zero differ full = full
set_full (y ∷ xs) (suc port) x (suc p) differ full = set_full xs port x p (λ e. differ (ap (λ (k : ℕ). suc k) e)) full

pub only-emptied : (xs : List Port) (ls : OnPorts) (port : ℕ) (x : Port) → Only xs ls → Only (slice_set xs port x) (slice_set ls port [])
only-emptied xs ls port x only p = elim (first_or port p) [
  | inl same ↦ inr (subst (λ (q : ℕ). list_of (slice_set ls port []) q ≡ []) same (emptied_at ls port))
  | inr differ ↦ elim (only p) [
    | inl full ↦ inl (set_full xs port x p differ full)
    | inr none ↦ inr (set_empty ls port [] p none (λ _. refl))
  ]
]

pub full_set : (xs : List Port) (port : ℕ) (x : Port) → port < length xs → FullAt (x ∷ []) 0 → FullAt (slice_set xs port x) port
full_set [] port x few full = absurd (omega (arith, few))
full_set (y ∷ xs) zero x few full = full
full_set (y ∷ xs) (suc port) x few full = full_set xs port x (omega (arith, few)) full

-- the neighbour at a port that the router has is Full now
pub only-full : (xs : List Port) (ls : OnPorts) (port : ℕ) (x : Port) → port < length xs → FullAt (x ∷ []) 0 → Only xs ls → Only (slice_set xs port x) ls
only-full xs ls port x few full only p = elim (first_or port p) [
  | inl same ↦ inl (subst (FullAt (slice_set xs port x)) same (full_set xs port x few full))
  | inr differ ↦ elim (only p) [
    | inl was ↦ inl (set_full xs port x p differ was)
    | inr none ↦ inr none
  ]
]
