-- The entries of updates fit their bytes, and each mask is one of one length.
use Rattle.std.proofs.Common.{◌≡◌, ℕ, true, ◌-◌, ◌*◌, ◌^◌, ◌≤◌, ◌<◌, inl, inr, List, length, drop, Some, arith, length-drop}
use Rattle.std.specs.Prelude.{nat_le}
use Rattle.std.proofs.Math.Nat.{one-le-pow}
use Rattle.std.proofs.Math.Pow.{pow-lt, pow_mono}
use Rattle.std.proofs.lemmas.Bool.{cases_lt}
use Rattle.std.proofs.lemmas.List.{length-take}
use Rattle.dn_net.specs.Networks.{Network, is_network, mask_of}
use Rattle.rip_wire.specs.declared.entry.Entry.{Entry}
use Rattle.rip_wire.specs.Entries.{FitsEntry}
use Rattle.rip_table.specs.declared.held.Held.{Held}
use Rattle.rip_table.specs.Held.{is_via}
use Rattle.rip_table.specs.Sound.{IsSoundRoute}
use Rattle.rip_table.specs.Updates.{split_horizon, update_entry}
use Rattle.rip_guest.specs.Updates.{message_count, message_part, whole_table_entry}
use Rattle.rip_laws.proofs.Choice.{and_true, choose}
use Rattle.rip_laws.proofs.Times.{most_by}

pub whole_fits : FitsEntry whole_table_entry
whole_fits = record { family = omega arith; tag = omega arith; address = omega arith; mask = omega arith; hop = omega arith; metric = omega arith }

told_most : (port : ℕ) (h : Held) → h.metric ≤ 16 → split_horizon (Some port) h ≤ 16
told_most port h most = choose (λ (k : ℕ). k ≤ 16) (is_via port h) 16 h.metric (λ _. omega arith) (λ _. most)

mask_fits : (len : ℕ) → mask_of len < 2 ^ 32
mask_fits len =
    let some = one-le-pow (32 - len) 2 (omega arith) in
    omega (arith, some)

pub update_fits : (ports now port : ℕ) (e : Network × Held) → IsSoundRoute ports now e → FitsEntry (update_entry (Some port) e)
update_fits ports now port e sound = record {
  family = omega arith;
  tag = sound.tag;
  address = sound.address;
  mask = mask_fits e.0.1;
  hop = omega arith;
  metric = omega (arith, told_most port e.1 sound.most);
}

pub part_least : (es : List Entry) (k : ℕ) → k < message_count es → 1 ≤ length (message_part es k)
part_least es k small = omega (arith, length-take 25 (drop (25 * k) es), length-drop (25 * k) es, small)

pub part_most : (es : List Entry) (k : ℕ) → length (message_part es k) ≤ 25
part_most es k = omega (arith, length-take 25 (drop (25 * k) es))

-- ---- masks

pub short : (n : Network) → is_network n.0 n.1 ≡ true → n.1 ≤ 32
short n is = most_by n.1 32 (and_true (nat_le n.1 32) _ is).0

same_power : (a b : ℕ) → 2 ^ a ≡ 2 ^ b → a ≡ b
same_power a b same = elim (cases_lt a b) [
  | inl less ↦ let more = pow-lt less in absurd (omega (arith, same, more))
  | inr most ↦ elim (cases_lt b a) [
    | inl less ↦ let more = pow-lt less in absurd (omega (arith, same, more))
    | inr least ↦ omega (arith, most, least)
  ]
]

within : (len : ℕ) → 2 ^ (32 - len) ≤ 2 ^ 32
within len =
    let less : 32 - len ≤ 32 = omega arith in
    pow_mono less

pub same_len : (a b : ℕ) → a ≤ 32 → b ≤ 32 → mask_of a ≡ mask_of b → a ≡ b
same_len a b first second same =
    let x = within a in
    let y = within b in
    let powers : 2 ^ (32 - a) ≡ 2 ^ (32 - b) = omega (arith, x, y, same) in
    let rest = same_power (32 - a) (32 - b) powers in
    omega (arith, rest, first, second)
