use Rattle.std.proofs.Common.{◌≡◌, ◌≤◌, ◌++◌, [], map}
use Rattle.std.specs.Prelude.{All, IsTrue}
use Rattle.std.specs.Vec.Iter.{into_iter_items}
use Rattle.ospf_router.specs.BuildUpdates.{is_sendable, one_update, packs, update_len}
use Rattle.ospf_router.proofs.build_updates.put_packs.Given as goal

abbrev pub invariant-loop-lsa : goal.invariant-loop-lsa
invariant-loop-lsa l = record {
  far : l.out ++ map (one_update l.port l.number) (packs l.pack.items (into_iter_items l.lsa-iterator)) ≡ l.fn.out ++ map (one_update l.port l.number) (packs [] l.fn.lsas.items);
  len : l.len ≡ update_len l.pack.items;
  small : l.len ≤ 65535;
  sendable : All (λ x. IsTrue (is_sendable x)) l.pack.items;
}
