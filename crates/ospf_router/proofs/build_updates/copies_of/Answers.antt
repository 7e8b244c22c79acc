use Rattle.std.proofs.Common.{◌≡◌, ◌+◌, take, Option, List, [], ◌∷◌, ◌++◌, append-nil, get_or, sym, ap, ◌∙◌}
use Rattle.std.specs.List.{cons_option, filter_map}
use Rattle.std.specs.Global.{Vec}
use Rattle.ospf_wire.specs.declared.lsa.Lsa.{Lsa}
use Rattle.ospf_lsdb.specs.declared.key.LsaKey.{LsaKey}
use Rattle.ospf_router.specs.BuildUpdates.{copy_of}
use Rattle.ospf_router.proofs.Packing.{copies_more}
use Rattle.ospf_router.proofs.build_updates.copies_of.Goals as goal
use Rattle.ospf_router.proofs.build_updates.copies_of.Goals.{in-Some+in_ok-push, in_default}

pub loop-key-preserved : goal.loop-key-preserved
loop-key-preserved c =
    let h = copy_of c.args.now c.args.db.now in
    let keys = c.args.keys.now in
    let d : LsaKey = record { kind = 0; id = 0; router = 0 } in
    let i = c.loop-key.key-index in
    let cs = c.loop-key.copies.items in
    let found : Option Lsa = c.in_ok-copy.field-0 in
    let is : found ≡ h (get_or keys i d) = c.in_ok-copy.ensures in
    let step : cs ++ cons_option found [] ≡ filter_map h (take (i + 1) keys) =
    ap (λ (o : Option Lsa). cs ++ cons_option o []) is
    ∙ ap (λ (before : List Lsa). before ++ cons_option (h (get_or keys i d)) []) c.loop-key.invariant
    ∙ sym (copies_more h keys i d c.loop-key-test.true) in
    elim c.match-branch-2.branch [
      | in-Some+in_ok-push w ↦
          (let e : c.match-branch-2.copies.items ≡ cs ++ w.in-Some.copy ∷ [] = ap (λ (v : Vec Lsa). v.items) w.copies-is ∙ w.in_ok-push.ensures.items in
          e ∙ ap (λ (o : Option Lsa). cs ++ cons_option o []) (sym w.in-Some.is) ∙ step)
      | in_default w ↦
          (let e : c.match-branch-2.copies.items ≡ cs = ap (λ (v : Vec Lsa). v.items) w.copies-is in
          e ∙ sym (append-nil cs) ∙ ap (λ (o : Option Lsa). cs ++ cons_option o []) (sym w.in_default.is) ∙ step)
    ]
