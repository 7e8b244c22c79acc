use Rattle.std.proofs.Common.{◌≡◌, ◌+◌, ◌++◌, ℕ, List, length, take, ap, sym, ◌∙◌, append_assoc}
use Rattle.std.specs.List.{flat_map, range_with_len}
use Rattle.std.proofs.Math.Seq.{take-append_seam}
use Rattle.ospf_guest.specs.Show.{port_text}
use Rattle.ospf_guest.proofs.Masks.{texts_more}
use Rattle.ospf_guest.proofs.show.push_mask.Goals as goal

pub loop-port-preserved : goal.loop-port-preserved
loop-port-preserved c =
    let old = c.args.out.now in
    let mask = c.args.mask in
    let p = c.loop-port.port in
    let before = flat_map (port_text mask) (range_with_len 0 p) in
    let text : c.push_port.new.out ≡ old ++ flat_map (port_text mask) (range_with_len 0 (p + 1)) =
    c.in_ok-push_port.ensures.ok ∙ ap (λ (xs : List ℕ). xs ++ port_text mask p) c.loop-port.invariant.text ∙ append_assoc old before (port_text mask p)
    ∙ ap (λ (xs : List ℕ). old ++ xs) (sym (texts_more mask p)) in
    record { text = text; kept = ap (take (length old)) text ∙ take-append_seam old (flat_map (port_text mask) (range_with_len 0 (p + 1))) }
