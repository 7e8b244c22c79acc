use Rattle.std.proofs.Common.{[]}
use Rattle.dn_case.proofs.ExternalLines.{links_wide}
use Rattle.dn_case.proofs.known_header.KnownHeader.new.Goals as goal

pub counted_links-requires : goal.counted_links-requires
counted_links-requires c =
    let h = c.header.inside in
    rw c.as_slice-2.ensures (links_wide _ 64 [] h.links c.header.invariant.few c.header.invariant.links)
