use Rattle.ospf_wire.specs.Packets.{packet_bytes}
use Rattle.ospf_wire.proofs.PacketLaws.{packet_is}
use Rattle.ospf_wire.proofs.GrammarLaws.{packet_again}
use Rattle.ospf_wire.proofs.laws.written_packets_are_read.Goals as goal

pub returns-clause-packet : goal.returns-clause-packet
returns-clause-packet c = λ p fits is. packet_is p fits.router fits.area fits.body is

pub returns-clause-read : goal.returns-clause-read
returns-clause-read c = λ p fits is. packet_again (packet_bytes p) p (packet_is p fits.router fits.area fits.body is)
