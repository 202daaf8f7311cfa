use Rattle.udp_wire.proofs.datagrams.send_octets.Goals as goal

pub returns : goal.returns
returns g c = (c.socket_address.result, c.socket_address.ensures, c.send_to.ensures)
