-- Which packet a type and a count stand for (RFC 3550 section 12.1, RFC 4585 section 6.1).
use Rattle.std.specs.Prelude.{ℕ, ◌==◌, ◌&&◌, if◌then◌else◌}
use Rattle.rtcp_codec.specs.declared.kind.PacketKind.{PacketKind}
use Rattle.rtcp_codec.specs.declared.kind.PacketKind.TheVariants as kinds

-- packet types: SR, RR, SDES, BYE and APP (RFC 3550 section 12.1), and feedback on transport and payload (RFC 4585
-- section 6.1)
abbrev pub sr : ℕ
sr = 200

-- a receiver report
abbrev pub rr : ℕ
rr = 201

-- a source description
abbrev pub sdes : ℕ
sdes = 202

-- a goodbye
abbrev pub bye : ℕ
bye = 203

-- a packet of an application
abbrev pub app : ℕ
app = 204

-- feedback on transport
abbrev pub rtpfb : ℕ
rtpfb = 205

-- feedback on payload
abbrev pub psfb : ℕ
psfb = 206

-- the format of a generic NACK (RFC 4585 section 6.2.1)
abbrev pub nack_format : ℕ
nack_format = 1

-- the format of a picture loss indication (RFC 4585 section 6.3.1)
abbrev pub pli_format : ℕ
pli_format = 1

-- the kind of a packet with this type and this count, which is the format of a feedback packet
abbrev pub kind_of : ℕ → ℕ → PacketKind
kind_of pt count =
    if pt == sr then kinds.Sender else
    if pt == rr then kinds.Receiver else
    if pt == sdes then kinds.Sdes else
    if pt == bye then kinds.Bye else
    if pt == app then kinds.App else
    if pt == rtpfb && count == nack_format then kinds.Nack else
    if pt == psfb && count == pli_format then kinds.Pli else
    kinds.Other
