-- What a front keeps from round to round: whom it is to ask for pictures, and when it wakes its lanes (own).
use Rattle.std.specs.Prelude.{◌-◌, ◌||◌, ◌==◌, not, nat_lt, nat_le, if◌then◌else◌, ℕ, Bool, false, length, Option, Some}
use Rattle.std.specs.Prelude.{None}
use Rattle.desk_rows.specs.Desk.{Desk}
use Rattle.ingress.specs.Sources.{Origin}
use Rattle.picture_requests.specs.declared.source.VideoSource.{VideoSource}
use Rattle.picture_requests.specs.Sources.{source_at, member_address}
use Rattle.picture_requests.specs.Requests.{no_requests}
use Rattle.picture_requests.specs.Steps.{see, want, ask, after_step}
use Rattle.event_loop.specs.Sleeps.{awake_for, asleep_for}
use Rattle.event_loop.specs.declared.wakes.Wakes.{Wakes}
use Rattle.event_loop.specs.declared.kept.FrontKept.{FrontKept}

-- what a front keeps that has had no round: no desk was seen, and the lanes are awake at this moment
abbrev pub fresh_kept : (moment : ℕ) → FrontKept
fresh_kept moment =
    record {
      version = 0;
      pictures = no_requests;
      has_members = false;
      wakes = record { member = None; wake = moment };
    }

-- ---- pictures

-- the origin of a source: its member's address, and its SSRC
abbrev pub asked_origin : VideoSource → Origin
asked_origin source = record { address = member_address source; ssrc = source.ssrc }

-- the source of an origin
abbrev pub source_of : Origin → VideoSource
source_of o = source_at o.ssrc o.address

-- a version of the desk was seen at a moment, if it is another one than the last
abbrev pub after_desk : (later : Bool) → (version : ℕ) → Desk → (moment : ℕ) → FrontKept → FrontKept
after_desk later version desk moment kept =
    if later then record kept { version = version; pictures = after_step (see desk moment) kept.pictures } else kept

-- a source is to be asked for a picture
abbrev pub after_wanted : VideoSource → (moment : ℕ) → FrontKept → FrontKept
after_wanted source moment kept = record kept { pictures = after_step (want source moment) kept.pictures }

-- a source was asked for a picture at a moment, if the request was sent
abbrev pub after_picture : Origin → (moment : ℕ) → (sent : Bool) → FrontKept → FrontKept
after_picture o moment sent kept =
    if sent then record kept { pictures = after_step (ask (source_of o) moment) kept.pictures } else kept

-- ---- wakes

-- a desk has members
abbrev pub has_members : Desk → Bool
has_members desk = not (length desk.members == 0)

-- it was noted whether a desk has members
abbrev pub after_entry : Desk → FrontKept → FrontKept
after_entry desk kept = record kept { has_members = has_members desk }

-- lanes are still woken in each round, if the desk had members last at that moment
abbrev pub are_awake : (moment : ℕ) → (member : Option ℕ) → Bool
are_awake moment (Some member) = nat_lt (moment - member) awake_for
are_awake moment None = false

-- when the desk had members last, at a moment at which it has some or none
abbrev pub last_member : (moment : ℕ) → Bool → Wakes → Option ℕ
last_member moment has_members wakes = if has_members then Some moment else wakes.member

-- Lanes are woken at a moment: while the desk has members, for a while after that, and where they have slept for long.
abbrev pub is_wake_due : (moment : ℕ) → Bool → Wakes → Bool
is_wake_due moment has_members wakes =
    are_awake moment (last_member moment has_members wakes) || nat_le asleep_for (moment - wakes.wake)

-- it was judged at a moment whether lanes are woken
abbrev pub after_judging : (moment : ℕ) → FrontKept → FrontKept
after_judging moment kept =
    record kept {
      wakes = record {
        member = last_member moment kept.has_members kept.wakes;
        wake = if is_wake_due moment kept.has_members kept.wakes then moment else kept.wakes.wake;
      };
    }
